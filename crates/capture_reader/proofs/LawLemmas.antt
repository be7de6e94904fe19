-- Bytes have one reading, and what is read of a front of them comes first.
use Rattle.std.proofs.Common.{◌≡◌, ℕ, ◌+◌, ◌<◌, ◌⊎◌, Bool, true, false, List, [], ◌∷◌, ◌++◌, length, take, drop, map, arith, refl, ap, sym, ◌∙◌, inl, inr, append_assoc, length-drop, Option, Some, None, All}
use Rattle.std.specs.List.{AllZip, concat}
use Rattle.std.proofs.lemmas.List.{append-nil, append_cancel_left, map-append}
use Rattle.std.proofs.Math.Seq.{take-append_seam}
use Rattle.pcap_reader.specs.declared.capture.Header.{Header}
use Rattle.pcap_reader.specs.declared.capture.CapturedPacket.{CapturedPacket}
use Rattle.pcap_reader.specs.declared.capture.CaptureFault.{CaptureFault as SavefileFault}
use Rattle.pcap_reader.specs.Savefile.{number, HasRecords, IsRecord, Reads as ReadsSavefile}
use Rattle.pcap_reader.proofs.LawLemmas.{has_fronts as savefile_fronts, one_reading as one_savefile}
use Rattle.pcap_reader.proofs.ReadingLemmas.{has_reading as some_savefile}
use Rattle.pcapng_reader.specs.declared.fault.CaptureFault.{CaptureFault as PcapngFault}
use Rattle.pcapng_reader.specs.Grammar.{WholeBlock, Place, start, place_after, IsBlock, Follow, ReadsFront as ReadsPcapngFront}
use Rattle.pcapng_reader.specs.declared.block.Content.{Content}
use Rattle.pcapng_reader.specs.declared.block.Content.TheVariants as contents
use Rattle.pcapng_reader.proofs.PacketLemmas.{fit_their_blocks}
use Rattle.pcapng_reader.proofs.FeedLemmas.{open_front}
use Rattle.pcapng_reader.proofs.LawLemmas.{has_fronts as pcapng_fronts, has_reading as some_pcapng, one_reading as one_pcapng}
use Rattle.pcapng_reader.specs.Held.{HoldsAt as HoldsBlocksAt, held_fault as held_blocks, place_of, open_part}
use Rattle.pcapng_reader.specs.declared.feed.BlockFeed.{BlockFeed}
use Rattle.capture_reader.specs.declared.fault.ReadFault.{ReadFault}
use Rattle.capture_reader.specs.declared.entry.Entry.TheVariants.{Savefile}
use Rattle.capture_reader.specs.declared.feed.CaptureFeed.{CaptureFeed}
use Rattle.capture_reader.specs.declared.feed.Format.{Format}
use Rattle.capture_reader.specs.declared.feed.Format.TheVariants as formats
use Rattle.capture_reader.specs.Entries.{EntryBytes, block_entry, entry_packets, listed, packets_in, pcapng_entries, record_entry, savefile_entries}
use Rattle.capture_reader.specs.Captures.{AllFew, AreFew, HasEntries, HasFront, HasOneReading, HasReading, HasSavefile, IsReadAsSavefile, pcapng_fault, savefile_fault}
use Rattle.pcapng_reader.specs.Blocks.{is_pcapng}
use Rattle.capture_reader.specs.Holding.{HoldsAfter, HoldsAs, HoldsAt}
use Rattle.capture_reader.proofs.FeedLemmas.{entries-last, front-lasts}
use Rattle.capture_reader.proofs.RecordLemmas.{record_front}

-- Some reading

savefile_reading : (bytes : List ℕ) (header : Option Header) (packets : List CapturedPacket) (fault : Option SavefileFault) → ReadsSavefile bytes header packets fault → is_pcapng bytes ≡ false → HasReading bytes
savefile_reading bytes (Some h) packets fault reads told = (savefile_entries h reads.records, savefile_fault fault, inr (told, fault, inl (h, packets, reads, refl), refl))
savefile_reading bytes None packets (Some fault) reads told = ([], savefile_fault (Some fault), inr (told, Some fault, inr (fault, refl, reads.1, refl), refl))
savefile_reading bytes None packets None reads told = absurd reads

pub has_reading : (bytes : List ℕ) → HasReading bytes
has_reading bytes = told_reading (is_pcapng bytes) refl
  where
    told_reading : (told : Bool) → is_pcapng bytes ≡ told → HasReading bytes
    told_reading true told = let some = some_pcapng bytes in (pcapng_entries some.0, pcapng_fault some.1, inl (told, some.1, (some.0, some.2, refl), refl))
    told_reading false told = let some = some_savefile bytes in savefile_reading bytes some.0 some.1 some.2 some.3 told

-- No two readings

fronts_same : (xs ys more rest : List ℕ) → xs ++ more ≡ ys ++ rest → length xs ≡ length ys → xs ≡ ys
fronts_same xs ys more rest e same = sym (take-append_seam xs more) ∙ ap (take (length xs)) e ∙ ap (λ n. take n (ys ++ rest)) same ∙ take-append_seam ys rest

record_long : (big : Bool) (r : List ℕ) (p : CapturedPacket) → IsRecord big r p → length r ≡ 16 + length p.bytes
record_long big r p is = omega (arith, is.header, ap length is.body, length-drop 16 r)

-- records of the same packets are the same, where they begin the same bytes
records_front : (big : Bool) (records records' : List (List ℕ)) (rest rest' : List ℕ) (packets more : List CapturedPacket) → concat records ++ rest ≡ concat records' ++ rest'
    → AllZip (IsRecord big) records packets → AllZip (IsRecord big) records' (packets ++ more) → (left : List (List ℕ)) × (records' ≡ records ++ left)
records_front big [] records' rest rest' [] more e each each' = (records', refl)
records_front big [] records' rest rest' (p ∷ packets) more e each each' = absurd each
records_front big (r ∷ records) records' rest rest' [] more e each each' = absurd each
records_front big (r ∷ records) [] rest rest' (p ∷ packets) more e each each' = absurd each'
records_front big (r ∷ records) (r' ∷ records') rest rest' (p ∷ packets) more e each each' =
    let all : r ++ (concat records ++ rest) ≡ r' ++ (concat records' ++ rest') = sym (append_assoc r (concat records) rest) ∙ e ∙ append_assoc r' (concat records') rest' in
    let same : r ≡ r' = fronts_same r r' (concat records ++ rest) (concat records' ++ rest') all (record_long big r p each.0 ∙ sym (record_long big r' p each'.0)) in
    let tails : concat records ++ rest ≡ concat records' ++ rest' = append_cancel_left r (concat records ++ rest) (concat records' ++ rest') (all ∙ ap (λ t. t ++ (concat records' ++ rest')) (sym same)) in
    let found = records_front big records records' rest rest' packets more tails each.1 each'.1 in
    (found.0, ap (λ t. r' ∷ t) found.1 ∙ ap (λ t. t ∷ (records ++ found.0)) (sym same))

records_same : (big : Bool) (records records' : List (List ℕ)) (rest rest' : List ℕ) (packets : List CapturedPacket) → concat records ++ rest ≡ concat records' ++ rest'
    → AllZip (IsRecord big) records packets → AllZip (IsRecord big) records' packets → records ≡ records'
records_same big [] [] rest rest' [] e each each' = refl
records_same big [] (r' ∷ records') rest rest' [] e each each' = absurd each'
records_same big [] records' rest rest' (p ∷ packets) e each each' = absurd each
records_same big (r ∷ records) records' rest rest' [] e each each' = absurd each
records_same big (r ∷ records) [] rest rest' (p ∷ packets) e each each' = absurd each'
records_same big (r ∷ records) (r' ∷ records') rest rest' (p ∷ packets) e each each' =
    let all : r ++ (concat records ++ rest) ≡ r' ++ (concat records' ++ rest') = sym (append_assoc r (concat records) rest) ∙ e ∙ append_assoc r' (concat records') rest' in
    let same : r ≡ r' = fronts_same r r' (concat records ++ rest) (concat records' ++ rest') all (record_long big r p each.0 ∙ sym (record_long big r' p each'.0)) in
    let tails : concat records ++ rest ≡ concat records' ++ rest' = append_cancel_left r (concat records ++ rest) (concat records' ++ rest') (all ∙ ap (λ t. t ++ (concat records' ++ rest')) (sym same)) in
    ap (λ t. t ∷ records) same ∙ ap (λ t. r' ∷ t) (records_same big records records' rest rest' packets tails each.1 each'.1)

-- what follows the headers of two cuts of the same bytes
tails_same : (bytes : List ℕ) (h h' : Header) (packets packets' : List CapturedPacket) (fault fault' : Option SavefileFault) (more : List ℕ) (front : List ℕ) → bytes ≡ front ++ more → (r : HasRecords front h packets fault) → (r' : HasRecords bytes h' packets' fault')
    → concat r.records ++ (r.rest ++ more) ≡ concat r'.records ++ r'.rest
tails_same bytes h h' packets packets' fault fault' more front parts r r' =
    let one : bytes ≡ r.head ++ (concat r.records ++ (r.rest ++ more)) =
    parts ∙ ap (λ t. t ++ more) (r.parts ∙ append_assoc r.head (concat r.records) r.rest) ∙ append_assoc r.head (concat r.records ++ r.rest) more ∙ ap (λ t. r.head ++ t) (append_assoc (concat r.records) r.rest more) in
    let two : bytes ≡ r'.head ++ (concat r'.records ++ r'.rest) = r'.parts ∙ append_assoc r'.head (concat r'.records) r'.rest in
    let both = sym one ∙ two in
    let same : r.head ≡ r'.head = fronts_same r.head r'.head (concat r.records ++ (r.rest ++ more)) (concat r'.records ++ r'.rest) both (r.header.long ∙ sym r'.header.long) in
    append_cancel_left r.head (concat r.records ++ (r.rest ++ more)) (concat r'.records ++ r'.rest) (both ∙ ap (λ t. t ++ (concat r'.records ++ r'.rest)) (sym same))

savefile_one : (bytes : List ℕ) (entries entries' : List EntryBytes) (fault fault' : Option SavefileFault) → All (λ b. b < 256) bytes → HasSavefile bytes entries fault → HasSavefile bytes entries' fault' → (entries ≡ entries') × (fault ≡ fault')
savefile_one bytes entries entries' fault fault' small (inl (h, packets, r, is)) (inl (h', packets', r', is')) =
    let one = one_savefile bytes small (Some h) (Some h') packets packets' fault fault' r r' in
    let same : h ≡ h' = some_header one.0 in
    (is ∙ records_of h h' packets packets' fault' same one.1 r r' ∙ sym is', one.2)
  where
    some_header : {h h' : Header} → Some h ≡ Some h' → h ≡ h'
    some_header e = cc

    records_of : (h h' : Header) (packets packets' : List CapturedPacket) (fault' : Option SavefileFault) → h ≡ h' → packets ≡ packets' → (r : HasRecords bytes h packets fault) → (r' : HasRecords bytes h' packets' fault') → savefile_entries h r.records ≡ savefile_entries h' r'.records
    records_of h h' packets packets' fault' same packet r r' =
        let each' : AllZip (IsRecord h.big) r'.records packets = rw (same, packet) r'.each in
        let records : r.records ≡ r'.records =
        records_same h.big r.records r'.records (r.rest ++ []) r'.rest packets (tails_same bytes h h' packets packets' fault fault' [] bytes (sym (append-nil bytes)) r r') r.each each' in
        ap (λ k. savefile_entries k r.records) same ∙ ap (savefile_entries h') records
savefile_one bytes entries entries' fault fault' small (inl (h, packets, r, is)) (inr (wrong, same, none, is')) =
    let one = one_savefile bytes small (Some h) None packets [] fault (Some wrong) r (refl, none) in absurd (not_none one.0)
  where
    not_none : {h : Header} → Some h ≡ None → ⊥
    not_none e = cc
savefile_one bytes entries entries' fault fault' small (inr (wrong, same, none, is)) (inl (h, packets, r, is')) =
    let one = one_savefile bytes small (Some h) None packets [] fault' (Some wrong) r (refl, none) in absurd (not_none one.0)
  where
    not_none : {h : Header} → Some h ≡ None → ⊥
    not_none e = cc
savefile_one bytes entries entries' fault fault' small (inr (wrong, same, none, is)) (inr (wrong', same', none', is')) =
    let one = one_savefile bytes small None None [] [] (Some wrong) (Some wrong') (refl, none) (refl, none') in (is ∙ sym is', same ∙ one.2 ∙ sym same')

pub one_reading : (bytes : List ℕ) → All (λ b. b < 256) bytes → HasOneReading bytes
one_reading bytes small entries entries' fault fault' (inl (told, wrong, (whole, reads, is), same)) (inl (told', wrong', (whole', reads', is'), same')) =
    let one = one_pcapng bytes whole whole' wrong wrong' reads reads' in (is ∙ ap pcapng_entries one.0 ∙ sym is', same ∙ ap pcapng_fault one.1 ∙ sym same')
one_reading bytes small entries entries' fault fault' (inl (told, wrong, (whole, reads, is), same)) (inr (told', wrong', has', same')) = absurd (not_both told told')
  where
    not_both : {b : Bool} → b ≡ true → b ≡ false → ⊥
    not_both e f = cc
one_reading bytes small entries entries' fault fault' (inr (told, wrong, has, same)) (inl (told', wrong', (whole', reads', is'), same')) = absurd (not_both told' told)
  where
    not_both : {b : Bool} → b ≡ true → b ≡ false → ⊥
    not_both e f = cc
one_reading bytes small entries entries' fault fault' (inr (told, wrong, has, same)) (inr (told', wrong', has', same')) =
    let one = savefile_one bytes entries entries' wrong wrong' small has has' in (one.0, same ∙ ap savefile_fault one.1 ∙ sym same')

-- What is read of a front comes first

pcapng_entries-append : (whole more : List WholeBlock) → pcapng_entries (whole ++ more) ≡ pcapng_entries whole ++ pcapng_entries more
pcapng_entries-append [] more = refl
pcapng_entries-append (b ∷ whole) more = ap (λ t. listed (block_entry b.content b.bytes) ++ t) (pcapng_entries-append whole more) ∙ sym (append_assoc (listed (block_entry b.content b.bytes)) (pcapng_entries whole) (pcapng_entries more))

savefile_first : (bytes front more : List ℕ) (entries all : List EntryBytes) (fault : Option SavefileFault) → All (λ b. b < 256) bytes → bytes ≡ front ++ more → HasSavefile front entries None → HasSavefile bytes all fault
    → (others : List EntryBytes) × (all ≡ entries ++ others)
savefile_first bytes front more entries all fault small parts (inr (wrong, same, none, is)) whole = absurd (not_some same)
  where
    not_some : {f : SavefileFault} → None ≡ Some f → ⊥
    not_some e = cc
savefile_first bytes front more entries all fault small parts (inl (h, packets, r, is)) (inr (wrong, same, none, is')) =
    let first = savefile_fronts bytes small (Some h) None packets [] (Some wrong) (inr (front, more, parts, r)) (refl, none) in absurd (never first.0)
  where
    never : {h : Header} → (Some h ≡ None) ⊎ (Some h ≡ None) → ⊥
    never (inl e) = cc
    never (inr e) = cc
savefile_first bytes front more entries all fault small parts (inl (h, packets, r, is)) (inl (h', packets', r', is')) =
    let first = savefile_fronts bytes small (Some h) (Some h') packets packets' fault (inr (front, more, parts, r)) r' in
    let same : h ≡ h' = some_header first.0 in
    let left = records_of h h' packets packets' first.1 same first.2 r r' in
    (map (record_entry h') left.0, is' ∙ ap (savefile_entries h') left.1 ∙ ap (λ t. (Savefile h', []) ∷ t) (map-append (record_entry h') r.records left.0) ∙ ap (λ k. savefile_entries k r.records ++ map (record_entry h') left.0) (sym same) ∙ ap (λ t. t ++ map (record_entry h') left.0) (sym is))
  where
    some_header : {h h' : Header} → (Some h ≡ None) ⊎ (Some h ≡ Some h') → h ≡ h'
    some_header (inl e) = absurd (cc)
    some_header (inr e) = cc

    records_of : (h h' : Header) (packets packets' left : List CapturedPacket) → h ≡ h' → packets' ≡ packets ++ left → (r : HasRecords front h packets None) → (r' : HasRecords bytes h' packets' fault) → (others : List (List ℕ)) × (r'.records ≡ r.records ++ others)
    records_of h h' packets packets' left same packet r r' =
        let each' : AllZip (IsRecord h.big) r'.records (packets ++ left) = rw (same, sym packet) r'.each in
        records_front h.big r.records r'.records (r.rest ++ more) r'.rest packets left (tails_same bytes h h' packets packets' None fault more front parts r r') r.each each'

pub front_first : (bytes : List ℕ) (entries all : List EntryBytes) (fault : Option ReadFault) → All (λ b. b < 256) bytes → HasFront bytes entries → HasEntries bytes all fault → (others : List EntryBytes) × (all ≡ entries ++ others)
front_first bytes entries all fault small (inl none) has = (all, ap (λ t. t ++ all) (sym none))
front_first bytes entries all fault small (inr (inl (told, whole, front, is))) (inl (told', wrong, (whole', reads, is'), same)) =
    let first = pcapng_fronts bytes whole whole' wrong front reads in
    (pcapng_entries first.0, is' ∙ ap pcapng_entries first.1 ∙ pcapng_entries-append whole first.0 ∙ ap (λ t. t ++ pcapng_entries first.0) (sym is))
front_first bytes entries all fault small (inr (inl (told, whole, front, is))) (inr (told', wrong, has, same)) = absurd (not_both told told')
  where
    not_both : {b : Bool} → b ≡ true → b ≡ false → ⊥
    not_both e f = cc
front_first bytes entries all fault small (inr (inr (told, front, more, parts, has))) (inl (told', wrong, whole, same)) = absurd (not_both told' told)
  where
    not_both : {b : Bool} → b ≡ true → b ≡ false → ⊥
    not_both e f = cc
front_first bytes entries all fault small (inr (inr (told, front, more, parts, has))) (inr (told', wrong, has', same)) = savefile_first bytes front more entries all wrong small parts has has'

blocks_front : (whole : List WholeBlock) (fed : List ℕ) (feed : BlockFeed) (fault : Option PcapngFault) → HoldsBlocksAt whole fed feed fault → ReadsPcapngFront fed whole
blocks_front whole fed feed None held = open_front whole fed (place_of feed) feed.passing (open_part feed.held feed.part.items) held
blocks_front whole fed feed (Some fault) (inl stood) = record { place = stood.1.place; more = stood.1.rest; parts = stood.1.parts; follow = stood.1.follow }
blocks_front whole fed feed (Some fault) (inr refused) = refused.1

open_holds : (given : List EntryBytes) (fed first : List ℕ) (format : Format) → HoldsAs given fed first format → HasFront fed given
open_holds given fed first formats.Unknown held = inl held.0
open_holds given fed first (formats.Savefile records) held = elim (record_front given fed records held.2) [
  | inl none ↦ inl none
  | inr front ↦ inr (inr (held.1, front.0, front.1, front.2, front.3))
]
open_holds given fed first (formats.Pcapng blocks) held = inr (inl (held.0, held.1.0, blocks_front held.1.0 fed blocks (held_blocks blocks) held.1.1, held.1.2))

-- what a feed gave comes first in the bytes that it was given and more
behind_first : (given all : List EntryBytes) (fed rest : List ℕ) (feed : CaptureFeed) (held : Option ReadFault) (fault : Option ReadFault) → All (λ b. b < 256) (fed ++ rest) → HoldsAt given fed feed held → HasEntries (fed ++ rest) all fault
    → (others : List EntryBytes) × (all ≡ given ++ others)
behind_first given all fed rest feed None fault small holds has = front_first (fed ++ rest) given all fault small (front-lasts fed rest given (open_holds given fed feed.first.items feed.format holds)) has
behind_first given all fed rest feed (Some wrong) fault small (inl stood) has =
    let one = one_reading (fed ++ rest) small given all (Some wrong) fault (entries-last fed rest given wrong stood.0 stood.1) has in ([], sym one.0 ∙ sym (append-nil given))
behind_first given all fed rest feed (Some wrong) fault small (inr refused) has = front_first (fed ++ rest) given all fault small (front-lasts fed rest given refused.1) has

pub given_first : (given all : List EntryBytes) (fed rest : List ℕ) (feed : CaptureFeed) (fault : Option ReadFault) → All (λ b. b < 256) (fed ++ rest) → HoldsAfter feed given fed → HasEntries (fed ++ rest) all fault
    → (others : List EntryBytes) × (all ≡ given ++ others)
given_first given all fed rest feed fault small holds has = behind_first given all fed rest feed feed.fault fault small holds has

-- The packets of a savefile

pub packets_in-append : (entries more : List EntryBytes) → packets_in (entries ++ more) ≡ packets_in entries ++ packets_in more
packets_in-append [] more = refl
packets_in-append (e ∷ entries) more = ap (λ t. entry_packets e.0 e.1 ++ t) (packets_in-append entries more) ∙ sym (append_assoc (entry_packets e.0 e.1) (packets_in entries) (packets_in more))

abbrev packet_of : List ℕ → ℕ → CapturedPacket
packet_of bytes original = record { bytes = bytes; original = original }

pub record_packets : (h : Header) (records : List (List ℕ)) (packets : List CapturedPacket) → AllZip (IsRecord h.big) records packets → packets_in (map (record_entry h) records) ≡ packets
record_packets h [] [] each = refl
record_packets h [] (p ∷ packets) each = absurd each
record_packets h (r ∷ records) [] each = absurd each
record_packets h (r ∷ records) (p ∷ packets) each =
    ap (λ b. packet_of b (number h.big 4 (drop 12 r)) ∷ packets_in (map (record_entry h) records)) each.0.body
    ∙ ap (λ n. packet_of p.bytes n ∷ packets_in (map (record_entry h) records)) (sym each.0.original)
    ∙ ap (λ t. p ∷ t) (record_packets h records packets each.1)

pub read_as_savefile : (bytes : List ℕ) → IsReadAsSavefile bytes
read_as_savefile bytes entries fault told (inl (told', wrong, has, same)) = absurd (not_both told' told)
  where
    not_both : {b : Bool} → b ≡ true → b ≡ false → ⊥
    not_both e f = cc
read_as_savefile bytes entries fault told (inr (told', wrong, inl (h, packets, r, is), same)) =
    let all : packets_in entries ≡ packets = ap packets_in is ∙ record_packets h r.records packets r.each in
    (Some h, wrong, rw all r, same)
read_as_savefile bytes entries fault told (inr (told', wrong, inr (why, is_why, none, is), same)) =
    (None, Some why, (ap packets_in is, none), same ∙ ap savefile_fault is_why)

-- Captured bytes are few

AllFew-append : (ps qs : List CapturedPacket) → AllFew ps → AllFew qs → AllFew (ps ++ qs)
AllFew-append [] qs few more = more
AllFew-append (p ∷ ps) qs few more = (few.0, AllFew-append ps qs few.1 more)

few_block : (place : Place) (b : WholeBlock) (c : Content) → b.content ≡ c → IsBlock place b → AllFew (packets_in (listed (block_entry c b.bytes)))
few_block place b (contents.Section header) is one = tt
few_block place b (contents.Interface described) is one = tt
few_block place b contents.Other is one = tt
few_block place b (contents.Packet entry) is one = let fit = fit_their_blocks place b entry one is in (omega (arith, fit.0, fit.2), tt)

few_blocks : (p q : Place) (blocks : List WholeBlock) → Follow p blocks q → AllFew (packets_in (pcapng_entries blocks))
few_blocks p q [] follow = tt
few_blocks p q (b ∷ blocks) follow =
    rw (packets_in-append (listed (block_entry b.content b.bytes)) (pcapng_entries blocks))
    (AllFew-append (packets_in (listed (block_entry b.content b.bytes))) (packets_in (pcapng_entries blocks)) (few_block p b b.content refl follow.0) (few_blocks (place_after p b.content (length b.bytes)) q blocks follow.1))

few_records : (big : Bool) (records : List (List ℕ)) (packets : List CapturedPacket) → AllZip (IsRecord big) records packets → AllFew packets
few_records big [] [] each = tt
few_records big [] (p ∷ packets) each = absurd each
few_records big (r ∷ records) [] each = absurd each
few_records big (r ∷ records) (p ∷ packets) each = (omega (arith, each.0.length_is, each.0.short), few_records big records packets each.1)

pub few_captured : (bytes : List ℕ) → AreFew bytes
few_captured bytes entries fault (inl (told, wrong, (whole, reads, is), same)) = rw is (few_blocks start reads.place whole reads.follow)
few_captured bytes entries fault (inr (told, wrong, inl (h, packets, r, is), same)) =
    rw (ap packets_in is ∙ record_packets h r.records packets r.each) (few_records h.big r.records packets r.each)
few_captured bytes entries fault (inr (told, wrong, inr (why, is_why, none, is), same)) = rw is tt
