-- How a feed of either format goes on.
use Rattle.std.proofs.Common.{◌≡◌, ℕ, ◌+◌, ◌-◌, ◌==◌, ◌&&◌, not, nat_lt, max, min, ◌≤◌, ◌<◌, true, false, List, [], ◌∷◌, ◌++◌, length, take, drop, arith, refl, ap, sym, ◌∙◌, inl, inr, append_assoc, length-append, length-take-le, Option, Some, None, IfSome, Result, Ok, Err}
use Rattle.std.proofs.lemmas.List.{take-append-drop, take_all}
use Rattle.std.specs.List.{concat}
use Rattle.std.specs.Result.{IsErrAnd}
use Rattle.std.proofs.lemmas.Bool.Decides.{nat_tests}
use Rattle.pcap_reader.specs.declared.capture.CaptureFault.{CaptureFault as SavefileFault}
use Rattle.pcap_reader.specs.declared.capture.CaptureFault.TheVariants as savefiles
use Rattle.pcap_reader.specs.Savefile.{HasNoHeader, IsLasting as IsLastingSavefile, number}
use Rattle.pcap_reader.proofs.Fronts.{word-front}
use Rattle.pcapng_reader.specs.declared.feed.BlockFeed.{BlockFeed}
use Rattle.pcapng_reader.specs.declared.fault.CaptureFault.{CaptureFault as PcapngFault}
use Rattle.pcapng_reader.specs.declared.fault.CaptureFault.TheVariants as blocks
use Rattle.pcapng_reader.specs.Held.{Ends as EndsBlocks, HasStopped as StopsBlocks, HoldsAfter as HoldsBlocks, held_block}
use Rattle.pcapng_reader.specs.Grammar.{WholeBlock, IsLasting as IsLastingPcapng, Reads as ReadsPcapng, bytes_of}
use Rattle.pcapng_reader.proofs.FeedLemmas.{stopped-lasts}
use Rattle.capture_reader.specs.declared.entry.Found.{Found}
use Rattle.capture_reader.specs.declared.entry.SeenEntry.{SeenEntry}
use Rattle.capture_reader.specs.declared.entry.Found.TheVariants.{SeenEntry as Seen, Held, Nothing}
use Rattle.capture_reader.specs.declared.fault.ReadFault.{ReadFault}
use Rattle.capture_reader.specs.declared.fault.ReadFault.TheVariants.{Savefile as OfSavefile, Pcapng as OfPcapng}
use Rattle.capture_reader.specs.declared.feed.CaptureFeed.{CaptureFeed}
use Rattle.capture_reader.specs.declared.feed.Format.{Format}
use Rattle.capture_reader.specs.declared.feed.Format.TheVariants.{Unknown, Savefile, Pcapng}
use Rattle.capture_reader.specs.declared.records.RecordFeed.{RecordFeed}
use Rattle.capture_reader.specs.Faults.{IsLasting, is_refusal}
use Rattle.capture_reader.specs.Entries.{EntryBytes, pcapng_entries}
use Rattle.capture_reader.specs.Captures.{HasEntries, HasFront, HasSavefile}
use Rattle.pcapng_reader.specs.Blocks.{is_pcapng}
use Rattle.capture_reader.specs.Steps.{Adds, AdvancesBy, seen_item}
use Rattle.capture_reader.specs.Recording.{EndsRecords, HoldsRecords, StopsRecords, held_record}
use Rattle.capture_reader.proofs.RecordLemmas.{file-lasts, stops-on}
use Rattle.capture_reader.specs.Holding.{Advances, Ends, HasStopped, HoldsAfter, HoldsAs, HoldsPcapng, StopsAs, StopsPcapng, entry_in, entry_of, held_entry}

-- The format

-- four bytes tell it, whatever follows
pub told-on : (xs ys : List ℕ) → 4 ≤ length xs → is_pcapng (xs ++ ys) ≡ is_pcapng xs
told-on xs ys long =
    let one : nat_lt (length xs) 4 ≡ false = grind (arith, nat_tests) in
    let both : nat_lt (length (xs ++ ys)) 4 ≡ false = more (length-append xs ys) in
    rw (one, both, word-front true xs ys long) refl
  where
    more : length (xs ++ ys) ≡ length xs + length ys → nat_lt (length (xs ++ ys)) 4 ≡ false
    more e = grind (arith, nat_tests)

-- so few bytes are no capture in pcapng
few_told : (xs : List ℕ) → length xs < 4 → is_pcapng xs ≡ false
few_told xs few = let e : nat_lt (length xs) 4 ≡ true = grind (arith, nat_tests) in rw e refl

told_long : (xs : List ℕ) → is_pcapng xs ≡ true → 4 ≤ length xs
told_long xs is = not_few (nat_lt (length xs) 4) refl is
  where
    not_few : (few : _) → nat_lt (length xs) 4 ≡ few → not few && number true 4 xs == 0x0a0d0d0a ≡ true → 4 ≤ length xs
    not_few true e is = absurd (cc)
    not_few false e is = grind (arith, nat_tests)

-- Faults

pub stops_savefile : (given : List EntryBytes) (fed : List ℕ) (fault : SavefileFault) → is_pcapng fed ≡ false → StopsRecords given fed fault → HasStopped given fed (OfSavefile fault)
stops_savefile given fed fault told (inl stood) = inl (stood.0, inr (told, Some fault, stood.1, refl))
stops_savefile given fed fault told (inr refused) = inr (
  rw refused.0 refl,
  elim refused.1 [
    | inl none ↦ inl none
    | inr front ↦ inr (inr (told, front.0, front.1, front.2, front.3))
  ],
)

pub stops_pcapng : (given : List EntryBytes) (fed : List ℕ) (fault : PcapngFault) → is_pcapng fed ≡ true → StopsPcapng given fed fault → HasStopped given fed (OfPcapng fault)
stops_pcapng given fed fault told (whole, inl stood, is) = inl (stood.0, inl (told, Some fault, (whole, stood.1, is), refl))
stops_pcapng given fed fault told (whole, inr refused, is) = inr (rw refused.0 refl, inr (inl (told, whole, refused.1, is)))

-- What a feed holds

pub holds_as : (given : List EntryBytes) (fed : List ℕ) (feed : CaptureFeed) (format : Format) → feed.fault ≡ None → feed.format ≡ format → HoldsAs given fed feed.first.items format → HoldsAfter feed given fed
holds_as given fed feed format going is held = rw (going, is) held

pub held_as : (given : List EntryBytes) (fed : List ℕ) (feed : CaptureFeed) (format : Format) → feed.fault ≡ None → feed.format ≡ format → HoldsAfter feed given fed → HoldsAs given fed feed.first.items format
held_as given fed feed format going is held = rw (going, is) at held

-- A step by the records of a savefile

adds_savefile : (given : List EntryBytes) (fed : List ℕ) (feed : CaptureFeed) (records : RecordFeed) (found : Found) → feed.fault ≡ None → feed.format ≡ Savefile records → 4 ≤ length fed → is_pcapng fed ≡ false
    → Adds (HoldsRecords records) (held_record records) given fed found → Adds (HoldsAfter feed) (held_entry feed) given fed found
adds_savefile given fed feed records (Seen item) going is long told adds = holds_as (given ++ seen_item item ∷ []) fed feed (Savefile records) going is (long, told, adds)
adds_savefile given fed feed records Held going is long told adds = (adds.0, ap entry_in is ∙ adds.1, holds_as (given ++ adds.0 ∷ []) fed feed (Savefile records) going is (long, told, adds.2))
adds_savefile given fed feed records Nothing going is long told adds = holds_as given fed feed (Savefile records) going is (long, told, adds)

pub savefile_goes : (bytes rest : List ℕ) (old new : CaptureFeed) (records records' : RecordFeed) (found : Found) → old.fault ≡ None → old.format ≡ Savefile records → new.fault ≡ None → new.format ≡ Savefile records'
    → AdvancesBy {E = SavefileFault} (HoldsRecords records) (HoldsRecords records') StopsRecords (held_record records') bytes rest (Ok found) → Advances bytes rest old new (Ok found)
savefile_goes bytes rest old new records records' found going is going' is' takes = record {
  front = takes.front;
  parts = takes.parts;
  adds = λ given fed held short.
      let was = held_as given fed old (Savefile records) going is held in
      adds_savefile given (fed ++ takes.front) new records' found going' is' (omega (arith, was.0, length-append fed takes.front)) (told-on fed takes.front was.0 ∙ was.1) (takes.adds given fed was.2 short);
}

-- a record that lies whole, if one does
pub savefile_goes_whole : (bytes rest : List ℕ) (old new : CaptureFeed) (records records' : RecordFeed) (item : Option SeenEntry) → old.fault ≡ None → old.format ≡ Savefile records → new.fault ≡ None → new.format ≡ Savefile records'
    → IfSome item (λ i. AdvancesBy {E = SavefileFault} (HoldsRecords records) (HoldsRecords records') StopsRecords (held_record records') bytes rest (Ok (Seen i))) → IfSome item (λ i. Advances bytes rest old new (Ok (Seen i)))
savefile_goes_whole bytes rest old new records records' (Some i) going is going' is' takes = savefile_goes bytes rest old new records records' (Seen i) going is going' is' takes
savefile_goes_whole bytes rest old new records records' None going is going' is' takes = tt

pub savefile_stops : (bytes rest : List ℕ) (old new : CaptureFeed) (records records' : RecordFeed) (fault : SavefileFault) → old.fault ≡ None → old.format ≡ Savefile records
    → AdvancesBy {E = SavefileFault} (HoldsRecords records) (HoldsRecords records') StopsRecords (held_record records') bytes rest (Err fault) → Advances bytes rest old new (Err (OfSavefile fault))
savefile_stops bytes rest old new records records' fault going is stops = λ given fed held short.
    let was = held_as given fed old (Savefile records) going is held in
    stops_savefile given (fed ++ bytes) fault (told-on fed bytes was.0 ∙ was.1) (stops given fed was.2 short)

-- A step by the blocks of pcapng

adds_pcapng : (given : List EntryBytes) (fed : List ℕ) (feed : CaptureFeed) (blocks : BlockFeed) (found : Found) → feed.fault ≡ None → feed.format ≡ Pcapng blocks → is_pcapng fed ≡ true
    → Adds (HoldsPcapng blocks) (entry_of (held_block blocks)) given fed found → Adds (HoldsAfter feed) (held_entry feed) given fed found
adds_pcapng given fed feed blocks (Seen item) going is told adds = holds_as (given ++ seen_item item ∷ []) fed feed (Pcapng blocks) going is (told, adds)
adds_pcapng given fed feed blocks Held going is told adds = (adds.0, ap entry_in is ∙ adds.1, holds_as (given ++ adds.0 ∷ []) fed feed (Pcapng blocks) going is (told, adds.2))
adds_pcapng given fed feed blocks Nothing going is told adds = holds_as given fed feed (Pcapng blocks) going is (told, adds)

pub pcapng_goes : (bytes rest : List ℕ) (old new : CaptureFeed) (blocks blocks' : BlockFeed) (found : Found) → old.fault ≡ None → old.format ≡ Pcapng blocks → new.fault ≡ None → new.format ≡ Pcapng blocks'
    → AdvancesBy {E = PcapngFault} (HoldsPcapng blocks) (HoldsPcapng blocks') StopsPcapng (entry_of (held_block blocks')) bytes rest (Ok found) → Advances bytes rest old new (Ok found)
pcapng_goes bytes rest old new blocks blocks' found going is going' is' takes = record {
  front = takes.front;
  parts = takes.parts;
  adds = λ given fed held short.
      let was = held_as given fed old (Pcapng blocks) going is held in
      adds_pcapng given (fed ++ takes.front) new blocks' found going' is' (told-on fed takes.front (told_long fed was.0) ∙ was.0) (takes.adds given fed was.1 short);
}

-- a packet that lies whole, if one does
pub pcapng_goes_whole : (bytes rest : List ℕ) (old new : CaptureFeed) (blocks blocks' : BlockFeed) (item : Option SeenEntry) → old.fault ≡ None → old.format ≡ Pcapng blocks → new.fault ≡ None → new.format ≡ Pcapng blocks'
    → IfSome item (λ i. AdvancesBy {E = PcapngFault} (HoldsPcapng blocks) (HoldsPcapng blocks') StopsPcapng (entry_of (held_block blocks')) bytes rest (Ok (Seen i))) → IfSome item (λ i. Advances bytes rest old new (Ok (Seen i)))
pcapng_goes_whole bytes rest old new blocks blocks' (Some i) going is going' is' takes = pcapng_goes bytes rest old new blocks blocks' (Seen i) going is going' is' takes
pcapng_goes_whole bytes rest old new blocks blocks' None going is going' is' takes = tt

pub pcapng_stops : (bytes rest : List ℕ) (old new : CaptureFeed) (blocks blocks' : BlockFeed) (r : Result Found ReadFault) (fault : PcapngFault) → IsErrAnd r (λ g. g ≡ OfPcapng fault) → old.fault ≡ None → old.format ≡ Pcapng blocks
    → AdvancesBy {E = PcapngFault} (HoldsPcapng blocks) (HoldsPcapng blocks') StopsPcapng (entry_of (held_block blocks')) bytes rest (Err fault) → Advances bytes rest old new r
pcapng_stops bytes rest old new blocks blocks' (Ok found) fault handed going is stops = absurd handed
pcapng_stops bytes rest old new blocks blocks' (Err g) fault handed going is stops = λ given fed held short.
    let was = held_as given fed old (Pcapng blocks) going is held in
    rw handed (stops_pcapng given (fed ++ bytes) fault (told-on fed bytes (told_long fed was.0) ∙ was.0) (stops given fed was.1 short))

-- The first four bytes

cut_in_two : (count : ℕ) (bytes rest : List ℕ) → rest ≡ drop count bytes → bytes ≡ take count bytes ++ rest
cut_in_two count bytes rest left = sym (take-append-drop count bytes) ∙ ap (λ t. take count bytes ++ t) (sym left)

-- they don't tell yet
pub begins_few : (bytes rest : List ℕ) (count : ℕ) (old new : CaptureFeed) → rest ≡ drop count bytes → old.fault ≡ None → old.format ≡ Unknown → new.fault ≡ None → new.format ≡ Unknown → new.first.items ≡ old.first.items ++ take count bytes → length new.first.items < 4
    → Advances bytes rest old new (Ok Nothing)
begins_few bytes rest count old new left going is going' is' grew few = record {
  front = take count bytes;
  parts = cut_in_two count bytes rest left;
  adds = λ given fed held short.
      let was = held_as given fed old Unknown going is held in
      let all : new.first.items ≡ fed ++ take count bytes = grew ∙ ap (λ t. t ++ take count bytes) was.1 in
      holds_as given (fed ++ take count bytes) new Unknown going' is' (was.0, all, omega (arith, few, ap length all));
}

-- they are all there
four_bytes : (fed bytes first first' : List ℕ) (count : ℕ) → first ≡ fed → length fed < 4 → first' ≡ first ++ take count bytes → count ≡ min (max (4 - length first) 1) (length bytes) → take 4 first' ≡ fed ++ take count bytes
four_bytes fed bytes first first' count same few grew counted =
    let size : length (take count bytes) ≡ count = length-take-le count bytes (omega (arith, counted)) in
    take_all 4 first' (omega (arith, ap length grew, length-append first (take count bytes), size, counted, ap length same, few)) ∙ grew ∙ ap (λ t. t ++ take count bytes) same

pub begins_told : (bytes rest : List ℕ) (count : ℕ) (old new : CaptureFeed) (format : Format) → rest ≡ drop count bytes → old.fault ≡ None → old.format ≡ Unknown → new.fault ≡ None → new.format ≡ format → new.first.items ≡ old.first.items ++ take count bytes
    → count ≡ min (max (4 - length old.first.items) 1) (length bytes) → HoldsAs [] (take 4 new.first.items) (take 4 new.first.items) format → Advances bytes rest old new (Ok Nothing)
begins_told bytes rest count old new format left going is going' is' grew counted opened = record {
  front = take count bytes;
  parts = cut_in_two count bytes rest left;
  adds = λ given fed held short.
      let was = held_as given fed old Unknown going is held in
      let four : take 4 new.first.items ≡ fed ++ take count bytes = four_bytes fed bytes old.first.items new.first.items count was.1 was.2 grew counted in
      let all : new.first.items ≡ fed ++ take count bytes = grew ∙ ap (λ t. t ++ take count bytes) was.1 in
      holds_as given (fed ++ take count bytes) new format going' is' (rw (was.0, all) (rw four at opened));
}

-- or they tell of a fault
pub stops-as-on : (xs ys : List ℕ) (given : List EntryBytes) (fault : ReadFault) → 4 ≤ length xs → StopsAs given xs fault → StopsAs given (xs ++ ys) fault
stops-as-on xs ys given (OfSavefile fault) long stops = (told-on xs ys long ∙ stops.0, stops-on xs ys given fault stops.1)
stops-as-on xs ys given (OfPcapng fault) long stops = (told-on xs ys long ∙ stops.0, (stops.1.0, stopped-lasts xs ys stops.1.0 fault stops.1.1, stops.1.2))

stops_of : (given : List EntryBytes) (fed : List ℕ) (fault : ReadFault) → StopsAs given fed fault → HasStopped given fed fault
stops_of given fed (OfSavefile fault) stops = stops_savefile given fed fault stops.0 stops.1
stops_of given fed (OfPcapng fault) stops = stops_pcapng given fed fault stops.0 stops.1

pub begins_stopped : (bytes rest first : List ℕ) (count : ℕ) (old new : CaptureFeed) (r : Result Found ReadFault) (fault : ReadFault) → IsErrAnd r (λ g. g ≡ fault) → rest ≡ drop count bytes → old.fault ≡ None → old.format ≡ Unknown → first ≡ old.first.items ++ take count bytes
    → count ≡ min (max (4 - length old.first.items) 1) (length bytes) → 4 ≤ length first → StopsAs [] (take 4 first) fault → Advances bytes rest old new r
begins_stopped bytes rest first count old new (Ok found) fault handed left going is grew counted long stops = absurd handed
begins_stopped bytes rest first count old new (Err g) fault handed left going is grew counted long stops = λ given fed held short.
    let was = held_as given fed old Unknown going is held in
    let four : take 4 first ≡ fed ++ take count bytes = four_bytes fed bytes old.first.items first count was.1 was.2 grew counted in
    let size : 4 ≤ length (fed ++ take count bytes) = omega (arith, long, ap length (grew ∙ ap (λ t. t ++ take count bytes) was.1)) in
    let all : (fed ++ take count bytes) ++ drop count bytes ≡ fed ++ bytes = append_assoc fed (take count bytes) (drop count bytes) ∙ ap (λ t. fed ++ t) (take-append-drop count bytes) in
    rw (handed, was.0) (rw all at (stops_of [] ((fed ++ take count bytes) ++ drop count bytes) fault (stops-as-on (fed ++ take count bytes) (drop count bytes) [] fault size (rw four at stops))))

-- memory was refused before
pub begins_refused : (bytes rest : List ℕ) (old new : CaptureFeed) → old.fault ≡ None → old.format ≡ Unknown → Advances bytes rest old new (Err (OfSavefile savefiles.NoMemory))
begins_refused bytes rest old new going is = λ given fed held short. inr (refl, inl (held_as given fed old Unknown going is held).0)

-- A fault that stands does so once more bytes have come

file_long : (fed : List ℕ) (given : List EntryBytes) (fault : SavefileFault) → IsLastingSavefile fault → HasSavefile fed given (Some fault) → 4 ≤ length fed
file_long fed given fault lasting (inl has) =
    omega (arith, ap length has.2.parts, length-append (has.2.head ++ concat has.2.records) has.2.rest, length-append has.2.head (concat has.2.records), has.2.header.long)
file_long fed given fault lasting (inr none) = none_long none.0 none.1 lasting none.2
  where
    none_long : (wrong : SavefileFault) → Some fault ≡ Some wrong → IsLastingSavefile fault → HasNoHeader fed wrong → 4 ≤ length fed
    none_long savefiles.BadMagic same lasting none = none.0
    none_long savefiles.BadVersion same lasting none = omega (arith, none.0)
    none_long savefiles.TruncatedHeader same lasting none = let e : fault ≡ savefiles.TruncatedHeader = cc in absurd (rw e at lasting)
    none_long (savefiles.TruncatedRecord at) same lasting none = absurd none
    none_long (savefiles.TooLong at) same lasting none = absurd none
    none_long savefiles.NoMemory same lasting none = absurd none

whole_long : (front : List ℕ) (given : List EntryBytes) → HasSavefile front given None → 4 ≤ length front
whole_long front given (inl has) =
    omega (arith, ap length has.2.parts, length-append (has.2.head ++ concat has.2.records) has.2.rest, length-append has.2.head (concat has.2.records), has.2.header.long)
whole_long front given (inr none) = absurd (not_none none.1)
  where
    not_none : {wrong : SavefileFault} → None ≡ Some wrong → ⊥
    not_none e = cc

some_same : {A : Type 0} (x y : A) → Some x ≡ Some y → x ≡ y
some_same x y e = cc

pub entries-last : (xs ys : List ℕ) (given : List EntryBytes) (fault : ReadFault) → IsLasting fault → HasEntries xs given (Some fault) → HasEntries (xs ++ ys) given (Some fault)
entries-last xs ys given fault lasting (inl (told, Some wrong, (whole, reads, is), same)) =
    let e : fault ≡ OfPcapng wrong = some_same fault (OfPcapng wrong) same in
    let lasts : IsLastingPcapng wrong = rw e at lasting in
    inl (told-on xs ys (told_long xs told) ∙ told, Some wrong, (whole, still wrong lasts (stopped-lasts xs ys whole wrong (inl (lasts, reads))), is), same)
  where
    still : (wrong : PcapngFault) → IsLastingPcapng wrong → StopsBlocks whole (xs ++ ys) wrong → ReadsPcapng (xs ++ ys) whole (Some wrong)
    still wrong lasts (inl s) = s.1
    still wrong lasts (inr s) = absurd (rw s.0 at lasts)
entries-last xs ys given fault lasting (inl (told, None, reads, same)) = absurd (not_some same)
  where
    not_some : {f : ReadFault} → Some f ≡ None → ⊥
    not_some e = cc
entries-last xs ys given fault lasting (inr (told, Some wrong, has, same)) =
    let e : fault ≡ OfSavefile wrong = some_same fault (OfSavefile wrong) same in
    let lasts : IsLastingSavefile wrong = rw e at lasting in
    inr (told-on xs ys (file_long xs given wrong lasts has) ∙ told, Some wrong, file-lasts xs ys given wrong lasts has, same)
entries-last xs ys given fault lasting (inr (told, None, reads, same)) = absurd (not_some same)
  where
    not_some : {f : ReadFault} → Some f ≡ None → ⊥
    not_some e = cc

pub front-lasts : (xs ys : List ℕ) (given : List EntryBytes) → HasFront xs given → HasFront (xs ++ ys) given
front-lasts xs ys given (inl none) = inl none
front-lasts xs ys given (inr (inl (told, whole, front, is))) =
    inr (inl (told-on xs ys (told_long xs told) ∙ told, whole, record { place = front.place; more = front.more ++ ys; parts = ap (λ t. t ++ ys) front.parts ∙ append_assoc (bytes_of whole) front.more ys; follow = front.follow }, is))
front-lasts xs ys given (inr (inr (told, front, more, parts, has))) =
    inr (inr (told-on xs ys (omega (arith, ap length parts, length-append front more, whole_long front given has)) ∙ told, front, more ++ ys, ap (λ t. t ++ ys) parts ∙ append_assoc front more ys, has))

pub stopped-on : (xs ys : List ℕ) (given : List EntryBytes) (feed : CaptureFeed) (fault : ReadFault) → feed.fault ≡ Some fault → HoldsAfter feed given xs → HasStopped given (xs ++ ys) fault
stopped-on xs ys given feed fault is held = lasts (rw is at held)
  where
    lasts : HasStopped given xs fault → HasStopped given (xs ++ ys) fault
    lasts (inl stood) = inl (stood.0, entries-last xs ys given fault stood.0 stood.1)
    lasts (inr refused) = inr (refused.0, front-lasts xs ys given refused.1)

-- How a capture ends

-- an answer of a format's feed is an answer of the feed
abbrev pub EndsBy : {E : Type 0} → (E → ReadFault) → List EntryBytes → List ℕ → Result (Unit {0}) E → Type 0
EndsBy of given fed (Ok done) = Ends given fed (Ok done)
EndsBy of given fed (Err fault) = Ends given fed (Err (of fault))

lasting_kept : (fault : ReadFault) → IsLasting fault → is_refusal fault ≡ false
lasting_kept (OfSavefile savefiles.BadMagic) lasting = refl
lasting_kept (OfSavefile savefiles.BadVersion) lasting = refl
lasting_kept (OfSavefile savefiles.TruncatedHeader) lasting = refl
lasting_kept (OfSavefile (savefiles.TruncatedRecord at)) lasting = refl
lasting_kept (OfSavefile (savefiles.TooLong at)) lasting = refl
lasting_kept (OfSavefile savefiles.NoMemory) lasting = absurd lasting
lasting_kept (OfPcapng (blocks.BadBlock error at)) lasting = refl
lasting_kept (OfPcapng (blocks.Truncated at)) lasting = refl
lasting_kept (OfPcapng blocks.NoMemory) lasting = absurd lasting

ends_stopped : (given : List EntryBytes) (fed : List ℕ) (fault : ReadFault) → HasStopped given fed fault → Ends given fed (Err fault)
ends_stopped given fed fault (inl stood) = inl (lasting_kept fault stood.0, stood.1)
ends_stopped given fed fault (inr refused) = inr refused

pub ends_fault : (given : List EntryBytes) (fed : List ℕ) (feed : CaptureFeed) (fault : ReadFault) → feed.fault ≡ Some fault → HoldsAfter feed given fed → Ends given fed (Err fault)
ends_fault given fed feed fault is held = ends_stopped given fed fault (rw is at held)

pub ends_unknown : (given : List EntryBytes) (fed : List ℕ) (feed : CaptureFeed) → feed.fault ≡ None → feed.format ≡ Unknown → HoldsAfter feed given fed → Ends given fed (Err (OfSavefile savefiles.TruncatedHeader))
ends_unknown given fed feed going is held =
    let was = held_as given fed feed Unknown going is held in
    inl (refl, inr (few_told fed was.2, Some savefiles.TruncatedHeader, inr (savefiles.TruncatedHeader, refl, inl was.2, was.0), refl))

file_kept : (given : List EntryBytes) (fed : List ℕ) (fault : SavefileFault) → HasSavefile fed given (Some fault) → is_refusal (OfSavefile fault) ≡ false
file_kept given fed savefiles.BadMagic has = refl
file_kept given fed savefiles.BadVersion has = refl
file_kept given fed savefiles.TruncatedHeader has = refl
file_kept given fed (savefiles.TruncatedRecord at) has = refl
file_kept given fed (savefiles.TooLong at) has = refl
file_kept given fed savefiles.NoMemory (inl has) = absurd has.2.ends
file_kept given fed savefiles.NoMemory (inr none) = absurd (no_memory none.0 none.1 none.2)
  where
    no_memory : (wrong : SavefileFault) → Some savefiles.NoMemory ≡ Some wrong → HasNoHeader fed wrong → ⊥
    no_memory wrong same none = let e : savefiles.NoMemory ≡ wrong = cc in rw (sym e) at none

ends_records : (given : List EntryBytes) (fed : List ℕ) (r : Result (Unit {0}) SavefileFault) → is_pcapng fed ≡ false → EndsRecords given fed r → EndsBy OfSavefile given fed r
ends_records given fed (Ok done) told ends = inr (told, None, ends, refl)
ends_records given fed (Err fault) told ends = inl (file_kept given fed fault ends, inr (told, Some fault, ends, refl))

pub ends_savefile : (given : List EntryBytes) (fed : List ℕ) (feed : CaptureFeed) (records : RecordFeed) (r : Result (Unit {0}) SavefileFault) → feed.fault ≡ None → feed.format ≡ Savefile records
    → ((given : List EntryBytes) (fed : List ℕ) → HoldsRecords records given fed → EndsRecords given fed r) → HoldsAfter feed given fed → EndsBy OfSavefile given fed r
ends_savefile given fed feed records r going is ends held =
    let was = held_as given fed feed (Savefile records) going is held in
    ends_records given fed r was.1 (ends given fed was.2)

ends_blocks : (given : List EntryBytes) (fed : List ℕ) (whole : List WholeBlock) (r : Result (Unit {0}) PcapngFault) → is_pcapng fed ≡ true → given ≡ pcapng_entries whole → EndsBlocks whole fed r → EndsBy OfPcapng given fed r
ends_blocks given fed whole (Ok done) told is ends = inl (told, None, (whole, ends, is), refl)
ends_blocks given fed whole (Err (blocks.BadBlock error at)) told is ends = inl (refl, inl (told, Some (blocks.BadBlock error at), (whole, ends, is), refl))
ends_blocks given fed whole (Err (blocks.Truncated at)) told is ends = inl (refl, inl (told, Some (blocks.Truncated at), (whole, ends, is), refl))
ends_blocks given fed whole (Err blocks.NoMemory) told is ends = inr (refl, inr (inl (told, whole, ends, is)))

pub ends_handed : {E : Type 0} (of : E → ReadFault) (given : List EntryBytes) (fed : List ℕ) (r : Result (Unit {0}) ReadFault) (fault : E) → IsErrAnd r (λ g. g ≡ of fault) → EndsBy of given fed (Err fault) → Ends given fed r
ends_handed of given fed (Ok done) fault handed ends = absurd handed
ends_handed of given fed (Err g) fault handed ends = rw handed ends

pub ends_pcapng : (given : List EntryBytes) (fed : List ℕ) (feed : CaptureFeed) (blocks : BlockFeed) (r : Result (Unit {0}) PcapngFault) → feed.fault ≡ None → feed.format ≡ Pcapng blocks
    → ((given : List WholeBlock) (fed : List ℕ) → HoldsBlocks given fed blocks → EndsBlocks given fed r) → HoldsAfter feed given fed → EndsBy OfPcapng given fed r
ends_pcapng given fed feed blocks r going is ends held =
    let was = held_as given fed feed (Pcapng blocks) going is held in
    ends_blocks given fed was.1.0 r was.0 was.1.2 (ends was.1.0 fed was.1.1)
