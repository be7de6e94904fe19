-- Packets of a capture in pcapng that are taken where they lie.
use Rattle.std.proofs.Common.{◌≡◌, ◌≢◌, ℕ, ◌+◌, ◌-◌, min, ◌≤◌, ◌<◌, ◌⊎◌, true, false, List, [], ◌∷◌, ◌++◌, length, take, drop, arith, refl, ap, sym, ◌∙◌, inl, inr, append_assoc, length-append, length-drop, Option, Some, None, Result, Ok, Err, MatchOption, IfErr}
use Rattle.std.specs.Result.{IsErrAnd}
use Rattle.std.proofs.lemmas.List.{append-nil, drop-append-le, length-take, take-append-le, take_min}
use Rattle.std.proofs.lemmas.Bool.{cases_lt}
use Rattle.std.proofs.Math.Seq.{drop-append-add}
use Rattle.std.proofs.Math.ListN.{drop_of_length-le}
use Rattle.pcap_reader.specs.declared.capture.CapturedPacket.{CapturedPacket}
use Rattle.pcap_reader.specs.declared.capture.CaptureFault.{CaptureFault as SavefileFault}
use Rattle.pcap_reader.specs.declared.capture.Header.{Header}
use Rattle.pcap_reader.specs.Savefile.{Reads as ReadsSavefile}
use Rattle.pcapng_reader.specs.declared.block.Content.{Content}
use Rattle.pcapng_reader.specs.declared.block.Content.TheVariants as contents
use Rattle.pcapng_reader.specs.declared.block.PacketEntry.{PacketEntry}
use Rattle.pcapng_reader.specs.declared.fault.CaptureFault.{CaptureFault}
use Rattle.pcapng_reader.specs.declared.fault.CaptureFault.TheVariants.{BadBlock, Truncated, NoMemory}
use Rattle.pcapng_reader.specs.declared.feed.BlockFeed.{BlockFeed}
use Rattle.pcapng_reader.specs.declared.feed.FeedStep.TheVariants as steps
use Rattle.pcapng_reader.specs.declared.seen.Block.{Block}
use Rattle.pcapng_reader.specs.Grammar.{WholeBlock, Reads}
use Rattle.pcapng_reader.specs.Held.{Advances, Ends, HasStopped, HoldsAfter, held_block, seen_block}
use Rattle.pcapng_reader.specs.Packets.{captured_in, packets_by}
use Rattle.capture_reader.specs.declared.fault.ReadFault.{ReadFault}
use Rattle.capture_reader.specs.declared.fault.ReadFault.TheVariants.{Savefile as OfSavefile, Pcapng as OfPcapng}
use Rattle.capture_reader.specs.Faults.{is_refusal}
use Rattle.pcap_reader.specs.declared.capture.CaptureFault.TheVariants as savefiles
use Rattle.capture_reader.specs.Captures.{HasEntries}
use Rattle.pcapng_reader.specs.Blocks.{is_pcapng}
use Rattle.capture_reader.specs.Entries.{EntryBytes, block_entry, listed, packets_in, pcapng_entries, savefile_entries}
use Rattle.capture_reader.specs.Sharing.{HasShared, SharesOn, StopsSharing, block_packets}
use Rattle.capture_reader.proofs.BlockLemmas.{pcapng_entries-push}
use Rattle.capture_reader.proofs.LawLemmas.{packets_in-append, record_packets}

-- the packet of a block
pub of_packet : (c : Content) (b : List ℕ) (entry : PacketEntry) (bytes : List ℕ) → packets_by c b ≡ (entry, bytes) ∷ [] → (block_packets c b ≡ record { bytes = bytes; original = entry.original } ∷ []) × (bytes ≡ captured_in entry b)
of_packet (contents.Packet e) b entry bytes is =
    let first : (e, captured_in e b) ≡ (entry, bytes) = one is in
    let same : e ≡ entry = ap (λ (p : PacketEntry × List ℕ). p.0) first in
    let body : captured_in e b ≡ bytes = ap (λ (p : PacketEntry × List ℕ). p.1) first in
    (ap (λ (p : PacketEntry × List ℕ). packet_of p.1 p.0.original ∷ []) first, sym body ∙ ap (λ (e : PacketEntry). captured_in e b) same)
  where
    packet_of : List ℕ → ℕ → CapturedPacket
    packet_of bytes original = record { bytes = bytes; original = original }

    one : {x y : PacketEntry × List ℕ} → x ∷ [] ≡ y ∷ [] → x ≡ y
    one e = cc
of_packet (contents.Section header) b entry bytes is = absurd (cc)
of_packet (contents.Interface described) b entry bytes is = absurd (cc)
of_packet contents.Other b entry bytes is = absurd (cc)

pub of_none : (c : Content) (b : List ℕ) → packets_by c b ≡ [] → block_packets c b ≡ []
of_none (contents.Packet e) b is = absurd (cc)
of_none (contents.Section header) b is = refl
of_none (contents.Interface described) b is = refl
of_none contents.Other b is = refl

-- where it lies in the file
pub record LiesAt (file bytes : List ℕ) (start : ℕ) : Type 0 where
  pub within : start + length bytes ≤ length file
  pub are : take (length bytes) (drop start file) ≡ bytes

drop_min : (block : List ℕ) (n : ℕ) → drop (min (length block) n) block ≡ drop n block
drop_min block n = elim (cases_lt n (length block)) [
  | inl few ↦ let e : min (length block) n ≡ n = omega arith in ap (λ k. drop k block) e
  | inr many ↦ let e : min (length block) n ≡ length block = omega arith in ap (λ k. drop k block) e ∙ drop_of_length-le block (omega arith) ∙ sym (drop_of_length-le block many)
]

pub lies_at : (file before block rest : List ℕ) (entry : PacketEntry) (bytes : List ℕ) (start : ℕ) → file ≡ before ++ (block ++ rest) → bytes ≡ captured_in entry block → start ≡ length before + min (length block) entry.start → LiesAt file bytes start
lies_at file before block rest entry bytes start parts is at =
    let s = min (length block) entry.start in
    let body : drop s block ≡ drop entry.start block = drop_min block entry.start in
    let size : length bytes ≡ min entry.captured (length (drop entry.start block)) = ap length is ∙ length-take entry.captured (drop entry.start block) in
    let left : length (drop s block) ≡ length block - s = length-drop s block in
    let few : length bytes ≤ length (drop s block) = omega (arith, size, ap length body) in
    record {
      within = omega (arith, at, few, left, ap length parts, length-append before (block ++ rest), length-append block rest);
      are = ap (λ k. take (length bytes) (drop k file)) at ∙ ap (λ t. take (length bytes) (drop (length before + s) t)) parts
          ∙ ap (take (length bytes)) (drop-append-add before (block ++ rest) s ∙ drop-append-le s block rest (omega arith))
          ∙ take-append-le (length bytes) (drop s block) rest few
          ∙ ap (take (length bytes)) body ∙ ap (λ k. take k (drop entry.start block)) size ∙ take_min entry.captured (drop entry.start block) ∙ sym is;
    }

-- Steps

blocks_push : (whole : List WholeBlock) (b : WholeBlock) → packets_in (pcapng_entries (whole ++ b ∷ [])) ≡ packets_in (pcapng_entries whole) ++ block_packets b.content b.bytes
blocks_push whole b = ap packets_in (pcapng_entries-push whole b) ∙ packets_in-append (pcapng_entries whole) (listed (block_entry b.content b.bytes))

pub shares_block : (bytes rest : List ℕ) (old new : BlockFeed) (b : Block) (before after : List CapturedPacket) → Advances bytes rest old new (Ok (steps.Block b)) → after ≡ before ++ block_packets b.content b.bytes.now → SharesOn bytes rest old new before after
shares_block bytes rest old new b before after takes pushed = record {
  front = takes.front;
  parts = takes.parts;
  goes = λ whole fed held are short. (whole ++ seen_block b ∷ [], takes.adds whole fed held short, pushed ∙ ap (λ t. t ++ block_packets b.content b.bytes.now) are ∙ sym (blocks_push whole (seen_block b)));
}

pub shares_held : (bytes rest : List ℕ) (old new : BlockFeed) (held : Option Block) (before after : List CapturedPacket) → Advances bytes rest old new (Ok steps.Held)
    → MatchOption held (held_block new ≡ None) (λ block. held_block new ≡ Some (seen_block block)) → MatchOption held (after ≡ before) (λ block. after ≡ before ++ block_packets block.content block.bytes.now) → SharesOn bytes rest old new before after
shares_held bytes rest old new held before after takes has pushed = record {
  front = takes.front;
  parts = takes.parts;
  goes = λ whole fed holds are short. let added = takes.adds whole fed holds short in (whole ++ added.0 ∷ [], added.2, by_held held has pushed whole are added.0 added.1);
}
  where
    one : {x y : WholeBlock} → Some x ≡ Some y → x ≡ y
    one e = cc

    by_held : (held : Option Block) → MatchOption held (held_block new ≡ None) (λ block. held_block new ≡ Some (seen_block block)) → MatchOption held (after ≡ before) (λ block. after ≡ before ++ block_packets block.content block.bytes.now)
        → (whole : List WholeBlock) → before ≡ packets_in (pcapng_entries whole) → (b : WholeBlock) → held_block new ≡ Some b → after ≡ packets_in (pcapng_entries (whole ++ b ∷ []))
    by_held None none pushed whole are b is = absurd (cc)
    by_held (Some block) some pushed whole are b is =
        let same : b ≡ seen_block block = one (sym is ∙ some) in
        pushed ∙ ap (λ t. t ++ block_packets block.content block.bytes.now) are ∙ sym (ap (λ x. packets_in (pcapng_entries (whole ++ x ∷ []))) same ∙ blocks_push whole (seen_block block))

other_none : (b : WholeBlock) → b.content ≡ contents.Other → block_packets b.content b.bytes ≡ []
other_none b is = rw is refl

pub shares_passed : (bytes rest : List ℕ) (old new : BlockFeed) (before : List CapturedPacket) → Advances bytes rest old new (Ok steps.Passed) → SharesOn bytes rest old new before before
shares_passed bytes rest old new before takes = record {
  front = takes.front;
  parts = takes.parts;
  goes = λ whole fed held are short.
      let added = takes.adds whole fed held short in
      (whole ++ added.0 ∷ [], added.2, are ∙ sym (append-nil (packets_in (pcapng_entries whole))) ∙ ap (λ t. packets_in (pcapng_entries whole) ++ t) (sym (other_none added.0 added.1)) ∙ sym (blocks_push whole added.0));
}

pub shares_more : (bytes rest : List ℕ) (old new : BlockFeed) (before : List CapturedPacket) → Advances bytes rest old new (Ok steps.More) → SharesOn bytes rest old new before before
shares_more bytes rest old new before takes = record {
  front = takes.front;
  parts = takes.parts;
  goes = λ whole fed held are short. (whole, takes.adds whole fed held short, are);
}

pub stops_sharing : (bytes rest : List ℕ) (old new : BlockFeed) (r : Result (Unit {0}) CaptureFault) (fault : CaptureFault) → IsErrAnd r (λ g. g ≡ fault) → Advances bytes rest old new (Err fault) → IfErr r (StopsSharing bytes old)
stops_sharing bytes rest old new (Ok done) fault handed advances = tt
stops_sharing bytes rest old new (Err g) fault handed advances = rw handed (stops fault advances)
  where
    never : {f : CaptureFault} → f ≢ NoMemory → f ≡ NoMemory → ⊥
    never other same = other same

    stands : (fault : CaptureFault) → fault ≢ NoMemory → (whole : List WholeBlock) (fed : List ℕ) → HasStopped whole fed fault → Reads fed whole (Some fault)
    stands fault other whole fed (inl stood) = stood.1
    stands fault other whole fed (inr refused) = absurd (other refused.0)

    stops : (fault : CaptureFault) → Advances bytes rest old new (Err fault) → StopsSharing bytes old fault
    stops NoMemory advances = inl refl
    stops (BadBlock error at) advances = inr (λ whole fed held short. stands (BadBlock error at) (λ e. cc) whole (fed ++ bytes) (advances whole fed held short))
    stops (Truncated at) advances = inr (λ whole fed held short. stands (Truncated at) (λ e. cc) whole (fed ++ bytes) (advances whole fed held short))

-- A whole file

pub shared_next : (file rest rest' : List ℕ) (old new : BlockFeed) (before after : List CapturedPacket) → length file < 18446744073709551616 → HasShared file rest old before → SharesOn rest rest' old new before after → HasShared file rest' new after
shared_next file rest rest' old new before after short has shares =
    let parts : file ≡ (has.done ++ shares.front) ++ rest' = has.parts ∙ ap (λ t. has.done ++ t) shares.parts ∙ sym (append_assoc has.done shares.front rest') in
    let more = shares.goes has.whole has.done has.holds has.are (omega (arith, short, ap length parts, length-append (has.done ++ shares.front) rest')) in
    record { whole = more.0; done = has.done ++ shares.front; parts = parts; holds = more.1; are = more.2 }

pub shared_all : (file rest : List ℕ) (feed : BlockFeed) (packets : List CapturedPacket) → rest ≡ [] → HasShared file rest feed packets → HasShared file [] feed packets
shared_all file rest feed packets none has = rw none at has

pub shared_stops : (file rest : List ℕ) (old : BlockFeed) (packets : List CapturedPacket) (fault : CaptureFault) → length file < 18446744073709551616 → HasShared file rest old packets → StopsSharing rest old fault
    → (fault ≡ NoMemory) ⊎ ((blocks : List WholeBlock) × Reads file blocks (Some fault))
shared_stops file rest old packets fault short has (inl refused) = inl refused
shared_stops file rest old packets fault short has (inr stops) = inr (has.whole, rw (sym has.parts) at (stops has.whole has.done has.holds (omega (arith, short, ap length has.parts))))

whole_file : (file : List ℕ) (feed : BlockFeed) (packets : List CapturedPacket) → (has : HasShared file [] feed packets) → file ≡ has.done
whole_file file feed packets has = has.parts ∙ append-nil has.done

pub shared_well : (file : List ℕ) (feed : BlockFeed) (packets : List CapturedPacket) → HasShared file [] feed packets → ((given : List WholeBlock) (fed : List ℕ) → HoldsAfter given fed feed → Ends given fed (Ok tt))
    → (blocks : List WholeBlock) × Reads file blocks None × (packets ≡ packets_in (pcapng_entries blocks))
shared_well file feed packets has ends = (has.whole, rw (sym (whole_file file feed packets has)) at (ends has.whole has.done has.holds), has.are)

pub shared_ends : (file : List ℕ) (feed : BlockFeed) (packets : List CapturedPacket) (fault : CaptureFault) → HasShared file [] feed packets → ((given : List WholeBlock) (fed : List ℕ) → HoldsAfter given fed feed → Ends given fed (Err fault))
    → (fault ≡ NoMemory) ⊎ ((blocks : List WholeBlock) × Reads file blocks (Some fault))
shared_ends file feed packets NoMemory has ends = inl refl
shared_ends file feed packets (BadBlock error at) has ends = inr (has.whole, rw (sym (whole_file file feed packets has)) at (ends has.whole has.done has.holds))
shared_ends file feed packets (Truncated at) has ends = inr (has.whole, rw (sym (whole_file file feed packets has)) at (ends has.whole has.done has.holds))

-- A savefile

pub savefile_shared : (file : List ℕ) (h : Header) (packets : List CapturedPacket) → is_pcapng file ≡ false → ReadsSavefile file (Some h) packets None → (entries : List EntryBytes) × HasEntries file entries None × (packets ≡ packets_in entries)
savefile_shared file h packets told reads = (savefile_entries h reads.records, inr (told, None, inl (h, packets, reads, refl), refl), sym (record_packets h reads.records packets reads.each))

pub savefile_fails : (file : List ℕ) (header : Option Header) (packets : List CapturedPacket) (fault : SavefileFault) → is_pcapng file ≡ false → ReadsSavefile file header packets (Some fault) → (entries : List EntryBytes) × HasEntries file entries (Some (OfSavefile fault))
savefile_fails file (Some h) packets fault told reads = (savefile_entries h reads.records, inr (told, Some fault, inl (h, packets, reads, refl), refl))
savefile_fails file None packets fault told reads = ([], inr (told, Some fault, inr (fault, refl, reads.1, refl), refl))

-- The answer

abbrev pub Fails : List ℕ → ReadFault → Type 0
Fails file fault = (is_refusal fault ≡ true) ⊎ ((entries : List EntryBytes) × HasEntries file entries (Some fault))

pub pcapng_answer : {T : Type 0} (file bytes : List ℕ) (r : Result T ReadFault) (fault : CaptureFault) → IsErrAnd r (λ g. g ≡ OfPcapng fault) → is_pcapng bytes ≡ true → bytes ≡ file
    → (fault ≡ NoMemory) ⊎ ((blocks : List WholeBlock) × Reads file blocks (Some fault)) → IfErr r (Fails file)
pcapng_answer file bytes (Ok v) fault handed told same fails = tt
pcapng_answer file bytes (Err g) fault handed told same (inl refused) = rw handed (inl (rw refused refl))
pcapng_answer file bytes (Err g) fault handed told same (inr has) = rw handed (inr (pcapng_entries has.0, inl (rw same at told, Some fault, (has.0, has.1, refl), refl)))

pub savefile_answer : {T : Type 0} (file bytes : List ℕ) (r : Result T ReadFault) (fault : SavefileFault) → IsErrAnd r (λ g. g ≡ OfSavefile fault) → is_pcapng bytes ≡ false → bytes ≡ file
    → (fault ≡ savefiles.NoMemory) ⊎ ((header : Option Header) × (packets : List CapturedPacket) × ReadsSavefile file header packets (Some fault)) → IfErr r (Fails file)
savefile_answer file bytes (Ok v) fault handed told same fails = tt
savefile_answer file bytes (Err g) fault handed told same (inl refused) = rw handed (inl (rw refused refl))
savefile_answer file bytes (Err g) fault handed told same (inr has) = rw handed (inr (savefile_fails file has.0 has.1 fault (rw same at told) has.2))

pub ends_answer : {T : Type 0} (file : List ℕ) (r : Result T CaptureFault) (fault : CaptureFault) → IsErrAnd r (λ g. g ≡ fault) → (fault ≡ NoMemory) ⊎ ((blocks : List WholeBlock) × Reads file blocks (Some fault))
    → IfErr r (λ f. (f ≡ NoMemory) ⊎ ((blocks : List WholeBlock) × Reads file blocks (Some f)))
ends_answer file (Ok v) fault handed fails = tt
ends_answer file (Err g) fault handed fails = rw handed fails
