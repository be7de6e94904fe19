-- A capture of either format that comes in pieces.
use Rattle.std.proofs.Common.{◌≡◌, ℕ, ◌<◌, ◌≤◌, inl, inr, true, false, List, ◌++◌, length, arith, refl, sym, ◌∙◌, length-append, Option, Some, Result, Ok, Err}
use Rattle.std.specs.Prelude.{OnOk, nat_lt, option_map}
use Rattle.pcap_reader.proofs.Fronts.{word-front}
use Rattle.pcap_reader.specs.declared.capture.CaptureFault.{CaptureFault as SavefileFault}
use Rattle.pcap_reader.specs.declared.capture.CaptureFault.TheVariants.{TruncatedHeader}
use Rattle.pcapng_reader.specs.declared.fault.CaptureFault.{CaptureFault as PcapngFault}
use Rattle.console.specs.Programs.{Programs}
use Rattle.keep_engine.specs.declared.choice.KeptBytes.{KeptBytes}
use Rattle.keep_engine.specs.declared.choice.Wanted.{Wanted}
use Rattle.keep_engine.specs.declared.block_sieve.BlockSieve.{BlockSieve}
use Rattle.keep_engine.specs.declared.record_sieve.RecordSieve.{RecordSieve}
use Rattle.capture_reader.specs.declared.fault.ReadFault.{ReadFault}
use Rattle.capture_reader.specs.declared.fault.ReadFault.TheVariants as faults
use Rattle.keep_engine.specs.declared.sieve.Sieve.{Sieve}
use Rattle.keep_engine.specs.declared.sieve.Format.TheVariants.{Unknown, Savefile, Pcapng}
use Rattle.pcapng_reader.specs.Blocks.{is_pcapng}
use Rattle.keep_engine.specs.Keeping.{Keeps, KeepsBlocks, KeepsSavefile, Part}
use Rattle.keep_engine.specs.Sieving.{Begins, HasSifted, HasSiftedBlocks, HasSiftedRecords, SiftedBy, Sifts}

-- The first four bytes

pub told_on : (front more : List ℕ) → 4 ≤ length front → is_pcapng (front ++ more) ≡ is_pcapng front
told_on front more long =
    let all : nat_lt (length (front ++ more)) 4 ≡ false = grind (arith, length-append front more) in
    let some : nat_lt (length front) 4 ≡ false = grind arith in
    rw (all, some, word-front true front more long) refl

too_few : (bytes : List ℕ) → length bytes < 4 → is_pcapng bytes ≡ false
too_few bytes few = let some : nat_lt (length bytes) 4 ≡ true = grind arith in rw some refl

-- A piece

pub savefile_sifts : {E : Type 0} (r : Result (Unit {0}) E) (programs : Programs) (wanted : Wanted) (piece : List ℕ) (old new : Sieve) (from to : RecordSieve) (before after : KeptBytes) → old.format ≡ Savefile from → new.format ≡ Savefile to
    → OnOk r (Sifts (HasSiftedRecords programs wanted) piece from to before after) → OnOk r (Sifts (HasSifted programs wanted) piece old new before after)
savefile_sifts (Err e) programs wanted piece old new from to before after is now_is sifts = tt
savefile_sifts (Ok done) programs wanted piece old new from to before after is now_is sifts = record {
  more = sifts.more;
  pushed = sifts.pushed;
  goes = λ taken kept was short.
      let has : SiftedBy programs wanted taken (Savefile from) old.front.items kept = rw is at was in
      let other : is_pcapng (taken ++ piece) ≡ false = told_on taken piece has.0 ∙ has.1 in
      let now : SiftedBy programs wanted (taken ++ piece) (Savefile to) new.front.items (kept ++ sifts.more) =
      (omega (arith, has.0, length-append taken piece), other, sifts.goes taken kept has.2 short) in
      rw now_is now;
}

pub blocks_sift : {E : Type 0} (r : Result (Unit {0}) E) (programs : Programs) (wanted : Wanted) (piece : List ℕ) (old new : Sieve) (from to : BlockSieve) (before after : KeptBytes) → old.format ≡ Pcapng from → new.format ≡ Pcapng to
    → OnOk r (Sifts (HasSiftedBlocks programs wanted) piece from to before after) → OnOk r (Sifts (HasSifted programs wanted) piece old new before after)
blocks_sift (Err e) programs wanted piece old new from to before after is now_is sifts = tt
blocks_sift (Ok done) programs wanted piece old new from to before after is now_is sifts = record {
  more = sifts.more;
  pushed = sifts.pushed;
  goes = λ taken kept was short.
      let has : SiftedBy programs wanted taken (Pcapng from) old.front.items kept = rw is at was in
      let now : SiftedBy programs wanted (taken ++ piece) (Pcapng to) new.front.items (kept ++ sifts.more) =
      (omega (arith, has.0, length-append taken piece), told_on taken piece has.0 ∙ has.1, sifts.goes taken kept has.2 short) in
      rw now_is now;
}

pub unknown_sifts : {E : Type 0} (r : Result (Unit {0}) E) (programs : Programs) (wanted : Wanted) (piece : List ℕ) (old new : Sieve) (before after : KeptBytes) → old.format ≡ Unknown
    → OnOk r (Begins programs wanted (old.front.items ++ piece) new before after) → OnOk r (Sifts (HasSifted programs wanted) piece old new before after)
unknown_sifts (Err e) programs wanted piece old new before after is begins = tt
unknown_sifts (Ok done) programs wanted piece old new before after is (more, pushed, has) = record {
  more = more;
  pushed = pushed;
  goes = λ taken kept was short.
      let had : SiftedBy programs wanted taken Unknown old.front.items kept = rw is at was in
      let now = has (rw (had.0) short) in
      rw (sym had.0, had.2) now;
}

-- How a capture ends

pub ends_unknown : (programs : Programs) (wanted : Wanted) (taken : List ℕ) (kept : List Part) (sieve : Sieve) → sieve.format ≡ Unknown → HasSifted programs wanted taken sieve kept → Keeps programs wanted taken (Some (faults.Savefile TruncatedHeader)) kept
ends_unknown programs wanted taken kept sieve is has =
    let had : SiftedBy programs wanted taken Unknown sieve.front.items kept = rw is at has in
    inr (too_few taken had.1, Some TruncatedHeader, refl, inr (TruncatedHeader, refl, inl had.1, had.2))

pub ends_savefile : (programs : Programs) (wanted : Wanted) (taken : List ℕ) (kept : List Part) (sieve : Sieve) (records : RecordSieve) (fault : Option SavefileFault) (answer : Option ReadFault) → sieve.format ≡ Savefile records → answer ≡ option_map faults.Savefile fault
    → (HasSiftedRecords programs wanted taken records kept → KeepsSavefile programs wanted taken fault kept) → HasSifted programs wanted taken sieve kept → Keeps programs wanted taken answer kept
ends_savefile programs wanted taken kept sieve records fault answer is same keeps has =
    let had : SiftedBy programs wanted taken (Savefile records) sieve.front.items kept = rw is at has in
    inr (had.1, fault, same, keeps had.2)

pub ends_blocks : (programs : Programs) (wanted : Wanted) (taken : List ℕ) (kept : List Part) (sieve : Sieve) (blocks : BlockSieve) (fault : Option PcapngFault) (answer : Option ReadFault) → sieve.format ≡ Pcapng blocks → answer ≡ option_map faults.Pcapng fault
    → (HasSiftedBlocks programs wanted taken blocks kept → KeepsBlocks programs wanted taken fault kept) → HasSifted programs wanted taken sieve kept → Keeps programs wanted taken answer kept
ends_blocks programs wanted taken kept sieve blocks fault answer is same keeps has =
    let had : SiftedBy programs wanted taken (Pcapng blocks) sieve.front.items kept = rw is at has in
    inl (had.1, fault, same, keeps had.2)
