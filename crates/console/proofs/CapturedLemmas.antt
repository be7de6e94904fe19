-- What was kept of a capture.
use Rattle.std.proofs.Common.{◌≡◌, ℕ, ◌+◌, ◌<◌, List, [], ◌++◌, length, inl, inr, Bool, true, false, Option, None, Some, Result, Ok, Err, MatchOption, arith, refl, ap, sym, ◌∙◌, append_assoc, length-append}
use Rattle.std.proofs.lemmas.List.{append-nil}
use Rattle.capture_reader.specs.declared.entry.SeenEntry.{SeenEntry}
use Rattle.std.specs.Prelude.{OnOk}
use Rattle.capture_reader.specs.declared.entry.Found.{Found}
use Rattle.capture_reader.specs.declared.entry.Found.TheVariants.{Held}
use Rattle.capture_reader.specs.declared.fault.ReadFault.{ReadFault}
use Rattle.capture_reader.specs.declared.feed.CaptureFeed.{CaptureFeed}
use Rattle.capture_reader.specs.Holding.{Advances, EndsAt, held_entry, held_fault}
use Rattle.capture_reader.specs.Captures.{HasEntries}
use Rattle.capture_reader.specs.Entries.{EntryBytes}
use Rattle.capture_reader.specs.Faults.{is_refusal}
use Rattle.capture_reader.specs.Steps.{seen_item}
use Rattle.console.specs.declared.captured.KeptEntry.{KeptEntry}
use Rattle.engine_io.specs.declared.source.Source.{Source}
use Rattle.engine_io.specs.Devices.{Gets, GetsNothing}
use Rattle.console.specs.Reading.{HasKept, KeepsOn, entries_of}
use Rattle.console.specs.Running.{item_entries}
use Rattle.engine_io.proofs.KnownBytesLemmas.{gets-kept, gets-then}
use Rattle.console.proofs.RunningLemmas.{IsFound, adds_item}

-- nothing was taken
pub keep_none : (bytes : List ℕ) (feed : CaptureFeed) (entries : List KeptEntry) → KeepsOn bytes bytes feed feed entries entries
keep_none bytes feed entries = record {
  front = [];
  parts = refl;
  keeps = λ fed has short. rw (append-nil fed) has;
}

-- one front and then another
pub keep_then : (bytes mid rest : List ℕ) (old then new : CaptureFeed) (before between after : List KeptEntry) → KeepsOn bytes mid old then before between → KeepsOn mid rest then new between after → KeepsOn bytes rest old new before after
keep_then bytes mid rest old then new before between after first next = record {
  front = first.front ++ next.front;
  parts = first.parts ∙ ap (λ t. first.front ++ t) next.parts ∙ sym (append_assoc first.front next.front rest);
  keeps = λ fed has short.
      let all : (fed ++ first.front) ++ next.front ≡ fed ++ (first.front ++ next.front) = append_assoc fed first.front next.front in
      let one = first.keeps fed has (omega (arith, ap length all, length-append (fed ++ first.front) next.front, short)) in
      rw (sym all) (next.keeps (fed ++ first.front) one (omega (arith, ap length all, short)));
}

-- an entry that was seen in place, or is held, or none
pub keep_item : (bytes rest : List ℕ) (old new : CaptureFeed) (found : Found) (item : Option SeenEntry) (before after : List KeptEntry) → Advances bytes rest old new (Ok found) → IsFound new found item
    → entries_of after ≡ entries_of before ++ item_entries item → KeepsOn bytes rest old new before after
keep_item bytes rest old new found item before after takes is pushed = record {
  front = takes.front;
  parts = takes.parts;
  keeps = λ fed has short. record { holds = rw pushed (adds_item (entries_of before) (fed ++ takes.front) new found item is (takes.adds (entries_of before) fed has.holds short)) };
}

-- a capture with a fault
pub keep_stopped : (bytes rest : List ℕ) (old new : CaptureFeed) (entries : List KeptEntry) (fault : ReadFault) → held_fault new ≡ Some fault → Advances bytes rest old new (Err fault) → KeepsOn bytes [] old new entries entries
keep_stopped bytes rest old new entries fault says advances = record {
  front = bytes;
  parts = sym (append-nil bytes);
  keeps = λ fed has short. record { holds = rw says (advances (entries_of entries) fed has.holds short) };
}

-- a source got these bytes, whose entries were kept
pub record SoKept {R : Type 0} (remaining : R → Option (List ℕ)) (old new : Source R) (feed : CaptureFeed) (entries : List KeptEntry) (taken : ℕ) : Type 0 where
  pub given : List ℕ
  pub lost : Gets remaining old new given
  pub has : HasKept given feed entries
  pub count : taken ≡ length given

pub so_kept_next : {R : Type 0} {remaining : R → Option (List ℕ)} (old mid new : Source R) (feed feed' : CaptureFeed) (before after : List KeptEntry) (taken taken' : ℕ) (piece : List ℕ)
    → SoKept remaining old mid feed before taken → Gets remaining mid new piece → taken' ≡ taken + length piece → taken' < 18446744073709551616
    → KeepsOn piece [] feed feed' before after → SoKept remaining old new feed' after taken'
so_kept_next old mid new feed feed' before after taken taken' piece so next count short keeps =
    let all : piece ≡ keeps.front = keeps.parts ∙ append-nil keeps.front in
    record {
      given = so.given ++ piece;
      lost = gets-then old mid new so.given piece so.lost next;
      has = rw all (keeps.keeps so.given so.has (omega (arith, length-append so.given keeps.front, ap length all, so.count)));
      count = omega (arith, length-append so.given piece, so.count);
    }

-- a read that failed and took nothing
pub so_kept_kept : {R : Type 0} {remaining : R → Option (List ℕ)} (old mid new : Source R) (feed : CaptureFeed) (entries : List KeptEntry) (taken taken' : ℕ) → SoKept remaining old mid feed entries taken → GetsNothing remaining mid new → taken' ≡ taken
    → SoKept remaining old new feed entries taken'
so_kept_kept old mid new feed entries taken taken' so kept same = record { given = so.given; lost = gets-kept old mid new so.given so.lost kept; has = so.has; count = same ∙ so.count }

-- the entry that is held
pub found_held : (feed : CaptureFeed) (item : Option SeenEntry) → MatchOption item (held_entry feed ≡ None) (λ i. held_entry feed ≡ Some (seen_item i)) → IsFound feed Held item
found_held feed None held = held
found_held feed (Some i) held = held

-- an answer about what was kept
pub keeps_ok : {E : Type 0} (r : Result (Unit {0}) E) (P Q : Type 0) → (P → Q) → OnOk r P → OnOk r Q
keeps_ok (Ok done) P Q f p = f p
keeps_ok (Err e) P Q f p = tt

-- where a capture is no refusal it has this fault
pub ends_told : (given : List EntryBytes) (fed : List ℕ) (fault : ReadFault) → is_refusal fault ≡ false → EndsAt given fed fault → HasEntries fed given (Some fault)
ends_told given fed fault told (inl has) = has.1
ends_told given fed fault told (inr refused) = absurd (never refused.0 told)
  where
    never : {b : Bool} → b ≡ true → b ≡ false → ⊥
    never e f = cc
