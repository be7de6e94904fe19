-- A text that is printed bit by bit: what is written, what is kept back, and what is left to print.
use Rattle.std.proofs.Common.{◌≡◌, ℕ, Bool, List, [], ◌∷◌, ◌++◌, Option, ap, sym, ◌∙◌, append_assoc, refl, true, false}
use Rattle.std.specs.Prelude.{Result, Ok, Err, OnErr}
use Rattle.std.proofs.lemmas.List.{append-nil}
use Rattle.capture_reader.specs.declared.fault.ReadFault.{ReadFault}
use Rattle.console.specs.declared.captured.KeptEntry.{KeptEntry}
use Rattle.console.specs.declared.dumping.Place.{Place}
use Rattle.console.specs.Choosing.{chosen, is_chosen}
use Rattle.engine_io.specs.declared.sink.Sink.{Sink}
use Rattle.engine_io.specs.Devices.{Writes}
use Rattle.engine_io.specs.Reading.{BeginsWith}
use Rattle.console.specs.Reading.{entries_of}
use Rattle.console.specs.Faults.{fault_text}
use Rattle.console.specs.Dumping.{PrintsEntry, entry_line, entry_lines, interfaces_after, packets_after}
use Rattle.engine_io.proofs.KnownBytesLemmas.{writes-then}

pub record Printing {W : Type 0} (whole left : List ℕ) (contents : W → Option (List ℕ)) (old new : Sink W) (kept : List ℕ) : Type 0 where
  pub written : List ℕ
  pub appended : Writes contents old new written
  pub parts : whole ≡ written ++ (kept ++ left)

pub printing_next : (whole left left' line kept kept' : List ℕ) {W : Type 0} {contents : W → Option (List ℕ)} (old new : Sink W) → Printing whole left contents old new kept → left ≡ line ++ left' → kept' ≡ kept ++ line → Printing whole left' contents old new kept'
printing_next whole left left' line kept kept' old new so first text = record {
  written = so.written;
  appended = so.appended;
  parts = so.parts ∙ ap (λ t. so.written ++ t) (ap (λ t. kept ++ t) first ∙ sym (append_assoc kept line left') ∙ ap (λ t. t ++ left') (sym text));
}

pub printing_written : (whole left kept kept' : List ℕ) {W : Type 0} {contents : W → Option (List ℕ)} (old new last : Sink W) → Printing whole left contents old new kept → Writes contents new last kept → kept' ≡ [] → Printing whole left contents old last kept'
printing_written whole left kept kept' old new last so more none = record {
  written = so.written ++ kept;
  appended = writes-then old new last so.written kept so.appended more;
  parts = so.parts ∙ sym (append_assoc so.written kept left) ∙ ap (λ t. (so.written ++ kept) ++ (t ++ left)) (sym none);
}

pub printing_part : (whole left kept : List ℕ) {W : Type 0} {contents : W → Option (List ℕ)} (old new : Sink W) → Printing whole left contents old new kept → (text : List ℕ) × BeginsWith text whole × Writes contents old new text
printing_part whole left kept old new so = (so.written, (kept ++ left, so.parts), so.appended)

-- and where a write of what was kept back failed
pub printing_front : (whole left kept : List ℕ) {W : Type 0} {contents : W → Option (List ℕ)} (old new last : Sink W) → Printing whole left contents old new kept → (front : List ℕ) × BeginsWith front kept × Writes contents new last front
    → (text : List ℕ) × BeginsWith text whole × Writes contents old last text
printing_front whole left kept old new last so failed = (
  so.written ++ failed.0,
  (
    failed.1.0 ++ left,
    so.parts ∙ ap (λ t. so.written ++ (t ++ left)) failed.1.1 ∙ ap (λ t. so.written ++ t) (append_assoc failed.0 failed.1.0 left) ∙ sym (append_assoc so.written failed.0 (failed.1.0 ++ left)),
  ),
  writes-then old new last so.written failed.0 so.appended failed.2,
)

-- a fact that holds whatever is answered
pub on_err : {T E : Type 0} (r : Result T E) (P : Type 0) → P → OnErr r P
on_err (Ok v) P p = tt
on_err (Err e) P p = p

-- the lines that are left of a dump
abbrev pub left_lines : Option ℕ → Bool → Place → List KeptEntry → Option ReadFault → List ℕ
left_lines link stamped place rest fault = entry_lines stamped place.packets place.interfaces (chosen link (entries_of rest)) ++ fault_text fault

pub left_first : (link : Option ℕ) (stamped : Bool) (place next : Place) (rest more : List KeptEntry) (kept : KeptEntry) (fault : Option ReadFault) (before after : List ℕ) → rest ≡ kept ∷ more → (prints : PrintsEntry link stamped kept place next before after)
    → left_lines link stamped place rest fault ≡ prints.shown ++ left_lines link stamped next more fault
left_first link stamped place next rest more kept fault before after first prints =
    ap (λ r. left_lines link stamped place r fault) first ∙ ap (λ t. t ++ fault_text fault) (prints.rest (entries_of more)) ∙ append_assoc prints.shown (entry_lines stamped next.packets next.interfaces (chosen link (entries_of more))) (fault_text fault)

-- the line for an entry that is shown, or none
pub prints_shown : (link : Option ℕ) (stamped : Bool) (kept : KeptEntry) (old new : Place) (before after : List ℕ) → is_chosen link kept.entry ≡ true → after ≡ before ++ entry_line stamped old.packets old.interfaces kept.entry kept.bytes
    → new.packets ≡ packets_after old.packets kept.entry → new.interfaces ≡ interfaces_after old.interfaces kept.entry → PrintsEntry link stamped kept old new before after
prints_shown link stamped kept old new before after is printed packets interfaces = record {
  shown = entry_line stamped old.packets old.interfaces kept.entry kept.bytes;
  printed = printed;
  rest = λ more. rw (is, packets, interfaces) refl;
}

pub prints_none : (link : Option ℕ) (stamped : Bool) (kept : KeptEntry) (place : Place) (before : List ℕ) → is_chosen link kept.entry ≡ false → PrintsEntry link stamped kept place place before before
prints_none link stamped kept place before is = record {
  shown = [];
  printed = sym (append-nil before);
  rest = λ more. rw is refl;
}
