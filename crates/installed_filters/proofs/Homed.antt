-- The number of a program for one filter more.
use Rattle.std.proofs.Common.{◌≡◌, ◌<◌, ◌+◌, ◌⊎◌, inl, inr, ℕ, zero, suc, Option, Some, None, List, [], ◌∷◌, ◌++◌, length, refl, ap, sym, ◌∙◌, arith}
use Rattle.std.proofs.lemmas.Bool.{cases_lt}
use Rattle.std.proofs.lemmas.List.{get_or_past}
use Rattle.bpf_insn.specs.declared.insn.Insn.{Insn}
use Rattle.chunked.specs.Maps.{SortedMap, value_at}
use Rattle.installed_filters.specs.Numbering.{Numbering, Has}
use Rattle.installed_filters.specs.declared.slots.Slot.{Slot}
use Rattle.installed_filters.specs.Slotting.{slot_at}
use Rattle.installed_filters.specs.Counts.{no_counts, ends_at, reach_at}
use Rattle.installed_filters.specs.Listing.{AreListed}

pub slot_inside : (slots : List (Option Slot)) (m : ℕ) (s : Slot) → slot_at slots m ≡ Some s → m < length slots
slot_inside slots m s at = elim (cases_lt m (length slots)) [
  | inl low ↦ low
  | inr past ↦ absurd (let e = sym (get_or_past slots m None past) ∙ at in cc)
]

-- a program in no list is in no slot
pub in_none : (slots : List (Option Slot)) (running resting : Numbering) (program : List Insn) → AreListed (slot_at slots) running resting → ((m : ℕ) → (Has running m program ⊎ Has resting m program) → ⊥) → (m : ℕ) (s : Slot) → slot_at slots m ≡ Some s → s.program ≡ program → ⊥
in_none slots running resting program h none m s at is = elim (cases_lt 0 s.held) [
  | inl some ↦ none m (inl ((h.run m program).1 (s, at, is, some)))
  | inr nothing ↦ none m (inr ((h.rest m program).1 (s, at, is, omega arith)))
]

-- one in a list is in its slot
pub in_slot : (slots : List (Option Slot)) (running resting : Numbering) (number : ℕ) (program : List Insn) → AreListed (slot_at slots) running resting → Has running number program ⊎ Has resting number program → (s : Slot) × (slot_at slots number ≡ Some s) × (s.program ≡ program)
in_slot slots running resting number program h (inl runs) = let o = (h.run number program).0 runs in (o.0, o.1, o.2)
in_slot slots running resting number program h (inr rests) = let o = (h.rest number program).0 rests in (o.0, o.1, o.2)

-- Numbers that are added

at_grown : (ends : List (SortedMap ℕ)) (m : ℕ) → ends_at (ends ++ no_counts ∷ []) m ≡ ends_at ends m
at_grown [] zero = refl
at_grown [] (suc m) = refl
at_grown (e ∷ ends) zero = refl
at_grown (e ∷ ends) (suc m) = at_grown ends m

pub reach_grown : (ends ends' : List (SortedMap ℕ)) → ends' ≡ ends ++ no_counts ∷ [] → (m q : ℕ) → reach_at ends' m q ≡ reach_at ends m q
reach_grown ends ends' is m q = ap (λ (es : List (SortedMap ℕ)). reach_at es m q) is ∙ ap (λ (c : SortedMap ℕ). value_at c.entries q) (at_grown ends m)

length_grown : (ends : List (SortedMap ℕ)) → length (ends ++ no_counts ∷ []) ≡ length ends + 1
length_grown [] = refl
length_grown (e ∷ ends) = ap suc (length_grown ends) ∙ omega arith

pub ends_grown : (ends ends' : List (SortedMap ℕ)) → ends' ≡ ends ++ no_counts ∷ [] → length ends' ≡ length ends + 1
ends_grown ends ends' is = ap (length {A = SortedMap ℕ}) is ∙ length_grown ends
