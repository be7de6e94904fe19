-- The least of the events that come first, core after core.
use Rattle.std.proofs.Common.{slice_index_or, ◌≡◌, ◌+◌, ◌<◌, ◌≤◌, ◌⊎◌, inl, inr, ℕ, Option, None, Some, List, [], ◌∷◌, length, slice_get, refl, sym, ap, ◌∙◌, subst, arith}
use Rattle.std.specs.Borrow.{Bor}
use Rattle.world_histories.specs.declared.history.Stamped.{Stamped}
use Rattle.world_histories.proofs.Lists.{less_or_same}
use Rattle.core_machine.specs.Merges.{shown_histories, IsLeast}
use Rattle.core_machine.proofs.Lists.{get_indexed, starts_with, is_empty}
use Rattle.std.proofs.lemmas.Option.{slice_get_within}
use Rattle.filter_table.proofs.Lists.{map-get}

-- this core's first event, of this stamp, is the least of those of the cores below this number
pub record LeastBelow (left : List (List Stamped)) (n core stamp : ℕ) : Type 0 where
  pub event : Stamped
  pub later : List Stamped
  pub here : slice_get left core ≡ Some (event ∷ later)
  pub is_stamp : event.stamp ≡ stamp
  pub below : core < n
  pub before_all : (k : ℕ) (t : Stamped) (rest : List Stamped) → k < n → slice_get left k ≡ Some (t ∷ rest) → (event.stamp < t.stamp) ⊎ ((event.stamp ≡ t.stamp) × (core ≤ k))

-- so where there is one
abbrev pub FoundBelow : List (List Stamped) → ℕ → Option (ℕ × ℕ) → Type 0
FoundBelow left n None = (k : ℕ) (h : List Stamped) → k < n → slice_get left k ≡ Some h → h ≡ []
FoundBelow left n (Some p) = LeastBelow left n p.0 p.1

first_is : (t x : Stamped) (rest xs : List Stamped) (l : List (List Stamped)) (k : ℕ) → slice_get l k ≡ Some (t ∷ rest) → slice_get l k ≡ Some (x ∷ xs) → t ≡ x
first_is t x rest xs l k a b = let e : Some (t ∷ rest) ≡ Some (x ∷ xs) = sym a ∙ b in cc

not_first : (t : Stamped) (rest : List Stamped) (l : List (List Stamped)) (k : ℕ) → slice_get l k ≡ Some [] → slice_get l k ≡ Some (t ∷ rest) → ⊥
not_first t rest l k a b = let e : ◌≡◌ {A = Option (List Stamped)} (Some []) (Some (t ∷ rest)) = sym a ∙ b in cc

-- the next core has nothing left
pub found_none : (left : List (List Stamped)) (n : ℕ) (least : Option (ℕ × ℕ)) → slice_get left n ≡ Some [] → FoundBelow left n least → FoundBelow left (n + 1) least
found_none left n None at found = λ k h below here. elim (less_or_same k n (omega (arith, below))) [
  | inl lt ↦ found k h lt here
  | inr e ↦ let at' : slice_get left k ≡ Some [] = subst (λ (j : ℕ). slice_get left j ≡ Some []) (sym e) at in cc
]
found_none left n (Some p) at found = record {
  event = found.event;
  later = found.later;
  here = found.here;
  is_stamp = found.is_stamp;
  below = omega (arith, found.below);
  before_all = λ k t rest below here. elim (less_or_same k n (omega (arith, below))) [
    | inl lt ↦ found.before_all k t rest lt here
    | inr e ↦ absurd (not_first t rest left n at (subst (λ (j : ℕ). slice_get left j ≡ Some (t ∷ rest)) e here))
  ];
}

-- the next core's first event comes no earlier
pub found_kept : (left : List (List Stamped)) (n core stamp : ℕ) (x : Stamped) (xs : List Stamped) → slice_get left n ≡ Some (x ∷ xs) → stamp ≤ x.stamp → LeastBelow left n core stamp → LeastBelow left (n + 1) core stamp
found_kept left n core stamp x xs at le found = record {
  event = found.event;
  later = found.later;
  here = found.here;
  is_stamp = found.is_stamp;
  below = omega (arith, found.below);
  before_all = λ k t rest below here. elim (less_or_same k n (omega (arith, below))) [
    | inl lt ↦ found.before_all k t rest lt here
    | inr e ↦
        let same : t ≡ x = first_is t x rest xs left n (subst (λ (j : ℕ). slice_get left j ≡ Some (t ∷ rest)) e here) at in
        let is : t.stamp ≡ x.stamp = ap (λ (y : Stamped). y.stamp) same in
        elim (less_or_same found.event.stamp t.stamp (omega (arith, is, le, found.is_stamp))) [ inl less ↦ inl less | inr equal ↦ inr (equal, omega (arith, e, found.below)) ]
  ];
}

-- it comes earlier, or there was none
pub found_next : (left : List (List Stamped)) (n : ℕ) (least : Option (ℕ × ℕ)) (x : Stamped) (xs : List Stamped) → slice_get left n ≡ Some (x ∷ xs) → FoundBelow left n least → ((p : ℕ × ℕ) → least ≡ Some p → x.stamp < p.1)
    → LeastBelow left (n + 1) n x.stamp
found_next left n least x xs at found earlier = record {
  event = x;
  later = xs;
  here = at;
  is_stamp = refl;
  below = omega arith;
  before_all = λ k t rest below here. elim (less_or_same k n (omega (arith, below))) [
    | inl lt ↦ inl (before least found earlier k t rest lt here)
    | inr e ↦ inr (ap (λ (y : Stamped). y.stamp) (sym (first_is t x rest xs left n (subst (λ (j : ℕ). slice_get left j ≡ Some (t ∷ rest)) e here) at)), omega (arith, e))
  ];
}
  where
    before : (o : Option (ℕ × ℕ)) → FoundBelow left n o → ((p : ℕ × ℕ) → o ≡ Some p → x.stamp < p.1) → (k : ℕ) (t : Stamped) (rest : List Stamped) → k < n → slice_get left k ≡ Some (t ∷ rest) → x.stamp < t.stamp
    before None f less k t rest lt here = absurd (let e = f k (t ∷ rest) lt here in cc)
    before (Some p) f less k t rest lt here = elim (f.before_all k t rest lt here) [ inl l ↦ omega (arith, less p refl, f.is_stamp, l) | inr e ↦ omega (arith, less p refl, f.is_stamp, e.0) ]

-- the one found comes later, or there is none
pub earlier : (least : Option (ℕ × ℕ)) (core stamp n : ℕ) → least ≡ Some (core, stamp) → n < stamp → (p : ℕ × ℕ) → least ≡ Some p → n < p.1
earlier least core stamp n is lt p e =
    let same : Some p ≡ Some (core, stamp) = sym e ∙ is in
    let first : p ≡ (core, stamp) = cc in
    subst (λ (q : ℕ × ℕ). n < q.1) (sym first) lt

pub not_found : (least : Option (ℕ × ℕ)) (n : ℕ) → least ≡ None → (p : ℕ × ℕ) → least ≡ Some p → n < p.1
not_found least n is p e = absurd (let none : ◌≡◌ {A = Option (ℕ × ℕ)} (Some p) None = sym e ∙ is in cc)

-- all cores were looked at
pub found_all : (left : List (List Stamped)) (n core stamp : ℕ) → length left ≤ n → LeastBelow left n core stamp → IsLeast left core
found_all left n core stamp all found = record {
  event = found.event;
  later = found.later;
  here = found.here;
  before_all = λ k t rest here. found.before_all k t rest (omega (arith, all, slice_get_within left k (t ∷ rest) here)) here;
}

-- a slice among slices, and its first event
pub shown_at : (left : List (Bor (List Stamped))) (core : ℕ) (h : Bor (List Stamped)) → h ≡ slice_index_or left core h → core < length left → slice_get (shown_histories left) core ≡ Some h.now
shown_at left core h e lt = map-get (λ (b : Bor (List Stamped)). b.now) left core h (get_indexed left core h e lt)

pub shown_first : (left : List (Bor (List Stamped))) (core : ℕ) (h : Bor (List Stamped)) (x : Stamped) → h ≡ slice_index_or left core h → core < length left → Some x ≡ slice_get h.now 0
    → (xs : List Stamped) × (slice_get (shown_histories left) core ≡ Some (x ∷ xs))
shown_first left core h x e lt first =
    let s = starts_with h.now x first in
    (s.0, shown_at left core h e lt ∙ ap (λ (l : List Stamped). Some l) s.1)

pub shown_none : (left : List (Bor (List Stamped))) (core : ℕ) (h : Bor (List Stamped)) → h ≡ slice_index_or left core h → core < length left → None ≡ slice_get h.now 0 → slice_get (shown_histories left) core ≡ Some []
shown_none left core h e lt none = shown_at left core h e lt ∙ ap (λ (l : List Stamped). Some l) (is_empty h.now none)
