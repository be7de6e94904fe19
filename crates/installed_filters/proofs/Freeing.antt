-- Numbers and their programs, as filters come and go.
use Rattle.std.proofs.Common.{◌≡◌, ◌<◌, ◌+◌, ◌==◌, ℕ, zero, suc, Bool, true, false, nat_eq, Option, Some, None, is_some, List, [], ◌∷◌, ◌++◌, length, get_or, set, refl, ap, sym, ◌∙◌, arith}
use Rattle.std.specs.Prelude.{if◌then◌else◌}
use Rattle.std.specs.List.{find}
use Rattle.std.proofs.lemmas.Bool.Decides.{Decides-eqb}
use Rattle.std.proofs.lemmas.List.{get_or-set_same, get_or-set_other}
use Rattle.chunked.specs.Maps.{value_at}
use Rattle.installed_filters.specs.declared.slots.Slot.{Slot}
use Rattle.installed_filters.specs.Slotting.{slot_at, one_less, IsLast, AreFree}

yes_eq : (a b : ℕ) → (a == b) ≡ true → a ≡ b
yes_eq a b e = (Decides-eqb a b).0 e

eq_yes : (a b : ℕ) → a ≡ b → (a == b) ≡ true
eq_yes a b same = (Decides-eqb a b).1 same

pub found_has : {V : Type 0} (test : ℕ × V → Bool) (entries : List (ℕ × V)) (e : ℕ × V) → find test entries ≡ Some e → is_some (value_at entries e.0) ≡ true
found_has test [] e found = absurd cc
found_has {V = V} test (x ∷ entries) e found = by_test (test x) refl (found_has test entries e)
  where
    here : (t : Bool) → nat_eq e.0 x.0 ≡ t → is_some (value_at entries e.0) ≡ true → is_some (value_at (x ∷ entries) e.0) ≡ true
    here true t rest = rw t refl
    here false t rest = rw t rest

    by_test : (b : Bool) → test x ≡ b → (find test entries ≡ Some e → is_some (value_at entries e.0) ≡ true) → is_some (value_at (x ∷ entries) e.0) ≡ true
    by_test true t rest =
        let same : x ≡ e = let f = rw t at found in cc in
        let k : nat_eq e.0 x.0 ≡ true = eq_yes e.0 x.0 (ap (λ (y : ℕ × V). y.0) (sym same)) in
        rw k refl
    by_test false t rest = here (nat_eq e.0 x.0) refl (rest (rw t at found))

pub set-set : {A : Type 0} (xs : List A) (i : ℕ) (a b : A) → set (set xs i a) i b ≡ set xs i b
set-set [] i a b = refl
set-set (x ∷ xs) zero a b = refl
set-set (x ∷ xs) (suc i) a b = ap (λ ys. x ∷ ys) (set-set xs i a b)

-- a slot that is replaced, as what is at each number
pub at_set : (slots : List (Option Slot)) (number : ℕ) (slot : Option Slot) → number < length slots → (m : ℕ) → slot_at (set slots number slot) m ≡ (if m == number then slot else slot_at slots m)
at_set slots number slot inside m = by_test (m == number) refl
  where
    by_test : (t : Bool) → (m == number) ≡ t → slot_at (set slots number slot) m ≡ (if m == number then slot else slot_at slots m)
    by_test true e = rw e (ap (λ (k : ℕ). get_or (set slots number slot) k None) (yes_eq m number e) ∙ get_or-set_same slots number slot None inside)
    by_test false e = rw e (get_or-set_other slots number m slot None (λ same. let t = eq_yes m number same in cc))

at_grown : (slots : List (Option Slot)) (m : ℕ) → slot_at (slots ++ None ∷ []) m ≡ slot_at slots m
at_grown [] zero = refl
at_grown [] (suc m) = refl
at_grown (s ∷ slots) zero = refl
at_grown (s ∷ slots) (suc m) = at_grown slots m

length_grown : (slots : List (Option Slot)) → length (slots ++ None ∷ []) ≡ length slots + 1
length_grown [] = refl
length_grown (s ∷ slots) = ap suc (length_grown slots) ∙ omega arith

pub grown_same : (slots slots' : List (Option Slot)) → slots' ≡ slots ++ None ∷ [] → (m : ℕ) → slot_at slots' m ≡ slot_at slots m
grown_same slots slots' is m = ap (λ (ss : List (Option Slot)). slot_at ss m) is ∙ at_grown slots m

pub grown_none : (slots : List (Option Slot)) → slot_at (slots ++ None ∷ []) (length slots) ≡ None
grown_none [] = refl
grown_none (s ∷ slots) = grown_none slots

pub grown_long : (slots slots' : List (Option Slot)) → slots' ≡ slots ++ None ∷ [] → length slots' ≡ length slots + 1
grown_long slots slots' is = ap (length {A = Option Slot}) is ∙ length_grown slots

module _ {V : Type 0} where
  pub free_none : (slots : List (Option Slot)) (free : List (ℕ × V)) → slots ≡ [] → free ≡ [] → AreFree slots free
  free_none slots free none empty = record {
    none = λ n some. ap (λ (ss : List (Option Slot)). slot_at ss n) none;
    inside = λ n some. absurd (let f = ap (λ (es : List (ℕ × V)). is_some (value_at es n)) empty in cc);
    few = let long = ap (length {A = Option Slot}) none in omega arith;
  }

  pub free_grown : (slots slots' : List (Option Slot)) (free : List (ℕ × V)) → length slots < 4294967296 → slots' ≡ slots ++ None ∷ [] → AreFree slots free → AreFree slots' free
  free_grown slots slots' free lt is h = record {
    none = λ n some. grown_same slots slots' is n ∙ h.none n some;
    inside = λ n some. (let low = h.inside n some in let long = grown_long slots slots' is in omega arith);
    few = let long = grown_long slots slots' is in omega arith;
  }

  -- a program at a number that isn't free any more
  pub free_started : (slots slots' : List (Option Slot)) (free free' : List (ℕ × V)) (number : ℕ) (slot : Option Slot) → length slots' ≡ length slots → ((m : ℕ) → slot_at slots' m ≡ (if m == number then slot else slot_at slots m))
      → ((q : ℕ) → value_at free' q ≡ (if q == number then None else value_at free q)) → AreFree slots free → AreFree slots' free'
  free_started slots slots' free free' number slot long slots_at puts h = record { none = λ n some. by_test n (n == number) refl some; inside = λ n some. by_inside n (n == number) refl some; few = let few = h.few in omega arith }
    where
      by_test : (n : ℕ) (t : Bool) → (n == number) ≡ t → is_some (value_at free' n) ≡ true → slot_at slots' n ≡ None
      by_test n true e some = absurd (let f = ap is_some (puts n) in let g = rw e at f in cc)
      by_test n false e some = let f = puts n in let g : value_at free' n ≡ value_at free n = rw e at f in let s = slots_at n in (rw e at s) ∙ h.none n (ap is_some (sym g) ∙ some)

      by_inside : (n : ℕ) (t : Bool) → (n == number) ≡ t → is_some (value_at free' n) ≡ true → n < length slots'
      by_inside n true e some = absurd (let f = ap is_some (puts n) in let g = rw e at f in cc)
      by_inside n false e some = let f = puts n in let g : value_at free' n ≡ value_at free n = rw e at f in let low = h.inside n (ap is_some (sym g) ∙ some) in omega arith

  -- a program that stays
  pub free_same : (slots slots' : List (Option Slot)) (free : List (ℕ × V)) (number : ℕ) (slot : Option Slot) → length slots' ≡ length slots → ((m : ℕ) → slot_at slots' m ≡ (if m == number then slot else slot_at slots m))
      → (slot_at slots number ≡ None → slot ≡ None) → AreFree slots free → AreFree slots' free
  free_same slots slots' free number slot long slots_at none h = record { none = λ n some. by_test n (n == number) refl some; inside = λ n some. (let low = h.inside n some in omega arith); few = let few = h.few in omega arith }
    where
      by_test : (n : ℕ) (t : Bool) → (n == number) ≡ t → is_some (value_at free n) ≡ true → slot_at slots' n ≡ None
      by_test n true e some = let s = slots_at n in (rw e at s) ∙ none (ap (slot_at slots) (sym (yes_eq n number e)) ∙ h.none n some)
      by_test n false e some = let s = slots_at n in (rw e at s) ∙ h.none n some

  -- a program that goes
  pub free_gone : (slots slots' : List (Option Slot)) (free free' : List (ℕ × V)) (number : ℕ) (v : V) → number < length slots → length slots' ≡ length slots → ((m : ℕ) → slot_at slots' m ≡ (if m == number then None else slot_at slots m))
      → ((q : ℕ) → value_at free' q ≡ (if q == number then Some v else value_at free q)) → AreFree slots free → AreFree slots' free'
  free_gone slots slots' free free' number v inside long slots_at puts h = record { none = λ n some. by_test n (n == number) refl some; inside = λ n some. by_inside n (n == number) refl some; few = let few = h.few in omega arith }
    where
      by_test : (n : ℕ) (t : Bool) → (n == number) ≡ t → is_some (value_at free' n) ≡ true → slot_at slots' n ≡ None
      by_test n true e some = let s = slots_at n in rw e at s
      by_test n false e some = let f = puts n in let g : value_at free' n ≡ value_at free n = rw e at f in let s = slots_at n in (rw e at s) ∙ h.none n (ap is_some (sym g) ∙ some)

      by_inside : (n : ℕ) (t : Bool) → (n == number) ≡ t → is_some (value_at free' n) ≡ true → n < length slots'
      by_inside n true e some = let is = yes_eq n number e in omega arith
      by_inside n false e some = let f = puts n in let g : value_at free' n ≡ value_at free n = rw e at f in let low = h.inside n (ap is_some (sym g) ∙ some) in omega arith

-- the last filter with a program
pub last_less : (held : Bool) (o : Option Slot) → IsLast o → one_less held o ≡ None
last_less held None is = absurd is
last_less held (Some s) is = let t = eq_yes s.filters 1 is in rw t refl

pub none_less : (held : Bool) (o : Option Slot) → o ≡ None → one_less held o ≡ None
none_less held o none = ap (one_less held) none
