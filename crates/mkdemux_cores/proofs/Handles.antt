-- Handles whose cores are settled.
use Rattle.std.proofs.Common.{◌≡◌, ◌∙◌, ◌+◌, inl, inr, ℕ, zero, suc, Option, None, Some, List, [], ◌∷◌, ◌++◌, map, length, refl, sym, ap, subst, append_assoc}
use Rattle.std.specs.Prelude.{IfNone, IfSome, slice_get}
use Rattle.core_links.specs.RingSlots.{machine_of}
use Rattle.mkdemux_cores.specs.declared.handle.CoreHandle.{CoreHandle}
use Rattle.core_machine.specs.Machines.{RingCore}
use Rattle.mkdemux_cores.specs.Booting.{cores_of}
use Rattle.mkdemux_cores.specs.Settling.{AreOpen, IsOf, AreNumbered, HasFault}

some : RingCore → Option RingCore
some c = Some c

-- a list that has a first one
module _ (handles hs : List CoreHandle) (h : CoreHandle) (whole : handles ≡ h ∷ hs) where
  shown : cores_of handles ≡ h.core ∷ cores_of hs
  shown = ap (λ (l : List CoreHandle). cores_of l) whole

  first_of : (c : RingCore) (cs : List RingCore) → AreOpen handles (c ∷ cs) → h.core ≡ Some c
  first_of c cs are = let e : h.core ∷ cores_of hs ≡ Some c ∷ map (λ (x : RingCore). Some x) cs = sym shown ∙ are in cc

  rest_of : (c : RingCore) (cs : List RingCore) → AreOpen handles (c ∷ cs) → AreOpen hs cs
  rest_of c cs are = let e : h.core ∷ cores_of hs ≡ Some c ∷ map (λ (x : RingCore). Some x) cs = sym shown ∙ are in cc

  none_of : AreOpen handles [] → ⊥
  none_of are = let e : h.core ∷ cores_of hs ≡ [] = sym shown ∙ are in absurd cc

  pub closed_first : h.core ≡ None → (cs : List RingCore) → AreOpen handles cs → ⊥
  closed_first none [] are = none_of are
  closed_first none (c ∷ cs) are = let e : None ≡ Some c = sym none ∙ first_of c cs are in absurd cc

  pub same_first : (x c : RingCore) (cs : List RingCore) → h.core ≡ Some x → AreOpen handles (c ∷ cs) → c ≡ x
  same_first x c cs is are = let e : Some c ≡ Some x = sym (first_of c cs are) ∙ is in cc

  pub other_first : (name place count : ℕ) (x : RingCore) → h.core ≡ Some x → (IsOf name place count x → ⊥) → (cs : List RingCore) → AreOpen handles cs → AreNumbered name place count cs → ⊥
  other_first name place count x is other [] are numbered = none_of are
  other_first name place count x is other (c ∷ cs) are numbered = other (subst (λ (y : RingCore). IsOf name place count y) (same_first x c cs is are) numbered.0)

  pub none_more : (name place count : ℕ) (r : Option ℕ) (x : RingCore) → h.core ≡ Some x → IsOf name place count x
      → IfNone r ((cs : List RingCore) × AreOpen hs cs × AreNumbered name (place + 1) count cs) → IfNone r ((cs : List RingCore) × AreOpen handles cs × AreNumbered name place count cs)
  none_more name place count (Some answer) x is of rest = tt
  none_more name place count None x is of rest =
      (x ∷ rest.0, shown ∙ ap (λ (o : Option RingCore). o ∷ cores_of hs) is ∙ ap (λ (l : List (Option RingCore)). Some x ∷ l) rest.1, (of, rest.2))

  pub some_more : (name place count : ℕ) (r : Option ℕ) → IfSome r (HasFault name (place + 1) count hs) → IfSome r (HasFault name place count handles)
  some_more name place count None rest = tt
  some_more name place count (Some answer) (inl closed) = inl (closed.0, no_list)
    where
      no_list : (cs : List RingCore) → AreOpen handles cs → ⊥
      no_list [] are = none_of are
      no_list (c ∷ cs) are = closed.1 cs (rest_of c cs are)
  some_more name place count (Some answer) (inr other) = inr (other.0, no_machine)
    where
      no_machine : (cs : List RingCore) → AreOpen handles cs → AreNumbered name place count cs → ⊥
      no_machine [] are numbered = none_of are
      no_machine (c ∷ cs) are numbered = other.1 cs (rest_of c cs are) numbered.1

  pub taken_more : (before mid after : List RingCore) → ((c : RingCore) → h.core ≡ Some c → mid ≡ before ++ c ∷ []) → ((cs : List RingCore) → AreOpen hs cs → after ≡ mid ++ cs)
      → (cs : List RingCore) → AreOpen handles cs → after ≡ before ++ cs
  taken_more before mid after one rest [] are = absurd (none_of are)
  taken_more before mid after one rest (c ∷ cs) are =
      rest cs (rest_of c cs are) ∙ ap (λ (l : List RingCore). l ++ cs) (one c (first_of c cs are)) ∙ append_assoc before (c ∷ []) cs

pub from_none : {A : Type 0} (r : Option ℕ) → r ≡ None → IfNone r A → A
from_none {A} r is h = subst (λ (o : Option ℕ). IfNone o A) is h

no_place : (xs : List (Option RingCore)) (i : ℕ) (x : Option RingCore) → xs ≡ [] → slice_get xs i ≡ Some x → ⊥
no_place [] zero x none e = absurd (cc)
no_place [] (suc i) x none e = absurd (cc)
no_place (y ∷ ys) i x none e = absurd (cc)

-- a core among those of a machine of this name has it
pub same_name : (name place count : ℕ) (cs : List RingCore) → AreNumbered name place count cs → (i : ℕ) (a : RingCore) → slice_get (map (λ c. Some c) cs) i ≡ Some (Some a) → machine_of a.links ≡ name
same_name name place count [] are i a e = absurd (no_place [] i (Some a) refl e)
same_name name place count (c ∷ cs) are zero a e = let is : c ≡ a = cc in ap (λ (x : RingCore). machine_of x.links) (sym is) ∙ are.0.2
same_name name place count (c ∷ cs) are (suc i) a e = same_name name (place + 1) count cs are.1 i a e

-- all cores of a machine have its name
pub one_name : (handles : List CoreHandle) (cs : List RingCore) (name : ℕ) → AreOpen handles cs → AreNumbered name 0 (length cs) cs → (i j : ℕ) (a b : RingCore) → slice_get (cores_of handles) i ≡ Some (Some a)
    → slice_get (cores_of handles) j ≡ Some (Some b) → machine_of a.links ≡ machine_of b.links
one_name handles cs name are numbered i j a b at_a at_b =
    same_name name 0 (length cs) cs numbered i a (sym (ap (λ (l : List (Option RingCore)). slice_get l i) are) ∙ at_a)
    ∙ sym (same_name name 0 (length cs) cs numbered j b (sym (ap (λ (l : List (Option RingCore)). slice_get l j) are) ∙ at_b))
