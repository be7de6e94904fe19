-- The first core that halted, and the first that has something to do.
use Rattle.std.proofs.Common.{◌≡◌, ◌<◌, ◌≤◌, ◌+◌, ◌∷◌, [], ◌++◌, ◌==◌, inl, inr, ℕ, suc, List, Some, None, slice_get, get_or, drop, length, sym, ap, ◌∙◌, subst, arith, add-one, drop-cons, if◌then◌else◌}
use Rattle.std.proofs.lemmas.Grind.{common_steps}
use Rattle.std.proofs.lemmas.Option.{slice_get_within}
use Rattle.rx_queue.specs.declared.job.Job.{Job}
use Rattle.core_threads.specs.declared.halt.Halt.{Halt}
use Rattle.core_threads.specs.declared.threads.Ran.{Ran}
use Rattle.core_threads.specs.Ending.{IsAtEnd, IsDone}
use Rattle.core_machine.specs.Lanes.{items_for}
use Rattle.core_threads.specs.Searching.{AreInPlace, HaltedAt, NoneHaltedBelow, NoneHalted, AreDoneBelow, AreDone, UnfinishedAt}
use Rattle.core_threads.proofs.Emptying.{below_or}

pub halted_at : (ran : List Ran) (place number : ℕ) (r : Ran) (why : Halt) → AreInPlace ran → slice_get ran place ≡ Some r → number ≡ r.core.number → r.halted ≡ Some why → NoneHaltedBelow ran place
    → HaltedAt ran number why
halted_at ran place number r why placed at is halted lesser =
    let e : place ≡ number = sym (is ∙ placed place r at) in
    record {
      its = r;
      there = subst (λ (n : ℕ). slice_get ran n ≡ Some r) e at;
      halted = halted;
      lesser = subst (λ (n : ℕ). NoneHaltedBelow ran n) e lesser;
    }

pub none_halted_more : (ran : List Ran) (place : ℕ) (r : Ran) → slice_get ran place ≡ Some r → r.halted ≡ None → NoneHaltedBelow ran place → NoneHaltedBelow ran (place + 1)
none_halted_more ran place r at halted lesser i s below at_s = elim (below_or i place below) [
  | inl less ↦ lesser i s less at_s
  | inr is ↦ (let f : slice_get ran place ≡ Some s = subst (λ (n : ℕ). slice_get ran n ≡ Some s) is at_s in
      let e : r ≡ s = cc in
      subst (λ (x : Ran). x.halted ≡ None) e halted)
]

pub none_halted_all : (ran : List Ran) (place : ℕ) → length ran ≤ place → NoneHaltedBelow ran place → NoneHalted ran
none_halted_all ran place all lesser i r at = lesser i r (let below = slice_get_within ran i r at in omega arith) at

pub unfinished_at : (ran : List Ran) (left : List (ℕ × Job)) (place number : ℕ) (r : Ran) → AreInPlace ran → slice_get ran place ≡ Some r → number ≡ r.core.number
    → (IsAtEnd (items_for r.core.number left) r.core → ⊥) → AreDoneBelow ran left place → UnfinishedAt ran left number
unfinished_at ran left place number r placed at is unfinished lesser =
    let e : place ≡ number = sym (is ∙ placed place r at) in
    record {
      its = r;
      there = subst (λ (n : ℕ). slice_get ran n ≡ Some r) e at;
      unfinished = subst (λ (n : ℕ). IsAtEnd (items_for n left) r.core → ⊥) (sym is) unfinished;
      lesser = subst (λ (n : ℕ). AreDoneBelow ran left n) e lesser;
    }

pub done_more : (ran : List Ran) (left : List (ℕ × Job)) (place : ℕ) (r : Ran) → AreInPlace ran → slice_get ran place ≡ Some r → IsDone (items_for r.core.number left) r.core → AreDoneBelow ran left place → AreDoneBelow ran left (place + 1)
done_more ran left place r placed at end lesser i s below at_s = elim (below_or i place below) [
  | inl less ↦ lesser i s less at_s
  | inr is ↦ (let f : slice_get ran place ≡ Some s = subst (λ (n : ℕ). slice_get ran n ≡ Some s) is at_s in
      let e : r ≡ s = cc in
      let n : r.core.number ≡ i = placed place r at ∙ sym is in
      subst (λ (x : Ran). IsDone (items_for i left) x.core) e (subst (λ (k : ℕ). IsDone (items_for k left) r.core) n end))
]

pub done_all : (ran : List Ran) (left : List (ℕ × Job)) (place : ℕ) → length ran ≤ place → AreDoneBelow ran left place → AreDone ran left
done_all ran left place all lesser i r at = lesser i r (let below = slice_get_within ran i r at in omega arith) at

-- the items from a place on
pub items_here : (core : ℕ) (items : List (ℕ × Job)) (place : ℕ) (item : ℕ × Job) → place < length items → item ≡ get_or items place item → item.0 ≡ core
    → items_for core (drop place items) ≡ item.1 ∷ items_for core (drop (place + 1) items)
items_here core items place item below is own =
    let f : ℕ × Job → List Job = λ i. if i.0 == core then i.1 ∷ [] else [] in
    let e : f item ≡ item.1 ∷ [] = grind (arith, common_steps) in
    let d : drop place items ≡ item ∷ drop (place + 1) items = rw (add-one, drop-cons items place item) (ap (λ (i : ℕ × Job). i ∷ drop (suc place) items) (sym is)) in
    ap (items_for core) d ∙ ap (λ l. l ++ items_for core (drop (place + 1) items)) e

pub items_past : (core : ℕ) (items : List (ℕ × Job)) (place : ℕ) (item : ℕ × Job) → place < length items → item ≡ get_or items place item → (item.0 ≡ core → ⊥)
    → items_for core (drop place items) ≡ items_for core (drop (place + 1) items)
items_past core items place item below is other =
    let f : ℕ × Job → List Job = λ i. if i.0 == core then i.1 ∷ [] else [] in
    let e : f item ≡ [] = grind (arith, common_steps) in
    let d : drop place items ≡ item ∷ drop (place + 1) items = rw (add-one, drop-cons items place item) (ap (λ (i : ℕ × Job). i ∷ drop (suc place) items) (sym is)) in
    ap (items_for core) d ∙ ap (λ l. l ++ items_for core (drop (place + 1) items)) e
