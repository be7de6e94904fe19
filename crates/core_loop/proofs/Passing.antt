-- While a core's request waits, each other core is begun at most once.
use Rattle.std.proofs.Common.{◌≡◌, ◌≢◌, ◌<◌, ◌≤◌, ◌⊎◌, inl, inr, ◌∙◌, ℕ, zero, suc, List, [], ◌∷◌, Some, refl, sym, ap, subst, arith, slice_get}
use Rattle.filter_table.specs.declared.operation.Op.{Op}
use Rattle.world_events.specs.declared.event.Event.{Event}
use Rattle.world_events.specs.declared.event.Event.TheVariants.{Start, StartFor, Submit, Take, Rx}
use Rattle.core_links.specs.Views.{LinkView}
use Rattle.core_loop.specs.declared.part.Part.{Part}
use Rattle.core_loop.specs.declared.part.Part.TheVariants as part
use Rattle.core_loop.specs.InTurn.{last_begun_with, last_begun, ComesBefore}
use Rattle.core_loop.specs.Choosing.{IsNext}
use Rattle.core_loop.specs.Cores.{CoreState}
use Rattle.core_loop.specs.Passing.{AsksPart, BeginsFor, PassesOver, IsOnceEach}
use Rattle.core_loop.proofs.InTurn.{begun_more}

-- The cores alone

-- each is another core than the one that waits, which does not come before it
abbrev pub PassOver : ℕ → ℕ → List ℕ → Type 0
PassOver core last [] = Unit {0}
PassOver core last (from ∷ later) = (from ≢ core) × (ComesBefore last core from → ⊥) × PassOver core from later

less_or_not : (m n : ℕ) → (m < n) ⊎ (n ≤ m)
less_or_not m zero = inr (omega arith)
less_or_not zero (suc n) = inl (omega arith)
less_or_not (suc m) (suc n) = more (less_or_not m n)
  where
    more : (m < n) ⊎ (n ≤ m) → (suc m < suc n) ⊎ (suc n ≤ suc m)
    more (inl l) = inl (omega (arith, l))
    more (inr l) = inr (omega (arith, l))

-- of two cores one comes before the other
before_or_after : (last core from : ℕ) → from ≢ core → (ComesBefore last core from → ⊥) → ComesBefore last from core
before_or_after last core from ne early = by_last (less_or_not last from) (less_or_not last core)
  where
    by_last : ((last < from) ⊎ (from ≤ last)) → ((last < core) ⊎ (core ≤ last)) → ComesBefore last from core
    by_last (inl f) (inl c) = by_two (less_or_not from core)
      where
        by_two : ((from < core) ⊎ (core ≤ from)) → ComesBefore last from core
        by_two (inl l) = inl (f, l)
        by_two (inr l) = absurd (early (inl (c, omega (arith, l, ne))))
    by_last (inl f) (inr c) = inr (c, inl f)
    by_last (inr f) (inl c) = absurd (early (inr (f, inl c)))
    by_last (inr f) (inr c) = by_two (less_or_not from core)
      where
        by_two : ((from < core) ⊎ (core ≤ from)) → ComesBefore last from core
        by_two (inl l) = inr (c, inr l)
        by_two (inr l) = absurd (early (inr (f, inr (omega (arith, l, ne)))))

-- what lies before a core, seen from a core before it, lies before it
before_along : (last from core b : ℕ) → ComesBefore last from core → ComesBefore from b core → ComesBefore last b core
before_along last from core b (inl f) (inl g) = inl (omega (arith, f.0, g.0), g.1)
before_along last from core b (inl f) (inr g) = absurd (omega (arith, f.1, g.0))
before_along last from core b (inr (c, inl f)) (inl g) = inr (c, inl (omega (arith, f, g.0)))
before_along last from core b (inr (c, inl f)) (inr (d, inl g)) = inr (c, inl (omega (arith, f, g)))
before_along last from core b (inr (c, inl f)) (inr (d, inr g)) = inr (c, inr g)
before_along last from core b (inr (c, inr f)) (inl g) = inr (c, inr g.1)
before_along last from core b (inr (c, inr f)) (inr g) = absurd (omega (arith, f, g.0))

not_itself : (from core : ℕ) → ComesBefore from from core → ⊥
not_itself from core (inl g) = omega (arith, g.0)
not_itself from core (inr (d, inl g)) = omega (arith, g)
not_itself from core (inr (d, inr g)) = omega (arith, d, g)

-- all come before the one that waits
all_before : (core last : ℕ) (cores : List ℕ) → PassOver core last cores → (i b : ℕ) → slice_get cores i ≡ Some b → ComesBefore last b core
all_before core last [] p i b is = absurd cc
all_before core last (from ∷ later) p zero b is = subst (λ (n : ℕ). ComesBefore last n core) (let same : from ≡ b = cc in same) (before_or_after last core from p.0 p.1)
all_before core last (from ∷ later) p (suc i) b is = before_along last from core b (before_or_after last core from p.0 p.1) (all_before core from later p.2 i b is)

once_each : (core last : ℕ) (cores : List ℕ) → PassOver core last cores → IsOnceEach cores
once_each core last [] p i j b e f = absurd cc
once_each core last (from ∷ later) p zero zero b e f = refl
once_each core last (from ∷ later) p zero (suc j) b e f =
    absurd (not_itself from core (subst (λ (n : ℕ). ComesBefore from n core) (let same : b ≡ from = cc in same) (all_before core from later p.2 j b f)))
once_each core last (from ∷ later) p (suc i) zero b e f =
    absurd (not_itself from core (subst (λ (n : ℕ). ComesBefore from n core) (let same : b ≡ from = cc in same) (all_before core from later p.2 i b e)))
once_each core last (from ∷ later) p (suc i) (suc j) b e f = ap suc (once_each core from later p.2 i j b e f)

-- The turns

-- the core that waits does not come before the one whose request is begun
next_is_no_later : (cores last : ℕ) (x : Part) (requests : List Op) (seen : ℕ → LinkView) (e : Event) (core from : ℕ) → IsNext cores last x requests seen e → AsksPart cores x requests core → BeginsFor e from → ComesBefore last core from → ⊥
next_is_no_later cores last (part.Core0 home) requests seen (Start op) core from n a b before = n.1 core (subst (λ (k : ℕ). ComesBefore last core k) b before) a
next_is_no_later cores last (part.Core0 home) requests seen (StartFor c) core from n a b before = n.1 core (subst (λ (k : ℕ). ComesBefore last core k) b before) a
next_is_no_later cores last (part.Core0 home) requests seen (Submit c op) core from n a b before = b
next_is_no_later cores last (part.Core0 home) requests seen (Take to by short) core from n a b before = b
next_is_no_later cores last (part.Core0 home) requests seen (Rx c number packet floor) core from n a b before = b
next_is_no_later cores last (part.OtherCore home) requests seen e core from n a b before = a

begun_is : (last : ℕ) (e : Event) (from : ℕ) → BeginsFor e from → last_begun_with last e ≡ from
begun_is last (Start op) from b = sym b
begun_is last (StartFor core) from b = sym b
begun_is last (Submit c op) from b = absurd b
begun_is last (Take to by short) from b = absurd b
begun_is last (Rx c number packet floor) from b = absurd b

pass_over : {L : Type 0} (view : L → ℕ → LinkView) (core : ℕ) (cores : List ℕ) (old : CoreState L) → PassesOver view core cores old → PassOver core (last_begun old.history) cores
pass_over view core [] old p = tt
pass_over view core (from ∷ later) old p =
    let mid = p.0 in
    let next = p.1 in
    let s = p.2 in
    let did = p.5 in
    let last : last_begun next.history ≡ from = sym (begun_more (last_begun mid.history) mid.history next.history s refl did.history) ∙ begun_is (last_begun mid.history) s.done.event from p.6 in (
      p.7,
      subst (λ (n : ℕ). ComesBefore n core from → ⊥) p.3 (next_is_no_later mid.cores (last_begun mid.history) mid.part mid.pending did.acts.seen s.done.event core from did.acts.next p.4 p.6),
      subst (λ (n : ℕ). PassOver core n later) last (pass_over view core later next p.8),
    )

pub passed_once : {L : Type 0} (view : L → ℕ → LinkView) (core : ℕ) (cores : List ℕ) (old : CoreState L) → PassesOver view core cores old → IsOnceEach cores
passed_once view core cores old p = once_each core (last_begun old.history) cores (pass_over view core cores old p)
