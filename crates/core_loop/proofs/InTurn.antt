-- The core whose request was begun last, as a history grows, and what core 0 begins next.
use Rattle.std.proofs.Common.{◌≡◌, ◌<◌, ◌≤◌, ◌⊎◌, inl, inr, ◌∙◌, ℕ, zero, suc, List, [], ◌∷◌, ◌++◌, Some, refl, sym, ap, arith, slice_get}
use Rattle.filter_table.specs.declared.operation.Op.{Op}
use Rattle.world_histories.specs.declared.history.Stamped.{Stamped}
use Rattle.core_steps.specs.declared.core0.Core0.{Core0}
use Rattle.core_loop.specs.InTurn.{last_begun_with, last_begun, last_begun_after, Asks, IsNextInTurn}

after_more : (last : ℕ) (h : List Stamped) (s : Stamped) → last_begun_after last (h ++ s ∷ []) ≡ last_begun_with (last_begun_after last h) s.done.event
after_more last [] s = refl
after_more last (x ∷ h) s = after_more (last_begun_with last x.done.event) h s

-- one event more
pub begun_more : (last : ℕ) (h k : List Stamped) (s : Stamped) → last ≡ last_begun h → k ≡ h ++ s ∷ [] → last_begun_with last s.done.event ≡ last_begun k
begun_more last h k s e f = ap (λ (n : ℕ). last_begun_with n s.done.event) e ∙ (sym (after_more 0 h s) ∙ ap last_begun (sym f))

-- no one waits above another core
abbrev pub NoneAbove : ℕ → ℕ → Core0 → Type 0
NoneAbove after most core = (entry : ℕ) (op : Op) → after ≤ entry → entry < most → slice_get core.coordinator.requests.waiting entry ≡ Some (Some op) → ⊥

-- no core with a lesser number, above another, waits
abbrev pub NoneBelow : ℕ → ℕ → Core0 → Type 0
NoneBelow after from core = (entry : ℕ) (op : Op) → after ≤ entry → suc entry < from → slice_get core.coordinator.requests.waiting entry ≡ Some (Some op) → ⊥

-- the least core after the last one
pub next_above : (others last from : ℕ) (core : Core0) (requests : List Op) → last < from → NoneBelow last from core → IsNextInTurn others last core requests from
next_above others last from core requests above none k (inl between) (inl own) = absurd (omega (arith, between.0, own.0))
next_above others last from core requests above none k (inl between) (inr other) =
    none other.0 other.1 (omega (arith, between.0, other.2)) (omega (arith, between.1, other.2)) other.4
next_above others last from core requests above none k (inr round) asks = absurd (omega (arith, round.0, above))

-- its own, where none waits above the last one
pub next_own : (others last : ℕ) (core : Core0) (requests : List Op) → NoneAbove last others core → IsNextInTurn others last core requests 0
next_own others last core requests none k (inl between) asks = absurd (omega (arith, between.1))
next_own others last core requests none k (inr (low, inr below)) asks = absurd (omega (arith, below))
next_own others last core requests none k (inr (low, inl above)) (inl own) = absurd (omega (arith, above, own.0))
next_own others last core requests none k (inr (low, inl above)) (inr other) = none other.0 other.1 (omega (arith, above, other.2)) other.3 other.4

-- the least core of all, up to the last one, where it has none of its own and none waits above the last one
pub next_round : (others last from : ℕ) (core : Core0) (requests : List Op) → from ≤ last → NoneAbove last others core → requests ≡ [] → NoneBelow 0 from core → IsNextInTurn others last core requests from
next_round others last from core requests low none own below k before (inl mine) = absurd (mine.1 own)
next_round others last from core requests low none own below k (inl between) (inr other) = absurd (omega (arith, between.0, between.1, low))
next_round others last from core requests low none own below k (inr (at, inl above)) (inr other) = none other.0 other.1 (omega (arith, above, other.2)) other.3 other.4
next_round others last from core requests low none own below k (inr (at, inr lesser)) (inr other) = below other.0 other.1 (omega arith) (omega (arith, lesser, other.2)) other.4

-- none at all
pub none_asks : (others last : ℕ) (core : Core0) (requests : List Op) → NoneAbove last others core → requests ≡ [] → NoneAbove 0 last core → (from : ℕ) → Asks others core requests from → ⊥
none_asks others last core requests above own below from (inl mine) = mine.1 own
none_asks others last core requests above own below from (inr other) = by_place (below_or_not other.0 last)
  where
    below_or_not : (m n : ℕ) → (m < n) ⊎ (n ≤ m)
    below_or_not m zero = inr (omega arith)
    below_or_not zero (suc n) = inl (omega arith)
    below_or_not (suc m) (suc n) = more (below_or_not m n)
      where
        more : (m < n) ⊎ (n ≤ m) → (suc m < suc n) ⊎ (suc n ≤ suc m)
        more (inl l) = inl (omega (arith, l))
        more (inr l) = inr (omega (arith, l))

    by_place : ((other.0 < last) ⊎ (last ≤ other.0)) → ⊥
    by_place (inl l) = below other.0 other.1 (omega arith) l other.4
    by_place (inr l) = above other.0 other.1 l other.3 other.4
