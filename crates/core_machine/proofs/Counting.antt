-- Events of all cores, and what they were asked.
use Rattle.std.proofs.Common.{◌≡◌, ◌*◌, ◌<◌, ◌≤◌, ◌⊎◌, inl, inr, ℕ, zero, suc, Some, List, [], ◌∷◌, length, length-append, slice_get, refl, sym, ap, subst, arith}
use Rattle.filter_table.specs.Limits.{TableLimits}
use Rattle.filter_table.specs.declared.operation.Op.{Op}
use Rattle.world_events.specs.declared.event.Event.{Event}
use Rattle.world_events.specs.declared.event.Event.TheVariants.{Start, Submit}
use Rattle.world_histories.specs.declared.history.Stamped.{Stamped}
use Rattle.world_histories.specs.Histories.{unstamped, Core0State, OtherState, Computation}
use Rattle.world_progress.specs.Remaining.{is_request, steps, requests, total, per_request}
use Rattle.world_progress.proofs.Histories.{computation_bounded}
use Rattle.core_loop.specs.Cores.{begins, begun}
use Rattle.core_machine.specs.Machines.{RingCore}
use Rattle.core_machine.specs.Conclusions.{histories_of}
use Rattle.core_machine.specs.Ahead.{requests_of, events_in_all}
use Rattle.core_machine.proofs.Turning.{Went, steps_grow}

-- the requests that a history begins are counted
begins_counted : (e : Event) → length (begins e) ≡ is_request e
begins_counted (Start op) = refl
begins_counted (Submit core op) = refl
begins_counted e = refl

begun_counted : (h : List Stamped) → requests (unstamped h) ≡ length (begun h)
begun_counted [] = refl
begun_counted (s ∷ h) = let one = begins_counted s.done.event in let rest = begun_counted h in omega (arith, one, rest, length-append (begins s.done.event) (begun h))

asked_counted : (cores : List RingCore) → total requests (histories_of cores) ≤ requests_of cores
asked_counted [] = omega arith
asked_counted (c ∷ cs) = let rest = asked_counted cs in omega (arith, rest, begun_counted c.history, length-append (begun c.history) c.pending)

-- the events of a computation are at most those that all requests take
pub steps_within : (limits : TableLimits) (budget : ℕ) (budgets : List ℕ) (first : RingCore) (others : List RingCore) (end : Core0State) (ends : List OtherState) → length others ≡ length budgets → Computation limits budget budgets first.history (histories_of others) end ends
    → total steps (histories_of (first ∷ others)) ≤ events_in_all (first ∷ others)
steps_within limits budget budgets first others end ends long c = most (per_request (length budgets)) (per_request (length others)) (ap per_request (sym long)) (asked_counted (first ∷ others)) (computation_bounded limits budget budgets first.history (histories_of others) end ends c)
  where
    times : (k m n : ℕ) → m ≤ n → k * m ≤ k * n
    times zero m n le = omega arith
    times (suc k) m n le = let rest = times k m n le in omega (arith, rest, le)

    most : (p q : ℕ) → p ≡ q → total requests (histories_of (first ∷ others)) ≤ requests_of (first ∷ others) → total steps (histories_of (first ∷ others)) ≤ p * total requests (histories_of (first ∷ others))
        → total steps (histories_of (first ∷ others)) ≤ q * requests_of (first ∷ others)
    most p q e le within = rw (sym e) (omega (arith, within, times p (total requests (histories_of (first ∷ others))) (requests_of (first ∷ others)) le))

-- Cores before and after

pub record AllWent (P : RingCore → RingCore → Type 0) (old new : List RingCore) : Type 0 where
  pub all : length new ≡ length old
  pub each : (i : ℕ) (c d : RingCore) → slice_get old i ≡ Some c → slice_get new i ≡ Some d → Went P c d

rest_went : (P : RingCore → RingCore → Type 0) (c d : RingCore) (cs ds : List RingCore) → AllWent P (c ∷ cs) (d ∷ ds) → AllWent P cs ds
rest_went P c d cs ds w = record { all = (let e = w.all in omega (arith, e)); each = λ i x y at at'. w.each (suc i) x y at at' }

pub same_requests : (P : RingCore → RingCore → Type 0) (old new : List RingCore) → AllWent P old new → requests_of new ≡ requests_of old
same_requests P [] [] w = refl
same_requests P [] (d ∷ ds) w = absurd (let e = w.all in omega (arith, e))
same_requests P (c ∷ cs) [] w = absurd (let e = w.all in omega (arith, e))
same_requests P (c ∷ cs) (d ∷ ds) w =
    let rest = same_requests P cs ds (rest_went P c d cs ds w) in
    let first = ap (λ (l : List Op). length l) (w.each 0 c d refl refl).keeps.asked_same in
    omega (arith, rest, first)

pub record Counted (P : RingCore → RingCore → Type 0) (old new : List RingCore) : Type 0 where
  pub grow : total steps (histories_of old) ≤ total steps (histories_of new)
  pub either : (total steps (histories_of old) < total steps (histories_of new)) ⊎ ((i : ℕ) (c d : RingCore) → slice_get old i ≡ Some c → slice_get new i ≡ Some d → P c d)

counted_more : (P : RingCore → RingCore → Type 0) (c d : RingCore) (cs ds : List RingCore) → Went P c d → Counted P cs ds → Counted P (c ∷ cs) (d ∷ ds)
counted_more P c d cs ds first rest = record { grow = omega (arith, rest.grow, first_grows); either = by_either first.either rest.either }
  where
    first_grows : steps (unstamped c.history) ≤ steps (unstamped d.history)
    first_grows = steps_grow c.history d.history first.keeps.history

    all_stayed : P c d → ((i : ℕ) (x y : RingCore) → slice_get cs i ≡ Some x → slice_get ds i ≡ Some y → P x y)
        → (i : ℕ) (x y : RingCore) → slice_get (c ∷ cs) i ≡ Some x → slice_get (d ∷ ds) i ≡ Some y → P x y
    all_stayed s r zero x y at at' = let e : c ≡ x = cc in let f : d ≡ y = cc in subst (λ (z : RingCore). P z y) e (subst (λ (z : RingCore). P c z) f s)
    all_stayed s r (suc i) x y at at' = r i x y at at'

    by_either : (steps (unstamped c.history) < steps (unstamped d.history)) ⊎ P c d → (total steps (histories_of cs) < total steps (histories_of ds)) ⊎ ((i : ℕ) (x y : RingCore) → slice_get cs i ≡ Some x → slice_get ds i ≡ Some y → P x y)
        → (total steps (histories_of (c ∷ cs)) < total steps (histories_of (d ∷ ds))) ⊎ ((i : ℕ) (x y : RingCore) → slice_get (c ∷ cs) i ≡ Some x → slice_get (d ∷ ds) i ≡ Some y → P x y)
    by_either (inl l) r = inl (omega (arith, l, rest.grow))
    by_either (inr s) (inl l) = inl (omega (arith, l, first_grows))
    by_either (inr s) (inr r) = inr (all_stayed s r)

pub counted : (P : RingCore → RingCore → Type 0) (old new : List RingCore) → AllWent P old new → Counted P old new
counted P [] [] w = record { grow = omega arith; either = inr (λ i c d at. absurd (cc)) }
counted P [] (d ∷ ds) w = absurd (let e = w.all in omega (arith, e))
counted P (c ∷ cs) [] w = absurd (let e = w.all in omega (arith, e))
counted P (c ∷ cs) (d ∷ ds) w = counted_more P c d cs ds (w.each 0 c d refl refl) (counted P cs ds (rest_went P c d cs ds w))
