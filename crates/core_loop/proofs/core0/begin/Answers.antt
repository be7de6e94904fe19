use Rattle.std.proofs.Common.{◌≡◌, ◌∷◌, inl, inr, ℕ, suc, List, Option, Some, None, Ok, Err, refl, sym, subst}
use Rattle.std.specs.Prelude.{Result}
use Rattle.filter_table.specs.declared.operation.Op.{Op}
use Rattle.world_events.specs.declared.event.Event.{Event}
use Rattle.world_events.specs.declared.event.Event.TheVariants.{Start}
use Rattle.world_histories.specs.declared.history.Stamped.{Stamped}
use Rattle.core_steps.specs.declared.core0.Core0.{Core0}
use Rattle.core_loop.specs.declared.refusal.Refusal.{Refusal}
use Rattle.core_loop.specs.InTurn.{BeginsInTurn, IsNextInTurn}
use Rattle.core_loop.specs.Outcomes.{OnEvent}
use Rattle.core_loop.proofs.core0.begin.Goals as goal

pub returns-in-None-clause-idle : goal.returns-in-None-clause-idle
returns-in-None-clause-idle g c = rw c.requires.undone (λ can.
    elim can.some [
      | inl own ↦ c.in-None.ensures.none 0 (inl (refl, own))
      | inr waits ↦ c.in-None.ensures.none (suc waits.entry) (inr (waits.entry, waits.op, refl, waits.inside, waits.is_waiting))
    ])

-- a start of core 0's own request is in its turn where 0 comes next
start_in_turn : (r : Result (Option Stamped) Refusal) (others last : ℕ) (core : Core0) (old new : List Op) → IsNextInTurn others last core old 0
    → OnEvent r (λ s. (op : Op) × (s.done.event ≡ Start op) × (old ≡ op ∷ new)) → OnEvent r (λ s. BeginsInTurn others last core old s.done.event)
start_in_turn (Ok (Some s)) others last core old new next h = subst (λ (e : Event). BeginsInTurn others last core old e) (sym h.1) next
start_in_turn (Ok None) others last core old new next h = tt
start_in_turn (Err e) others last core old new next h = tt

pub returns-in_ok-start-in-Some-clause-in_turn : goal.returns-in_ok-start-in-Some-clause-in_turn
returns-in_ok-start-in-Some-clause-in_turn g c =
    start_in_turn (Ok c.start.new.done) c.args.others c.args.last c.args.core.now c.args.requests.now.items c.start.new.requests.items
    (subst (λ (n : ℕ). IsNextInTurn c.args.others c.args.last c.args.core.now c.args.requests.now.items n) c.if-from-eq0.true c.in-Some.ensures.next) c.in_ok-start-in-Some.ensures.event
