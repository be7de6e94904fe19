-- Core 0 gives out no number past the last one.
use Rattle.std.proofs.Common.{◌≡◌, ◌≤◌, ℕ, zero, suc, Option, List, ap, ◌∙◌, arith}
use Rattle.filter_table.specs.Limits.{TableLimits}
use Rattle.filter_table.specs.declared.operation.Op.{Op}
use Rattle.filter_table.specs.declared.decision.Vote.{Vote}
use Rattle.filter_table.specs.Tables.{TableState}
use Rattle.monitor_messages.specs.declared.message.Message.{Message}
use Rattle.monitor_messages.specs.declared.message.Message.TheVariants as message
use Rattle.two_phase.specs.declared.step.Step.{Step}
use Rattle.two_phase.specs.Coordinators.{CoordinatorPlace, Requests, CanStart, Starts, refused, unstaged, alone, prepared, Tallies, waits, commits_all, aborts_all}
use Rattle.world_events.specs.declared.event.Event.{Event}
use Rattle.world_events.specs.declared.event.Event.TheVariants.{Start, Submit, StartFor, Take, Rx}
use Rattle.world_events.specs.declared.event.Answer.{Answer}
use Rattle.world_events.specs.declared.event.Done.{Done}
use Rattle.world_model.specs.Cases.{TakesUpAt}
use Rattle.world_model.specs.Worlds.{World, Happens, Run}
use Rattle.world_model.proofs.Runs.{run_keeps}

start_within : (others : ℕ) (s : TableState) (budget : ℕ) (place place' : CoordinatorPlace) (op : Op) (committed : Option Op) (told : Step) → CanStart place → Starts others s budget place op place' committed told → place'.last ≤ 18446744073709551615
start_within others s budget place place' op committed told can (refused fault a p c t) = omega (arith, can.1, ap (λ (x : CoordinatorPlace). x.last) p)
start_within others s budget place place' op committed told can (unstaged a p c t) = omega (arith, can.1, ap (λ (x : CoordinatorPlace). x.last) p)
start_within others s budget place place' op committed told can (alone a n p c t) = omega (arith, can.1, ap (λ (x : CoordinatorPlace). x.last) p)
start_within others s budget place place' op committed told can (prepared a n p c t) = omega (arith, can.1, ap (λ (x : CoordinatorPlace). x.last) p)

tally_last : (s : TableState) (last : ℕ) (op : Op) (votes : List (Option Vote)) (place' : CoordinatorPlace) (committed : Option Op) (told : Step) → Tallies s last op votes place' committed told → place'.last ≡ last
tally_last s last op votes place' committed told (waits i n p c t) = ap (λ (x : CoordinatorPlace). x.last) p
tally_last s last op votes place' committed told (commits_all all p c t) = ap (λ (x : CoordinatorPlace). x.last) p
tally_last s last op votes place' committed told (aborts_all core against l all p c t) = ap (λ (x : CoordinatorPlace). x.last) p

up_last : (s : TableState) (place place' : CoordinatorPlace) (requests requests' : Requests) (i : ℕ) (m : Message) (committed : Option Op) (told : Step) (answer : Answer) → TakesUpAt s place requests i m place' requests' committed told answer → place'.last ≡ place.last
up_last s place place' requests requests' i (message.Vote txn v) committed told answer h = tally_last s txn _ _ place' committed told h.hears.tallies ∙ h.hears.number
up_last s place place' requests requests' i (message.Ack txn) committed told answer h = ap (λ (x : CoordinatorPlace). x.last) h.hears.next
up_last s place place' requests requests' i (message.Submit op) committed told answer h = ap (λ (x : CoordinatorPlace). x.last) h.same_place
up_last s place place' requests requests' i m committed told answer h = absurd h

next_last : (w w' : World) (event : Event) (answer : Answer) → w.place.last ≤ 18446744073709551615 → Happens w event w' answer → w'.place.last ≤ 18446744073709551615
next_last w w' (Start op) answer le h = rw h.next (start_within _ _ w.budget w.place h.place op h.committed h.told h.here.can_start h.here.starts)
next_last w w' (Submit (suc i) op) answer le h = rw h.next le
next_last w w' (StartFor (suc i)) answer le h = rw h.next (start_within _ _ w.budget w.place h.place _ h.committed _ h.here.can_start h.here.starts.starts)
next_last w w' (Take zero (suc i) short) answer le h = rw h.next (omega (arith, le, up_last _ w.place h.place w.requests h.requests i h.m h.committed h.told answer h.here))
next_last w w' (Take (suc i) zero short) answer le h = rw h.next le
next_last w w' (Rx core number packet floor) answer le h = rw h.next le
next_last w w' event answer le h = absurd h

pub last_within : (limits : TableLimits) (budget : ℕ) (budgets : List ℕ) (events : List Done) (w : World) → Run limits budget budgets events w → w.place.last ≤ 18446744073709551615
last_within limits budget budgets events w run = run_keeps limits budget budgets (λ before x. x.place.last ≤ 18446744073709551615) (omega arith)
    (λ before x x' done run' le h. next_last x x' done.event done.answer le h) events w run
