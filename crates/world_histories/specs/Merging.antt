-- One list of all events of the histories, by stamp and then by core, and the run that it is (Lamport 1978, "Time, clocks, and the
-- ordering of events in a distributed system", section "Ordering the events totally").
use Rattle.std.specs.Prelude.{◌≡◌, ◌<◌, ◌≤◌, ◌⊎◌, ◌==◌, ℕ, true, Some, List, [], ◌∷◌, length, map, filter, slice_get}
use mathlib.Core.List.{IsPrefix}
use Rattle.filter_table.specs.Limits.{TableLimits}
use Rattle.filter_table.specs.declared.decision.Vote.TheVariants as vote
use Rattle.world_events.specs.declared.event.Event.{Event}
use Rattle.world_events.specs.declared.event.Event.TheVariants.{Start, Submit, StartFor, Take, Rx}
use Rattle.world_events.specs.declared.event.Answer.{Answer}
use Rattle.world_events.specs.declared.event.Answer.TheVariants.{TookPrepare}
use Rattle.world_events.specs.declared.event.Done.{Done}
use Rattle.world_model.specs.Worlds.{Peer, World, Run}
use Rattle.world_histories.specs.declared.history.Stamped.{Stamped}
use Rattle.world_histories.specs.Histories.{Core0State, OtherState}

-- the core whose event it is
abbrev pub core_of : Event → ℕ
core_of (Start op) = 0
core_of (Submit core op) = core
core_of (StartFor core) = 0
core_of (Take to from short) = to
core_of (Rx core number packet floor) = core

-- the events of one core
abbrev pub part : ℕ → List Stamped → List Stamped
part core events = filter (λ s. core_of s.done.event == core) events

-- by stamp, then by core
abbrev pub IsBefore : Stamped → Stamped → Type 0
IsBefore a b = (a.stamp < b.stamp) ⊎ ((a.stamp ≡ b.stamp) × (core_of a.done.event < core_of b.done.event))

abbrev pub IsInOrder : List Stamped → Type 0
IsInOrder [] = Unit {0}
IsInOrder (a ∷ []) = Unit {0}
IsInOrder (a ∷ b ∷ rest) = IsBefore a b × IsInOrder (b ∷ rest)

-- the list has all events of the histories and no others, by stamp and then by core
pub record Merged (core0 : List Stamped) (others : List (List Stamped)) (merged : List Stamped) : Type 0 where
  pub in_order : IsInOrder merged
  pub of_each : (core : ℕ) (h : List Stamped) → slice_get (core0 ∷ others) core ≡ Some h → part core merged ≡ h
  pub of_cores : (k : ℕ) (s : Stamped) → slice_get merged k ≡ Some s → core_of s.done.event ≤ length others

-- a take that voted NoMemory was short of memory
abbrev pub as_short : Event → Answer → Event
as_short (Take to from short) (TookPrepare txn vote.NoMemory) = Take to from true
as_short event answer = event

abbrev pub listed : Stamped → Done
listed s = record { event = as_short s.done.event s.done.answer; answer = s.done.answer }

abbrev pub as_listed : List Stamped → List Done
as_listed events = map listed events

-- another core ends as it stands in the world
pub record EndsAs (w : World) (p : Peer) (d : OtherState) : Type 0 where
  pub limits_are : w.limits ≡ d.limits
  pub version_is : p.version ≡ length d.log
  pub is_front : IsPrefix d.log w.log
  pub place_is : p.place ≡ d.place
  pub outstanding_is : p.outstanding ≡ d.outstanding

-- the cores end as they stand in the world
pub record AllEnd (w : World) (end : Core0State) (ends : List OtherState) : Type 0 where
  pub limits_are : w.limits ≡ end.limits
  pub log_is : w.log ≡ end.log
  pub place_is : w.place ≡ end.place
  pub requests_are : w.requests ≡ end.requests
  pub others : (i : ℕ) (p : Peer) (d : OtherState) → slice_get w.peers i ≡ Some p → slice_get ends i ≡ Some d → EndsAs w p d

-- the list is a run of a machine with these limits and budgets, which ends where the cores end
pub record IsRun (limits : TableLimits) (budget : ℕ) (budgets : List ℕ) (merged : List Stamped) (end : Core0State) (ends : List OtherState) : Type 0 where
  pub world : World
  pub run : Run limits budget budgets (as_listed merged) world
  pub all_end : AllEnd world end ends
