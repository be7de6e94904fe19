-- The one thing that the events of a run don't tell of their answers: whether a core had memory (Lamport 1978, "Time, clocks, and
-- the ordering of events in a distributed system", section "Ordering the events totally": a state machine that does the same events
-- in the same order does the same).
use Rattle.std.specs.Prelude.{◌≡◌, Bool, true, false}
use Rattle.filter_table.specs.declared.decision.Decision.TheVariants.{Refused}
use Rattle.filter_table.specs.declared.decision.Veto.TheVariants as veto
use Rattle.filter_table.specs.declared.decision.Vote.TheVariants as vote
use Rattle.world_events.specs.declared.event.Event.{Event}
use Rattle.world_events.specs.declared.event.Event.TheVariants.{Start, StartFor, Take}
use Rattle.world_events.specs.declared.event.Answer.{Answer}
use Rattle.world_events.specs.declared.event.Answer.TheVariants.{Decided, TookPrepare}
use Rattle.world_events.specs.declared.event.Done.{Done}

-- the core voted against an operation because it had no memory for it
abbrev pub lacked_memory : Answer → Bool
lacked_memory (TookPrepare txn vote.NoMemory) = true
lacked_memory answer = false

-- core 0 had no memory for the request
abbrev pub IsRefusedForMemory : Answer → Type 0
IsRefusedForMemory (Decided (Refused core veto.NoMemory)) = Unit {0}
IsRefusedForMemory answer = ⊥

abbrev pub WasNotRefused : Done → Type 0
WasNotRefused done = IsRefusedForMemory done.answer → ⊥

-- the answer says that a core was out of memory, and the event doesn't
abbrev pub LacksMemory : Event → Answer → Type 0
LacksMemory (Start op) answer = IsRefusedForMemory answer
LacksMemory (StartFor core) answer = IsRefusedForMemory answer
LacksMemory (Take to from short) answer = (short ≡ false) × (lacked_memory answer ≡ true)
LacksMemory event answer = ⊥

abbrev pub HadMemory : Done → Type 0
HadMemory done = LacksMemory done.event done.answer → ⊥
