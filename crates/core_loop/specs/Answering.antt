-- The decisions on a core's own requests, as its history has them.
use Rattle.std.specs.Prelude.{◌≡◌, ◌+◌, ◌-◌, ◌^◌, ◌++◌, ℕ, Bool, true, false, Option, Some, None, List, [], ◌∷◌, length, min}
use Rattle.filter_table.specs.declared.decision.Decision.{Decision}
use Rattle.filter_table.specs.declared.operation.Op.{Op}
use Rattle.two_phase.specs.Coordinators.{Phase, Voting}
use Rattle.world_events.specs.declared.event.Event.{Event}
use Rattle.world_events.specs.declared.event.Event.TheVariants.{Start, StartFor}
use Rattle.world_events.specs.declared.event.Answer.{Answer}
use Rattle.world_events.specs.declared.event.Answer.TheVariants.{Decided, TookVote, TookReply}
use Rattle.world_histories.specs.declared.history.Stamped.{Stamped}
use Rattle.core_loop.specs.declared.part.Part.{Part}
use Rattle.core_loop.specs.declared.part.Part.TheVariants as part
use Rattle.core_loop.specs.Cores.{begun}

-- whether the last request that core 0 began is its own, where `own` says so before the event
abbrev pub is_own : Bool → Event → Bool
is_own own (Start op) = true
is_own own (StartFor core) = false
is_own own event = own

-- The decision on a request of the core's own that an event has, if it has one: core 0 decides its own where it begins it or with the last vote
-- on it, and another core takes that on its own as a Reply.
abbrev pub own_decision : Bool → Event → Answer → List Decision
own_decision own event (TookReply decision) = decision ∷ []
own_decision own (Start op) (Decided decision) = decision ∷ []
own_decision true event (TookVote txn vote (Some decision)) = decision ∷ []
own_decision own event answer = []

abbrev pub decisions_from : Bool → List Stamped → List Decision
decisions_from own [] = []
decisions_from own (s ∷ later) = own_decision own s.done.event s.done.answer ++ decisions_from (is_own own s.done.event) later

-- the decisions on the requests that a core began, in order
abbrev pub decisions : List Stamped → List Decision
decisions history = decisions_from false history

abbrev pub count_if : Bool → ℕ
count_if false = 0
count_if true = 1

-- the requests of core 0's own that wait for votes: one or none
abbrev pub voted_on : Phase → Option ℕ → ℕ
voted_on (Voting votes) None = 1
voted_on phase asker = 0

-- the requests of its own that a core has begun and that have no decision: one or none
abbrev pub under_way : Part → ℕ
under_way (part.Core0 core) = voted_on core.coordinator.phase core.coordinator.requests.asker
under_way (part.OtherCore core) = count_if core.participant.outstanding

-- Each request that a core has begun has its decision, but for one that may be under way. So the n-th decision is that on the n-th request.
abbrev pub AreDecided : Part → List Stamped → Type 0
AreDecided x history = length (begun history) ≡ length (decisions history) + under_way x

-- so many requests were given to a core with this history that has these left; no count is above 2^64 - 1
abbrev pub IsGivenCount : ℕ → List Stamped → List Op → Type 0
IsGivenCount count history pending = count ≡ min (length (begun history ++ pending)) (2 ^ 64 - 1)
