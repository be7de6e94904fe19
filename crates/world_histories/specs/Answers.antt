-- What is right of the answers in histories: decisions and replies, as in the one run of all (Lamport 1978, "Time, clocks, and the
-- ordering of events in a distributed system", section "Ordering the events totally"), and a reply as the decision of two-phase
-- commit that it carries (Gray 1978, "Notes on data base operating systems", section 5.8.3).
use Rattle.std.specs.Prelude.{◌≡◌, ◌+◌, ◌⊎◌, ◌==◌, ℕ, suc, Bool, true, false, Option, Some, None, List, [], ◌∷◌, ◌++◌, length, slice_get, count_by}
use mathlib.Core.List.{IsPrefix}
use Rattle.filter_table.specs.Limits.{TableLimits}
use Rattle.filter_table.specs.declared.operation.Op.{Op}
use Rattle.filter_table.specs.declared.decision.Vote.{Vote}
use Rattle.filter_table.specs.declared.decision.Decision.{Decision}
use Rattle.world_events.specs.declared.event.Event.{Event}
use Rattle.world_events.specs.declared.event.Event.TheVariants.{Submit, StartFor}
use Rattle.world_events.specs.declared.event.Answer.TheVariants.{Prepared, Decided, TookVote}
use Rattle.world_model.specs.Worlds.{World, version_at, Happens, Run}
use Rattle.world_model.specs.Readings.{version_of, vote_of, Request, unsent, sent, numbered, settled, request_of}
use Rattle.world_model.specs.Decisions.{StandsAt, IsEntered}
use Rattle.world_histories.specs.declared.history.Stamped.{Stamped}
use Rattle.world_histories.specs.Histories.{unstamped}
use Rattle.world_histories.specs.Merging.{core_of, part, listed, as_listed}

-- the operation of a request
abbrev pub requested : Request → Option Op
requested unsent = None
requested (sent op) = Some op
requested (numbered op txn) = Some op
requested (settled op decision) = Some op

-- the operation that a core submitted last in these events of its own, else the one known before
abbrev pub submitted_with : Option Op → Event → Option Op
submitted_with known (Submit core op) = Some op
submitted_with known event = known

abbrev pub submitted_after : Option Op → List Stamped → Option Op
submitted_after known [] = known
submitted_after known (s ∷ later) = submitted_after (submitted_with known s.done.event) later

abbrev pub last_submitted : List Stamped → Option Op
last_submitted events = submitted_after None events

-- core 0 begins a request of the core with this event
abbrev pub begins_for : ℕ → Event → Bool
begins_for core (StartFor from) = from == core
begins_for core event = false

abbrev pub is_submit : Event → Bool
is_submit (Submit core op) = true
is_submit event = false

-- how many requests of the core with this entry core 0 began with these events of its own
abbrev pub begun_for : ℕ → List Stamped → ℕ
begun_for entry events = count_by (λ s. begins_for (suc entry) s.done.event) events

-- how many requests a core submitted with these events of its own
abbrev pub submissions : List Stamped → ℕ
submissions events = count_by (λ s. is_submit s.done.event) events

-- what the events of all tell of a core is what the core's own tell
pub record TellsOfCores (events : List Stamped) : Type 0 where
  pub versions : (core : ℕ) → version_of core (as_listed events) ≡ version_of core (unstamped (part core events))
  pub votes : (core txn : ℕ) → vote_of core txn (as_listed events) ≡ vote_of core txn (unstamped (part core events))
  pub requests : (entry : ℕ) → requested (request_of (suc entry) (as_listed events)) ≡ last_submitted (part (suc entry) events)

-- An event of a core's history, after these events of its own, as an event of the one run. What the run has before it are fronts
-- of all histories.
pub record InRun (limits : TableLimits) (budget : ℕ) (budgets : List ℕ) (core0 : List Stamped) (others : List (List Stamped)) (log : List Op) (merged : List Stamped) (core : ℕ) (before : List Stamped) (s : Stamped) : Type 0 where
  pub earlier : List Stamped
  pub later : List Stamped
  pub is_split : merged ≡ earlier ++ s ∷ later
  pub is_core : core_of s.done.event ≡ core
  pub own : part core earlier ≡ before
  pub fronts : (c : ℕ) (h : List Stamped) → slice_get (core0 ∷ others) c ≡ Some h → IsPrefix (part c earlier) h
  pub tells : TellsOfCores earlier
  pub world : World
  pub world' : World
  pub run : Run limits budget budgets (as_listed earlier) world
  pub happens : Happens world (listed s).event world' s.done.answer
  -- the world has a front of core 0's log, and its cores have the versions that they committed
  pub log_front : IsPrefix world.log log
  pub log_front' : IsPrefix world'.log log
  pub log_long : length world.log ≡ version_of 0 (unstamped (part 0 earlier))
  pub version : version_at world core ≡ Some (version_of core (unstamped before))

-- among these events of core 0 the votes on the number decide so
pub record DecidesLater (events : List Stamped) (txn : ℕ) (decision : Decision) : Type 0 where
  pub earlier : List Stamped
  pub decides : Stamped
  pub rest : List Stamped
  pub is_among : events ≡ earlier ++ decides ∷ rest
  pub v : Vote
  pub is_decided : decides.done.answer ≡ TookVote txn v (Some decision)

-- core 0's history begins a request for the core with this entry, after so many others for it, and decides it so
pub record DecidedFor (core0 : List Stamped) (entry n : ℕ) (decision : Decision) : Type 0 where
  pub earlier : List Stamped
  pub begins : Stamped
  pub rest : List Stamped
  pub is_among : core0 ≡ earlier ++ begins ∷ rest
  pub for_core : begins.done.event ≡ StartFor (suc entry)
  pub nth : begun_for entry earlier ≡ n
  pub decided : (begins.done.answer ≡ Decided decision) ⊎ ((txn : ℕ) × (begins.done.answer ≡ Prepared txn) × DecidesLater rest txn decision)

-- A core that takes this decision as a Reply after these events takes the decision of its one request, the last that it submitted:
-- core 0 begins the requests of a core in the order in which the core submits them, and has decided this one so. Where that is
-- committed, the request is that entry of the log, and the core stands exactly at its version.
pub record Replied (core0 : List Stamped) (limits : TableLimits) (log : List Op) (entry : ℕ) (before : List Stamped) (decision : Decision) : Type 0 where
  pub op : Op
  pub asked : last_submitted before ≡ Some op
  pub others : ℕ
  pub nth : submissions before ≡ others + 1
  pub decided : DecidedFor core0 entry others decision
  pub entered : IsEntered limits log op decision
  pub stands : StandsAt (version_of (suc entry) (unstamped before)) decision
