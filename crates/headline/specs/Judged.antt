-- What a machine's cores committed and refused, judged by the events that they did: by the log, and by the cores' budgets, core 0's first
-- (Schneider 1990, "Implementing fault-tolerant services using the state machine approach", section 2; Gray 1978, "Notes on data
-- base operating systems", section 5.8.3: two-phase commit).
use Rattle.std.specs.Prelude.{◌≡◌, ◌+◌, ◌<◌, ◌≤◌, ◌⊎◌, ℕ, zero, suc, Some, None, List, [], ◌++◌, length, slice_get}
use Rattle.std.specs.List.{Contains}
use Rattle.filter_table.specs.Limits.{TableLimits}
use Rattle.filter_table.specs.Listed.{ListedFilter}
use Rattle.filter_table.specs.Soundness.{IsRightful}
use Rattle.filter_table.specs.Tables.{TableState, table, Allowed}
use Rattle.filter_table.specs.declared.operation.Op.{Op}
use Rattle.filter_table.specs.declared.operation.Made.{Made}
use Rattle.filter_table.specs.declared.operation.StageFault.TheVariants as fault
use Rattle.filter_table.specs.declared.decision.Decision.{Decision}
use Rattle.filter_table.specs.declared.decision.Decision.TheVariants.{Committed, Refused}
use Rattle.filter_table.specs.declared.decision.Veto.{Veto}
use Rattle.filter_table.specs.declared.decision.Veto.TheVariants as veto
use Rattle.world_events.specs.declared.event.Done.{Done}
use Rattle.world_model.specs.Committed.{log_of}
use Rattle.world_model.specs.Decisions.{IsEntryAt, HasReason}
use Rattle.world_model.specs.Readings.{version_of}
use Rattle.headline.specs.Decided.{events_at, decided_in}
use Rattle.headline.specs.Headline.{begun_in}

-- The log

-- of each filter that a table of the log lists, while its capability is held: it is the filter's owner that holds it, for the filter's
-- endpoint and with the right to receive
abbrev pub AreRightful : TableLimits → List Op → Type 0
AreRightful limits log = (version : ℕ) (f : ListedFilter) → version ≤ length log → Contains (table limits log version).filters f → IsRightful (table limits log version).caps f

-- each operation of the log was allowed where it stands, within core 0's budget
abbrev pub AreAllowed : TableLimits → List ℕ → List Op → Type 0
AreAllowed limits budgets log = (v budget : ℕ) (op : Op) → slice_get budgets 0 ≡ Some budget → slice_get log v ≡ Some op → Allowed (table limits log v) budget op None

-- Decisions

-- another core's veto on an operation, at this table: it is the least core but core 0 that can't make the change, since it has no memory
-- for it, or since its budget is the first thing that stands in the way
pub record IsVeto (budgets : List ℕ) (s : TableState) (op : Op) (core : ℕ) (why : Veto) : Type 0 where
  pub budget : ℕ
  pub is_budget : slice_get budgets core ≡ Some budget
  pub reason : ((why ≡ veto.NoMemory) × Allowed s budget op None) ⊎ ((why ≡ veto.Budget) × Allowed s budget op (Some fault.Budget))
  pub others_can : (other b : ℕ) → 0 < other → other < core → slice_get budgets other ≡ Some b → Allowed s b op None

-- a core refuses the operation at this table: core 0 by the first rule that stands, or since it has no memory
abbrev pub IsRefused : List ℕ → TableState → Op → ℕ → Veto → Type 0
IsRefused budgets s op zero why = (budget : ℕ) × (slice_get budgets 0 ≡ Some budget) × HasReason s budget op why
IsRefused budgets s op (suc entry) why = IsVeto budgets s op (suc entry) why

-- the version is not older than those that the core had, by its own events, until it began its request of this number
abbrev pub IsSince : List Done → ℕ → ℕ → ℕ → Type 0
IsSince events core number version = (front rest : List Done) → events_at core events ≡ front ++ rest → length (begun_in core front) ≤ number → version_of core front ≤ version

-- The decision is on this operation, a core's request of this number: it is committed as the entry of the log whose version the decision
-- names, with the id that it made; or it is refused, by the table of a version since the core began it.
abbrev pub IsDecisionOn : TableLimits → List ℕ → List Done → ℕ → ℕ → Op → Decision → Type 0
IsDecisionOn limits budgets events core number op (Committed version id) = (v : ℕ) × IsEntryAt limits (log_of events) v op version id
IsDecisionOn limits budgets events core number op (Refused by why) =
    (v : ℕ) × (v ≤ length (log_of events)) × IsSince events core number v × IsRefused budgets (table limits (log_of events) v) op by why

-- the n-th decision of each core is on its n-th request
abbrev pub AreJudged : TableLimits → List ℕ → List Done → Type 0
AreJudged limits budgets events = (core number : ℕ) (decision : Decision) → slice_get (decided_in core events) number ≡ Some decision
    → (op : Op) × (slice_get (begun_in core events) number ≡ Some op) × IsDecisionOn limits budgets events core number op decision

-- no two decisions name one entry of the log, so no request is committed twice
abbrev pub AreCommittedOnce : List Done → Type 0
AreCommittedOnce events = (core other number number' version : ℕ) (id id' : Made) → slice_get (decided_in core events) number ≡ Some (Committed version id)
    → slice_get (decided_in other events) number' ≡ Some (Committed version id') → (core ≡ other) × (number ≡ number')

-- every entry of the log is named by a decision
abbrev pub AreAllNamed : List Done → Type 0
AreAllNamed events = (v : ℕ) → v < length (log_of events) → (core : ℕ) × (number : ℕ) × (id : Made) × (slice_get (decided_in core events) number ≡ Some (Committed (v + 1) id))
