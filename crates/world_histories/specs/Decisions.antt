-- What is right of core 0's decisions, which are those of two-phase commit (Gray 1978, "Notes on data base operating systems",
-- section 5.8.3), read off the histories alone.
use Rattle.std.specs.Prelude.{◌≡◌, ◌+◌, ℕ, suc, Option, Some, None, List, ◌∷◌, ◌++◌, length, slice_get}
use mathlib.Core.List.{IsPrefix}
use Rattle.filter_table.specs.Limits.{TableLimits}
use Rattle.filter_table.specs.declared.operation.Op.{Op}
use Rattle.filter_table.specs.Tables.{table, Allowed}
use Rattle.filter_table.specs.declared.decision.Vote.{Vote}
use Rattle.world_events.specs.declared.event.Event.{Event}
use Rattle.world_events.specs.declared.event.Event.TheVariants.{Start, StartFor}
use Rattle.world_events.specs.declared.event.Answer.{Answer}
use Rattle.world_events.specs.declared.event.Answer.TheVariants.{Prepared, Decided, TookVote}
use Rattle.world_model.specs.Readings.{version_of, vote_of}
use Rattle.world_model.specs.Decisions.{DecidesAtOnce, VotesDecide}
use Rattle.world_histories.specs.declared.history.Stamped.{Stamped}
use Rattle.world_histories.specs.Histories.{unstamped}
use Rattle.world_histories.specs.Answers.{last_submitted, begun_for, submissions}

-- The operation that core 0 begins with this event after these events of its own: one of its own, or the core's next that was
-- not begun yet, the last that the core submitted in a front of its history.
abbrev pub Asked : List (List Stamped) → List Stamped → Event → Op → Type 0
Asked others before (Start started) op = op ≡ started
Asked others before (StartFor (suc entry)) op = (h : List Stamped) × (front : List Stamped) × (slice_get others entry ≡ Some h) × IsPrefix front h
    × (submissions front ≡ begun_for entry before + 1) × (last_submitted front ≡ Some op)
Asked others before event op = ⊥

-- among these events of core 0 is one that begins the operation under this number
pub record BegunIn (others : List (List Stamped)) (before : List Stamped) (txn : ℕ) (op : Op) : Type 0 where
  pub earlier : List Stamped
  pub begins : Stamped
  pub rest : List Stamped
  pub is_among : before ≡ earlier ++ begins ∷ rest
  pub numbered : begins.done.answer ≡ Prepared txn
  pub asked : Asked others earlier begins.done.event op

-- none of these events of core 0 gave out the number
abbrev pub IsNew : List Stamped → ℕ → Type 0
IsNew before txn = (earlier rest : List Stamped) (s : Stamped) → before ≡ earlier ++ s ∷ rest → s.done.answer ≡ Prepared txn → ⊥

abbrev pub voted : ℕ → ℕ → Option (List Stamped) → Option Vote
voted core txn None = None
voted core txn (Some history) = vote_of core txn (unstamped history)

-- the vote of the other core with this entry, if there is one, in its history
abbrev pub vote_in : List (List Stamped) → ℕ → ℕ → Option Vote
vote_in others txn entry = voted (suc entry) txn (slice_get others entry)

-- What core 0, which commits this log, answers to an event after these events of its own: v is the version that it has then.
abbrev pub DecidesBy : TableLimits → ℕ → List ℕ → List (List Stamped) → List Op → List Stamped → ℕ → Event → Answer → Type 0
DecidesBy limits budget budgets others log before v event (Prepared txn) = (op : Op) × Asked others before event op × Allowed (table limits log v) budget op None × IsNew before txn
DecidesBy limits budget budgets others log before v event (Decided decision) = (op : Op) × Asked others before event op × DecidesAtOnce (length others) budget limits log v op decision
DecidesBy limits budget budgets others log before v event (TookVote txn cast (Some decision)) = (op : Op) × BegunIn others before txn op × VotesDecide (length others) (vote_in others txn) (slice_get budgets) limits log v op decision
DecidesBy limits budget budgets others log before v event answer = Unit {0}

abbrev pub DecidesAs : TableLimits → ℕ → List ℕ → List (List Stamped) → List Op → List Stamped → Stamped → Type 0
DecidesAs limits budget budgets others log before s = DecidesBy limits budget budgets others log before (version_of 0 (unstamped before)) s.done.event s.done.answer
