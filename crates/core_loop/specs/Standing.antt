-- One core alone: where its history leads, and what its links have carried. Nothing here speaks of another core.
use Rattle.std.specs.Prelude.{◌≡◌, ◌<◌, ◌≤◌, ◌++◌, [], ℕ, suc, List}
use mathlib.Core.List.{IsPrefix}
use Rattle.core_links.specs.Views.{LinkView}
use Rattle.world_histories.specs.declared.history.Stamped.{Stamped}
use Rattle.world_histories.specs.Histories.{Stamping, Sending, sent_to, sent_by, taken_from, Core0State, core0_first, History0, OtherState, other_first, HistoryOther}
use Rattle.filter_table.specs.Limits.{TableLimits}
use Rattle.core_loop.specs.Coded.{AreCoded}

-- a link's list has these messages more at its end
abbrev pub Grows : List (List ℕ) → List (List ℕ) → List Stamping → Type 0
Grows before after ms = (more : List (List ℕ)) × (after ≡ before ++ more) × AreCoded more ms

-- nothing goes over a link to no core that it sends to
abbrev pub IsSilent : LinkView → Type 0
IsSilent v = (v.sent ≡ []) × (v.taken ≡ [])

-- core 0, with these limits, so many others and this budget, has this history and stands so; its links carried just what the history sends and takes
pub record Stands0 (limits : TableLimits) (others budget : ℕ) (history : List Stamped) (view : ℕ → LinkView) (c : Core0State) : Type 0 where
  pub sent : List Sending
  pub taken : List (ℕ × Stamping)
  pub is_history : History0 others budget (core0_first limits others) history c sent taken
  pub has_sent : (entry : ℕ) → entry < others → AreCoded (view (suc entry)).sent (sent_to entry sent)
  pub has_taken : (entry : ℕ) → entry < others → AreCoded (view (suc entry)).taken (taken_from entry taken)
  pub itself : IsSilent (view 0)
  pub beyond : (entry : ℕ) → others ≤ entry → IsSilent (view (suc entry))

-- the same of the core with this entry, whose one link goes to core 0
pub record StandsOther (entry : ℕ) (limits : TableLimits) (budget : ℕ) (history : List Stamped) (view : ℕ → LinkView) (c : OtherState) : Type 0 where
  pub taken : List Stamping
  pub is_history : HistoryOther entry budget (other_first limits) history c taken
  pub has_sent : AreCoded (view 0).sent (sent_by history)
  pub has_taken : AreCoded (view 0).taken taken
  pub elsewhere : (peer : ℕ) → IsSilent (view (suc peer))

-- what core 0 and the core with this entry took from each other begins what the other sent
pub record AreBeside (entry : ℕ) (view0 view : ℕ → LinkView) : Type 0 where
  pub up : IsPrefix (view0 (suc entry)).taken (view 0).sent
  pub down : IsPrefix (view 0).taken (view0 (suc entry)).sent
