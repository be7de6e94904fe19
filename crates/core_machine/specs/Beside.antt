-- Cores that stand at the ends of their histories, with their links.
use Rattle.std.specs.Prelude.{◌≡◌, ◌⊎◌, ◌+◌, ◌<◌, ◌≤◌, ◌++◌, [], ℕ, suc, true, false, List, length, Some, slice_get}
use mathlib.Core.List.{IsPrefix}
use Rattle.filter_table.specs.Limits.{TableLimits}
use Rattle.filter_table.specs.declared.operation.Op.{Op}
use Rattle.world_model.specs.Cases.{outgoing}
use Rattle.world_histories.specs.Histories.{Stamping}
use Rattle.world_progress.specs.Remaining.{AreAtRest}
use Rattle.core_links.specs.Flows.{Flow, IsStill}
use Rattle.core_steps.specs.declared.core0.Core0.{Core0}
use Rattle.core_steps.specs.declared.other_core.OtherCore.{OtherCore}
use Rattle.core_steps.specs.declared.core0.Told.{Told}
use Rattle.core_steps.specs.Core0Steps.{core0_place, TakesUp}
use Rattle.core_loop.specs.Carrying.{CanCarry, IsFirst}
use Rattle.core_loop.specs.Choosing.{ShowsNothing, IsLeastShowing}
use Rattle.core_loop.specs.Beginning.{CanBegin0, CanBeginOther}
use Rattle.core_loop.specs.Keeping.{IsOtherCore}
use Rattle.core_links.specs.Views.{LinkView}
use Rattle.world_histories.specs.declared.history.Stamped.{Stamped}
use Rattle.world_histories.specs.Histories.{Core0State, OtherState}
use Rattle.core_loop.specs.Standing.{Stands0, StandsOther, AreBeside}

pub record StandBeside (limits : TableLimits) (budget : ℕ) (budgets : List ℕ) (h0 : List Stamped) (hs : List (List Stamped)) (view0 : ℕ → LinkView) (views : List (ℕ → LinkView)) (end : Core0State) (ends : List OtherState) : Type 0 where
  pub histories : length hs ≡ length budgets
  pub all_views : length views ≡ length budgets
  pub all_ends : length ends ≡ length budgets
  pub first : Stands0 limits (length budgets) budget h0 view0 end
  pub others : (i b : ℕ) (h : List Stamped) (v : ℕ → LinkView) (d : OtherState) → slice_get budgets i ≡ Some b → slice_get hs i ≡ Some h → slice_get views i ≡ Some v → slice_get ends i ≡ Some d → StandsOther i limits b h v d × AreBeside i view0 v

-- A round in which nothing happened

-- a link after it was looked at beside the other end: what was taken and is kept begins what was sent, a message that is going out is not among
-- it, and where nothing is going out and all lines were received, it is all
pub record IsFront (from to : LinkView) (out come : Flow) : Type 0 where
  pub front : IsPrefix (to.taken ++ to.kept) from.sent
  pub going : from.ready ≡ false → length (to.taken ++ to.kept) < length from.sent
  pub all : from.ready ≡ true → out.out ≡ come.come → to.taken ++ to.kept ≡ from.sent

-- the ends of a ring that holds so many lines know all of it: each line that went out was received or is known of, and each place that is free
pub record AreKnown (capacity : ℕ) (sender receiver : Flow) : Type 0 where
  pub below : receiver.come ≤ sender.out
  pub items : sender.out ≤ receiver.come + receiver.known
  pub places : capacity + receiver.come ≤ sender.room + sender.out

-- the ring from the one core to the other: its ends knew all of it before the round, no line moved in the round, and after it it was looked at
pub record IsStillRing (from to : LinkView) (out out' come come' : Flow) : Type 0 where
  pub capacity : ℕ
  pub some : 1 ≤ capacity
  pub known : AreKnown capacity out come
  pub still_out : IsStill out out'
  pub still_in : IsStill come come'
  pub after : IsFront from to out' come'

-- the first message of this peer must wait for a link that takes none, which core 0, with so many others, would need once it took it
abbrev pub Waits0 : ℕ → Core0 → ℕ → (ℕ → LinkView) → Type 0
Waits0 others core peer view = (m : Stamping) × IsFirst (view peer) m × ((core' : Core0) (told : Told) → TakesUp core peer m.message core' told → CanCarry others (outgoing told.step (core0_place core')) view → ⊥)

-- core 0 did nothing: no peer shows a message, or that of the least that does must wait; and no request can be begun
pub record Idles0 (others : ℕ) (core : Core0) (pending : List Op) (view : ℕ → LinkView) (flow : ℕ → Flow) : Type 0 where
  pub itself : (view 0).kept ≡ []
  pub no_message : ((p : ℕ) → p < suc others → ShowsNothing (view p)) ⊎ ((peer : ℕ) × IsLeastShowing (suc others) view peer × Waits0 others core peer view)
  pub no_request : CanBegin0 others core pending view → ⊥
  pub full : (p : ℕ) → (view p).ready ≡ false → (flow p).room ≡ 0
  pub dry : ((p : ℕ) → p < suc others → ShowsNothing (view p)) → (p : ℕ) → p < suc others → (flow p).known ≡ 0

-- the same of another core
pub record IdlesOther (others : ℕ) (core : OtherCore) (pending : List Op) (view : ℕ → LinkView) (flow : Flow) : Type 0 where
  pub no_message : ((p : ℕ) → p < suc others → ShowsNothing (view p)) ⊎ ((view 0).ready ≡ false)
  pub no_request : CanBeginOther core pending view → ⊥
  pub full : (view 0).ready ≡ false → flow.room ≡ 0
  pub dry : ((p : ℕ) → p < suc others → ShowsNothing (view p)) → flow.known ≡ 0

-- another core after the round, and the two rings that join it to core 0
pub record IsStillCore (others entry : ℕ) (core : OtherCore) (pending : List Op) (d : OtherState) (view0 view : ℕ → LinkView) (f0 f0' : ℕ → Flow) (g g' : Flow) : Type 0 where
  pub clock : ℕ
  pub is_other : IsOtherCore core clock d
  pub up : IsStillRing (view 0) (view0 (suc entry)) g g' (f0 (suc entry)) (f0' (suc entry))
  pub down : IsStillRing (view0 (suc entry)) (view 0) (f0 (suc entry)) (f0' (suc entry)) g g'
  pub idles : IdlesOther others core pending view g'

-- the ring from the one core to the other is empty: each line that was sent was received, none of its messages is kept, and it takes another
pub record IsEmptyRing (from to : LinkView) (out come : Flow) : Type 0 where
  pub received : out.out ≡ come.come
  pub none_kept : to.kept ≡ []
  pub ready : from.ready ≡ true

-- nothing is left to do
pub record NothingIsLeft (view0 : ℕ → LinkView) (views : List (ℕ → LinkView)) (end : Core0State) (ends : List OtherState) (pending0 : List Op) (pending : ℕ → List Op) (f0 f : ℕ → Flow) : Type 0 where
  pub at_rest : AreAtRest end ends
  pub none0 : pending0 ≡ []
  pub none : (i : ℕ) (d : OtherState) → slice_get ends i ≡ Some d → pending i ≡ []
  pub up : (i : ℕ) (v : ℕ → LinkView) (d : OtherState) → slice_get views i ≡ Some v → slice_get ends i ≡ Some d → IsEmptyRing (v 0) (view0 (suc i)) (f i) (f0 (suc i))
  pub down : (i : ℕ) (v : ℕ → LinkView) (d : OtherState) → slice_get views i ≡ Some v → slice_get ends i ≡ Some d → IsEmptyRing (view0 (suc i)) (v 0) (f0 (suc i)) (f i)
