-- Why core 0 can't start a request, and what its replica made of one that it was asked to stage.
use Rattle.std.specs.Prelude.{◌≡◌, ◌≢◌, ℕ, zero, suc, Option, None, Some, slice_get}
use Rattle.filter_table.specs.declared.operation.Op.{Op}
use Rattle.filter_table.specs.declared.operation.StageFault.{StageFault}
use Rattle.table_replica.specs.Shown.{ReplicaState}
use Rattle.filter_table.specs.Staging.{CannotStage}
use Rattle.filter_table.specs.Tables.{Allowed}
use Rattle.two_phase.specs.declared.step.Say.{Say}
use Rattle.two_phase.specs.declared.step.Say.TheVariants.{Prepare}
use Rattle.two_phase.specs.declared.step.StartFault.{StartFault}
use Rattle.two_phase.specs.declared.step.StartFault.TheVariants.{NotIdle, Spent, NoneWaiting}
use Rattle.two_phase.specs.Coordinators.{CoordinatorState, Idle}

abbrev pub CannotStart : CoordinatorState → StartFault → Type 0
CannotStart own NotIdle = own.phase ≢ Idle
CannotStart own Spent = (own.phase ≡ Idle) × (own.last ≡ 18446744073709551615)
CannotStart own NoneWaiting = ⊥

-- the core has no operation waiting
abbrev pub HasNoneWaiting : CoordinatorState → ℕ → Type 0
HasNoneWaiting own from = (entry : ℕ) (op : Op) → from ≡ suc entry → slice_get own.requests.waiting entry ≢ Some (Some op)

abbrev pub CannotStartFor : CoordinatorState → ℕ → StartFault → Type 0
CannotStartFor own from NotIdle = own.phase ≢ Idle
CannotStartFor own from Spent = (own.phase ≡ Idle) × (own.last ≡ 18446744073709551615)
CannotStartFor own from NoneWaiting = (own.phase ≡ Idle) × (own.last ≢ 18446744073709551615) × HasNoneWaiting own from

-- A replica that had nothing staged was asked to stage the operation: it did, or for this reason it did not.
abbrev pub WasStaged : ReplicaState → Op → Option StageFault → Type 0
WasStaged r op None = (r.staged ≡ Some op) × Allowed r.shown r.budget op None
WasStaged r op (Some fault) = (r.staged ≡ None) × CannotStage r.shown r.budget op None fault

-- the other cores, if there are any, are asked where it did
abbrev pub asked_by : Option StageFault → ℕ → Option Say
asked_by (Some fault) others = None
asked_by None zero = None
asked_by None (suc others) = Some Prepare
