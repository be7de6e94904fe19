use Rattle.std.proofs.Common.{◌≡◌, ◌<◌, ◌≤◌, ℕ, Some, slice_get}
use Rattle.filter_table.specs.declared.operation.Op.{Op}
use Rattle.core_loop.proofs.core0.waiting_after.Given as goal

abbrev pub invariant-loop-entry : goal.invariant-loop-entry
invariant-loop-entry l = (entry : ℕ) (op : Op) → l.after ≤ entry → entry < l.entry → slice_get l.core.coordinator.requests.waiting entry ≡ Some (Some op) → ⊥
