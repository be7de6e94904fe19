use Rattle.std.proofs.Common.{◌≡◌, ◌<◌, ℕ, Some, slice_get}
use Rattle.filter_group.specs.declared.start.Start.{Start}
use Rattle.filter_group.proofs.kept_plan.start_of.Given as goal

abbrev pub invariant-loop-place : goal.invariant-loop-place
invariant-loop-place l = (i : ℕ) (s : Start) → i < l.place → slice_get l.starts i ≡ Some s → s.part ≡ l.group → ⊥
