use Rattle.std.proofs.Common.{◌≡◌, ◌<◌, ℕ, Some, slice_get}
use Rattle.filter_table.specs.declared.delivery.Kept.{Kept}
use Rattle.installed_filters.proofs.raising.place_for.Given as goal

abbrev pub invariant-loop-place : goal.invariant-loop-place
invariant-loop-place l = (i : ℕ) (one : Kept) → i < l.place → slice_get l.kept i ≡ Some one → one.endpoint < l.endpoint
