use Rattle.std.proofs.Common.{◌≡◌, ◌<◌, ◌≤◌, ℕ, Some, slice_get}
use Rattle.filter_group.proofs.places.member_among.Given as goal

abbrev pub invariant-loop-member : goal.invariant-loop-member
invariant-loop-member l = (i : ℕ) → l.first ≤ i → i < l.member → slice_get l.part.places i ≡ Some l.place → ⊥
