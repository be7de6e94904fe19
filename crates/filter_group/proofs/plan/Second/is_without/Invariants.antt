use Rattle.std.proofs.Common.{◌≡◌, ◌<◌, ℕ, List, None, Some, map, slice_get}
use Rattle.filter_group.specs.declared.start.Start.{Start}
use Rattle.filter_group.specs.Planning.{HasStart}
use Rattle.filter_group.proofs.plan.Second.is_without.Given as goal

abbrev pub invariant-loop-case : goal.invariant-loop-case
invariant-loop-case l = (k : ℕ) (list : List Start) → k < l.case → slice_get (map (λ one. one.items) l.self.lists.items) k ≡ Some list → HasStart list l.group None
