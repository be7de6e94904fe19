use Rattle.std.proofs.Common.{◌≡◌, ◌++◌, false}
use Rattle.chunked.proofs.sorted.Sorted.copy.Given as goal

abbrev pub invariant-loop-entry : goal.invariant-loop-entry
invariant-loop-entry g l = (l.map.entries ++ l.entry-iterator ≡ l.self.entries) × (l.map.ready ≡ false)
