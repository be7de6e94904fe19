use Rattle.installed_filters.specs.Keeping.{AreKept, IsRaisedBefore}
use Rattle.installed_filters.proofs.gathering.keep_each.Given as goal

abbrev pub invariant-loop-raise : goal.invariant-loop-raise
invariant-loop-raise l = AreKept (IsRaisedBefore l.raises l.raise-index) l.captured l.kept.items
