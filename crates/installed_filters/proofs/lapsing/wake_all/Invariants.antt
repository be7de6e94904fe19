use Rattle.std.proofs.Common.{drop}
use Rattle.installed_filters.specs.Lapsing.{AreRestingOr}
use Rattle.installed_filters.proofs.lapsing.wake_all.Given as goal

abbrev pub invariant-loop-entry : goal.invariant-loop-entry
invariant-loop-entry l = AreRestingOr l.slots.slots (drop l.entry-index l.lapsing) l.resting
