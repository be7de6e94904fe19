use Rattle.std.proofs.Common.{◌≡◌, None}
use Rattle.core_threads.specs.Watchers.{receipts_of}
use Rattle.core_threads.specs.Runs.{CoreRan}
use Rattle.core_threads.proofs.turning.run_core.Given as goal

abbrev pub invariant-loop : goal.invariant-loop
invariant-loop g l = CoreRan g.L.Links.same l.initial.core l.core × (l.initial.core.stopped ≡ None → l.core.stopped ≡ None)
    × (l.initial.notes.told.items ≡ receipts_of l.initial.core.history → l.notes.told.items ≡ receipts_of l.core.history)
