use Rattle.std.proofs.Common.{◌≡◌, ◌<◌, ℕ, false}
use Rattle.headline.specs.Waking.{awake_of}
use Rattle.headline.proofs.serving.first_awake.Given as goal

abbrev pub invariant-loop-core : goal.invariant-loop-core
invariant-loop-core l = (i : ℕ) → i < l.core → awake_of l.awake i ≡ false
