use Rattle.headline.proofs.Waking.{Waked}
use Rattle.headline.proofs.serving.wake.Given as goal

abbrev pub invariant-loop-peer : goal.invariant-loop-peer
invariant-loop-peer l = Waked l.core l.peer l.named_by l.initial.awake l.awake
