use Rattle.core_threads.proofs.Turns.{rests_still}
use Rattle.core_threads.proofs.turning.run_core.Goals as goal

pub returns-then-waits-bounds-clause-stands : goal.returns-then-waits-bounds-clause-stands
returns-then-waits-bounds-clause-stands g c = λ was. rests_still g.L.Links.view c.take_noted_turn.new.core c.is_done.new.core c.is_done.ensures.core (c.in-Idle.ensures.stopped (c.loop.invariant.1 was))
