use Rattle.std.proofs.Common.{◌≡◌, Some, slice_get, arith}
use Rattle.core_steps.specs.Core0Steps.{StartsForCore}
use Rattle.world_core.proofs.Core0Moves.{core0_starts_for}
use Rattle.world_core.proofs.core0.LoggedCore0.begin_for.Goals as goal

pub returns-clause-starts : goal.returns-clause-starts
returns-clause-starts c = λ entry is_core.
    let w = c.in-Some.ensures.some in
    let same : w.0 ≡ entry = omega (arith, w.1, is_core) in
    let waits : slice_get c.args.self.now.core.coordinator.requests.waiting entry ≡ Some (Some c.of-op.result.value) = rw (c.of-op.ensures, ← same) w.2 in
    let starts : StartsForCore c.args.self.now.core entry c.note.new.self.core c.begin_for-told.result = rw c.note.ensures.core (c.begin_for-told.ensures.starts entry is_core) in
    core0_starts_for c.args.self.now c.note.new.self entry c.of-op.result.value c.begin_for-told.result c.requires.idle starts waits c.note.ensures.log c.note.ensures.begun

pub returns-clause-sends : goal.returns-clause-sends
returns-clause-sends c = λ entry op waits. rw c.note.ensures.core (c.begin_for-told.ensures.sends entry op waits)
