use Rattle.core_machine.proofs.Doing.{turned_rightly}
use Rattle.core_machine.proofs.Tasks.{turned}
use Rattle.core_machine.proofs.Running.{turned_running}
use Rattle.core_machine.proofs.driving.do_task.Goals as goal

pub returns-in-Turn-clause-drives : goal.returns-in-Turn-clause-drives
returns-in-Turn-clause-drives c =
    let e = c.turn.ensures in
    rw c.in-Turn.is (turned c.args.core.now.number c.in-Turn.rx c.turn.result c.args.core.now c.turn.new.self e.core e.requests e.did e.decision e.other)

pub returns-in-Turn-clause-right : goal.returns-in-Turn-clause-right
returns-in-Turn-clause-right c =
    let e = c.turn.ensures in
    rw c.in-Turn.is (turned_rightly c.in-Turn.rx c.turn.result c.args.core.now c.turn.new.self e.did e.stopped e.spent e.lacks e.idle_message e.idle e.idle_job)

pub returns-in-Turn-clause-running : goal.returns-in-Turn-clause-running
returns-in-Turn-clause-running c = turned_running c.turn.result c.args.core.now c.turn.new.self c.turn.ensures.stopped c.turn.ensures.running
