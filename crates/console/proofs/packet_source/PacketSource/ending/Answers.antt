use Rattle.std.proofs.Common.{arith}
use Rattle.console.proofs.StreamingLemmas.{ending_capture, lines_at_one, lines_done, lines_stopped, one_capture}
use Rattle.console.proofs.packet_source.PacketSource.ending.Goals as goal

pub returns-then-not-stopped-clause-ends : goal.returns-then-not-stopped-clause-ends
returns-then-not-stopped-clause-ends c = lines_done c.args.self.now c.in-Lines.lines c.args.stopped c.in-Lines.is c.if-not-stopped.true

pub returns-else-not-stopped-clause-ends : goal.returns-else-not-stopped-clause-ends
returns-else-not-stopped-clause-ends c =
    lines_stopped c.args.self.now c.in-Lines.lines c.args.stopped c.saturating_add.result c.at_line.result c.in-Lines.is c.if-not-stopped.false (λ fits. omega (arith, c.saturating_add.ensures, c.number.ensures)) (rw c.refused.ensures at c.at_line.ensures)

pub returns-else-not-stopped-clause-status : goal.returns-else-not-stopped-clause-status
returns-else-not-stopped-clause-status c =
    lines_at_one c.args.self.now c.in-Lines.lines c.args.stopped c.saturating_add.result c.at_line.result (rw c.refused.ensures at c.at_line.ensures)

pub returns-in-Capture-clause-ends : goal.returns-in-Capture-clause-ends
returns-in-Capture-clause-ends c = ending_capture c.ending.result c.args.self.now c.in-Capture.capture c.args.stopped c.in-Capture.is c.ending.ensures.ends

pub returns-in-Capture-clause-status : goal.returns-in-Capture-clause-status
returns-in-Capture-clause-status c = one_capture c.ending.result c.args.self.now c.in-Capture.capture c.args.stopped c.in-Capture.is c.ending.ensures.stopped
