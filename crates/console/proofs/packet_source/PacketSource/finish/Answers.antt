use Rattle.console.proofs.SourceLemmas.{lines_finish, capture_finish}
use Rattle.console.specs.Programs.{programs_of}
use Rattle.console.proofs.packet_source.PacketSource.finish.Goals as goal

pub returns-in-Lines-clause-runs : goal.returns-in-Lines-clause-runs
returns-in-Lines-clause-runs c = lines_finish c.finish.result (programs_of c.args.filter.now) c.args.self.now c.in-Lines.lines c.finish.new.self _ _ c.in-Lines.is c.finish.ensures.runs

pub returns-in-Capture-clause-runs : goal.returns-in-Capture-clause-runs
returns-in-Capture-clause-runs c = capture_finish (programs_of c.args.filter.now) c.args.self.now c.in-Capture.field-0 _ c.in-Capture.is
