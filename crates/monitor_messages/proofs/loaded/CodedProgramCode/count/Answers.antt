use Rattle.std.proofs.Common.{sym}
use Rattle.monitor_messages.proofs.CodedPrograms.{insns_count}
use Rattle.monitor_messages.proofs.loaded.CodedProgramCode.count.Goals as goal

pub returns : goal.returns
returns c = sym (insns_count c.args.self.bytes.now)
