use Rattle.monitor_messages.proofs.CodedPrograms.{reads_none, reads_program}
use Rattle.monitor_messages.proofs.reading.insns_in_place.Goals as goal

pub returns-then-bytes-count : goal.returns-then-bytes-count
returns-then-bytes-count c = reads_none c.args.count c.args.bytes.now c.if-bytes-count.true

pub returns : goal.returns
returns c = reads_program c.args.count c.args.bytes.now c.if-bytes-count.false
