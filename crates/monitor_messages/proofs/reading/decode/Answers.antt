use Rattle.std.proofs.Common.{arith}
use Rattle.monitor_messages.specs.Carrying.{CarriesProgram}
use Rattle.monitor_messages.proofs.Messages.{is_found, is_only, is_asked}
use Rattle.monitor_messages.proofs.reading.decode.Goals as goal

pub returns-clause-found : goal.returns-clause-found
returns-clause-found c = is_found (CarriesProgram c.args.bytes.now) (λ found. found) c.args.bytes.now c.message_in.result (λ i. omega (arith, c.type_inv.bytes i)) c.message_in.ensures

pub returns-clause-only : goal.returns-clause-only
returns-clause-only c = λ stamp message coded. is_only (CarriesProgram c.args.bytes.now) c.args.bytes.now c.message_in.result c.message_in.ensures stamp message coded

pub returns-clause-memory : goal.returns-clause-memory
returns-clause-memory c = is_asked (CarriesProgram c.args.bytes.now) c.args.bytes.now c.message_in.result c.message_in.ensures
