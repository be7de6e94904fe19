use Rattle.std.proofs.Common.{Ok, Err, rules}
use Rattle.pcapng_reader.proofs.LawLemmas.{gives_only, has_reading, one_reading}
use Rattle.pcapng_reader.proofs.reading.read_blocks.Goals as goal

pub returns-in-Ok-clause-only : goal.returns-in-Ok-clause-only
returns-in-Ok-clause-only c = gives_only c.args.bytes.now (Ok c.from_vec.result) (search rules)

pub returns-in-Ok-clause-one : goal.returns-in-Ok-clause-one
returns-in-Ok-clause-one c = one_reading c.args.bytes.now

pub returns-clause-only : goal.returns-clause-only
returns-clause-only c = gives_only c.args.bytes.now (Err (record { before = c.from_vec-in-Err.result; fault = c.in-Err.fault })) (search rules)

pub returns-clause-readable : goal.returns-clause-readable
returns-clause-readable c = has_reading c.args.bytes.now

pub returns-clause-one : goal.returns-clause-one
returns-clause-one c = one_reading c.args.bytes.now
