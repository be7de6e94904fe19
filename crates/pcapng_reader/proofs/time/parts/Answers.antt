use Rattle.std.proofs.Common.{arith}
use Rattle.pcapng_reader.proofs.TimeLemmas.{two_fits, ten_fits, parts_many}
use Rattle.pcapng_reader.proofs.time.parts.Goals as goal

pub pow-requires : goal.pow-requires
pow-requires c = two_fits _ (omega arith)

pub pow-requires-then-resolution-le-MOST_TENTHS : goal.pow-requires-then-resolution-le-MOST_TENTHS
pow-requires-then-resolution-le-MOST_TENTHS c = ten_fits _ (omega arith)

pub returns-else-resolution-le-MOST_TENTHS : goal.returns-else-resolution-le-MOST_TENTHS
returns-else-resolution-le-MOST_TENTHS c = parts_many c.args.resolution (omega arith) (omega arith)
