use Rattle.std.proofs.Common.{arith}
use Rattle.hex.proofs.HexLemmas.{decode_of-ok}
use Rattle.mk_script.proofs.drafts.hex_bytes.Goals as goal

pub returns-in-Ok-clause-short : goal.returns-in-Ok-clause-short
returns-in-Ok-clause-short c = omega (arith, (decode_of-ok c.args.word.now c.in-Ok.bytes.items c.in-Ok.ensures.ok).2, c.in-Ok.bytes.ok.0)
