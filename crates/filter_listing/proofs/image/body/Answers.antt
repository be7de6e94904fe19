use Rattle.std.proofs.Common.{◌<◌, refl, arith}
use Rattle.filter_listing.proofs.PrintedLemmas.{row_low}
use Rattle.filter_listing.proofs.image.body.Goals as goal

pub returns-clause-is : goal.returns-clause-is
returns-clause-is c = λ insn is. c.loop-code.invariant insn.code (omega (arith, row_low insn.code (is.mnemonic, is.operand) is.row)) insn refl is
