use Rattle.std.proofs.Common.{◌+◌, ◌*◌, vec_len}
use Rattle.expr_print.proofs.printer.Printer.+calc.Given as goal

abbrev pub decreases-factor : goal.decreases-factor
decreases-factor l = 3 * l.depth

abbrev pub decreases-calc : goal.decreases-calc
decreases-calc l = 3 * l.depth + 2

abbrev pub decreases-operation : goal.decreases-operation
decreases-operation l = 3 * l.depth + 1

abbrev pub decreases-operation-operands : goal.decreases-operation-operands
decreases-operation-operands l = l.first

abbrev pub decreases-operation-rights : goal.decreases-operation-rights
decreases-operation-rights l = vec_len l.rights
