use Rattle.std.proofs.Common.{◌+◌, ◌*◌, vec_len}
use Rattle.expr_print.proofs.printer.Printer.+expr.Given as goal

abbrev pub decreases-term : goal.decreases-term
decreases-term l = 3 * l.depth

abbrev pub decreases-expr : goal.decreases-expr
decreases-expr l = 3 * l.depth + 2

abbrev pub decreases-chain : goal.decreases-chain
decreases-chain l = 3 * l.depth + 1

abbrev pub decreases-chain-terms : goal.decreases-chain-terms
decreases-chain-terms l = l.first

abbrev pub decreases-chain-rights : goal.decreases-chain-rights
decreases-chain-rights l = vec_len l.rights
