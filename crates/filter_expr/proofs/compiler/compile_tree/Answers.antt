use Rattle.std.proofs.Common.{subst}
use Rattle.bpf_insn.specs.Machine.{Packet}
use Rattle.filter_vm.specs.Standing.{EndsWith}
use Rattle.filter_codegen.specs.Graphs.{answer}
use Rattle.filter_expr.proofs.compiler.compile_tree.Goals as goal

pub returns-in-Ok-clause-selects : goal.returns-in-Ok-clause-selects
returns-in-Ok-clause-selects c = λ packet. subst (λ said. EndsWith c.in-Ok.program packet (answer said c.args.accept 0)) (c.in_ok-cond.ensures.means packet) (c.in-Ok.ensures.decides packet)
