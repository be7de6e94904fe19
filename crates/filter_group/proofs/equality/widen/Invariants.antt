use Rattle.std.proofs.Common.{◌≡◌, Some, slice_get}
use Rattle.bpf_insn.specs.declared.insn.Insn.{Insn}
use Rattle.filter_group.specs.Equalities.{IsWider}
use Rattle.filter_group.proofs.InTurn.{AreDone}
use Rattle.filter_group.proofs.equality.widen.Given as goal

abbrev pub invariant-loop-pc : goal.invariant-loop-pc
invariant-loop-pc l = AreDone (λ pc old equality. (insn : Insn) → slice_get l.code pc ≡ Some insn → IsWider old insn.k equality) l.pc l.initial.equalities l.equalities
