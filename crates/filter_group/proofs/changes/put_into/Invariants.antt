use Rattle.std.proofs.Common.{◌≡◌, Some, slice_get}
use Rattle.bpf_insn.specs.declared.insn.Insn.{Insn}
use Rattle.filter_group.specs.Changes.{IsMore}
use Rattle.filter_group.proofs.InTurn.{AreDone}
use Rattle.filter_group.proofs.changes.put_into.Given as goal

abbrev pub invariant-loop-n : goal.invariant-loop-n
invariant-loop-n l = AreDone (λ i old slot. (insn : Insn) → slice_get l.code old.place ≡ Some insn → IsMore old l.member insn.k slot) l.n l.initial.slots l.slots
