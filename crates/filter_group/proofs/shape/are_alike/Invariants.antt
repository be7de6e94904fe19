use Rattle.std.proofs.Common.{◌≡◌, ◌<◌, ℕ, Some, slice_get}
use Rattle.bpf_insn.specs.declared.insn.Insn.{Insn}
use Rattle.filter_group.proofs.shape.are_alike.Given as goal

abbrev pub invariant-loop-place : goal.invariant-loop-place
invariant-loop-place l = (pc : ℕ) (a b : Insn) → pc < l.place → slice_get l.code pc ≡ Some a → slice_get l.other pc ≡ Some b → (a.code ≡ b.code) × (a.jt ≡ b.jt) × (a.jf ≡ b.jf)
