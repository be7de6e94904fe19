use Rattle.std.proofs.Common.{ℕ, ◌<◌}
use Rattle.bpf_insn.specs.AsmText.{PrintsAt}
use Rattle.bpf_insn.proofs.printing.printable.Given as goal

abbrev pub invariant-loop-place : goal.invariant-loop-place
invariant-loop-place l = (pc : ℕ) → pc < l.place → PrintsAt l.program pc
