use Rattle.std.proofs.Common.{ℕ, ◌<◌}
use Rattle.bpf_insn.specs.AsmText.{PrintsAt}
use Rattle.console.proofs.checking.first_unprinted.Given as goal

abbrev pub invariant-loop-pc : goal.invariant-loop-pc
invariant-loop-pc l = (earlier : ℕ) → earlier < l.pc → PrintsAt l.program earlier
