use Rattle.std.specs.Option.{option_copied}
use Rattle.bpf_insn.specs.Parts.{parts_of}
use Rattle.bpf_insn.proofs.DddLemmas.{FirstSoFar}
use Rattle.bpf_insn.proofs.ddd.read_insns.Given as goal

abbrev pub invariant-loop-place : goal.invariant-loop-place
invariant-loop-place l = FirstSoFar (parts_of (option_copied l.rest)) (parts_of (option_copied l.left)) l.place l.program.items
