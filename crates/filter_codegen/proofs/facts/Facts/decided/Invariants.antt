use Rattle.std.proofs.Common.{true, ◌≡◌, ◌-◌}
use Rattle.bpf_insn.specs.Machine.{Packet}
use Rattle.filter_codegen.specs.Known.{known}
use Rattle.filter_codegen.proofs.facts.Facts.decided.Given as goal

abbrev pub invariant-facts : goal.invariant-facts
invariant-facts l = (packet : Packet) → known packet l.self l.place ≡ true → known packet l.self l.at ≡ true

abbrev pub decreases-facts : goal.decreases-facts
decreases-facts l = 256 - l.hops
