-- What a program says of packets.
use Rattle.std.specs.Prelude.{ℕ, ◌+◌, ◌*◌, ◌<◌, List}
use Rattle.bpf_insn.specs.declared.insn.Insn.{Insn}
use Rattle.bpf_insn.specs.declared.insn.TheConstants.{MAX_INSNS}
use Rattle.bpf_insn.specs.Machine.{Packet}
use Rattle.filter_vm.specs.Standing.{EndsWith}
use Rattle.filter_cond.specs.declared.cond.Cond.{Cond}
use Rattle.filter_cond.specs.Means.{means, tests}
use Rattle.filter_codegen.specs.declared.fault.CompileFault.{CompileFault}
use Rattle.filter_codegen.specs.declared.fault.CompileFault.TheVariants.{TooLong, TooHard, NoMemory}
use Rattle.filter_codegen.specs.Built.{HasComparison}
use Rattle.filter_codegen.specs.Graphs.{answer}

-- each run of the program ends, with this verdict where the condition is true of the packet, and with 0 where it is false or has no value
abbrev pub Decides : Cond → ℕ → List Insn → Type 0
Decides cond accept program = (packet : Packet) → EndsWith program packet (answer (means cond packet) accept 0)

-- why a condition has no program: six instructions for each test are enough
abbrev pub RefusesCond : Cond → CompileFault → Type 0
RefusesCond cond TooLong = MAX_INSNS < 6 * tests cond.parts.items + 3
RefusesCond cond TooHard = HasComparison cond.parts.items
RefusesCond cond NoMemory = Unit {0}
