-- What a caller in C is answered of an assembler text.
use Rattle.std.specs.Prelude.{ℕ, List, length, nat_le, if◌then◌else◌}
use Rattle.bpf_insn.specs.declared.insn.Insn.{Insn}
use Rattle.filter_asm.specs.declared.fault.AsmFaultKind.{AsmFaultKind}
use Rattle.filter_asm.specs.declared.fault.AsmFaultKind.TheVariants as kind
use Rattle.filter_asm.specs.Program.{Fault}
use Rattle.mkdemux_c.specs.declared.answers.TheConstants.{DONE, NO_ROOM, NO_MEMORY}
use Rattle.mkdemux_c.specs.declared.assembling.Assembly.{Assembly}

-- the number of a fault
abbrev pub number_of : AsmFaultKind → ℕ
number_of kind.Mnemonic = 1
number_of kind.Operand = 2
number_of kind.Number = 3
number_of kind.NoLabel = 4
number_of kind.TwiceLabel = 5
number_of kind.Backward = 6
number_of kind.TooFar = 7
number_of kind.TooLong = 8
number_of kind.NoMemory = NO_MEMORY

-- the text stands for this program, and the caller has room for so many instructions
abbrev pub assembly_of : List Insn → ℕ → Assembly
assembly_of program room = record { count = length program; fault = if nat_le (length program) room then DONE else NO_ROOM; line = 0 }

-- the text has this fault
abbrev pub unassembled_for : Fault → Assembly
unassembled_for fault = record { count = 0; fault = number_of fault.kind; line = fault.line }
