-- What a caller in C is answered of a decimal text.
use Rattle.std.specs.Prelude.{ℕ, List, length, nat_le, if◌then◌else◌}
use Rattle.bpf_insn.specs.declared.insn.Insn.{Insn}
use Rattle.bpf_insn.specs.declared.ddd.TextFault.{TextFault}
use Rattle.bpf_insn.specs.declared.ddd.TextFault.TheVariants.{BadNumber, CountMismatch, TooLong, NoMemory}
use Rattle.mkdemux_c.specs.declared.answers.TheConstants.{DONE, NO_ROOM, NO_MEMORY}
use Rattle.mkdemux_c.specs.declared.reading.Reading.{Reading}

-- the text spells this program, and the caller has room for so many instructions
abbrev pub reading_of : List Insn → ℕ → Reading
reading_of program room = record { count = length program; fault = if nat_le (length program) room then DONE else NO_ROOM; piece = 0 }

-- the text has this fault
abbrev pub unread_for : TextFault → Reading
unread_for (BadNumber piece) = record { count = 0; fault = 1; piece = piece }
unread_for CountMismatch = record { count = 0; fault = 2; piece = 0 }
unread_for TooLong = record { count = 0; fault = 3; piece = 0 }
unread_for NoMemory = record { count = 0; fault = NO_MEMORY; piece = 0 }
