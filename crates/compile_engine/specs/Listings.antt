-- The texts of a program.
use Rattle.std.specs.Prelude.{ℕ, List, ◌++◌, codes, false, None}
use Rattle.std.specs.List.{flat_map}
use Rattle.std.specs.Fmt.{decimal, digits}
use Rattle.std.specs.Int.{to_be_bytes, w32}
use Rattle.hex.specs.Hex.{encode_lower}
use Rattle.bpf_insn.specs.declared.insn.Insn.{Insn}
use Rattle.bpf_insn.specs.DddText.{ddd_text}
use Rattle.bpf_insn.specs.AsmText.{asm_text}
use Rattle.graph_engine.specs.Graph.{graph_text}
use Rattle.compile_engine.specs.declared.listing.Listing.{Listing}
use Rattle.compile_engine.specs.declared.listing.Listing.TheVariants.{Decimal, Assembler, Array, Graph}

-- an element of an array of C, as `tcpdump -dd` prints it (libpcap, bpf_dump): code and constant in hexadecimal digits, all eight of the constant
abbrev pub array_line : Insn → List ℕ
array_line i =
    codes "{ 0x" ++ digits 16 false i.code ++ codes ", " ++ decimal i.jt ++ codes ", " ++ decimal i.jf
    ++ codes ", 0x" ++ encode_lower (to_be_bytes w32 i.k) ++ codes " },\n"

abbrev pub array_text : List Insn → List ℕ
array_text program = flat_map array_line program

abbrev pub listed : Listing → List Insn → List ℕ
listed Decimal program = ddd_text program
listed Assembler program = asm_text program
listed Array program = array_text program
listed Graph program = graph_text program None
