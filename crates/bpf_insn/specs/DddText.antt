-- The decimal text of a program as `tcpdump -ddd` writes it (tcpdump(1)): the number of instructions, then the four
-- numbers of each, on lines of their own.
use Rattle.std.specs.Prelude.{ℕ, List, [], ◌∷◌, ◌++◌, length}
use Rattle.std.specs.List.{flat_map}
use Rattle.std.specs.Fmt.{decimal}
use Rattle.bpf_insn.specs.declared.insn.Insn.{Insn}

-- code, jt, jf and k, with a space between, and a line feed
abbrev pub insn_line : Insn → List ℕ
insn_line i = decimal i.code ++ 32 ∷ decimal i.jt ++ 32 ∷ decimal i.jf ++ 32 ∷ decimal i.k ++ 10 ∷ []

-- a program's text
abbrev pub ddd_text : List Insn → List ℕ
ddd_text program = decimal (length program) ++ 10 ∷ flat_map insn_line program
