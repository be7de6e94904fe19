-- Scripts, as docs/formats.md has them.
use Rattle.std.specs.Prelude.{ℕ, List, ◌∷◌, codes, replicate, Some}
use Rattle.mk_script.specs.Statements.{Statement}

-- a letter, and so many digits
abbrev pub a_name : ℕ → List ℕ
a_name more = 97 ∷ replicate more 48

abbrev pub lines_and_blanks : List ℕ
lines_and_blanks = codes " \n# a\nsettle\nshow 0"

abbrev pub asm_of_one_line : Statement
asm_of_one_line = record { number = 1; line = codes "asm a"; block = Some (codes "ret #0\n") }
