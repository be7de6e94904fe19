-- The lines of a script: statements of one line each, but that of `asm`, which goes on to a line `end`.
use Rattle.std.specs.Prelude.{ℕ, ◌+◌, ◌==◌, if◌then◌else◌, Bool, true, false, List, [], ◌∷◌, ◌++◌, codes, Option, Some, None}
use Rattle.std.specs.Str.{bytes_eq}
use Rattle.bpf_insn.specs.Texts.{words_of}
use Rattle.filter_asm.specs.Program.{text_lines}

-- a statement: the number of its line, from 1, the line, and where it is that of `asm`, the lines between it and `end`,
-- each with its LF
pub record Statement : Type 0 where
  pub number : ℕ
  pub line : List ℕ
  pub block : Option (List ℕ)

-- whether the bytes begin with `#`
abbrev pub is_mark : List ℕ → Bool
is_mark [] = false
is_mark (first ∷ more) = first == 35

-- lines without words, and those whose first word begins with `#`, are skipped
abbrev pub is_skipped : List (List ℕ) → Bool
is_skipped [] = true
is_skipped (word ∷ words) = is_mark word

abbrev pub opens_block : List (List ℕ) → Bool
opens_block [] = false
opens_block (word ∷ words) = bytes_eq word (codes "asm")

-- `end`, alone on its line
abbrev pub is_end : List (List ℕ) → Bool
is_end [] = false
is_end (word ∷ []) = bytes_eq word (codes "end")
is_end (word ∷ next ∷ words) = false

-- an `asm` line, and the lines after it so far
pub record Opened : Type 0 where
  pub number : ℕ
  pub line : List ℕ
  pub block : List ℕ

abbrev pub opened : ℕ → List ℕ → Opened
opened number line = record { number = number; line = line; block = [] }

-- one more line
abbrev pub longer : Opened → List ℕ → Opened
longer o line = record o { block = o.block ++ line ++ 10 ∷ [] }

abbrev pub ended : Opened → Statement
ended o = record { number = o.number; line = o.line; block = Some o.block }

abbrev pub unended : Opened → Statement
unended o = record { number = o.number; line = o.line; block = None }

abbrev pub plain : ℕ → List ℕ → Statement
plain number line = record { number = number; line = line; block = None }

-- the statements of lines, the first of which has this number and may stand after an `asm` line
abbrev pub statements_from : ℕ → Option Opened → List (List ℕ) → List Statement
statements_from number None [] = []
statements_from number (Some o) [] = unended o ∷ []
statements_from number None (line ∷ lines) =
    if is_skipped (words_of line) then statements_from (number + 1) None lines
    else if opens_block (words_of line) then statements_from (number + 1) (Some (opened number line)) lines
    else plain number line ∷ statements_from (number + 1) None lines
statements_from number (Some o) (line ∷ lines) =
    if is_end (words_of line) then ended o ∷ statements_from (number + 1) None lines
    else statements_from (number + 1) (Some (longer o line)) lines

abbrev pub statements : List ℕ → List Statement
statements text = statements_from 1 None (text_lines text)
