-- What contracts see of the pieces of a script's text. No public clause cites these.
use Rattle.std.specs.Prelude.{◌≡◌, ℕ, ◌+◌, ◌≤◌, if◌then◌else◌, List, [], ◌∷◌, ◌++◌, length, ◌<◌, ◌^◌, IfSome, Option, Some, None}
use Rattle.std.specs.Option.{option_copied}
use Rattle.bpf_insn.specs.Texts.{words_of}
use Rattle.filter_asm.specs.Program.{text_lines}
use Rattle.mk_script.specs.declared.lines.Block.{Block}
use Rattle.mk_script.specs.declared.lines.Piece.{Piece}
use Rattle.mk_script.specs.Statements.{Statement, Opened, opened, ended, unended, is_skipped, statements_from}
use Rattle.line_words.specs.Words.{texts}

-- an `asm` line with this block so far
abbrev pub grown : ℕ → List ℕ → List ℕ → Opened
grown number line block = record { number = number; line = line; block = block }

-- the statements of a text after an `asm` line, where the block ends and where it doesn't
abbrev pub StatementsBehind : List ℕ → Option Block → ℕ → ℕ → List ℕ → Type 0
StatementsBehind text None n number line = statements_from n (Some (opened number line)) (text_lines text) ≡ unended (opened number line) ∷ []
StatementsBehind text (Some block) n number line =
    statements_from n (Some (opened number line)) (text_lines text) ≡ ended (grown number line block.text.now) ∷ statements_from (n + block.lines) None (text_lines block.rest.now)

abbrev pub IsWithin : List ℕ → Option Block → Type 0
IsWithin text None = Unit {0}
IsWithin text (Some block) = (block.lines + length block.rest.now ≤ length text) × (length block.text.now ≤ length text)

abbrev pub BlockIs : List ℕ → Option Block → Type 0
BlockIs text found = IsWithin text found × ((n number : ℕ) (line : List ℕ) → StatementsBehind text found n number line)

-- the statement of a piece that begins at this line
abbrev pub statement_of : ℕ → Piece → Statement
statement_of number p = record { number = number; line = p.line.now; block = option_copied p.block }

abbrev pub own_statements : ℕ → Piece → List Statement
own_statements number p = if is_skipped (texts p.words.items) then [] else statement_of number p ∷ []

-- the piece stands at the front of the text
pub record PieceIs (text : List ℕ) (p : Piece) : Type 0 where
  pub words : texts p.words.items ≡ words_of p.line.now
  pub some : 1 ≤ p.lines
  pub within : p.lines + length p.rest.now ≤ length text
  pub line_short : length p.line.now ≤ length text
  pub block_short : IfSome p.block (λ b. length b.now ≤ length text)
  pub statements : (n : ℕ) → statements_from n None (text_lines text) ≡ own_statements n p ++ statements_from (n + p.lines) None (text_lines p.rest.now)

-- a piece's block, where it has one, is short enough for the assembler
abbrev pub BlockShort : Piece → Type 0
BlockShort p = IfSome p.block (λ b. length b.now < 2 ^ 32)
