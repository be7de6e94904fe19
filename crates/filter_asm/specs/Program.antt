-- What an assembler text stands for, and its first fault (Linux Documentation/networking/filter; after tools/bpf/bpf_exp.y,
-- but with one instruction on a line at most, and with no jump backward).
use Rattle.std.specs.Prelude.{◌≡◌, ℕ, ◌+◌, ◌-◌, Bool, false, ◌&&◌, ◌||◌, nat_lt, nat_le, ◌==◌, if◌then◌else◌, List, [], ◌∷◌, ◌++◌, length, map, codes, Option, Some, None, Result, Ok, Err}
use Rattle.std.specs.Option.{option_to_list, ok_or}
use Rattle.std.specs.List.{slice_split, list_any, flat_map}
use Rattle.std.specs.Map.{lookup}
use Rattle.std.specs.Str.{bytes_eq}
use Rattle.bpf_insn.specs.declared.insn.TheConstants.{MAX_INSNS}
use Rattle.bpf_insn.specs.declared.insn.Insn.{Insn}
use Rattle.filter_asm.specs.declared.fault.AsmFaultKind.{AsmFaultKind}
use Rattle.filter_asm.specs.declared.fault.AsmFaultKind.TheVariants as kind
use Rattle.filter_asm.specs.Token.{Tokens, without_comment, is_name}
use Rattle.filter_asm.specs.Number.{number}
use Rattle.filter_asm.specs.Operands.{Numeral}
use Rattle.filter_asm.specs.Mnemonics.{mnemonic_of, first_fit}

-- a line: its labels, and the tokens after them
pub record Line : Type 0 where
  pub labels : List (List ℕ)
  pub body : List (List ℕ)

-- a name and `:`
abbrev pub is_label : List ℕ → List ℕ → Bool
is_label name colon = is_name name && bytes_eq colon (codes ":")

-- the labels at the front of the tokens
abbrev pub labels_of : List (List ℕ) → List (List ℕ)
labels_of [] = []
labels_of (token ∷ []) = []
labels_of (token ∷ next ∷ tokens) = if is_label token next then token ∷ labels_of tokens else []

-- the tokens after the labels
abbrev pub body_of : List (List ℕ) → List (List ℕ)
body_of [] = []
body_of (token ∷ []) = token ∷ []
body_of (token ∷ next ∷ tokens) = if is_label token next then body_of tokens else token ∷ next ∷ tokens

abbrev pub line_of : List (List ℕ) → Line
line_of tokens = record { labels = labels_of tokens; body = body_of tokens }

-- the bytes of a line spell it
abbrev pub Spells : List ℕ → Line → Type 0
Spells bytes line = (tokens : List (List ℕ)) × Tokens tokens (without_comment bytes) × (line ≡ line_of tokens)

-- each of the lines is spelled by its bytes
abbrev pub SpellsAll : List (List ℕ) → List Line → Type 0
SpellsAll [] [] = Unit {0}
SpellsAll [] (line ∷ lines) = ⊥
SpellsAll (bytes ∷ more) [] = ⊥
SpellsAll (bytes ∷ more) (line ∷ lines) = Spells bytes line × SpellsAll more lines

-- no line stands after the last LF
abbrev pub ended : List (List ℕ) → List (List ℕ)
ended [] = []
ended (last ∷ []) = if length last == 0 then [] else last ∷ []
ended (line ∷ next ∷ lines) = line ∷ ended (next ∷ lines)

-- the lines of a text: they end at LF or at the end of the text
abbrev pub text_lines : List ℕ → List (List ℕ)
text_lines text = ended (slice_split (λ b. b == 10) text)

-- the first fault of a text, and its line
pub record Fault : Type 0 where
  pub line : ℕ
  pub kind : AsmFaultKind

-- an instruction whose labels have no places yet
pub record Draft : Type 0 where
  pub line : ℕ
  pub code : ℕ
  pub k : ℕ
  pub first : Option (List ℕ)
  pub second : Option (List ℕ)
  pub exchanged : Bool

infixl 10 ◌>>=◌
abbrev pub ◌>>=◌ : {A B E : Type 0} → Result A E → (A → Result B E) → Result B E
(Ok x) >>= f = f x
(Err e) >>= f = Err e

-- a fault of this line
abbrev pub on_line : {A : Type 0} → ℕ → Result A AsmFaultKind → Result A Fault
on_line line (Ok x) = Ok x
on_line line (Err kind) = Err (record { line = line; kind = kind })

-- the value of the number of an operand, or 0 where it has none
abbrev pub value_of : Option Numeral → Result ℕ AsmFaultKind
value_of None = Ok 0
value_of (Some n) = ok_or (number n.negative n.digits) kind.Number

-- a place for one more instruction after `count` others
abbrev pub room_behind : ℕ → Result ℕ AsmFaultKind
room_behind count = if nat_lt count MAX_INSNS then Ok count else Err kind.TooLong

-- the instruction of a mnemonic and its operands, after `count` others
unfoldable pub instruction : ℕ → ℕ → List ℕ → List (List ℕ) → Result Draft AsmFaultKind
instruction line count word operands = do
  mnemonic ← ok_or (mnemonic_of word) kind.Mnemonic
  room ← room_behind count
  fit ← ok_or (first_fit mnemonic.shapes operands) kind.Operand
  k ← value_of fit.1.number
  Ok (record { line = line; code = fit.0; k = k; first = fit.1.first; second = fit.1.second; exchanged = mnemonic.exchanged })

-- the instruction of a line, where it has one
abbrev pub instruction_of : ℕ → ℕ → List (List ℕ) → Result (Option Draft) AsmFaultKind
instruction_of line count [] = Ok None
instruction_of line count (word ∷ operands) = instruction line count word operands >>= λ draft. Ok (Some draft)

-- how many instructions a body has
abbrev pub instructions_in : List (List ℕ) → ℕ
instructions_in [] = 0
instructions_in (word ∷ operands) = 1

-- how many instructions the lines have
abbrev pub instructions : List Line → ℕ
instructions [] = 0
instructions (line ∷ lines) = instructions_in line.body + instructions lines

-- the labels that the lines define, each with its place: that of the next instruction
abbrev pub definitions_from : ℕ → List Line → List (List ℕ × ℕ)
definitions_from place [] = []
definitions_from place (line ∷ lines) = map (λ name. (name, place)) line.labels ++ definitions_from (place + instructions_in line.body) lines

abbrev pub definitions : List Line → List (List ℕ × ℕ)
definitions lines = definitions_from 0 lines

-- the place of a label
abbrev pub place_of : List (List ℕ × ℕ) → List ℕ → Option ℕ
place_of places name = lookup (λ other. bytes_eq name other) places

-- whether a label is defined a second time
abbrev pub repeats : List (List ℕ) → List (List ℕ) → Bool
repeats before [] = false
repeats before (name ∷ names) = list_any (λ other. bytes_eq name other) before || repeats (before ++ name ∷ []) names

-- what a line gives after others that have no fault
abbrev pub line_gives : List Line → Line → Result (Option Draft) AsmFaultKind
line_gives before line =
    if repeats (flat_map (λ l. l.labels) before) line.labels then Err kind.TwiceLabel
    else instruction_of (length before + 1) (instructions before) line.body

-- the instructions of the lines after others, or the first line's fault
abbrev pub drafts_from : List Line → List Line → Result (List Draft) Fault
drafts_from before [] = Ok []
drafts_from before (line ∷ lines) = do
  draft ← on_line (length before + 1) (line_gives before line)
  drafts ← drafts_from (before ++ line ∷ []) lines
  Ok (option_to_list draft ++ drafts)

abbrev pub drafts_of : List Line → Result (List Draft) Fault
drafts_of lines = drafts_from [] lines

-- how many instructions a jump at a place passes over to get to its target
abbrev pub reach : ℕ → Option ℕ → Result ℕ AsmFaultKind
reach place None = Err kind.NoLabel
reach place (Some target) = if nat_le target place then Err kind.Backward else Ok (target - (place + 1))

-- the same for a conditional jump, which passes over 255 at most
abbrev pub short_reach : ℕ → Option ℕ → Result ℕ AsmFaultKind
short_reach place target = reach place target >>= λ over. if nat_le over 255 then Ok over else Err kind.TooFar

-- where a test goes when it fails: to its second label, or to the next instruction where it has none
abbrev pub second_reach : List (List ℕ × ℕ) → ℕ → Option (List ℕ) → Result ℕ AsmFaultKind
second_reach places place None = Ok 0
second_reach places place (Some name) = short_reach place (place_of places name)

-- an instruction at its place, once its labels have theirs: the labels are looked at as they are written
abbrev pub linked_to : List (List ℕ × ℕ) → ℕ → Draft → Option (List ℕ) → Result Insn AsmFaultKind
linked_to places place draft None = Ok (record { code = draft.code; jt = 0; jf = 0; k = draft.k })
linked_to places place draft (Some name) =
    if draft.code == 0x05
    then (reach place (place_of places name) >>= λ over. Ok (record { code = draft.code; jt = 0; jf = 0; k = over }))
    else (do
      first ← short_reach place (place_of places name)
      second ← second_reach places place draft.second
      Ok (record { code = draft.code; jt = if draft.exchanged then second else first; jf = if draft.exchanged then first else second; k = draft.k }))

abbrev pub linked : List (List ℕ × ℕ) → ℕ → Draft → Result Insn AsmFaultKind
linked places place draft = linked_to places place draft draft.first

-- the instructions from a place on
abbrev pub links : List (List ℕ × ℕ) → ℕ → List Draft → Result (List Insn) Fault
links places place [] = Ok []
links places place (draft ∷ drafts) = do
  insn ← on_line draft.line (linked places place draft)
  insns ← links places (place + 1) drafts
  Ok (insn ∷ insns)

-- what lines stand for: first each line is read, then each label gets its place
abbrev pub assembled : List Line → Result (List Insn) Fault
assembled lines = drafts_of lines >>= λ drafts. links (definitions lines) 0 drafts

-- what a text stands for: a program, or its first fault
abbrev pub Assembles : List ℕ → Result (List Insn) Fault → Type 0
Assembles text outcome = (lines : List Line) × SpellsAll (text_lines text) lines × (outcome ≡ assembled lines)

-- the text spells the program
abbrev pub Asm : List ℕ → List Insn → Type 0
Asm text program = Assembles text (Ok program)
