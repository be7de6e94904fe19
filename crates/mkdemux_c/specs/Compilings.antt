-- What a caller in C is answered of a filter expression.
use Rattle.std.specs.Prelude.{◌≡◌, ◌⊎◌, ℕ, ◌<◌, List, [], ◌++◌, length, nat_le, min, if◌then◌else◌, codes, unwrap_or, Option, Some, None, ⊤}
use Rattle.std.specs.Fmt.{decimal}
use Rattle.bpf_insn.specs.declared.insn.Insn.{Insn}
use Rattle.expr_words.specs.declared.fault.WordFaultKind.{WordFaultKind}
use Rattle.expr_words.specs.declared.fault.WordFaultKind.TheVariants as word
use Rattle.expr_tree.specs.Expr.{Expr}
use Rattle.expr_meaning.specs.declared.link.Link.{Link}
use Rattle.expr_meaning.specs.Links.{link_of}
use Rattle.expr_parse.specs.declared.fault.ExprFaultKind.{ExprFaultKind}
use Rattle.expr_parse.specs.declared.fault.ExprFaultKind.TheVariants as kind
use Rattle.expr_parse.specs.Parsing.{Spells}
use Rattle.filter_expr.specs.declared.fault.CompileFault.{CompileFault}
use Rattle.filter_expr.specs.declared.fault.CompileFault.TheVariants as fault
use Rattle.filter_expr.specs.Messages.{explained, place}
use Rattle.filter_expr.specs.Selects.{Compiles}
use Rattle.mkdemux_c.specs.declared.answers.TheConstants.{DONE, NO_ROOM, NO_MEMORY}
use Rattle.mkdemux_c.specs.declared.compiling.Compiled.{Compiled}

-- the number of a fault
abbrev pub word_number : WordFaultKind → ℕ
word_number word.Character = 1
word_number word.Octal = 2
word_number word.Large = 3
word_number word.Address = 4
word_number word.TooLong = 5
word_number word.NoMemory = NO_MEMORY

abbrev pub text_number : ExprFaultKind → ℕ
text_number (kind.Word k) = word_number k
text_number (kind.Refused r) = 6
text_number kind.Parenthesis = 7
text_number kind.Unexpected = 8
text_number kind.Ends = 9
text_number kind.Qualifier = 10
text_number kind.Address = 11
text_number kind.Name = 12
text_number kind.Mask = 13
text_number kind.Port = 14
text_number kind.Protocol = 15
text_number kind.Range = 16
text_number kind.Size = 17
text_number kind.Rank = 18
text_number kind.TooDeep = 19
text_number kind.NoMemory = NO_MEMORY

abbrev pub number_of : CompileFault → ℕ
number_of (fault.Text f) = text_number f.kind
number_of (fault.Layer column) = 20
number_of (fault.Moved column) = 21
number_of (fault.Zero column) = 22
number_of (fault.Shift column) = 23
number_of (fault.TooHard column) = 24
number_of fault.TooLong = 25
number_of fault.NoMemory = NO_MEMORY

-- one of the text itself
abbrev pub IsOfText : ℕ → Type 0
IsOfText number = (0 < number) × (number < 20)

-- a number in 32 bits
abbrev pub short : ℕ → ℕ
short number = min number 4294967295

-- the expression has this fault
abbrev pub refused_at : CompileFault → ℕ × ℕ → Compiled
refused_at f at = record { count = 0; fault = number_of f; column = short at.0; width = short at.1 }

abbrev pub refused_for : CompileFault → Compiled
refused_for f = refused_at f (unwrap_or (place f) (0, 0))

-- the expression has this program, and the caller has room for so many instructions
abbrev pub compiled_of : List Insn → ℕ → Compiled
compiled_of program room = record { count = length program; fault = if nat_le (length program) room then DONE else NO_ROOM; column = 0; width = 0 }

-- a fault that the text may have: one of the text itself is that of a text that is no expression
abbrev pub MayHave : List ℕ → CompileFault → Type 0
MayHave text (fault.Text f) = (expr : Expr) → Spells text expr → ⊥
MayHave text f = ⊤

-- what is wrong, in lines; nothing, where nothing is
abbrev pub Explains : List ℕ → ℕ → List ℕ → Type 0
Explains text link lines =
    ((known : Link) × (program : List Insn) × (link_of link ≡ Some known) × Compiles text known 1 program × (lines ≡ []))
    ⊎ (((link_of link ≡ None) × (lines ≡ codes "link type " ++ decimal link ++ codes " has no expressions here\n"))
    ⊎ ((f : CompileFault) × MayHave text f × (lines ≡ explained text f)))
