-- Faults as lines for people.
use Rattle.std.specs.Prelude.{ℕ, ◌-◌, ◌&&◌, nat_le, max, min, if◌then◌else◌, List, ◌++◌, length, map, replicate, codes, Option, Some, None}
use Rattle.std.specs.Fmt.{decimal}
use Rattle.expr_words.specs.declared.word.Refusal.{Refusal}
use Rattle.expr_words.specs.declared.word.Refusal.TheVariants as refusal
use Rattle.expr_words.specs.declared.fault.WordFaultKind.{WordFaultKind}
use Rattle.expr_words.specs.declared.fault.WordFaultKind.TheVariants as word
use Rattle.expr_parse.specs.declared.fault.ExprFaultKind.{ExprFaultKind}
use Rattle.expr_parse.specs.declared.fault.ExprFaultKind.TheVariants as kind
use Rattle.filter_expr.specs.declared.fault.CompileFault.{CompileFault}
use Rattle.filter_expr.specs.declared.fault.CompileFault.TheVariants as fault

abbrev pub word_words : WordFaultKind → List ℕ
word_words word.Character = codes "no word begins so"
word_words word.Octal = codes "a number that begins with 0 is octal, and has no 8 or 9: leave the 0 out"
word_words word.Large = codes "a number is at most 4294967295"
word_words word.Address = codes "no IPv4 address: each part is a number up to 255"
word_words word.TooLong = codes "more than 8192 words"
word_words word.NoMemory = codes "out of memory"

abbrev pub refusal_words : Refusal → List ℕ
refusal_words refusal.Loop = codes "a chain of headers needs a loop, which no filter has"
refusal_words refusal.NameService = codes "this needs a name service, and none is asked: write addresses"
refusal_words refusal.Direction = codes "the bytes of a packet do not say its direction"
refusal_words refusal.Interface = codes "the bytes of a packet do not say its interface"
refusal_words refusal.Geneve = codes "the headers inside have no fixed place"
refusal_words refusal.Byte = codes "write ether[N] for a byte"
refusal_words refusal.LinkType = codes "this is of a link type that has no expressions here"

abbrev pub text_words : ExprFaultKind → List ℕ
text_words (kind.Word k) = word_words k
text_words (kind.Refused r) = refusal_words r
text_words kind.Parenthesis = codes "the other parenthesis or bracket is missing"
text_words kind.Unexpected = codes "this cannot come here: join tests by `and` or `or`, and write `host`, `net` or `port` before a value"
text_words kind.Ends = codes "a test or a value is missing here"
text_words kind.Qualifier = codes "the words before the value do not fit it"
text_words kind.Address = codes "no address"
text_words kind.Name = codes "a name is no address, since no name service is asked: write the address"
text_words kind.Mask = codes "this mask and this address do not fit: a net has no bits beyond its mask"
text_words kind.Port = codes "no port that is known by name: write its number"
text_words kind.Protocol = codes "no protocol that is known by name: write its number"
text_words kind.Range = codes "the number is too large here"
text_words kind.Size = codes "a load has 1, 2 or 4 bytes"
text_words kind.Rank = codes "`%` and `^` need parentheses beside another operator"
text_words kind.TooDeep = codes "more than 200 levels of parentheses, brackets, `not` and signs"
text_words kind.NoMemory = codes "out of memory"

-- what is wrong
abbrev pub words : CompileFault → List ℕ
words (fault.Text f) = text_words f.kind
words (fault.Layer column) = codes "packets have none of this here, by their link type or the tag before it"
words (fault.Moved column) = codes "this also counts where the tag before it is missing: join both by `and`"
words (fault.Zero column) = codes "a division by 0 has no value"
words (fault.Shift column) = codes "a shift by more than 31 bits leaves nothing"
words (fault.TooHard column) = codes "a comparison of two numbers of the packet is not supported yet"
words fault.TooLong = codes "the program has more than 4096 instructions"
words fault.NoMemory = codes "out of memory"

-- the column, from 1, and how many bytes are meant; none, where it is the whole program
abbrev pub place : CompileFault → Option (ℕ × ℕ)
place (fault.Text f) = Some (f.column, f.width)
place (fault.Layer column) = Some (column, 1)
place (fault.Moved column) = Some (column, 1)
place (fault.Zero column) = Some (column, 1)
place (fault.Shift column) = Some (column, 1)
place (fault.TooHard column) = Some (column, 1)
place fault.TooLong = None
place fault.NoMemory = None

-- a byte that is no printable ASCII is shown as `?`
abbrev pub shown : ℕ → ℕ
shown byte = if nat_le 32 byte && nat_le byte 126 then byte else 63

-- the column and what is wrong, the text, and marks below what is meant
abbrev pub marked : List ℕ → ℕ → ℕ → List ℕ → List ℕ
marked text column width wrong =
    codes "column " ++ decimal column ++ codes ": " ++ wrong ++ codes "\n    " ++ map shown text
    ++ codes "\n    " ++ replicate (min (column - 1) (length text)) 32 ++ replicate (max 1 (min width (length text))) 94 ++ codes "\n"

abbrev pub explained_at : List ℕ → Option (ℕ × ℕ) → List ℕ → List ℕ
explained_at text (Some at) wrong = marked text at.0 at.1 wrong
explained_at text None wrong = wrong ++ codes "\n"

abbrev pub explained : List ℕ → CompileFault → List ℕ
explained text f = explained_at text (place f) (words f)
