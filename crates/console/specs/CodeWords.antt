-- The line for a fault of CODE that is an expression: its name, as the kinds of faults are named, and its column.
use Rattle.std.specs.Prelude.{ℕ, List, ◌++◌, codes, Option, Some, None}
use Rattle.std.specs.Fmt.{decimal}
use Rattle.expr_words.specs.declared.word.Refusal.{Refusal}
use Rattle.expr_words.specs.declared.word.Refusal.TheVariants as refusal
use Rattle.expr_words.specs.declared.fault.WordFaultKind.{WordFaultKind}
use Rattle.expr_words.specs.declared.fault.WordFaultKind.TheVariants as word
use Rattle.expr_parse.specs.declared.fault.ExprFaultKind.{ExprFaultKind}
use Rattle.expr_parse.specs.declared.fault.ExprFaultKind.TheVariants as kind
use Rattle.filter_expr.specs.declared.fault.CompileFault.{CompileFault}
use Rattle.filter_expr.specs.declared.fault.CompileFault.TheVariants as fault
use Rattle.filter_expr.specs.Messages.{place}
use Rattle.console.specs.declared.filter.CodeFault.{CodeFault}
use Rattle.console.specs.declared.filter.CodeFault.TheVariants.{Compile, Link}

abbrev pub refusal_name : Refusal → List ℕ
refusal_name refusal.Loop = codes "Loop"
refusal_name refusal.NameService = codes "NameService"
refusal_name refusal.Direction = codes "Direction"
refusal_name refusal.Interface = codes "Interface"
refusal_name refusal.Geneve = codes "Geneve"
refusal_name refusal.Byte = codes "Byte"
refusal_name refusal.LinkType = codes "LinkType"

abbrev pub word_name : WordFaultKind → List ℕ
word_name word.Character = codes "Character"
word_name word.Octal = codes "Octal"
word_name word.Large = codes "Large"
word_name word.Address = codes "Address"
word_name word.TooLong = codes "TooLong"
word_name word.NoMemory = codes "NoMemory"

abbrev pub kind_name : ExprFaultKind → List ℕ
kind_name (kind.Word k) = word_name k
kind_name (kind.Refused r) = refusal_name r
kind_name kind.Parenthesis = codes "Parenthesis"
kind_name kind.Unexpected = codes "Unexpected"
kind_name kind.Ends = codes "Ends"
kind_name kind.Qualifier = codes "Qualifier"
kind_name kind.Address = codes "Address"
kind_name kind.Name = codes "Name"
kind_name kind.Mask = codes "Mask"
kind_name kind.Port = codes "Port"
kind_name kind.Protocol = codes "Protocol"
kind_name kind.Range = codes "Range"
kind_name kind.Size = codes "Size"
kind_name kind.Rank = codes "Rank"
kind_name kind.TooDeep = codes "TooDeep"
kind_name kind.NoMemory = codes "NoMemory"

abbrev pub compile_name : CompileFault → List ℕ
compile_name (fault.Text f) = kind_name f.kind
compile_name (fault.Layer column) = codes "Layer"
compile_name (fault.Moved column) = codes "Moved"
compile_name (fault.Zero column) = codes "Zero"
compile_name (fault.Shift column) = codes "Shift"
compile_name (fault.TooHard column) = codes "TooHard"
compile_name fault.TooLong = codes "TooLong"
compile_name fault.NoMemory = codes "NoMemory"

-- after its column, where it has one
abbrev pub placed : Option (ℕ × ℕ) → List ℕ → List ℕ
placed (Some at) name = codes "column " ++ decimal at.0 ++ codes " " ++ name
placed None name = name

-- or the link type that expressions don't know
abbrev pub code_fault_words : CodeFault → List ℕ
code_fault_words (Compile f) = placed (place f) (compile_name f)
code_fault_words (Link link) = codes "link " ++ decimal link

abbrev pub code_fault_line : CodeFault → List ℕ
code_fault_line f = codes "code " ++ code_fault_words f ++ codes "\n"
