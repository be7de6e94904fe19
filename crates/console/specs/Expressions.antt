-- What CODE gives to run, a filter expression (pcap-filter(7)) or decimal text, and what is said of one that gives nothing.
use Rattle.std.specs.Prelude.{◌≡◌, ◌≢◌, ◌⊎◌, ℕ, List, [], ◌++◌, codes, Option, Some, None, Result, Ok, Err, true, false}
use Rattle.std.specs.Fmt.{decimal}
use Rattle.bpf_insn.specs.declared.insn.Insn.{Insn}
use Rattle.expr_tree.specs.Expr.{Expr}
use Rattle.expr_meaning.specs.declared.link.Link.{Link}
use Rattle.expr_meaning.specs.Links.{link_of}
use Rattle.expr_parse.specs.Parsing.{Spells}
use Rattle.expr_parse.specs.declared.fault.ExprFault.{ExprFault}
use Rattle.expr_parse.specs.declared.fault.ExprFaultKind.TheVariants.{NoMemory}
use Rattle.filter_expr.specs.declared.fault.CompileFault.TheVariants.{Text}
use Rattle.filter_expr.specs.Selects.{Compiles, IsOfMeaning}
use Rattle.filter_expr.specs.Messages.{explained}
use Rattle.console.specs.declared.filter.CodeFault.{CodeFault}
use Rattle.console.specs.declared.filter.CodeFault.TheVariants.{Compile, Link as NoLink}
use Rattle.console.specs.Code.{IsGoodCode, ShowsBadCode}
use Rattle.console.specs.CodeWords.{code_fault_line}
use Rattle.console.specs.Programs.{Programs, same_for_all}
use Rattle.console.specs.Telling.{is_expression}

-- what an expression gives for packets of a link type: a program that accepts, with this verdict, those of which it is true; none where
-- what it says has a fault over the link type; and none over a link type that expressions don't know
abbrev pub Gives : List ℕ → ℕ → ℕ → Result (List Insn) CodeFault → Type 0
Gives code accept number (Ok program) = (link : Link) × (link_of number ≡ Some link) × Compiles code link accept program
Gives code accept number (Err (Compile fault)) = (link : Link) × (link_of number ≡ Some link) × IsOfMeaning fault × ((expr : Expr) × Spells code expr)
Gives code accept number (Err (NoLink other)) = (link_of number ≡ None) × (other ≡ number)

-- what a code gives to run: decimal text one program for all link types, an expression what it means over each
abbrev pub IsFilter : List ℕ → ℕ → Programs → Type 0
IsFilter code accept programs =
    ((is_expression code ≡ false) × (program : List Insn) × IsGoodCode code program × (programs ≡ same_for_all program))
    ⊎ ((is_expression code ≡ true) × ((link : ℕ) → Gives code accept link (programs link)))

-- what a fault means, in lines for people
abbrev pub explanation : List ℕ → CodeFault → List ℕ
explanation code (Compile fault) = explained code fault
explanation code (NoLink link) = codes "link type " ++ decimal link ++ codes " has no expressions here\n"

-- the same, if there is a fault
abbrev pub explanation_of : List ℕ → Option CodeFault → List ℕ
explanation_of code None = []
explanation_of code (Some fault) = explanation code fault

-- the line of a code that gives nothing to run, and what it means: of a decimal text the line alone, of a text that is no expression its fault
abbrev pub ShowsBadFilter : List ℕ → List ℕ → List ℕ → Type 0
ShowsBadFilter code line words =
    ((is_expression code ≡ false) × ShowsBadCode code line × (words ≡ []))
    ⊎ ((is_expression code ≡ true) × (fault : ExprFault) × (fault.kind ≢ NoMemory) × ((expr : Expr) → Spells code expr → ⊥)
    × (line ≡ code_fault_line (Compile (Text fault))) × (words ≡ explanation code (Compile (Text fault))))
