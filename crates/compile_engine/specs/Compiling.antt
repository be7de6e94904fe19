-- What `compile` prints.
use Rattle.std.specs.Prelude.{◌≡◌, ◌≢◌, ◌⊎◌, ℕ, List, ◌++◌, codes, Option, Some, None}
use Rattle.std.specs.Fmt.{decimal}
use Rattle.std.specs.List.{join_by}
use denote.Ref.{Bor}
use Rattle.bpf_insn.specs.declared.insn.Insn.{Insn}
use Rattle.expr_tree.specs.Expr.{Expr}
use Rattle.expr_meaning.specs.declared.link.Link.{Link}
use Rattle.expr_meaning.specs.Links.{link_of}
use Rattle.expr_parse.specs.Parsing.{Spells}
use Rattle.expr_parse.specs.declared.fault.ExprFault.{ExprFault}
use Rattle.filter_expr.specs.Selects.{Compiles}
use Rattle.filter_expr.specs.Messages.{explained}
use Rattle.filter_expr.specs.declared.fault.CompileFault.{CompileFault}
use Rattle.filter_expr.specs.declared.fault.CompileFault.TheVariants.{Text, NoMemory}
use Rattle.compile_engine.specs.Listings.{listed}
use Rattle.compile_engine.specs.declared.listing.Listing.{Listing}

-- words with a blank between each two
abbrev pub joined : List (Bor (List ℕ)) → List ℕ
joined words = join_by (λ w. w.now) (codes " ") words

-- a fault of a text is one of a text that is no expression
abbrev pub IsFaultOf : List ℕ → CompileFault → Type 0
IsFaultOf text fault = (fault ≢ NoMemory) × ((wrong : ExprFault) → fault ≡ Text wrong → (expr : Expr) → Spells text expr → ⊥)

-- the program of the expression that the text is, or what is wrong with it
abbrev pub ShowsOver : List ℕ → Link → ℕ → Listing → ℕ → List ℕ → Type 0
ShowsOver text link accept listing status shown =
    ((program : List Insn) × Compiles text link accept program × (status ≡ 0) × (shown ≡ listed listing program))
    ⊎ ((fault : CompileFault) × IsFaultOf text fault × (status ≡ 1) × (shown ≡ explained text fault))

abbrev pub no_link_line : ℕ → List ℕ
no_link_line number = codes "link type " ++ decimal number ++ codes " has no expressions here\n"

-- the same over the link type with this number, if expressions know it
abbrev pub ShowsKnown : List ℕ → Option Link → ℕ → ℕ → Listing → ℕ → List ℕ → Type 0
ShowsKnown text (Some link) number accept listing status shown = ShowsOver text link accept listing status shown
ShowsKnown text None number accept listing status shown = (status ≡ 1) × (shown ≡ no_link_line number)

abbrev pub ShowsCompiled : List ℕ → ℕ → ℕ → Listing → ℕ → List ℕ → Type 0
ShowsCompiled text number accept listing status shown = ShowsKnown text (link_of number) number accept listing status shown
