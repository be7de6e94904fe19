-- What `compile --tree` prints.
use Rattle.std.specs.Prelude.{◌≡◌, ◌≢◌, ◌⊎◌, ℕ, List, ◌++◌, codes}
use Rattle.expr_tree.specs.Expr.{Expr}
use Rattle.expr_parse.specs.Parsing.{Spells}
use Rattle.expr_parse.specs.declared.fault.ExprFault.{ExprFault}
use Rattle.expr_parse.specs.declared.fault.ExprFaultKind.TheVariants.{NoMemory}
use Rattle.filter_expr.specs.Messages.{explained}
use Rattle.filter_expr.specs.declared.fault.CompileFault.TheVariants.{Text}

-- a text that is this expression and no other, in a line; or a line that there is none
abbrev pub ShowsPrinted : Expr → ℕ → List ℕ → Type 0
ShowsPrinted expr status shown =
    ((printed : List ℕ) × Spells printed expr × ((other : Expr) → Spells printed other → other ≡ expr) × (status ≡ 0) × (shown ≡ printed ++ codes "\n"))
    ⊎ ((status ≡ 1) × (shown ≡ codes "too many levels to be printed\n"))

-- the expression that a text is, and is alone; or what is wrong with one that is none
abbrev pub ShowsTree : List ℕ → ℕ → List ℕ → Type 0
ShowsTree text status shown =
    ((expr : Expr) × Spells text expr × ((other : Expr) → Spells text other → other ≡ expr) × ShowsPrinted expr status shown)
    ⊎ ((wrong : ExprFault) × (wrong.kind ≢ NoMemory) × ((expr : Expr) → Spells text expr → ⊥) × (status ≡ 1) × (shown ≡ explained text (Text wrong)))
