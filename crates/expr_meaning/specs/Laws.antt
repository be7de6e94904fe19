-- What the laws of expressions speak of.
use Rattle.std.specs.Prelude.{Bool, [], ◌∷◌, Option}
use Rattle.bpf_insn.specs.Machine.{Packet}
use Rattle.expr_tree.specs.declared.test.Test.{Test}
use Rattle.expr_tree.specs.Expr.{Expr, Is}
use Rattle.expr_meaning.specs.declared.place.Place.{Place}
use Rattle.expr_meaning.specs.Questions.{answer}
use Rattle.expr_meaning.specs.Holds.{asks}

-- the expression is no single test
abbrev pub IsNoTest : Expr → Type 0
IsNoTest (Is test) = ⊥
IsNoTest _ = Unit {0}

-- what a single test says
abbrev pub answer_of : Place → Test → Packet → Option Bool
answer_of place test packet = answer (asks place (test ∷ [])) packet
