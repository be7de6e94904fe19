-- Faults of expressions by their numbers.
use Rattle.std.proofs.Common.{◌≡◌, ◌<◌, ℕ, List, refl, arith}
use Rattle.expr_tree.specs.Expr.{Expr}
use Rattle.expr_parse.specs.declared.fault.ExprFault.{ExprFault}
use Rattle.expr_parse.specs.Parsing.{Spells}
use Rattle.filter_expr.specs.declared.fault.CompileFault.{CompileFault}
use Rattle.filter_expr.specs.declared.fault.CompileFault.TheVariants as fault
use Rattle.mkdemux_c.specs.Compilings.{IsOfText, MayHave, number_of}

pub of_text : (f : CompileFault) → IsOfText (number_of f) → (t : ExprFault) × (f ≡ fault.Text t)
of_text (fault.Text t) is = (t, refl)
of_text (fault.Layer column) is = absurd (omega (arith, is.1))
of_text (fault.Moved column) is = absurd (omega (arith, is.1))
of_text (fault.Zero column) is = absurd (omega (arith, is.1))
of_text (fault.Shift column) is = absurd (omega (arith, is.1))
of_text (fault.TooHard column) is = absurd (omega (arith, is.1))
of_text fault.TooLong is = absurd (omega (arith, is.1))
of_text fault.NoMemory is = absurd (omega (arith, is.1))

pub may_have : (text : List ℕ) (f : CompileFault) → ((t : ExprFault) → f ≡ fault.Text t → (expr : Expr) → Spells text expr → ⊥) → MayHave text f
may_have text (fault.Text t) none = none t refl
may_have text (fault.Layer column) none = tt
may_have text (fault.Moved column) none = tt
may_have text (fault.Zero column) none = tt
may_have text (fault.Shift column) none = tt
may_have text (fault.TooHard column) none = tt
may_have text fault.TooLong none = tt
may_have text fault.NoMemory none = tt
