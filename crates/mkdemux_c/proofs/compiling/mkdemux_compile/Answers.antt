use Rattle.std.proofs.Common.{◌≡◌, ◌∙◌, Err, ap, subst}
use Rattle.mkdemux_c.specs.Compilings.{IsOfText}
use Rattle.mkdemux_c.proofs.Expressions.{of_text}
use Rattle.mkdemux_c.proofs.compiling.mkdemux_compile.Goals as goal

pub returns-in-Err-clause-none : goal.returns-in-Err-clause-none
returns-in-Err-clause-none c = λ of expr spells.
    let t = of_text c.in-Err.fault (subst IsOfText (ap (λ r. r.fault) c.refused.ensures) of) in
    c.compile.ensures.none t.0 (c.in-Err.is ∙ ap Err t.1) expr spells
