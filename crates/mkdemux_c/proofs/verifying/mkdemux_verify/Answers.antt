use Rattle.std.proofs.Common.{◌≡◌, ◌∙◌, ◌<◌, length, inl, inr, ap, arith, subst}
use Rattle.std.proofs.lemmas.Bool.{cases_lt}
use Rattle.filter_verify.specs.Numbers.{number_of}
use Rattle.mkdemux_c.specs.Refusals.{path_of}
use Rattle.mkdemux_c.proofs.PathLengths.{refused_path-within}
use Rattle.mkdemux_c.proofs.verifying.mkdemux_verify.Goals as goal

pub report-requires : goal.report-requires
report-requires c =
    let within = refused_path-within c.args.code.now c.in-Err.refusal c.in-Err.ensures.refusal in
    omega (arith, within.1)

-- all reasons to refuse a program have one number and one place
pub returns-clause-first : goal.returns-clause-first
returns-clause-first c = λ refusal refuses.
    let number = number_of c.in-Err.refusal in
    elim (cases_lt 0 number) [
      | inl rule ↦
          let found = c.in-Err.ensures.refusal (λ e. let none : 0 < 0 = subst (λ r. 0 < number_of r) e rule in omega (arith, none)) in
          let same = c.in-Err.ensures.unique c.in-Err.refusal refusal found refuses in
          inr (c.answer.ensures.rule rule ∙ same.0, ap (λ p. p.place) c.report.ensures.place ∙ same.1)
      | inr none ↦ inl (c.answer.ensures.memory (omega arith))
    ]

pub returns-clause-path_fits : goal.returns-clause-path_fits
returns-clause-path_fits c =
    let within = refused_path-within c.args.code.now c.in-Err.refusal c.in-Err.ensures.refusal in
    let reported : c.report.result.path ≡ length (path_of c.in-Err.refusal) = ap (λ p. p.path) c.report.ensures.place in
    omega (arith, within.0)
