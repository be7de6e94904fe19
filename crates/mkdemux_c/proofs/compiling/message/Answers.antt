use Rattle.std.proofs.Common.{◌≡◌, ◌∙◌, Err, ap, inl, inr, refl, sym}
use Rattle.std.proofs.lemmas.Result.{IfOk-weaker}
use Rattle.mkdemux_c.proofs.Expressions.{may_have}
use Rattle.mkdemux_c.proofs.compiling.message.Goals.{in-Ok, in-Err}
use Rattle.mkdemux_c.proofs.compiling.message.Goals as goal

pub returns-in_default : goal.returns-in_default
returns-in_default c = inr (inl (sym c.link_of.ensures ∙ c.in_default.is, ap (λ v. v.items) c.into_bytes.ensures.value ∙ c.in_ok-line.ensures.ok))

pub returns : goal.returns
returns c = elim c.match-compile.branch [
  | in-Ok w ↦ rw w.result-is (inl (c.in-Some.known, w.in-Ok.field-0, sym c.link_of.ensures ∙ c.in-Some.is, w.in-Ok.ensures.compiles, w.new.ensures.items))
  | in-Err w ↦ rw w.result-is (IfOk-weaker w.explain.result _ _ (λ lines is. inr (inr (w.in-Err.fault, may_have c.args.text.now w.in-Err.fault (λ t same. c.compile.ensures.none t (w.in-Err.is ∙ ap Err same)), is))) w.explain.ensures)
]
