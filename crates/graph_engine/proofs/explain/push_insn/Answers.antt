use Rattle.std.proofs.Common.{◌∙◌, refl}
use Rattle.std.proofs.lemmas.List.{append-nil}
use Rattle.bpf_insn.proofs.Places.{form_at_is}
use Rattle.graph_engine.proofs.explain.push_insn.Goals as goal

pub returns-in_ok-push_form-in-Some : goal.returns-in_ok-push_form-in-Some
returns-in_ok-push_form-in-Some c =
    let at = form_at_is c.args.program.now c.args.pc _ _ c.requires.inside c.form.ensures ∙ c.in-Some.is in
    rw at c.in_ok-push_form-in-Some.ensures

pub returns-in-None : goal.returns-in-None
returns-in-None c =
    let at = form_at_is c.args.program.now c.args.pc _ _ c.requires.inside c.form.ensures ∙ c.in-None.is in
    rw (at, append-nil) refl
