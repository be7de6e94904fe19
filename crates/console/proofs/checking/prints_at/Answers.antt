use Rattle.std.proofs.Common.{◌∙◌, sym, Some, None}
use Rattle.bpf_insn.proofs.Places.{form_at_is}
use Rattle.bpf_insn.proofs.PrintsLemmas.{no_form_no_print, form_prints}
use Rattle.console.proofs.checking.prints_at.Goals as goal

pub returns-in-None : goal.returns-in-None
returns-in-None c = no_form_no_print _ _ (form_at_is _ _ _ None c.requires.inside (sym c.in-None.is ∙ c.form.ensures))

pub returns-in-Some : goal.returns-in-Some
returns-in-Some c = form_prints _ _ c.in-Some.form c.jumps_out.result (form_at_is _ _ _ (Some c.in-Some.form) c.requires.inside (sym c.in-Some.is ∙ c.form.ensures)) c.jumps_out.ensures.out c.jumps_out.ensures.inside
