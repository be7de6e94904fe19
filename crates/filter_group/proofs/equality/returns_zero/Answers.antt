use Rattle.std.proofs.Common.{◌∙◌, ◌<◌, ap, arith, length, subst, ℕ, Some}
use Rattle.std.proofs.lemmas.Option.{slice_get-get_or}
use Rattle.bpf_insn.specs.declared.form.Form.{Form}
use Rattle.bpf_insn.specs.declared.form.Form.TheVariants.{RetK}
use Rattle.bpf_insn.specs.Program.{FormAt}
use Rattle.bpf_insn.proofs.Places.{form_at_is}
use Rattle.filter_group.proofs.equality.returns_zero.Goals as goal

pub returns-in-Some-RetK-eq0 : goal.returns-in-Some-RetK-eq0
returns-in-Some-RetK-eq0 c = λ _.
    let f = c.in-Some-RetK-eq0 in
    let code = c.args.code.now in
    let marks = c.args.marks.now in
    let inside : c.args.pc < length code = omega arith in
    let marked : c.args.pc < length marks = omega arith in
    let at = form_at_is code c.args.pc (record { code = 0; jt = 0; jf = 0; k = 0 }) c.form_in_place.result inside c.form_in_place.ensures ∙ (f.is ∙ ap (λ (g : Form). Some g) f.field-0-is) in (
      slice_get-get_or marks c.args.pc 0 marked ∙ ap Some (omega arith),
      subst (λ (k : ℕ). FormAt code c.args.pc (RetK k)) f.field-0-0-test at,
    )
