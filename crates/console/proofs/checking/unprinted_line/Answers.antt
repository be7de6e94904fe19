use Rattle.std.proofs.Common.{◌≡◌, sym, append_assoc}
use Rattle.bpf_insn.specs.Program.{form_at}
use Rattle.bpf_insn.proofs.Places.{form_at_is}
use Rattle.console.proofs.checking.unprinted_line.Goals as goal

pub returns : goal.returns
returns c =
    let form : c.form.result ≡ form_at c.args.program.now c.args.pc = sym (form_at_is _ _ _ c.form.result c.requires c.form.ensures) in
    simp append_assoc (rw (c.unprinted_rule-rule.ensures, form) at c.in_ok-text.ensures.ok)
