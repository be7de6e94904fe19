use Rattle.std.proofs.Common.{◌≡◌, ◌∙◌, ◌+◌, ap, arith, subst, IsTrue, ℕ, Some, slice_get}
use Rattle.bpf_insn.specs.declared.form.Form.{Form}
use Rattle.bpf_insn.specs.declared.form.Form.TheVariants.{JmpK, RetK}
use Rattle.bpf_insn.specs.declared.form.Test.{Test}
use Rattle.bpf_insn.specs.declared.form.Test.TheVariants.{Equal}
use Rattle.filter_group.proofs.Equalities.{jump_k}
use Rattle.bpf_insn.specs.Program.{FormAt}
use Rattle.bpf_insn.proofs.Places.{form_at_is, FormAt-same}
use Rattle.filter_group.proofs.equality.equality_at.Goals as goal

pub returns-in-Some-JmpK-Equal-default-default-default : goal.returns-in-Some-JmpK-Equal-default-default-default
returns-in-Some-JmpK-Equal-default-default-default c =
    let f = c.in-Some-JmpK-Equal-default-default-default in
    let code = c.args.code.now in
    let at = form_at_is code c.args.pc (record { code = 0; jt = 0; jf = 0; k = 0 }) c.form_in_place.result c.requires c.form_in_place.ensures ∙ (f.is ∙ ap (λ (g : Form). Some g) f.field-0-is) in
    record {
      test = λ _. (f.k, subst (λ (t : Test). FormAt code c.args.pc (JmpK t f.k f.jt f.jf)) f.field-0-0-is at);
      silent = subst (λ (n : ℕ). IsTrue c.returns_zero.result → (slice_get c.args.marks.now (c.args.pc + 1 + n) ≡ Some 0) × FormAt code (c.args.pc + 1 + n) (RetK 0)) c.from.ensures c.returns_zero.ensures;
      between = λ _ l jt jf form.
          let same : l ≡ f.k = jump_k l f.k jt jf f.jt f.jf (FormAt-same code c.args.pc (JmpK Equal l jt jf) (JmpK Equal f.k f.jt f.jf) form (subst (λ (t : Test). FormAt code c.args.pc (JmpK t f.k f.jt f.jf)) f.field-0-0-is at)) in
          record { least = omega arith; most = omega arith };
    }
