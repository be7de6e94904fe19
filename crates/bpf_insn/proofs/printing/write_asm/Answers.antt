use Rattle.std.proofs.Common.{◌≡◌, ◌∙◌, sym, true, false, None}
use Rattle.bpf_insn.proofs.Places.{form_at_is}
use Rattle.bpf_insn.proofs.PrintsLemmas.{no_form_no_print}
use Rattle.bpf_insn.proofs.printing.write_asm.Goals as goal

pub unreachable-requires : goal.unreachable-requires
unreachable-requires c =
    let never : false ≡ true = (no_form_no_print _ _ (form_at_is _ _ _ None c.loop-place-test.true (sym c.in-None.is ∙ c.form.ensures))).1 (c.requires.each c.loop-place.place c.loop-place-test.true) in
    cc
