use Rattle.std.proofs.Common.{◌-◌, sym, ap, subst}
use Rattle.std.proofs.lemmas.Result.{IfOk-weaker}
use Rattle.filter_codegen.specs.Emits.{Emits}
use Rattle.filter_codegen.proofs.Emitting.{emits_branch, emits_mask, emits_load, emits_index}
use Rattle.filter_codegen.proofs.emitter.emit_check.Goals as goal

pub returns-in-Branch-clause-ok : goal.returns-in-Branch-clause-ok
returns-in-Branch-clause-ok c =
    subst (λ s. Emits c.args.check s c.args.ways.pass c.args.ways.fail c.args.draft.now c.emit_branch.new.draft c.in_ok-place.place) (sym c.in-Branch.is)
    (emits_branch c.args.check c.args.ways.pass c.args.ways.fail c.args.draft.now c.emit_branch.new.draft c.in_ok-place.place c.in_ok-place.ensures.ok)

pub returns-in_ok-emit_mask-in-Mask-clause-ok : goal.returns-in_ok-emit_mask-in-Mask-clause-ok
returns-in_ok-emit_mask-in-Mask-clause-ok c =
    let len = c.len.ensures.len in
    subst (λ s. Emits c.args.check s c.args.ways.pass c.args.ways.fail c.args.draft.now c.emit_mask.new.draft (c.len.result - 1)) (sym c.in-Mask.is)
    (emits_mask c.args.check c.args.ways.pass c.args.ways.fail c.args.draft.now c.emit_branch.new.draft c.emit_mask.new.draft c.in_ok-place.place (c.len.result - 1) (ap (λ n. n - 1) len) c.in_ok-place.ensures.ok c.in_ok-emit_mask-in-Mask.ensures.ok)

pub returns-in_ok-emit_mask-in-Load-clause-ok : goal.returns-in_ok-emit_mask-in-Load-clause-ok
returns-in_ok-emit_mask-in-Load-clause-ok c =
    IfOk-weaker c.emit_load.result _ _
    (λ place l. subst (λ s. Emits c.args.check s c.args.ways.pass c.args.ways.fail c.args.draft.now c.emit_load.new.draft place) (sym c.in-Load.is)
    (emits_load c.args.check c.args.ways.pass c.args.ways.fail c.args.draft.now c.emit_branch.new.draft c.emit_mask-in-Load.new.draft c.emit_load.new.draft c.in_ok-place.place place c.in_ok-place.ensures.ok c.in_ok-emit_mask-in-Load.ensures.ok l))
    c.emit_load.ensures.ok

pub returns-in_ok-emit_mask-in-Index-clause-ok : goal.returns-in_ok-emit_mask-in-Index-clause-ok
returns-in_ok-emit_mask-in-Index-clause-ok c =
    IfOk-weaker c.emit_indexed.result _ _
    (λ place l. subst (λ s. Emits c.args.check s c.args.ways.pass c.args.ways.fail c.args.draft.now c.emit_indexed.new.draft place) (sym c.in-Index.is)
    (emits_index c.args.check c.args.ways.pass c.args.ways.fail c.args.draft.now c.emit_branch.new.draft c.emit_mask-in-Index.new.draft c.emit_indexed.new.draft c.in_ok-place.place place c.in_ok-place.ensures.ok c.in_ok-emit_mask-in-Index.ensures.ok l))
    c.emit_indexed.ensures.ok
