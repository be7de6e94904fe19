use Rattle.std.proofs.Common.{sym, subst}
use Rattle.filter_codegen.specs.Emits.{Masks}
use Rattle.filter_codegen.proofs.Emitting.{masks_some}
use Rattle.filter_codegen.proofs.emitter.emit_mask.Goals as goal

pub returns-in_ok-put-clause-ok : goal.returns-in_ok-put-clause-ok
returns-in_ok-put-clause-ok c =
    let old = c.args.draft.now in
    subst (Masks c.args.check old) (sym c.in_ok-put.ensures.ok.0)
    (masks_some c.args.check old c.in-Some.mask c.mask_by.result c.requires c.in-Some.is c.mask_by.ensures)
