use Rattle.std.proofs.Common.{length, sym, subst, arith}
use Rattle.std.proofs.lemmas.Result.{IfOk-weaker}
use Rattle.filter_codegen.specs.Lowered.{Fronts}
use Rattle.filter_codegen.proofs.Lowering.{fronts_jump}
use Rattle.filter_codegen.proofs.lower.put_front.Goals as goal

pub returns-clause-ok : goal.returns-clause-ok
returns-clause-ok c =
    let old = c.args.draft.now in
    let place = c.args.place in
    let len = c.len.ensures.len in
    IfOk-weaker c.put.result _ _
    (λ first h. subst (λ n. Fronts place old c.put.new.self n) (sym h.1) (subst (λ code. Fronts place old code (length old)) (sym h.0)
    (fronts_jump old place _ c.jump.result c.requires (omega arith) c.jump.ensures)))
    c.put.ensures.ok
