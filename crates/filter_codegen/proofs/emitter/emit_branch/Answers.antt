use Rattle.std.proofs.Common.{length, sym, subst, arith}
use Rattle.std.proofs.lemmas.Result.{IfOk-weaker}
use Rattle.filter_codegen.specs.Emits.{Branches}
use Rattle.filter_codegen.proofs.Emitting.{branches_made}
use Rattle.filter_codegen.proofs.emitter.emit_branch.Goals as goal

pub returns-clause-ok : goal.returns-clause-ok
returns-clause-ok c =
    let old = c.args.draft.now in
    let check = c.args.check in
    let ways = c.args.ways in
    let len = c.len-last.ensures.len in
    IfOk-weaker c.put.result _ _
    (λ place h. subst (λ n. Branches check ways.pass ways.fail old c.put.new.self n) (sym h.1) (subst (λ l. Branches check ways.pass ways.fail old l (length old)) (sym h.0)
    (branches_made check ways.pass ways.fail _ _ old c.branch-check.result c.requires.pass.0 c.requires.fail.0 (omega arith) (omega arith) c.branch-check.ensures)))
    c.put.ensures.ok
