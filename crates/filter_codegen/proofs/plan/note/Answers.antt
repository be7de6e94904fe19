use Rattle.filter_codegen.proofs.Planning.{note_some, note_none}
use Rattle.filter_codegen.proofs.plan.note.Goals as goal
use Rattle.filter_codegen.proofs.plan.note.Goals.{in-Some, in-None}

pub returns : goal.returns
returns c =
    elim c.match-index.branch [
      | in-Some w ↦ note_some c.args.place c.args.held c.match-index.held w.common-held.result c.args.plans.now.items w.in-Some.plan c.index.result.now c.requires c.index.ensures w.in-Some.is w.held-is w.common-held.ensures.a w.common-held.ensures.b
      | in-None w ↦ note_none c.args.place c.args.held c.match-index.held c.args.plans.now.items c.index.result.now c.requires c.index.ensures w.in-None.is w.held-is
    ]
