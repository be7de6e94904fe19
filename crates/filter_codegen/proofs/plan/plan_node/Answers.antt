use Rattle.std.proofs.Common.{refl, subst, Some}
use Rattle.std.proofs.Math.ListN.{set}
use Rattle.filter_codegen.specs.declared.plan.Plan.{Plan}
use Rattle.filter_codegen.specs.Plans.{Notes}
use Rattle.filter_codegen.proofs.Planning.{planned_node}
use Rattle.filter_codegen.proofs.plan.plan_node.Goals as goal

pub returns : goal.returns
returns c =
    let plan : Plan = record { held = c.args.held; start = c.start_of-start.result } in
    let old = c.args.plans.now.items in
    let one = set old c.args.place (Some plan) in
    planned_node c.args.node c.args.place c.args.held old one c.note.new.plans.items c.note-2.new.plans.items plan c.requires.inside c.requires.below.0 c.requires.below.1 c.start_of-start.ensures refl refl
    (subst (λ h. Notes c.args.node.pass h one c.note.new.plans.items) c.left_by-left.ensures c.note.ensures)
    (subst (λ h. Notes c.args.node.fail h c.note.new.plans.items c.note-2.new.plans.items) c.left_by-left.ensures c.note-2.ensures)
