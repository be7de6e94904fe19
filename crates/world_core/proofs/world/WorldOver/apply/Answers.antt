use Rattle.world_model.proofs.Runs.{runs_more}
use Rattle.world_model.proofs.RunLaws.{run_agrees, run_no_stranger, run_grows, run_versions, run_delivers, run_replies}
use Rattle.world_model.proofs.Decisions.{run_decides}
use Rattle.world_model.proofs.SoundLogs.{run_sound}
use Rattle.world_core.proofs.EventKeeping.{done_as}
use Rattle.world_core.proofs.world.WorldOver.apply.Goals as goal

pub returns-clause-extends : goal.returns-clause-extends
returns-clause-extends g c = done_as c.perform.result _ _ (λ answer h limits budget budgets events run. runs_more _ c.args.self.now c.perform.new.self events (record { event = c.args.event.now; answer = answer }) run h) c.perform.ensures.happens

pub returns-clause-one_log : goal.returns-clause-one_log
returns-clause-one_log g c = λ limits budget budgets events run. run_agrees limits budget budgets events c.perform.new.self run

pub returns-clause-versions_counted : goal.returns-clause-versions_counted
returns-clause-versions_counted g c = λ limits budget budgets events run. run_versions limits budget budgets events c.perform.new.self run

pub returns-clause-sound : goal.returns-clause-sound
returns-clause-sound g c = λ limits budget budgets events run. run_sound limits budget budgets events c.perform.new.self run

pub returns-clause-delivers : goal.returns-clause-delivers
returns-clause-delivers g c = λ limits budget budgets events run. run_delivers limits budget budgets events c.perform.new.self run

pub returns-clause-decides : goal.returns-clause-decides
returns-clause-decides g c = done_as c.perform.result _ _ (λ answer h limits budget budgets events run. run_decides limits budget budgets events c.args.self.now c.perform.new.self c.args.event.now answer run h) c.perform.ensures.happens

pub returns-clause-replies : goal.returns-clause-replies
returns-clause-replies g c = done_as c.perform.result _ _ (λ answer h limits budget budgets events run. run_replies limits budget budgets events c.args.self.now c.perform.new.self c.args.event.now answer run h) c.perform.ensures.happens

pub returns-clause-grows : goal.returns-clause-grows
returns-clause-grows g c = done_as c.perform.result _ _ (λ answer h limits budget budgets events run. run_grows limits budget budgets events c.args.self.now c.perform.new.self c.args.event.now answer run h) c.perform.ensures.happens

pub returns-clause-all_expected : goal.returns-clause-all_expected
returns-clause-all_expected g c = λ limits budget budgets events run. run_no_stranger limits budget budgets events c.perform.new.self run
