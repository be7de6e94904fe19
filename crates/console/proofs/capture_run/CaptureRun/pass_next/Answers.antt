use Rattle.std.proofs.Common.{Some, None, refl}
use Rattle.capture_reader.specs.declared.entry.Found.TheVariants.{SeenEntry, Held, Nothing}
use Rattle.console.specs.declared.capture_run.CaptureRun.{CaptureRun}
use Rattle.console.proofs.CapturedLemmas.{found_held}
use Rattle.console.proofs.RunningLemmas.{no_links, pass_item, run_stopped}
use Rattle.console.proofs.capture_run.CaptureRun.pass_next.Goals as goal

pub returns-in-Ok-SeenEntry-clause-passes : goal.returns-in-Ok-SeenEntry-clause-passes
returns-in-Ok-SeenEntry-clause-passes c =
    pass_item c.args.rest.now.now c.next.new.rest.now c.args.self.now (record c.args.self.now { feed = c.next.new.self; links = c.links_with-self.result }) (SeenEntry c.in-Ok-SeenEntry.item) (Some c.in-Ok-SeenEntry.item)
    (rw c.in-Ok-SeenEntry.field-0-is at c.in-Ok-SeenEntry.ensures.advances) refl refl refl c.requires refl c.links_with-self.ensures

pub returns-in-Ok-Held-clause-passes : goal.returns-in-Ok-Held-clause-passes
returns-in-Ok-Held-clause-passes c =
    pass_item c.args.rest.now.now c.next.new.rest.now c.args.self.now (record c.args.self.now { feed = c.next.new.self; links = c.links_with-self-in-Ok-Held.result }) Held c.held.result
    (rw c.in-Ok-Held.field-0-is at c.in-Ok-Held.ensures.advances) (found_held c.next.new.self c.held.result c.held.ensures) refl refl c.requires refl c.links_with-self-in-Ok-Held.ensures

pub returns-in-Ok-Nothing-clause-passes : goal.returns-in-Ok-Nothing-clause-passes
returns-in-Ok-Nothing-clause-passes c =
    pass_item c.args.rest.now.now c.next.new.rest.now c.args.self.now (record c.args.self.now { feed = c.next.new.self }) Nothing None
    (rw c.in-Ok-Nothing.field-0-is at c.in-Ok-Nothing.ensures.advances) refl refl refl c.requires refl (no_links c.args.self.now (record c.args.self.now { feed = c.next.new.self }) refl)

pub returns-else-is_refusal-clause-passes : goal.returns-else-is_refusal-clause-passes
returns-else-is_refusal-clause-passes c = λ programs outcomes stamps.
    run_stopped programs c.args.rest.now.now c.next.new.rest.now c.args.self.now (record c.args.self.now { feed = c.next.new.self }) outcomes stamps c.in-Err.fault refl refl refl refl c.in-Err.ensures.says c.in-Err.ensures.advances
