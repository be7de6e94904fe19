use Rattle.std.proofs.Common.{Some, None, refl}
use Rattle.capture_reader.specs.declared.entry.Found.TheVariants.{SeenEntry, Held, Nothing}
use Rattle.console.specs.declared.capture_run.CaptureRun.{CaptureRun}
use Rattle.console.specs.Programs.{programs_of}
use Rattle.console.proofs.CapturedLemmas.{found_held}
use Rattle.console.proofs.RunningLemmas.{after_runs, after_shorter, no_links, none_run, run_item, run_stopped}
use Rattle.console.proofs.capture_run.CaptureRun.run_next.Goals as goal

pub returns-in_ok-stop-in-Ok-SeenEntry-clause-runs : goal.returns-in_ok-stop-in-Ok-SeenEntry-clause-runs
returns-in_ok-stop-in-Ok-SeenEntry-clause-runs c =
    after_runs c.after.result (programs_of c.args.filter.now) c.args.rest.now.now c.next.new.rest.now _ c.args.self.now (record c.args.self.now { feed = c.next.new.self; links = c.run_found.new.links }) c.after.new.self (SeenEntry c.in-Ok-SeenEntry.item) (Some c.in-Ok-SeenEntry.item) c.in_ok-stop-in-Ok-SeenEntry.stop _ _ _ _
    (rw c.in-Ok-SeenEntry.field-0-is at c.in-Ok-SeenEntry.ensures.advances) refl refl refl refl c.requires.goes_on c.in_ok-stop-in-Ok-SeenEntry.ensures.runs c.run_found.ensures.links c.after.ensures.went

pub returns-in_ok-stop-in-Ok-Held-clause-runs : goal.returns-in_ok-stop-in-Ok-Held-clause-runs
returns-in_ok-stop-in-Ok-Held-clause-runs c =
    after_runs c.after-in-Ok-Held.result (programs_of c.args.filter.now) c.args.rest.now.now c.next.new.rest.now _ c.args.self.now (record c.args.self.now { feed = c.next.new.self; links = c.run_found-in-Ok-Held.new.links }) c.after-in-Ok-Held.new.self Held c.held-held.result c.in_ok-stop-in-Ok-Held.stop _ _ _ _
    (rw c.in-Ok-Held.field-0-is at c.in-Ok-Held.ensures.advances) (found_held c.next.new.self c.held-held.result c.held-held.ensures) refl refl refl c.requires.goes_on c.in_ok-stop-in-Ok-Held.ensures.runs c.run_found-in-Ok-Held.ensures.links c.after-in-Ok-Held.ensures.went

pub returns-in-Ok-Nothing-clause-runs : goal.returns-in-Ok-Nothing-clause-runs
returns-in-Ok-Nothing-clause-runs c =
    run_item (programs_of c.args.filter.now) c.args.rest.now.now c.next.new.rest.now c.args.self.now (record c.args.self.now { feed = c.next.new.self }) Nothing None None _ _ _ _
    (rw c.in-Ok-Nothing.field-0-is at c.in-Ok-Nothing.ensures.advances) refl refl refl c.requires.goes_on c.requires.goes_on (none_run (programs_of c.args.filter.now) c.args.self.now.link c.args.self.now.stamped _ _) (no_links c.args.self.now (record c.args.self.now { feed = c.next.new.self }) refl)

pub returns-else-is_refusal-clause-runs : goal.returns-else-is_refusal-clause-runs
returns-else-is_refusal-clause-runs c =
    run_stopped (programs_of c.args.filter.now) c.args.rest.now.now c.next.new.rest.now c.args.self.now (record c.args.self.now { feed = c.next.new.self }) _ _ c.in-Err.fault refl refl refl refl c.in-Err.ensures.says c.in-Err.ensures.advances

pub returns-in_ok-stop-in-Ok-SeenEntry-clause-shorter : goal.returns-in_ok-stop-in-Ok-SeenEntry-clause-shorter
returns-in_ok-stop-in-Ok-SeenEntry-clause-shorter c = after_shorter c.after.result c.in_ok-stop-in-Ok-SeenEntry.stop c.args.rest.now.now c.next.new.rest.now _ _ c.after.new.self c.in-Ok-SeenEntry.ensures.shorter c.after.ensures.went
