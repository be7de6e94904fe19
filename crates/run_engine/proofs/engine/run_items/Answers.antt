use Rattle.std.proofs.Common.{◌<◌, All, ℕ, length, sym, subst}
use Rattle.rx_queue.specs.declared.job.Job.{Job}
use Rattle.run_engine.proofs.Runs.{have_done, has_halted}
use Rattle.run_engine.proofs.Works.{requests_inside, requests_givable, jobs_inside}
use Rattle.run_engine.proofs.engine.run_items.Goals as goal

pub boot_with_limits-requires-clause-inside : goal.boot_with_limits-requires-clause-inside
boot_with_limits-requires-clause-inside g c =
    requests_inside (length c.args.budgets.now) c.args.items.items c.in_ok-requests.field-0.requests.items c.requires.at_cores c.in_ok-requests.ensures.requests

pub boot_with_limits-requires-clause-short : goal.boot_with_limits-requires-clause-short
boot_with_limits-requires-clause-short g c = requests_givable c.args.items.items c.in_ok-requests.field-0.requests.items c.requires.limited c.in_ok-requests.ensures.requests

pub run_to_rest-requires-after_bounds : goal.run_to_rest-requires-after_bounds
run_to_rest-requires-after_bounds g c =
    let inside = subst (λ (n : ℕ). All (λ (j : ℕ × Job). j.0 < n) c.in_ok-requests.field-0.jobs.items) (sym c.in-Ok.ensures.cores)
    (jobs_inside (length c.args.budgets.now) c.args.items.items c.in_ok-requests.field-0.jobs.items c.requires.at_cores c.in_ok-requests.ensures.jobs) in
    search inside

pub returns-in-None : goal.returns-in-None
returns-in-None g c = record {
  done = have_done c.args.limits c.args.budgets.now c.args.items.items c.in_ok-requests.field-0.requests.items c.in_ok-requests.field-0.jobs.items c.in-Ok.machine.cores c.in_ok-rested.rested.cores.items c.in_ok-rested.rested.left.items
      c.in_ok-rested.rested.undone c.in_ok-requests.ensures.requests c.in_ok-requests.ensures.jobs c.in-None.is c.in-Ok.ensures.machine c.in-Ok.ensures.cores c.in-Ok.ensures.requests c.in_ok-rested.ensures.rests
      (c.in_ok-rested.ensures.machine c.args.limits);
  failure = tt;
}

pub returns-in-Some : goal.returns-in-Some
returns-in-Some g c = record {
  done = tt;
  failure = has_halted c.args.limits c.args.budgets.now c.args.items.items c.in_ok-requests.field-0.requests.items c.in_ok-requests.field-0.jobs.items c.in-Ok.machine.cores c.in_ok-rested.rested.cores.items c.in_ok-rested.rested.left.items
      c.in_ok-rested.rested.undone c.in-Some.core c.in-Some.why c.in_ok-requests.ensures.requests c.in_ok-requests.ensures.jobs c.in-Some.is c.in-Ok.ensures.machine c.in-Ok.ensures.requests c.in_ok-rested.ensures.rests;
}
