use Rattle.std.proofs.Common.{◌≡◌}
use Rattle.run_engine.specs.Work.{jobs_of, requests_of}
use Rattle.run_engine.proofs.work.work_of.Given as goal

abbrev pub invariant-loop-item : goal.invariant-loop-item
invariant-loop-item l = (l.work.requests.items ≡ requests_of l.yielded) × (l.work.jobs.items ≡ jobs_of l.yielded)
