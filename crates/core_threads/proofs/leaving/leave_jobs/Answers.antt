use Rattle.std.proofs.Common.{List, ℕ, ◌++◌, option_to_list, append_assoc, ap, ◌∙◌, subst}
use Rattle.rx_queue.specs.declared.job.Job.{Job}
use Rattle.rx_queue.specs.Queue.{jobs_put, jobs_taken}
use Rattle.core_machine.specs.Machines.{RingCore}
use Rattle.core_threads.specs.Leaving.{Leaves}
use Rattle.core_threads.proofs.Lefts.{leaves_along}
use Rattle.core_threads.proofs.leaving.leave_jobs.Goals as goal

pub returns-clause-left : goal.returns-clause-left
returns-clause-left c =
    let taken = jobs_taken c.args.core.now.intake in
    let outlet = c.args.outlet.now in
    let before = c.args.left.now.items in
    let after = c.leave_later.new.left.items in
    let put = leaves_along _ taken _ _ before _ _ c.in_ok-leave_put.ensures.left c.in_ok-leave_held.ensures in
    let all = leaves_along _ taken _ _ before _ after put c.in_ok-leave_later.ensures in
    let P : List Job → Type 0 = λ jobs. Leaves c.number-number.result taken jobs before after in
    let Q : ℕ → Type 0 = λ n. Leaves n taken (jobs_put outlet.port ++ (option_to_list outlet.held ++ outlet.later.items)) before after in
    subst Q (c.number-number.ensures ∙ ap (λ (x : RingCore). x.number) c.core.ensures) (subst P (append_assoc (jobs_put outlet.port) (option_to_list outlet.held) outlet.later.items) all)
