use Rattle.std.proofs.Common.{◌+◌, ◌*◌, vec_len}
use Rattle.core_threads.proofs.threads.+fn-run_in_threads-scope+run_in_threads.Given as goal

-- two for each core that is not started
abbrev pub decreases-run_in_threads : goal.decreases-run_in_threads
decreases-run_in_threads g l = 2 * vec_len l.cores

abbrev pub decreases-scope : goal.decreases-scope
decreases-scope g l = 2 * vec_len l.cores + 1
