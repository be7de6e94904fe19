-- What the thread that puts the jobs does to the outlets.
-- No public clause cites these.
use Rattle.std.specs.Prelude.{◌≡◌, ◌++◌, List, None, option_to_list}
use Rattle.std.specs.Global.{Global}
use Rattle.std.specs.declared.collections.VecDeque.{VecDeque}
use Rattle.rx_queue.specs.declared.port.Port.{Port}
use Rattle.rx_queue.specs.declared.job.Job.{Job}
use Rattle.rx_queue.specs.Queue.{jobs_put, SamePort}
use Rattle.core_threads.specs.declared.feeding.Outlet.{Outlet}

-- the jobs that were not put
abbrev pub jobs_unput : Outlet → List Job
jobs_unput o = option_to_list o.held ++ o.later.items

-- the jobs of a core: those that were put, and then the others
abbrev pub jobs_through : Outlet → List Job
jobs_through o = jobs_put o.port ++ jobs_unput o

-- the same port, with the same jobs
pub record SameOutlet (old new : Outlet) : Type 0 where
  pub port : SamePort old.port new.port
  pub jobs : jobs_through new ≡ jobs_through old

-- the outlet of a core of which nothing is put yet
abbrev pub full_outlet : Port × VecDeque Job Global → Outlet
full_outlet x = record { port = x.0; held = None; later = x.1 }
