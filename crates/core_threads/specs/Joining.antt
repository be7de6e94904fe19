-- What all threads give back.
-- No public clause cites these.
use Rattle.std.specs.Prelude.{List}
use Rattle.std.specs.List.{AllZip}
use Rattle.core_machine.specs.Machines.{RingCore}
use Rattle.core_threads.specs.declared.feeding.Outlet.{Outlet}
use Rattle.core_threads.specs.declared.threads.Ran.{Ran}
use Rattle.core_threads.specs.Feeding.{SameOutlet}
use Rattle.core_threads.specs.Runs.{ThreadRan}

-- each core ran, in order
abbrev pub HaveRan : List RingCore → List Ran → Type 0
HaveRan cores ran = AllZip (λ c r. ThreadRan c r.core r.halted) cores ran

-- the same outlets, in order
abbrev pub SameOutlets : List Outlet → List Outlet → Type 0
SameOutlets old new = AllZip SameOutlet old new
