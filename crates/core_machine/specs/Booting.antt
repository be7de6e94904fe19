-- How a machine comes up.
use Rattle.std.specs.Prelude.{◌≡◌, ◌++◌, ℕ, All, List, [], ◌∷◌, length, Some, slice_get}
use Rattle.std.specs.Global.{Global}
use Rattle.std.specs.declared.collections.VecDeque.{VecDeque}
use Rattle.filter_table.specs.Limits.{TableLimits}
use Rattle.filter_table.specs.declared.operation.Op.{Op}
use Rattle.rx_queue.specs.declared.port.Port.{Port}
use Rattle.core_links.specs.declared.ring_links.RingLinks.{RingLinks}
use Rattle.core_loop.specs.Cores.{AreShort}
use Rattle.core_loop.specs.Keeping.{replica_of}
use Rattle.core_machine.specs.Machines.{RingCore, IsMachine}
use Rattle.core_machine.specs.Booted.{IsBooted}
use Rattle.core_machine.specs.Lanes.{items_for}

-- each request can be given to its core: that of a core other than 0 can be sent
abbrev pub AreGivable : List (ℕ × Op) → Type 0
AreGivable requests = All (λ r. AreShort r.0 (r.1 ∷ [])) requests

-- a core has come up in its place among so many, with these limits, this budget, these links and these requests
pub record ComesUp (place cores : ℕ) (limits : TableLimits) (budget : ℕ) (links : RingLinks) (requests : List Op) (core : RingCore) (port : Port) : Type 0 where
  pub booted : IsBooted place core port
  pub count : core.cores ≡ cores
  pub limits_are : (replica_of core.part).shown.limits ≡ limits
  pub budget_is : (replica_of core.part).budget ≡ budget
  pub links_are : core.links ≡ links
  pub pending : core.pending ≡ requests

-- so has a core, and the port of its queue is the last of these
pub record ComesUpLast (place cores : ℕ) (limits : TableLimits) (budget : ℕ) (links : RingLinks) (requests : List Op) (core : RingCore) (old_ports new_ports : List Port) : Type 0 where
  pub port : Port
  pub comes_up : ComesUp place cores limits budget links requests core port
  pub pushed : new_ports ≡ old_ports ++ port ∷ []

-- one more core has come up
pub record AddsCore (cores : ℕ) (limits : TableLimits) (budget : ℕ) (links : RingLinks) (requests : List Op) (old new : List RingCore) (old_ports new_ports : List Port) : Type 0 where
  pub core : RingCore
  pub port : Port
  pub comes_up : ComesUp (length old) cores limits budget links requests core port
  pub pushed : new ≡ old ++ core ∷ []
  pub pushed_port : new_ports ≡ old_ports ++ port ∷ []

-- the cores over these links have come up, all with these limits, each with its budget and its requests
pub record HaveComeUp (count : ℕ) (limits : TableLimits) (budgets : List ℕ) (lanes : List (VecDeque Op Global)) (links : List RingLinks) (cores : List RingCore) (ports : List Port) : Type 0 where
  pub all : length cores ≡ length links
  pub all_ports : length ports ≡ length links
  pub each : (i b : ℕ) (requests : VecDeque Op Global) (l : RingLinks) (c : RingCore) (p : Port) → slice_get budgets i ≡ Some b → slice_get lanes i ≡ Some requests → slice_get links i ≡ Some l
      → slice_get cores i ≡ Some c → slice_get ports i ≡ Some p → ComesUp i count limits b l requests.items c p

-- the cores are those of one machine with these limits and budgets
abbrev pub IsMachineOf : TableLimits → List ℕ → List RingCore → Type 0
IsMachineOf limits [] cores = ⊥
IsMachineOf limits (budget ∷ budgets) cores = IsMachine limits budget budgets cores

-- each core has the requests given for it
abbrev pub HaveRequests : List (ℕ × Op) → List RingCore → Type 0
HaveRequests requests cores = (i : ℕ) (c : RingCore) → slice_get cores i ≡ Some c → c.pending ≡ items_for i requests

-- the requests of each lane can be given to its core
abbrev pub AreShortLanes : List (VecDeque Op Global) → Type 0
AreShortLanes lanes = (i : ℕ) (requests : VecDeque Op Global) → slice_get lanes i ≡ Some requests → AreShort i requests.items
