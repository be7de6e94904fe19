-- What a call on a handle does to the core that it has.
use Rattle.std.specs.Prelude.{◌≡◌, Option, Some}
use Rattle.core_machine.specs.Machines.{RingCore}

-- the handle had a core and has it still, and this holds of the core before and after
pub record Leads (P : RingCore → RingCore → Type 0) (before after : Option RingCore) : Type 0 where
  pub old : RingCore
  pub new : RingCore
  pub had : before ≡ Some old
  pub has : after ≡ Some new
  pub holds : P old new
