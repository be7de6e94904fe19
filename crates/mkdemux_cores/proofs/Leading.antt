-- What a call on the core in a block does, as a call on its handle does it.
use Rattle.std.proofs.Common.{◌≡◌, Option, Some, subst}
use Rattle.core_machine.specs.Machines.{RingCore}
use Rattle.mkdemux_cores.specs.Leading.{Leads}

pub leads : (P : RingCore → RingCore → Type 0) (before after : Option RingCore) (inner had new : RingCore) → inner ≡ had → before ≡ Some had → after ≡ Some new → P inner new → Leads P before after
leads P before after inner had new lent was is holds = record { old = had; new = new; had = was; has = is; holds = subst (λ (o : RingCore). P o new) lent holds }
