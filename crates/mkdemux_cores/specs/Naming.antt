-- The name of a core's machine.
use Rattle.std.specs.Prelude.{ℕ, Option, None, Some}
use Rattle.core_links.specs.RingSlots.{with_machine}
use Rattle.core_machine.specs.Machines.{RingCore}

-- the core, if there is one, with this name of its machine, and all else as it was
abbrev pub named : ℕ → Option RingCore → Option RingCore
named name None = None
named name (Some c) = Some (record c { links = with_machine name c.links })
