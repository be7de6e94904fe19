use Rattle.std.proofs.Common.{sym, ap, ◌∙◌}
use Rattle.core_links.specs.RingSlots.{machine_of}
use Rattle.core_machine.specs.Machines.{RingCore}
use Rattle.mkdemux_cores.proofs.settling.name_of.Goals as goal

pub returns-clause-name : goal.returns-clause-name
returns-clause-name c = (c.in_ok-open.open.value, c.in_ok-open.ensures.core, sym (c.machine-name.ensures ∙ ap (λ (x : RingCore). machine_of x.links) c.deref.ensures))
