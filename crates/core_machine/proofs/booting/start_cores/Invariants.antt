use Rattle.std.proofs.Common.{◌≤◌, length}
use Rattle.std.specs.Prelude.{vec_capacity}
use Rattle.std.specs.Vec.Iter.{into_iter_items}
use Rattle.core_machine.proofs.ComingUp.{ComingUp}
use Rattle.core_machine.proofs.booting.start_cores.Given as goal

abbrev pub invariant-loop-links : goal.invariant-loop-links
invariant-loop-links l = record {
  coming : ComingUp (length l.budgets) l.limits l.budgets l.fn.lanes.items l.lanes.items l.fn.links.items l.yielded (into_iter_items l.links-iterator) l.cores.items l.ports.items;
  room : length l.budgets ≤ vec_capacity l.cores;
  port_room : length l.budgets ≤ vec_capacity l.ports;
}
