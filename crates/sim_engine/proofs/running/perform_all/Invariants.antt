use Rattle.std.proofs.Common.{◌≡◌, take, false}
use Rattle.sim_engine.specs.Simulations.{just, sim}
use Rattle.sim_engine.proofs.Printed.{Printed}
use Rattle.sim_engine.proofs.running.perform_all.Given as goal

abbrev pub invariant-loop-item : goal.invariant-loop-item
invariant-loop-item g l = record {
  good : l.writer.failed ≡ false;
  printed : Printed (just l.initial.world) (take l.item-index l.items) (sim l.world l.requests) g.W.Write.contents l.initial.writer l.writer l.text.items;
}
