use Rattle.std.proofs.Common.{◌≡◌}
use Rattle.std.specs.List.{flat_map}
use Rattle.mk_script.specs.Changes.{asks_in, events_in}
use Rattle.mk_script.proofs.state.split.Given as goal

abbrev pub invariant-loop-item : goal.invariant-loop-item
invariant-loop-item l = record {
  asks : l.asks.items ≡ flat_map asks_in l.yielded;
  jobs : l.jobs.items ≡ flat_map events_in l.yielded;
}
