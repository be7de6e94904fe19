use Rattle.std.proofs.Common.{◌≡◌, false}
use Rattle.engine_io.specs.Devices.{WritesNothing}
use Rattle.engine_io.proofs.sink.Sink.write.Given as goal

abbrev pub invariant-loop : goal.invariant-loop
invariant-loop g l = record {
  good : l.self.failed ≡ false;
  kept : WritesNothing g.W.Write.contents l.initial.self l.self;
}

abbrev pub ghost-remembered : goal.ghost-remembered
ghost-remembered g a = a._bytes.now
