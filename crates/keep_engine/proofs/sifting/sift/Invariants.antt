use Rattle.std.proofs.Common.{◌≤◌, ◌-◌, drop, length}
use Rattle.console.specs.Programs.{programs_of}
use Rattle.keep_engine.specs.Sieving.{TakesRecords}
use Rattle.keep_engine.proofs.sifting.sift.Given as goal

abbrev pub invariant-loop-length : goal.invariant-loop-length
invariant-loop-length l = record {
  within : l.count ≤ length l.bytes;
  so : TakesRecords (programs_of l.filter) l.wanted l.header l.bytes (drop l.count l.bytes) l.initial.kept l.kept;
}

abbrev pub decreases-loop-length : goal.decreases-loop-length
decreases-loop-length l = length l.bytes - l.count
