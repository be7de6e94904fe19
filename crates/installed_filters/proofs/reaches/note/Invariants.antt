use Rattle.std.proofs.Common.{◌≡◌, length}
use Rattle.installed_filters.specs.Keeping.{AreNoted}
use Rattle.installed_filters.proofs.reaches.note.Given as goal

abbrev pub invariant-loop-hit : goal.invariant-loop-hit
invariant-loop-hit l = record {
  long : length l.verdicts ≡ length l.initial.verdicts;
  noted : AreNoted l.hits 0 l.initial.verdicts → AreNoted l.hits l.hit-index l.verdicts;
}
