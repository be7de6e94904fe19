use Rattle.std.proofs.Common.{◌+◌, ◌*◌, ◌≤◌, length}
use Rattle.filter_codegen.specs.Lowered.{Stands}
use Rattle.filter_codegen.proofs.lower.lower.Given as goal

abbrev pub invariant-nodes : goal.invariant-nodes
invariant-nodes l = record {
  stands : Stands l.accept l.graph l.plans.items l.at l.places.items l.jumps.items l.draft;
  few : length l.draft + 10 ≤ 6 * l.at;
}
