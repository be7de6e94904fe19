use Rattle.std.proofs.Common.{◌≤◌}
use Rattle.filter_group.proofs.search.rank_among.Given as goal

abbrev pub invariant-loop-n : goal.invariant-loop-n
invariant-loop-n l = record {
  order : l.among.first ≤ l.among.end;
  within : l.among.end ≤ l.count;
}
