use Rattle.std.proofs.Common.{◌-◌, ◌<◌, ◌≤◌, length, get_or}
use Rattle.chunked.proofs.keys.chunk_of_key.Given as goal

abbrev pub invariant-loop-high : goal.invariant-loop-high
invariant-loop-high l = record {
  apart : l.low < l.high;
  within : l.high ≤ length l.firsts;
  from : 0 < l.low → get_or l.firsts l.low 0 ≤ l.key;
  to : l.high < length l.firsts → l.key < get_or l.firsts l.high 0;
}

abbrev pub decreases-loop-high : goal.decreases-loop-high
decreases-loop-high l = l.high - l.low
