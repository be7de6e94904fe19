use Rattle.std.proofs.Common.{◌≡◌, ◌≤◌, ◌+◌, ◌++◌, ℕ, List, length}
use mathlib.Core.List.{IsPrefix}
use Rattle.rtrb.specs.Ring.{sent, known_free, SameProducer}
use Rattle.ump_ring.specs.Lines.{lines_below, number_after}
use Rattle.ump_ring.proofs.sender.push_lines.Given as goal

abbrev pub invariant-loop-place : goal.invariant-loop-place
invariant-loop-place l = record {
  ring : SameProducer l.initial.producer l.producer;
  grown : IsPrefix (sent l.initial.producer) (sent l.producer);
  pushed : l.place ≡ l.out + l.pushed;
  room : known_free l.initial.producer ≤ known_free l.producer + l.pushed;
  count : length (sent l.producer) ≡ length (sent l.initial.producer) + l.pushed;
  number : l.next ≡ number_after (length (sent l.producer));
  lines : (before : List (List ℕ)) → sent l.initial.producer ≡ before ++ lines_below (length l.message) l.message (length before) l.out
      → sent l.producer ≡ before ++ lines_below (length l.message) l.message (length before) (l.out + l.pushed);
}
