use Rattle.std.proofs.Common.{◌≡◌, ◌≤◌, ◌+◌, ◌++◌, length}
use Rattle.std.specs.Prelude.{vec_len, vec_capacity}
use Rattle.std.specs.Vec.Iter.{into_iter_items}
use Rattle.core_machine.specs.Conclusions.{histories_of, listed_histories}
use Rattle.core_machine.proofs.conclusion.part.Given as goal

abbrev pub invariant-loop-one : goal.invariant-loop-one
invariant-loop-one l = record {
  cores : l.cores.items ≡ l.yielded;
  histories : listed_histories l.histories.items ≡ histories_of l.yielded;
  whole : l.fn.recorded.items ≡ l.yielded ++ into_iter_items l.one-iterator;
  room : vec_len l.cores + length (into_iter_items l.one-iterator) ≤ vec_capacity l.cores;
  room_too : vec_len l.histories + length (into_iter_items l.one-iterator) ≤ vec_capacity l.histories;
}
