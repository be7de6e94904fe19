use Rattle.std.proofs.Common.{◌≡◌, ◌≤◌, ◌+◌, ◌++◌, length}
use Rattle.std.specs.Prelude.{vec_len, vec_capacity}
use Rattle.std.specs.Vec.Iter.{into_iter_items}
use Rattle.core_threads.proofs.booting.record_all.Given as goal

abbrev pub invariant-loop-core : goal.invariant-loop-core
invariant-loop-core l = record {
  recorded : l.recorded.items ≡ l.yielded;
  whole : l.fn.cores.items ≡ l.yielded ++ into_iter_items l.core-iterator;
  room : vec_len l.recorded + length (into_iter_items l.core-iterator) ≤ vec_capacity l.recorded;
}
