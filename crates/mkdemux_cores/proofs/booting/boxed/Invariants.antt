use Rattle.std.proofs.Common.{◌≡◌, ◌≤◌, ◌++◌, length, map}
use Rattle.std.specs.Prelude.{vec_capacity}
use Rattle.std.specs.Vec.Iter.{into_iter_items}
use Rattle.mkdemux_cores.proofs.booting.boxed.Given as goal

abbrev pub invariant-loop-core : goal.invariant-loop-core
invariant-loop-core l = record {
  split : l.fn.cores.items ≡ l.yielded ++ into_iter_items l.core-iterator;
  boxes : map (λ b. b.value) l.boxes.items ≡ l.yielded;
  room : length l.fn.cores.items ≤ vec_capacity l.boxes;
}
