use Rattle.std.proofs.Common.{Some}
use Rattle.std.specs.Vec.Iter.{into_iter_items}
use Rattle.mkdemux_cores.specs.Booting.{cores_of}
use Rattle.mkdemux_cores.proofs.Opening.{Putting}
use Rattle.mkdemux_cores.proofs.booting.put_all.Given as goal

abbrev pub invariant-loop-core : goal.invariant-loop-core
invariant-loop-core l = Putting (λ b. Some b.value) l.fn.booted.items l.yielded (into_iter_items l.core-iterator) (cores_of l.initial.cores) (cores_of l.cores) l.place
