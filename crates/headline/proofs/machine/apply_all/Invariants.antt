use Rattle.std.proofs.Common.{◌≡◌, ◌+◌, ◌++◌, ◌≤◌, length, map}
use Rattle.std.specs.Prelude.{vec_len, vec_capacity}
use Rattle.std.specs.Vec.Iter.{into_iter_items}
use Rattle.world_events.specs.declared.event.Done.{Done}
use Rattle.world_model.specs.Refusals.{Extends}
use Rattle.headline.proofs.machine.apply_all.Given as goal

abbrev pub invariant-loop-event : goal.invariant-loop-event
invariant-loop-event l = record {
  extends : Extends l.initial.world l.done.items l.world;
  given : map (λ (d : Done). d.event) l.done.items ≡ l.yielded;
  whole : l.fn.events.items ≡ l.yielded ++ into_iter_items l.event-iterator;
  room : vec_len l.done + length (into_iter_items l.event-iterator) ≤ vec_capacity l.done;
}
