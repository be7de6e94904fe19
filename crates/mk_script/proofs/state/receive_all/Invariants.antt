use Rattle.std.proofs.Common.{◌≡◌, ◌+◌, ◌++◌, drop, length}
use Rattle.std.specs.Prelude.{map}
use Rattle.mk_script.specs.declared.script.Item.TheVariants.{Apply}
use Rattle.mk_script.specs.DraftViews.{events_of}
use Rattle.mk_script.specs.Drafts.{replayed}
use Rattle.mk_script.proofs.state.receive_all.Given as goal

abbrev pub invariant-loop-place : goal.invariant-loop-place
invariant-loop-place l = record {
  added : l.initial.items.items ++ map (λ e. Apply e) (events_of l.replay) ≡ l.items.items ++ map (λ e. Apply e) (replayed l.replay.cores l.replay.received l.replay.floor l.place (drop l.place l.packets));
  count : length l.items.items ≡ length l.initial.items.items + l.place;
}
