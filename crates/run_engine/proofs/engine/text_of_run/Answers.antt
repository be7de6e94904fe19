use Rattle.std.proofs.Common.{◌∙◌, ◌++◌, List, ℕ, ap, string_bytes, subst}
use Rattle.std.specs.List.{flat_map}
use Rattle.sim_lines.specs.Events.{done_line}
use Rattle.world_histories.specs.declared.history.Stamped.{Stamped}
use Rattle.core_machine.specs.Merges.{ListsRuns, shown_list}
use Rattle.mk_script.specs.declared.script.Item.{Item}
use Rattle.run_engine.specs.Running.{HaveDone}
use Rattle.run_engine.proofs.Runs.{shows}
use Rattle.run_engine.proofs.engine.text_of_run.Goals as goal

pub conclude-requires : goal.conclude-requires
conclude-requires g c = let done = c.in_ok-rested.ensures.done in (c.args.script.limits, done.budget, done.others, done.machine)

pub returns : goal.returns
returns g c = record {
  shown = shows c.args.script c.in_ok-rested.rested.cores.items c.in_ok-rested.rested.left.items (shown_list c.in_ok-events.events.items) (string_bytes c.push_all_left.new.text) c.in_ok-push_all_left.ensures.0
      (subst (λ (bs : List ℕ). HaveDone c.args.script.limits bs c.args.script.items c.in_ok-rested.rested.cores.items c.in_ok-rested.rested.left.items) c.as_slice.ensures
      (subst (λ (is : List Item). HaveDone c.args.script.limits c.as_slice.result.now is c.in_ok-rested.rested.cores.items c.in_ok-rested.rested.left.items) c.into_vec-items.ensures c.in_ok-rested.ensures.done)) c.in_ok-histories.ensures.computation
      (subst (λ (hs : List (List Stamped)). ListsRuns hs (shown_list c.in_ok-events.events.items)) c.in_ok-histories.ensures.histories c.in_ok-events.ensures.run)
      c.in_ok-push_all_left.ensures.1
      (c.in_ok-push_all_left.ensures.2 ∙ ap (λ (t : List ℕ). t ++ c.in_ok-push_all_left.ensures.0) ((rw c.deref.ensures.value at c.in_ok-push_events.ensures) ∙ ap (λ (t : List ℕ). t ++ flat_map done_line (shown_list c.in_ok-events.events.items)) c.new-text.ensures.bytes));
  failure = tt;
}
