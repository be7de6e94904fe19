use Rattle.std.proofs.Common.{ℕ, List, refl, rules, sym, subst}
use Rattle.std.proofs.lemmas.List.Sorted.{IsNonDecreasingBy-from_sort_by_key}
use Rattle.rx_queue.specs.declared.job.Job.{Job}
use Rattle.run_engine.specs.Showing.{ShowsLeft, left_lines}
use Rattle.std.proofs.lemmas.Result.{IfOk-weaker}
use Rattle.run_engine.proofs.lines.push_all_left.Goals as goal

pub returns : goal.returns
returns c =
    let sorted = c.sort_by_key.new.self.items in
    IfOk-weaker c.push_in_order.result _ _ (λ _ pushed. (
      left_lines c.as_slice.result.now,
      subst (λ (xs : List (ℕ × Job)). ShowsLeft c.args.left.items (left_lines xs)) (sym c.as_slice.ensures.value) (record {
        in_order = sorted;
        same = c.in_ok-sort_by_key.ensures.permutation;
        by_number = IsNonDecreasingBy-from_sort_by_key (λ l. l.1.number) _ c.in_ok-sort_by_key.ensures.sorted (λ a r q k. search rules);
        printed = refl;
      }),
      pushed,
    )) c.push_in_order.ensures
