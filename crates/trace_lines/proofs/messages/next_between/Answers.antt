use Rattle.std.proofs.Common.{◌+◌, ◌-◌, length, drop, arith, sym, ◌∙◌, ap}
use Rattle.std.specs.Prelude.{option_map, slice_get}
use Rattle.std.proofs.lemmas.Option.{slice_get-get_or, slice_get_past}
use Rattle.std.proofs.lemmas.List.{length-drop, take_all}
use Rattle.trace_lines.specs.Links.{is_between}
use Rattle.trace_lines.proofs.Fronts.{next_passes, counts_next, counts_all}
use Rattle.trace_lines.proofs.messages.next_between.Goals as goal

pub returns-then-place-messages-clause-sender : goal.returns-then-place-messages-clause-sender
returns-then-place-messages-clause-sender c =
    let next = next_passes (is_between c.args.from c.args.to) c.args.start c.args.messages.now in
    let all = take_all (length c.args.messages.now - c.args.start) (drop c.args.start c.args.messages.now) (rw length-drop (omega arith)) in
    let at = rw all at c.first_between.ensures.place in
    sym (ap (λ m. option_map (λ m. m.row) m) (next ∙ ap (λ k. slice_get c.args.messages.now (c.args.start + k)) (sym at) ∙ slice_get-get_or c.args.messages.now (c.args.start + c.first_between.result) _ (omega arith)))

pub returns-then-place-messages-clause-counted : goal.returns-then-place-messages-clause-counted
returns-then-place-messages-clause-counted c =
    let all = take_all (length c.args.messages.now - c.args.start) (drop c.args.start c.args.messages.now) (rw length-drop (omega arith)) in
    let at = rw all at c.first_between.ensures.place in
    rw at (counts_next (is_between c.args.from c.args.to) c.args.start c.args.messages.now (rw (← at) (omega arith)))

pub returns-else-place-messages-clause-sender : goal.returns-else-place-messages-clause-sender
returns-else-place-messages-clause-sender c =
    let next = next_passes (is_between c.args.from c.args.to) c.args.start c.args.messages.now in
    let all = take_all (length c.args.messages.now - c.args.start) (drop c.args.start c.args.messages.now) (rw length-drop (omega arith)) in
    let at = rw all at c.first_between.ensures.place in
    sym (ap (λ m. option_map (λ m. m.row) m) (next ∙ ap (λ k. slice_get c.args.messages.now (c.args.start + k)) (sym at) ∙ slice_get_past c.args.messages.now (c.args.start + c.first_between.result) (omega arith)))

pub returns-else-place-messages-clause-counted : goal.returns-else-place-messages-clause-counted
returns-else-place-messages-clause-counted c =
    let all = take_all (length c.args.messages.now - c.args.start) (drop c.args.start c.args.messages.now) (rw length-drop (omega arith)) in
    let at = rw all at c.first_between.ensures.place in
    counts_all (is_between c.args.from c.args.to) c.args.start c.args.messages.now (rw (← at) (omega arith))
