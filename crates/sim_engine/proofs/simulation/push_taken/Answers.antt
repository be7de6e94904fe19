use Rattle.std.proofs.Common.{◌∙◌, ◌++◌, ap, sym}
use Rattle.std.specs.List.{flat_map}
use Rattle.std.proofs.lemmas.List.{flat_map_more, map-id}
use Rattle.std.proofs.lemmas.Iterator.Adapters.{YieldsList-from_vec}
use Rattle.std.proofs.lemmas.Iterator.Consumers.{YieldsList-end}
use Rattle.sim_lines.specs.Events.{done_line}
use Rattle.sim_engine.proofs.simulation.push_taken.Goals as goal

pub loop-done-preserved : goal.loop-done-preserved
loop-done-preserved c =
    rw (c.in_ok-extend_from_slice.ensures.items, c.as_slice.ensures.value, c.in_ok-line.ensures, c.loop-done.invariant)
    (flat_map_more done_line c.args.text.now.items c.loop-done.yielded c.in-Some.done)

pub returns : goal.returns
returns c =
    let given = c.into_iter-done-iterator.ensures.into_iter_gives in
    let all = YieldsList-end (YieldsList-from_vec c.args.taken.items given.0 (given.1 ∙ c.args.taken.ok.0))
    c.loop-done.yielded c.loop-done.done-iterator c.loop-done.yielded_by c.next.result c.next.new.self c.in-None.is c.next.ensures.steps in
    c.loop-done.invariant ∙ ap (λ done. c.args.text.now.items ++ flat_map done_line done) (sym (map-id c.loop-done.yielded) ∙ all.0)
