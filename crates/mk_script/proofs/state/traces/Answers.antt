use Rattle.std.proofs.Common.{ap, ◌∙◌}
use Rattle.std.specs.List.{flat_map}
use Rattle.mk_script.specs.Changes.{asks_in, events_in}
use Rattle.mk_script.specs.DraftViews.{jobs_of}
use Rattle.mk_script.proofs.ChangeLemmas.{knows_trace}
use Rattle.mk_script.proofs.state.traces.Goals as goal

pub returns : goal.returns
returns c =
    let r = c.args.reading.now in
    let counted = ap (jobs_of r.received) c.requires.0 in
    let asks = c.in_ok-asks.ensures.0 ∙ ap (λ v. flat_map asks_in v.items) c.replace-items.ensures.value in
    let events = c.in_ok-asks.ensures.1 ∙ ap (λ v. flat_map events_in v.items) c.replace-items.ensures.value in
    λ given knows. knows_trace _ _ _ _ _ _ _ _ _ given knows r.received _ _ counted c.requires.1 asks events
