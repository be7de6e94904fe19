-- What happens isn't refused.
use Rattle.std.proofs.Common.{◌≡◌, ◌≢◌, ℕ, zero, suc, None, Some, List, length, ap, sym, ◌∙◌, arith}
use Rattle.std.specs.Prelude.{option_map}
use Rattle.std.proofs.lemmas.List.{length-map}
use Rattle.std.proofs.lemmas.Option.{slice_get_within}
use Rattle.world_events.specs.declared.event.Event.{Event}
use Rattle.world_events.specs.declared.event.Event.TheVariants.{Start, Submit, StartFor, Take, Rx}
use Rattle.world_events.specs.declared.event.Answer.{Answer}
use Rattle.world_events.specs.declared.event.Done.{Done}
use Rattle.world_events.specs.declared.fault.WorldFault.{WorldFault}
use Rattle.world_model.specs.Worlds.{Peer, World, Happens, Run}
use Rattle.world_model.proofs.RunLaws.{run_agrees}
use Rattle.world_model.specs.Refusals.{channel, StandsFirst}
use Rattle.world_model.proofs.Standing.{start_none, submit_none, start_for_none, take_none, rx_none}
use Rattle.filter_table.specs.Limits.{TableLimits}
use Rattle.filter_table.proofs.Positions.{get_at}

-- each other core has an entry among the requests and among the cores
peers_wait : (limits : TableLimits) (budget : ℕ) (budgets : List ℕ) (before : List Done) (w : World) → Run limits budget budgets before w → length w.requests.waiting ≡ length w.peers
peers_wait limits budget budgets before w r =
    let a = run_agrees limits budget budgets before w r in
    a.waiting_kept ∙ (sym (ap length a.budgets_kept) ∙ length-map w.peers (λ p. p.budget))

-- the core whose request is started is joined to core 0
joined_for : (limits : TableLimits) (budget : ℕ) (budgets : List ℕ) (before : List Done) (w w' : World) (core : ℕ) (answer : Answer) → Run limits budget budgets before w → Happens w (StartFor core) w' answer → channel w zero core ≢ None
joined_for limits budget budgets before w w' zero answer r h = absurd h
joined_for limits budget budgets before w w' (suc i) answer r h =
    let p = get_at w.peers i (omega (arith, peers_wait limits budget budgets before w r, slice_get_within w.requests.waiting i (Some h.here.starts.op) h.here.starts.is_waiting)) in
    λ none. (let x : channel w zero (suc i) ≡ Some p.0.up = ap (option_map (λ (q : Peer). q.up)) p.1 in cc)

-- no fault stands
pub none_stands : (limits : TableLimits) (budget : ℕ) (budgets : List ℕ) (before : List Done) (w w' : World) (event : Event) (answer : Answer) (fault : WorldFault) → Run limits budget budgets before w → Happens w event w' answer → StandsFirst w event fault → ⊥
none_stands limits budget budgets before w w' (Start op) answer fault r h f = start_none w w' op answer h fault f
none_stands limits budget budgets before w w' (Submit core op) answer fault r h f = submit_none w w' core op answer h fault f
none_stands limits budget budgets before w w' (StartFor core) answer fault r h f = start_for_none w w' core answer (joined_for limits budget budgets before w w' core answer r h) h fault f
none_stands limits budget budgets before w w' (Take to from short) answer fault r h f = take_none w w' to from short answer h fault f
none_stands limits budget budgets before w w' (Rx core number packet floor) answer fault r h f = rx_none w w' core number packet floor answer h fault f
