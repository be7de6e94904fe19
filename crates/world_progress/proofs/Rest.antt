-- A machine goes on until it is at rest.
use Rattle.std.proofs.Common.{◌≡◌, ◌≢◌, ◌<◌, ◌⊎◌, inl, inr, ℕ, zero, suc, true, false, Option, None, Some, List, [], ◌∷◌, length, slice_get, refl, ap, sym, ◌∙◌, subst, arith}
use Rattle.std.specs.Prelude.{option_and_then, option_map}
use Rattle.std.specs.List.{All}
use Rattle.std.proofs.lemmas.List.Elements.{All-head}
use Rattle.std.proofs.lemmas.Option.{slice_get_within}
use Rattle.filter_table.proofs.Positions.{get_at}
use Rattle.filter_table.specs.Limits.{TableLimits}
use Rattle.filter_table.specs.declared.operation.Op.{Op}
use Rattle.filter_table.specs.declared.decision.Decision.{Decision}
use Rattle.monitor_messages.specs.declared.message.Message.{Message}
use Rattle.monitor_messages.specs.declared.message.Message.TheVariants as message
use Rattle.two_phase.specs.Coordinators.{Phase, Requests, CoordinatorPlace, Idle}
use Rattle.world_events.specs.declared.event.Event.{Event}
use Rattle.world_events.specs.declared.event.Event.TheVariants.{StartFor, Take}
use Rattle.world_events.specs.declared.event.Done.{Done}
use Rattle.world_events.specs.declared.fault.WorldFault.{WorldFault}
use Rattle.world_events.specs.declared.fault.WorldFault.TheVariants.{NoSuchCore, NotIdle, Spent, NoneWaiting}
use Rattle.world_events.specs.Memory.{HadMemory}
use Rattle.world_model.specs.Worlds.{Peer, World, version_at, Run}
use Rattle.world_model.specs.Agreement.{commitments}
use Rattle.world_model.specs.Readings.{Request}
use Rattle.world_model.proofs.Agreement.{run_inv, run_stages, idle_if_quiet, of_core}
use Rattle.world_model.proofs.Submissions.{requests_in, Holds, Stage, free, submitted, waiting, served, replied, Served}
use Rattle.world_model.proofs.RunLaws.{run_agrees}
use Rattle.world_model.proofs.Known.{run_known}
use Rattle.world_model.specs.Refusals.{channel, waiting_at, StandsFirst, AllQuiet, IsNext, Settles}
use Rattle.world_progress.specs.Progress.{DoneOrRefused, IsDoneAmply, SettlesAmply}
use Rattle.world_progress.proofs.Ends.{run_settles}
use Rattle.world_progress.proofs.Told.{event_told}
use Rattle.world_progress.specs.Remaining.{NoneWaits, IsAtRest, HasNothingLeft, GoesOn, CanGoOn, HasNoNumber}

-- Where no message is under way and no request waits

free_if_quiet : (place : CoordinatorPlace) (requests : Requests) (i : ℕ) (p : Peer) (r : Request) → place.phase ≡ Idle → p.up ≡ [] → p.down ≡ [] → ((op : Op) → slice_get requests.waiting i ≡ Some (Some op) → ⊥)
    → Stage place requests i p r → p.outstanding ≡ false
free_if_quiet place requests i p r idle up down none (free h asks d) = h.outstanding_is
free_if_quiet place requests i p r idle up down none (submitted op h asks d s) = absurd (let e : [] ≡ message.Submit op ∷ [] = sym (ap requests_in up) ∙ h.up_is in cc)
free_if_quiet place requests i p r idle up down none (waiting op h asks d s) = absurd (none op h.waiting_is)
free_if_quiet place requests i p r idle up down none (served h asks d s) = absurd (subst (λ (x : Phase). Served x place.last place.staged requests.decided r) idle s)
free_if_quiet place requests i p r idle up down none (replied op d rest h asks e q s t) = absurd (cc (e, down))

pub quiet_rests : (limits : TableLimits) (budget : ℕ) (budgets : List ℕ) (events : List Done) (w : World) → Run limits budget budgets events w → AllQuiet w → NoneWaits w → IsAtRest w
quiet_rests limits budget budgets events w run quiet none = record {
  idle = is_idle;
  none_outstanding = λ i p at. free_if_quiet w.place w.requests i p _ is_idle (quiet i p at).none_up (quiet i p at).none_down (none i) ((run_stages limits budget budgets events w run).stages i p at);
  one_version = version;
}
  where
    is_idle : w.place.phase ≡ Idle
    is_idle = idle_if_quiet w (run_inv limits budget budgets events w run) (λ i p at. (ap commitments (quiet i p at).none_down, ap commitments (quiet i p at).none_up))

    version : (core v : ℕ) → version_at w core ≡ Some v → v ≡ length w.log
    version zero v at = let e : w.version ≡ v = cc (at) in sym e ∙ (run_inv limits budget budgets events w run).version
    version (suc i) v at =
        let p = of_core (λ peer. peer.version) w.peers i v (slice_get w.peers i) refl at in
        sym p.2 ∙ ((run_agrees limits budget budgets events w run).settled is_idle i p.0 p.1).newest_version

-- Something can be done

waits_or_none : (xs : List (Option Op)) → ((i : ℕ) × (op : Op) × (slice_get xs i ≡ Some (Some op))) ⊎ ((i : ℕ) (op : Op) → slice_get xs i ≡ Some (Some op) → ⊥)
waits_or_none [] = inr (λ i op at. absurd cc)
waits_or_none (Some op ∷ xs) = inl (0, op, refl)
waits_or_none (None ∷ xs) = by_rest (waits_or_none xs)
  where
    by_rest : ((i : ℕ) × (op : Op) × (slice_get xs i ≡ Some (Some op))) ⊎ ((i : ℕ) (op : Op) → slice_get xs i ≡ Some (Some op) → ⊥)
        → ((i : ℕ) × (op : Op) × (slice_get (None ∷ xs) i ≡ Some (Some op))) ⊎ ((i : ℕ) (op : Op) → slice_get (None ∷ xs) i ≡ Some (Some op) → ⊥)
    by_rest (inl r) = inl (suc r.0, r.1, r.2)
    by_rest (inr none) = inr (λ i op at. at_place i op at)
      where
        at_place : (i : ℕ) (op : Op) → slice_get (None ∷ xs) i ≡ Some (Some op) → ⊥
        at_place zero op at = cc
        at_place (suc i) op at = none i op at

next_goes_on : (w : World) (event : Event) → IsNext w event → GoesOn event
next_goes_on w event n = elim n.choice [
  | inl x ↦ subst GoesOn (sym x.0) refl
  | inr x ↦ subst GoesOn (sym x.0) refl
]

waiting_goes_on : (limits : TableLimits) (budget : ℕ) (budgets : List ℕ) (events : List Done) (w : World) (i : ℕ) (op : Op) → Run limits budget budgets events w → w.place.phase ≡ Idle → slice_get w.requests.waiting i ≡ Some (Some op) → CanGoOn w ⊎ HasNoNumber w
waiting_goes_on limits budget budgets events w i op run idle at = by_told (event_told limits budget budgets events w (StartFor (suc i)) run)
  where
    peer : (p : Peer) × (slice_get w.peers i ≡ Some p)
    peer = let k = run_known limits budget budgets events w run in get_at w.peers i (omega (arith, k.cores, k.waiting_long, slice_get_within w.requests.waiting i (Some op) at))

    refused : (fault : WorldFault) → StandsFirst w (StartFor (suc i)) fault → CanGoOn w ⊎ HasNoNumber w
    refused NoSuchCore s = absurd (let x : channel w 0 (suc i) ≡ Some peer.0.up = ap (option_map (λ (q : Peer). q.up)) peer.1 in cc (x, s))
    refused NotIdle s = absurd (s.1 idle)
    refused Spent s = inr (record { waits = (i, op, at); spent = s.2 })
    refused NoneWaiting s = absurd (let x : waiting_at w (suc i) ≡ Some op = ap (option_and_then (λ waits. waits)) at in cc (x, s.3))
    refused fault s = absurd s

    by_told : DoneOrRefused w (StartFor (suc i)) → CanGoOn w ⊎ HasNoNumber w
    by_told (inl done) = inl (record { event = StartFor (suc i); goes_on = tt; done = done })
    by_told (inr r) = refused r.0 r.1

pub run_goes_on : (limits : TableLimits) (budget : ℕ) (budgets : List ℕ) (events : List Done) (w : World) → Run limits budget budgets events w → HasNothingLeft w ⊎ (CanGoOn w ⊎ HasNoNumber w)
run_goes_on limits budget budgets events w run = by_taken s.taken s.settles s.had_memory
  where
    s : SettlesAmply w
    s = run_settles limits budget budgets events w run

    when_quiet : AllQuiet w → ((i : ℕ) × (op : Op) × (slice_get w.requests.waiting i ≡ Some (Some op))) ⊎ ((i : ℕ) (op : Op) → slice_get w.requests.waiting i ≡ Some (Some op) → ⊥) → HasNothingLeft w ⊎ (CanGoOn w ⊎ HasNoNumber w)
    when_quiet quiet (inl r) =
        inr (waiting_goes_on limits budget budgets events w r.0 r.1 run (idle_if_quiet w (run_inv limits budget budgets events w run) (λ i p at. (ap commitments (quiet i p at).none_down, ap commitments (quiet i p at).none_up))) r.2)
    when_quiet quiet (inr none) = inl (record { quiet = quiet; none_waits = none; at_rest = quiet_rests limits budget budgets events w run quiet none })

    by_taken : (taken : List Done) → Settles w taken s.end → All HadMemory taken → HasNothingLeft w ⊎ (CanGoOn w ⊎ HasNoNumber w)
    by_taken [] e had = when_quiet (subst AllQuiet e s.quiet) (waits_or_none w.requests.waiting)
    by_taken (d ∷ ds) e had = inr (inl (record {
      event = d.event;
      goes_on = next_goes_on w d.event e.1;
      done = record { next = e.0; answer = d.answer; happens = e.2; had_memory = All-head HadMemory d ds had };
    }))
