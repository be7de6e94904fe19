-- A message that core 0 waits for can be taken up.
use Rattle.std.proofs.Common.{◌≡◌, ◌∙◌, ℕ, suc, Bool, true, false, cond, Option, None, Some, IsSome, List, slice_get, slice_set, refl, sym, ap, subst, replicate}
use Rattle.std.specs.List.{list_all}
use Rattle.filter_table.specs.declared.operation.Op.{Op}
use Rattle.filter_table.specs.Tables.{TableState}
use Rattle.filter_table.specs.declared.decision.Vote.{Vote}
use Rattle.filter_table.specs.declared.decision.Vote.TheVariants as vote
use Rattle.filter_table.specs.declared.decision.Decision.{Decision}
use Rattle.filter_table.specs.declared.decision.Decision.TheVariants.{Refused}
use Rattle.monitor_messages.specs.declared.message.Message.{Message}
use Rattle.monitor_messages.specs.declared.message.Message.TheVariants as message
use Rattle.monitor_messages.specs.Coding.{IsNumbered}
use Rattle.two_phase.specs.declared.step.Step.{Step}
use Rattle.monitor_2pc.specs.Places.{after_commit}
use Rattle.two_phase.specs.Coordinators.{CoordinatorPlace, Requests, Phase, Idle, Voting, Acking, Tallies, waits, commits_all, aborts_all, StagedByPhase, veto_by, phase_with, reply_at, requests_at, with_decided, with_waiting}
use Rattle.world_events.specs.declared.event.Answer.TheVariants.{TookVote, TookAck, TookSubmit}
use Rattle.world_model.specs.Agreement.{Expects}
use Rattle.world_progress.proofs.Tallied.{Tallied, tallied}
use Rattle.core_steps.specs.declared.core0.Core0.{Core0}
use Rattle.core_steps.specs.declared.core0.Told.{Told}
use Rattle.core_steps.specs.Core0Steps.{BetweenSteps, CanBeSent, TakesUp, core0_place}

pub record IsTakenUp (core : Core0) (entry : ℕ) (m : Message) : Type 0 where
  pub after : Core0
  pub told : Told
  pub takes : TakesUp core (suc entry) m after told

-- a refusal by a vote can be sent
by_vote : (core : ℕ) (v : Vote) → IsNumbered (message.Reply (Refused core (veto_by v)))
by_vote core vote.Yes = tt
by_vote core vote.Budget = tt
by_vote core vote.NoMemory = tt

staged_after : (s : TableState) (last : ℕ) (op : Op) (votes : List (Option Vote)) (place : CoordinatorPlace) (committed : Option Op) (told : Step) → Tallies s last op votes place committed told
    → StagedByPhase place.phase place.staged × CanBeSent told.decided
staged_after s last op votes place committed told (waits i none is c t) =
    (subst (λ (p : CoordinatorPlace). StagedByPhase p.phase p.staged) (sym is) refl, subst (λ (x : Step). CanBeSent x.decided) (sym t) tt)
staged_after s last op votes place committed told (commits_all all is c t) =
    (subst (λ (p : CoordinatorPlace). StagedByPhase p.phase p.staged) (sym is) refl, subst (λ (x : Step). CanBeSent x.decided) (sym t) tt)
staged_after s last op votes place committed told (aborts_all core against l none is c t) =
    (subst (λ (p : CoordinatorPlace). StagedByPhase p.phase p.staged) (sym is) refl, subst (λ (x : Step). CanBeSent x.decided) (sym t) (by_vote core against))

taken_vote : (core : Core0) (entry txn : ℕ) (v : Vote) (op : Op) → core.replica.staged ≡ Some op → Expects (core0_place core) core.coordinator.requests entry (message.Vote txn v) → IsTakenUp core entry (message.Vote txn v)
taken_vote core entry txn v op on_op waits_for =
    let t = tallied core.replica.shown txn op (slice_set waits_for.0 entry (Some v)) in
    let s = staged_after core.replica.shown txn op (slice_set waits_for.0 entry (Some v)) t.place t.committed t.told t.tallies in
    record {
      after = record {
        replica = record { budget = core.replica.budget; shown = after_commit core.replica.shown t.committed; staged = t.place.staged };
        coordinator = record { others = core.coordinator.others; last = t.place.last; phase = t.place.phase; requests = with_decided core.coordinator.requests t.told.decided };
      };
      told = record { step = t.told; answer = TookVote txn v t.told.decided };
      takes = record {
        entry = entry;
        is_core = refl;
        committed = t.committed;
        here = record {
          hears = record { votes = waits_for.0; op = op; voting = waits_for.1; on_op = on_op; number = waits_for.2; first_vote = waits_for.3; tallies = t.tallies };
          requests_next = refl;
          is_answer = refl;
        };
        moves = record { shown_next = refl; same_budget = refl; same_others = refl; between = record { staged = s.0; sendable = s.1 } };
      };
    }

acked : (b : Bool) (acks : List Bool) (staged : Option Op) (requests : Requests) → staged ≡ None → CanBeSent requests.decided
    → StagedByPhase (cond b Idle (Acking acks)) staged × CanBeSent (requests_at (cond b Idle (Acking acks)) requests).decided
acked true acks staged requests none sendable = (none, tt)
acked false acks staged requests none sendable = (none, sendable)

taken_ack : (core : Core0) (entry txn : ℕ) → BetweenSteps core → Expects (core0_place core) core.coordinator.requests entry (message.Ack txn) → IsTakenUp core entry (message.Ack txn)
taken_ack core entry txn b waits_for =
    let acks = slice_set waits_for.0 entry true in
    let none : core.replica.staged ≡ None = subst (λ (p : Phase). StagedByPhase p core.replica.staged) waits_for.1 b.staged in
    let s = acked (list_all (λ ack. ack) acks) acks core.replica.staged core.coordinator.requests none b.sendable in
    record {
      after = record {
        replica = core.replica;
        coordinator = record { others = core.coordinator.others; last = core.coordinator.last; phase = phase_with acks; requests = requests_at (phase_with acks) core.coordinator.requests };
      };
      told = record { step = record { txn = txn; say = None; decided = None; reply = reply_at (phase_with acks) core.coordinator.requests }; answer = TookAck txn };
      takes = record {
        entry = entry;
        is_core = refl;
        committed = None;
        here = record {
          hears = record { acks = waits_for.0; acking = waits_for.1; number = waits_for.2; first_ack = waits_for.3; next = refl; requests_next = refl; tells = refl };
          none_committed = refl;
          is_answer = refl;
        };
        moves = record { shown_next = refl; same_budget = refl; same_others = refl; between = record { staged = s.0; sendable = s.1 } };
      };
    }

pub taken_up : (core : Core0) (entry : ℕ) (m : Message) → BetweenSteps core → Expects (core0_place core) core.coordinator.requests entry m → IsTakenUp core entry m
taken_up core entry (message.Vote txn v) b waits_for = by_staged core.replica.staged refl (subst (λ (p : Phase). StagedByPhase p core.replica.staged) waits_for.1 b.staged)
  where
    by_staged : (o : Option Op) → core.replica.staged ≡ o → IsSome o → IsTakenUp core entry (message.Vote txn v)
    by_staged None e some = absurd (let x : false ≡ true = some in cc)
    by_staged (Some op) e some = taken_vote core entry txn v op e waits_for
taken_up core entry (message.Ack txn) b waits_for = taken_ack core entry txn b waits_for
taken_up core entry (message.Submit op) b waits_for = record {
  after = record core { coordinator = record core.coordinator { requests = with_waiting core.coordinator.requests entry op } };
  told = record { step = record { txn = core.coordinator.last; say = None; decided = None; reply = None }; answer = TookSubmit };
  takes = record {
    entry = entry;
    is_core = refl;
    committed = None;
    here = record { can_submit = waits_for; same_place = refl; requests_next = refl; none_committed = refl; tells = refl; is_answer = refl };
    moves = record { shown_next = refl; same_budget = refl; same_others = refl; between = record { staged = b.staged; sendable = b.sendable } };
  };
}
taken_up core entry m b waits_for = absurd waits_for
