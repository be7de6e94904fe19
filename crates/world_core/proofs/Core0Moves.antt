-- What core 0 keeps with its steps.
use Rattle.std.proofs.Common.{◌≡◌, ◌∙◌, ℕ, Option, None, Some, List, length, slice_get, slice_set, refl, ap, sym}
use Rattle.filter_table.specs.declared.operation.Op.{Op}
use Rattle.filter_table.specs.Limits.{TableLimits}
use Rattle.filter_table.specs.Tables.{TableState, table}
use Rattle.filter_table.specs.declared.decision.Vote.{Vote}
use Rattle.monitor_messages.specs.declared.message.Message.{Message}
use Rattle.monitor_messages.specs.declared.message.Message.TheVariants as message
use Rattle.two_phase.specs.declared.step.Step.{Step}
use Rattle.monitor_2pc.specs.Places.{after_commit}
use Rattle.two_phase.specs.Coordinators.{CoordinatorPlace, Requests, refused, unstaged, alone, prepared, Tallies, waits, commits_all, aborts_all}
use Rattle.two_phase.specs.Coordinators as coordinators
use Rattle.world_events.specs.declared.event.Answer.{Answer}
use Rattle.world_model.specs.Cases.{joined, TakesUpAt}
use Rattle.core_steps.specs.declared.core0.Told.{Told}
use Rattle.core_steps.specs.Core0Steps.{Moves, Starts, StartsForCore, TakesUp, core0_place}
use Rattle.core_steps.proofs.Tables.{table_joined}
use Rattle.world_core.proofs.Keeping.{limits_commit}
use Rattle.world_core.specs.declared.core0.LoggedCore0.{LoggedCore0}
use Rattle.world_core.specs.LoggedCore0s.{Core0IsKept, Core0IsIdle, Core0Starts, Core0StartsFor, Core0Takes, begun_op, logged, begun_by, entered, still_begun}

core0_kept : (core0 core0' : LoggedCore0) (committed : Option Op) → core0.core.replica.shown ≡ table core0.core.replica.shown.limits core0.log.items (length core0.log.items) → Moves core0.core committed core0'.core → core0'.log.items ≡ joined core0.log.items committed → begun_op core0'.begun ≡ core0'.core.replica.staged → Core0IsKept core0'
core0_kept core0 core0' committed shown m log begun = record {
  shown = m.shown_next ∙ (ap (λ (s : TableState). after_commit s committed) shown ∙ (table_joined core0.core.replica.shown.limits core0.log.items committed
      ∙ (ap (λ (l : List Op). table core0.core.replica.shown.limits l (length l)) (sym log)
      ∙ ap (λ (m : TableLimits). table m core0'.log.items (length core0'.log.items)) (sym (limits_commit core0.core.replica.shown core0'.core.replica.shown committed m.shown_next)))));
  between = m.between;
  begun = begun;
}

-- A start

-- what is noted is what is committed and what is staged
noted : (others : ℕ) (s : TableState) (b : ℕ) (place place' : CoordinatorPlace) (op : Op) (committed : Option Op) (told : Step) (log : List Op) (begun : Option Op) → begun ≡ None → place.staged ≡ None → coordinators.Starts others s b place op place' committed told
    → (logged log op told.decided ≡ joined log committed) × (begun_by begun op told.decided ≡ place'.staged)
noted others s b place place' op committed told log begun none staged (refused f a p c t) = rw (c, t) (refl, none ∙ sym (ap (λ (x : CoordinatorPlace). x.staged) p ∙ staged))
noted others s b place place' op committed told log begun none staged (unstaged f p c t) = rw (c, t) (refl, none ∙ sym (ap (λ (x : CoordinatorPlace). x.staged) p ∙ staged))
noted others s b place place' op committed told log begun none staged (alone a n p c t) = rw (c, t) (refl, none ∙ sym (ap (λ (x : CoordinatorPlace). x.staged) p))
noted others s b place place' op committed told log begun none staged (prepared a n p c t) = rw (c, t) (refl, sym (ap (λ (x : CoordinatorPlace). x.staged) p))

pub core0_starts : (core0 core0' : LoggedCore0) (op : Op) (told : Told) → Core0IsIdle core0 → Starts core0.core op core0'.core told → core0'.log.items ≡ logged core0.log.items op told.step.decided → begun_op core0'.begun ≡ begun_by (begun_op core0.begun) op told.step.decided → Core0Starts core0 op core0' told
core0_starts core0 core0' op told idle s log begun =
    let n = noted _ _ _ _ (core0_place core0'.core) op s.committed told.step core0.log.items (begun_op core0.begun) idle.none_begun refl s.here.starts in
    record { starts = s; log_next = log ∙ n.0; kept = core0_kept core0 core0' s.committed idle.shown s.moves (log ∙ n.0) (begun ∙ n.1) }

pub core0_starts_for : (core0 core0' : LoggedCore0) (entry : ℕ) (op : Op) (told : Told) → Core0IsIdle core0 → (s : StartsForCore core0.core entry core0'.core told) → slice_get core0.core.coordinator.requests.waiting entry ≡ Some (Some op) → core0'.log.items ≡ logged core0.log.items op told.step.decided → begun_op core0'.begun ≡ begun_by (begun_op core0.begun) op told.step.decided → Core0StartsFor core0 entry core0' told
core0_starts_for core0 core0' entry op told idle s there log begun =
    let f = s.here.starts in
    let is_op : f.op ≡ op = (let x = f.is_waiting in let y = there in cc) in
    let same : told.step.decided ≡ f.begun.decided = ap (λ (x : Step). x.decided) f.tells in
    let n = noted _ _ _ _ (core0_place core0'.core) f.op s.committed f.begun core0.log.items (begun_op core0.begun) idle.none_begun refl f.starts in
    let log_next : core0'.log.items ≡ joined core0.log.items s.committed = log ∙ (rw (same, ← is_op) n.0) in
    record { starts = s; log_next = log_next; kept = core0_kept core0 core0' s.committed idle.shown s.moves log_next (begun ∙ (rw (same, ← is_op) n.1)) }

-- A message

-- what is entered and what is still begun are what is committed and what is staged
heard : (s : TableState) (last : ℕ) (op : Op) (votes : List (Option Vote)) (place' : CoordinatorPlace) (committed : Option Op) (told : Step) (log : List Op) (begun : Option Op) → begun ≡ Some op → Tallies s last op votes place' committed told → (entered log begun told.decided ≡ joined log committed) × (still_begun begun told.decided ≡ place'.staged)
heard s last op votes place' committed told log begun is (waits i at p c t) = rw (c, t, p) (refl, is)
heard s last op votes place' committed told log begun is (commits_all all p c t) = rw (c, t, p, is) (refl, refl)
heard s last op votes place' committed told log begun is (aborts_all core against least all p c t) = rw (c, t, p) (refl, refl)

taken : (s : TableState) (place : CoordinatorPlace) (requests : Requests) (entry : ℕ) (m : Message) (place' : CoordinatorPlace) (requests' : Requests) (committed : Option Op) (told : Step) (answer : Answer) (log : List Op) (begun : Option Op) → begun ≡ place.staged → TakesUpAt s place requests entry m place' requests' committed told answer
    → (entered log begun told.decided ≡ joined log committed) × (still_begun begun told.decided ≡ place'.staged)
taken s place requests entry (message.Vote txn v) place' requests' committed told answer log begun is h = heard s txn h.hears.op (slice_set h.hears.votes entry (Some v)) place' committed told log begun (is ∙ h.hears.on_op) h.hears.tallies
taken s place requests entry (message.Ack txn) place' requests' committed told answer log begun is h = rw (h.none_committed, h.hears.tells) (refl, is ∙ sym (ap (λ (x : CoordinatorPlace). x.staged) h.hears.next))
taken s place requests entry (message.Submit op) place' requests' committed told answer log begun is h = rw (h.none_committed, h.tells) (refl, is ∙ sym (ap (λ (x : CoordinatorPlace). x.staged) h.same_place))
taken s place requests entry (message.Prepare txn op) place' requests' committed told answer log begun is h = absurd h
taken s place requests entry (message.Commit txn) place' requests' committed told answer log begun is h = absurd h
taken s place requests entry (message.Abort txn) place' requests' committed told answer log begun is h = absurd h
taken s place requests entry (message.Reply decision) place' requests' committed told answer log begun is h = absurd h

pub core0_takes : (core0 core0' : LoggedCore0) (from : ℕ) (m : Message) (told : Told) → Core0IsKept core0 → TakesUp core0.core from m core0'.core told → core0'.log.items ≡ entered core0.log.items (begun_op core0.begun) told.step.decided → begun_op core0'.begun ≡ still_begun (begun_op core0.begun) told.step.decided → Core0Takes core0 from m core0' told
core0_takes core0 core0' from m told k t log begun =
    let n = taken core0.core.replica.shown (core0_place core0.core) core0.core.coordinator.requests t.entry m (core0_place core0'.core) core0'.core.coordinator.requests t.committed told.step told.answer core0.log.items (begun_op core0.begun) k.begun t.here in
    record { takes = t; log_next = log ∙ n.0; kept = core0_kept core0 core0' t.committed k.shown t.moves (log ∙ n.0) (begun ∙ n.1) }
