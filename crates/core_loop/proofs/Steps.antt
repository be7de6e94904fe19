-- A step of a core's parts is Event's case from each state that it stands in.
use Rattle.std.proofs.Common.{◌≡◌, ◌∙◌, ◌+◌, ℕ, suc, max, true, false, Bool, Option, None, Some, length, refl, ap, sym, subst, arith}
use Rattle.filter_table.specs.declared.operation.Op.{Op}
use Rattle.filter_table.specs.Tables.{TableState, table}
use Rattle.filter_table.proofs.Tables.{table_version}
use Rattle.monitor_2pc.specs.Places.{after_commit}
use Rattle.two_phase.specs.Coordinators.{CoordinatorPlace, Requests, Idle, coordinator_place}
use Rattle.two_phase.specs.Participants.{ParticipantPlace}
use Rattle.world_events.specs.declared.event.Event.TheVariants.{Start, Submit, StartFor, Take}
use Rattle.world_events.specs.declared.event.Answer.{Answer}
use Rattle.world_events.specs.declared.event.Answer.TheVariants.{Prepared, Decided, Submitted, TookPrepare, TookVote, TookCommit, TookAbort, TookAck, TookSubmit, TookReply, Delivered}
use Rattle.world_model.specs.Cases.{joined, outgoing, sent_up, StartsAt, StartsForAt, SubmitsAt, TakesUpAt, TakesDownAt}
use Rattle.world_histories.specs.Histories.{Stamping, tick, Core0State, Does0, OtherState, DoesOther}
use Rattle.core_steps.specs.declared.core0.Core0.{Core0}
use Rattle.core_steps.specs.declared.core0.Told.{Told}
use Rattle.core_steps.specs.declared.other_core.OtherCore.{OtherCore}
use Rattle.core_steps.specs.Core0Steps.{core0_place, BetweenSteps, HasWaiting, Moves, Starts, StartsForCore, TakesUp}
use Rattle.core_steps.specs.OtherCoreSteps.{other_place, IsBetweenSteps, TakesDown}
use Rattle.core_steps.proofs.Tables.{table_joined, idle_phase}
use Rattle.core_loop.specs.Keeping.{IsCore0, IsOtherCore}
use Rattle.core_loop.specs.Events.{Leads0, LeadsOther}

-- where core 0 stands once it has moved
abbrev pub moved : ℕ → Core0 → Core0State → Option Op → Core0State
moved stamp core' before committed = record { limits = before.limits; clock = stamp; place = core0_place core'; requests = core'.coordinator.requests; log = joined before.log committed }

pub moved_core0 : (others clock stamp : ℕ) (core core' : Core0) (before : Core0State) (committed : Option Op) → Moves core committed core' → IsCore0 others core clock before → IsCore0 others core' stamp (moved stamp core' before committed)
moved_core0 others clock stamp core core' before committed m h = record {
  clock_is = refl;
  place_is = refl;
  requests_are = refl;
  shown_is = m.shown_next ∙ (ap (λ (s : TableState). after_commit s committed) h.shown_is ∙ table_joined before.limits before.log committed);
  others_are = m.same_others ∙ h.others_are;
  between = m.between;
}

-- core 0 takes a message
pub leads_take : (others clock stamp from : ℕ) (core core' : Core0) (m : Stamping) (told : Told) → stamp ≡ tick clock (Some m) → TakesUp core from m.message core' told → (before : Core0State) → IsCore0 others core clock before
    → Leads0 others core.replica.budget core' before (record { stamp = stamp; done = record { event = Take 0 from false; answer = told.answer } }) (Some m) (outgoing told.step (core0_place core'))
leads_take others clock stamp from core core' m told e t before h =
    let after = moved stamp core' before t.committed in
    let here : TakesUpAt (table before.limits before.log (length before.log)) before.place before.requests t.entry m.message (core0_place core') core'.coordinator.requests t.committed told.step told.answer =
    subst (λ (s : TableState). TakesUpAt s before.place before.requests t.entry m.message (core0_place core') core'.coordinator.requests t.committed told.step told.answer) h.shown_is
    (subst (λ (p : CoordinatorPlace). TakesUpAt core.replica.shown p before.requests t.entry m.message (core0_place core') core'.coordinator.requests t.committed told.step told.answer) (sym h.place_is)
    (subst (λ (r : Requests). TakesUpAt core.replica.shown (core0_place core) r t.entry m.message (core0_place core') core'.coordinator.requests t.committed told.step told.answer) (sym h.requests_are) t.here)) in
    record {
      after = after;
      stands = moved_core0 others clock stamp core core' before t.committed t.moves h;
      step = record {
        ticks = e ∙ ap (λ (n : ℕ). tick n (Some m)) (sym h.clock_is);
        does = subst (λ (n : ℕ). Does0 others core.replica.budget before stamp (Take 0 n false) (Some m) after told.answer (outgoing told.step (core0_place core'))) (sym t.is_core)
            (record { place = core0_place core'; requests = core'.coordinator.requests; committed = t.committed; told = told.step; here = here; next = refl; sends = refl });
      };
    }

-- core 0 with this staged
abbrev pub staging : Core0 → Option Op → Core0
staging core staged = record core { replica = record core.replica { staged = staged } }

pub withdrawn : (core : Core0) (staged : Option Op) → core.replica.staged ≡ None → staged ≡ None → staging core staged ≡ core
withdrawn core staged none e = ap (λ (s : Option Op). staging core s) (e ∙ sym none)

-- where core 0 is idle, nothing is staged
pub idle_staged : (core : Core0) → core.coordinator.phase ≡ Idle → BetweenSteps core → core.replica.staged ≡ None
idle_staged core e b = idle_phase core.coordinator.phase core.replica.staged e b.staged

pub moves_on : (core : Core0) (staged : Option Op) (core' : Core0) (committed : Option Op) → Moves (staging core staged) committed core' → Moves core committed core'
moves_on core staged core' committed m = record { shown_next = m.shown_next; same_budget = m.same_budget; same_others = m.same_others; between = m.between }

-- core 0 starts a request of its own
pub leads_start : (others clock stamp : ℕ) (core : Core0) (staged : Option Op) (core' : Core0) (op : Op) (told : Told) → stamp ≡ max clock 0 + 1 → core.replica.staged ≡ None → Starts (staging core staged) op core' told → (before : Core0State) → IsCore0 others core clock before
    → Leads0 others core.replica.budget core' before (record { stamp = stamp; done = record { event = Start op; answer = told.answer } }) None (outgoing told.step (core0_place core'))
leads_start others clock stamp core staged core' op told e none t before h =
    let place : before.place ≡ coordinator_place core.coordinator None = h.place_is ∙ ap (λ (s : Option Op). coordinator_place core.coordinator s) none in
    let here : StartsAt others (table before.limits before.log (length before.log)) core.replica.budget before.place op (core0_place core') t.committed told.step told.answer =
    subst (λ (n : ℕ). StartsAt n (table before.limits before.log (length before.log)) core.replica.budget before.place op (core0_place core') t.committed told.step told.answer) h.others_are
    (subst (λ (s : TableState). StartsAt core.coordinator.others s core.replica.budget before.place op (core0_place core') t.committed told.step told.answer) h.shown_is
    (subst (λ (p : CoordinatorPlace). StartsAt core.coordinator.others core.replica.shown core.replica.budget p op (core0_place core') t.committed told.step told.answer) (sym place) t.here)) in
    record {
      after = moved stamp core' before t.committed;
      stands = moved_core0 others clock stamp core core' before t.committed (moves_on core staged core' t.committed t.moves) h;
      step = record {
        ticks = omega (arith, e, h.clock_is);
        does = record {
          place = core0_place core';
          committed = t.committed;
          told = told.step;
          here = here;
          next = ap (λ (r : Requests). let x : Core0State = record { limits = before.limits; clock = stamp; place = core0_place core'; requests = r; log = joined before.log t.committed } in x) (t.same_requests ∙ sym h.requests_are);
          sends = refl;
        };
      };
    }

-- core 0 starts the request that a core has waiting
pub leads_start_for : (others clock stamp from entry : ℕ) (core : Core0) (staged : Option Op) (core' : Core0) (told : Told) → stamp ≡ max clock 0 + 1 → from ≡ suc entry → core.replica.staged ≡ None → StartsForCore (staging core staged) entry core' told → (before : Core0State) → IsCore0 others core clock before
    → Leads0 others core.replica.budget core' before (record { stamp = stamp; done = record { event = StartFor from; answer = told.answer } }) None (outgoing told.step (core0_place core'))
leads_start_for others clock stamp from entry core staged core' told e is none t before h =
    let place : before.place ≡ coordinator_place core.coordinator None = h.place_is ∙ ap (λ (s : Option Op). coordinator_place core.coordinator s) none in
    let after = moved stamp core' before t.committed in
    let here : StartsForAt others (table before.limits before.log (length before.log)) core.replica.budget before.place before.requests entry (core0_place core') core'.coordinator.requests t.committed told.step told.answer =
    subst (λ (n : ℕ). StartsForAt n (table before.limits before.log (length before.log)) core.replica.budget before.place before.requests entry (core0_place core') core'.coordinator.requests t.committed told.step told.answer) h.others_are
    (subst (λ (s : TableState). StartsForAt core.coordinator.others s core.replica.budget before.place before.requests entry (core0_place core') core'.coordinator.requests t.committed told.step told.answer) h.shown_is
    (subst (λ (p : CoordinatorPlace). StartsForAt core.coordinator.others core.replica.shown core.replica.budget p before.requests entry (core0_place core') core'.coordinator.requests t.committed told.step told.answer) (sym place)
    (subst (λ (r : Requests). StartsForAt core.coordinator.others core.replica.shown core.replica.budget (coordinator_place core.coordinator None) r entry (core0_place core') core'.coordinator.requests t.committed told.step told.answer) (sym h.requests_are) t.here))) in
    record {
      after = after;
      stands = moved_core0 others clock stamp core core' before t.committed (moves_on core staged core' t.committed t.moves) h;
      step = record {
        ticks = omega (arith, e, h.clock_is);
        does = subst (λ (n : ℕ). Does0 others core.replica.budget before stamp (StartFor n) None after told.answer (outgoing told.step (core0_place core'))) (sym is)
            (record { place = core0_place core'; requests = core'.coordinator.requests; committed = t.committed; told = told.step; here = here; next = refl; sends = refl });
      };
    }

-- Another core

-- it takes a message of core 0
pub leads_take_other : (entry clock stamp number : ℕ) (core core' : OtherCore) (m : Stamping) (answer : Answer) → stamp ≡ tick clock (Some m) → number ≡ suc entry → TakesDown false core m.message core' answer → (before : OtherState) → IsOtherCore core clock before
    → LeadsOther entry core.replica.budget core' before (record { stamp = stamp; done = record { event = Take number 0 false; answer = answer } }) (Some m)
leads_take_other entry clock stamp number core core' m answer e is t before h =
    let after : OtherState = record { limits = before.limits; clock = stamp; place = other_place core'; outstanding = core'.participant.outstanding; log = joined before.log t.committed } in
    let version : core.replica.shown.version ≡ length before.log = ap (λ (s : TableState). s.version) h.shown_is ∙ table_version before.limits before.log in
    let here : TakesDownAt false (table before.limits before.log (length before.log)) core.replica.budget (length before.log) before.place before.outstanding m.message (other_place core') core'.participant.outstanding t.committed answer =
    subst (λ (v : ℕ). TakesDownAt false (table before.limits before.log (length before.log)) core.replica.budget v before.place before.outstanding m.message (other_place core') core'.participant.outstanding t.committed answer) version
    (subst (λ (s : TableState). TakesDownAt false s core.replica.budget core.replica.shown.version before.place before.outstanding m.message (other_place core') core'.participant.outstanding t.committed answer) h.shown_is
    (subst (λ (p : ParticipantPlace). TakesDownAt false core.replica.shown core.replica.budget core.replica.shown.version p before.outstanding m.message (other_place core') core'.participant.outstanding t.committed answer) (sym h.place_is)
    (subst (λ (b : Bool). TakesDownAt false core.replica.shown core.replica.budget core.replica.shown.version (other_place core) b m.message (other_place core') core'.participant.outstanding t.committed answer) (sym h.outstanding_is) t.here))) in
    record {
      after = after;
      stands = record {
        clock_is = refl;
        place_is = refl;
        outstanding_is = refl;
        shown_is = t.shown_next ∙ (ap (λ (s : TableState). after_commit s t.committed) h.shown_is ∙ table_joined before.limits before.log t.committed);
        between = t.between;
      };
      step = record {
        ticks = e ∙ ap (λ (n : ℕ). tick n (Some m)) (sym h.clock_is);
        does = subst (λ (n : ℕ). DoesOther entry core.replica.budget before stamp (Take n 0 false) (Some m) after answer) (sym is)
            (refl, record { place = other_place core'; outstanding = core'.participant.outstanding; committed = t.committed; here = here; next = refl });
      };
    }

-- it submits a request
pub leads_submit : (entry clock stamp number : ℕ) (core core' : OtherCore) (op : Op) (answer : Answer) → stamp ≡ max clock 0 + 1 → number ≡ suc entry → SubmitsAt core.participant.outstanding core'.participant.outstanding answer
    → core' ≡ record core { participant = record core.participant { outstanding = true } } → (before : OtherState) → IsOtherCore core clock before
    → LeadsOther entry core.replica.budget core' before (record { stamp = stamp; done = record { event = Submit number op; answer = answer } }) None
leads_submit entry clock stamp number core core' op answer e is t next before h =
    let after : OtherState = record before { clock = stamp; outstanding = core'.participant.outstanding } in
    record {
      after = after;
      stands = record {
        clock_is = refl;
        place_is = h.place_is ∙ sym (ap other_place next);
        outstanding_is = refl;
        shown_is = ap (λ (x : OtherCore). x.replica.shown) next ∙ h.shown_is;
        between = subst IsBetweenSteps (sym next) h.between;
      };
      step = record {
        ticks = omega (arith, e, h.clock_is);
        does = subst (λ (n : ℕ). DoesOther entry core.replica.budget before stamp (Submit n op) None after answer) (sym is)
            (refl, record { outstanding = core'.participant.outstanding; here = subst (λ (b : Bool). SubmitsAt b core'.participant.outstanding answer) (sym h.outstanding_is) t; next = refl });
      };
    }

-- what a take sends hangs on its answer alone
pub sent_by_take : (to from : ℕ) (short : Bool) (answer : Answer) → sent_up (Take to from short) answer ≡ sent_up (Take 0 0 false) answer
sent_by_take to from short (Prepared txn) = refl
sent_by_take to from short (Decided decision) = refl
sent_by_take to from short Submitted = refl
sent_by_take to from short (TookPrepare txn vote) = refl
sent_by_take to from short (TookVote txn vote decided) = refl
sent_by_take to from short (TookCommit txn version) = refl
sent_by_take to from short (TookAbort txn version) = refl
sent_by_take to from short (TookAck txn) = refl
sent_by_take to from short TookSubmit = refl
sent_by_take to from short (TookReply decision) = refl
sent_by_take to from short (Delivered version kept) = refl

pub waits_on : (core core' : Core0) (staged : Option Op) (from entry : ℕ) (op : Op) → core' ≡ staging core staged → HasWaiting core from entry op → HasWaiting core' from entry op
waits_on core core' staged from entry op same w = subst (λ (s : Core0). HasWaiting s from entry op) (sym same) (record { is_core = w.is_core; is_waiting = w.is_waiting })
