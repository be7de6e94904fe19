-- One event of a core, whichever part it has.
use Rattle.std.proofs.Common.{length, ◌≡◌, ◌≤◌, ◌-◌, ◌+◌, ◌⊎◌, inl, inr, ◌∙◌, ℕ, suc, max, Bool, List, [], ◌∷◌, ◌++◌, refl, sym, ap, subst, arith}
use Rattle.std.specs.Prelude.{Option, Some, None, Result, Ok, Err, IfErr, IfSome, IsSome}
use mathlib.Core.List.{IsPrefix}
use Rattle.rx_queue.specs.declared.intake.Intake.{Intake}
use Rattle.rx_queue.specs.Queue.{jobs_seen}
use Rattle.core_links.specs.Views.{LinkView}
use Rattle.filter_table.specs.Limits.{TableLimits}
use Rattle.filter_table.specs.declared.operation.Op.{Op}
use Rattle.table_replica.specs.Shown.{ReplicaState}
use Rattle.filter_table.specs.Tables.{TableState, table}
use Rattle.filter_table.proofs.Tables.{table_version, table_limits}
use Rattle.pcap_reader.specs.declared.capture.CapturedPacket.{CapturedPacket}
use Rattle.world_events.specs.declared.event.Event.{Event}
use Rattle.world_events.specs.declared.event.Event.TheVariants.{Rx}
use Rattle.world_events.specs.declared.event.Answer.{Answer}
use Rattle.world_model.specs.Cases.{nothing, sent_up, ReceivesAt}
use Rattle.world_histories.specs.declared.history.Stamped.{Stamped}
use Rattle.world_histories.specs.Histories.{Stamping, taking, Does0, DoesOther}
use Rattle.core_steps.specs.declared.other_core.OtherCore.{OtherCore}
use Rattle.core_loop.specs.declared.part.Part.{Part}
use Rattle.core_loop.specs.declared.part.Part.TheVariants as part
use Rattle.core_loop.specs.declared.refusal.Refusal.{Refusal}
use Rattle.core_loop.specs.declared.refusal.Refusal.TheVariants as refusal
use Rattle.core_loop.specs.Carrying.{Carries0}
use Rattle.core_loop.specs.Standing.{Stands0, StandsOther}
use Rattle.core_loop.specs.Keeping.{IsStanding, replica_of}
use Rattle.core_loop.specs.Events.{Acts, ActsOther}
use Rattle.core_loop.specs.Outcomes.{OnEvent, OnNone, OnIdle}
use Rattle.core_loop.specs.Beginning.{CanBeginNext, IsFitting}
use Rattle.core_loop.specs.Receipts.{Receives}
use Rattle.core_loop.specs.Taking.{CannotTake}
use Rattle.core_loop.specs.Choosing.{IsLeastShowing}
use Rattle.core_loop.specs.Turning.{HasRequest, HasWork, MayReceive}
use Rattle.world_histories.proofs.Clocks.{step0_limits, step_limits}
use Rattle.world_histories.proofs.Lists.{prefix_then}
use Rattle.core_loop.proofs.Standings.{stands0_more, stands_other_more}
use Rattle.core_loop.proofs.Carrying.{start_carries, submit_carries}
use Rattle.core_loop.proofs.Handing.{hands_none, hands_nothing}

-- another core's event is one of the core with its number
pub other_acts : (number cores clock : ℕ) (v w : ℕ → LinkView) (p : Part) (x y : OtherCore) (s : Stamped) → p ≡ part.OtherCore x → IsFitting number cores p → ((entry : ℕ) → number ≡ suc entry → ActsOther entry clock v w x y s) → Acts number cores clock v w p (part.OtherCore y) s
other_acts number cores clock v w p x y s e f h =
    let f' = subst (λ (q : Part). IsFitting number cores q) e f in
    subst (λ (q : Part). Acts number cores clock v w q (part.OtherCore y) s) (sym e) (f'.0, f'.1, h f'.0 f'.1)

pub other_acts_on : (number cores clock : ℕ) (v w : ℕ → LinkView) (p : Part) (x y : OtherCore) (r : Result (Option Stamped) Refusal) → p ≡ part.OtherCore x → IsFitting number cores p → OnEvent r (λ s. (entry : ℕ) → number ≡ suc entry → ActsOther entry clock v w x y s) → OnEvent r (Acts number cores clock v w p (part.OtherCore y))
other_acts_on number cores clock v w p x y (Ok (Some s)) e f h = other_acts number cores clock v w p x y s e f h
other_acts_on number cores clock v w p x y (Ok None) e f h = tt
other_acts_on number cores clock v w p x y (Err r) e f h = tt

pub spent_take : (cores clock peer : ℕ) (p : Part) (m : Stamping) (view : ℕ → LinkView) → CannotTake cores clock peer p m view refusal.Spent → 18446744073709551615 ≤ max clock m.stamp
spent_take cores clock peer (part.Core0 x) m view h = h
spent_take cores clock peer (part.OtherCore x) m view h = h

-- an event keeps the limits: those of the tables that the history leads to
shown_limits : (s : TableState) (limits : TableLimits) (log : List Op) (v : ℕ) → s ≡ table limits log v → s.limits ≡ limits
shown_limits s limits log v is = ap (λ (t : TableState). t.limits) is ∙ table_limits limits log v

pub acts_limits : (x y : Part) (number cores clock : ℕ) (h : List Stamped) (s : Stamped) (u v w : ℕ → LinkView) → IsStanding x number cores clock h u → Acts number cores clock v w x y s → (replica_of y).shown.limits ≡ (replica_of x).shown.limits
acts_limits (part.Core0 x) (part.Core0 y) number cores clock h s u v w st a =
    let l = a.leads st.0 st.2 in
    shown_limits y.replica.shown l.after.limits l.after.log (length l.after.log) l.stands.shown_is
    ∙ (step0_limits (cores - 1) x.replica.budget st.0 l.after s.stamp s.done.event a.m s.done.answer a.out l.step
    ∙ sym (shown_limits x.replica.shown st.0.limits st.0.log (length st.0.log) st.2.shown_is))
acts_limits (part.Core0 x) (part.OtherCore y) number cores clock h s u v w st a = absurd a
acts_limits (part.OtherCore x) (part.Core0 y) number cores clock h s u v w st a = absurd a
acts_limits (part.OtherCore x) (part.OtherCore y) number cores clock h s u v w st a =
    let l = a.2.leads st.1 st.3 in
    shown_limits y.replica.shown l.after.limits l.after.log (length l.after.log) l.stands.shown_is
    ∙ (step_limits a.0 x.replica.budget st.1 l.after s.stamp s.done.event a.2.m s.done.answer l.step
    ∙ sym (shown_limits x.replica.shown st.1.limits st.1.log (length st.1.log) st.3.shown_is))

-- a core that stands at its history stands at the longer one
pub acts_stand : (x y : Part) (number cores clock : ℕ) (h : List Stamped) (s : Stamped) (v w : ℕ → LinkView) → IsStanding x number cores clock h v → Acts number cores clock v w x y s → IsStanding y number cores s.stamp (h ++ s ∷ []) w
acts_stand (part.Core0 x) (part.Core0 y) number cores clock h s v w st a =
    let l = a.leads st.0 st.2 in (
      l.after,
      st.1,
      l.stands,
      subst (λ (b : ℕ). Stands0 y.replica.shown.limits (cores - 1) b (h ++ s ∷ []) w l.after) (sym a.same_budget)
          (subst (λ (m : TableLimits). Stands0 m (cores - 1) x.replica.budget (h ++ s ∷ []) w l.after) (sym (acts_limits (part.Core0 x) (part.Core0 y) number cores clock h s v v w st a))
          (stands0_more x.replica.shown.limits (cores - 1) x.replica.budget h v w st.0 l.after s a.m a.out st.3 l.step (λ e lt. (a.carries.to_others e lt).sends) (λ e lt. (a.carries.to_others e lt).takes) (a.carries.itself.sent_same, a.carries.itself.taken_same)
          (λ e le. ((a.carries.beyond e le).sent_same, (a.carries.beyond e le).taken_same)))),
    )
acts_stand (part.Core0 x) (part.OtherCore y) number cores clock h s v w st a = absurd a
acts_stand (part.OtherCore x) (part.Core0 y) number cores clock h s v w st a = absurd a
acts_stand (part.OtherCore x) (part.OtherCore y) number cores clock h s v w st a =
    let same : a.0 ≡ st.0 = omega (arith, a.1, st.2) in
    let b : ActsOther st.0 clock v w x y s = subst (λ (n : ℕ). ActsOther n clock v w x y s) same a.2 in
    let l = b.leads st.1 st.3 in (
      st.0,
      l.after,
      st.2,
      l.stands,
      subst (λ (n : ℕ). StandsOther st.0 y.replica.shown.limits n (h ++ s ∷ []) w l.after) (sym b.same_budget)
          (subst (λ (m : TableLimits). StandsOther st.0 m x.replica.budget (h ++ s ∷ []) w l.after) (sym (acts_limits (part.OtherCore x) (part.OtherCore y) number cores clock h s v v w st a))
          (stands_other_more x.replica.shown.limits st.0 x.replica.budget h v w st.1 l.after s b.m st.4 l.step b.carries.to_first.sends b.carries.to_first.takes (λ p. ((b.carries.elsewhere p).sent_same, (b.carries.elsewhere p).taken_same)))),
    )

-- The receipt of a packet

receives_at : (limits : TableLimits) (log : List Op) (replica : ReplicaState) (packet : CapturedPacket) (floor : ℕ) (answer : Answer) → replica.shown ≡ table limits log (length log) → ReceivesAt replica.shown replica.shown.version packet floor answer → ReceivesAt (table limits log (length log)) (length log) packet floor answer
receives_at limits log replica packet floor answer shown h =
    let version : replica.shown.version ≡ length log = ap (λ (s : TableState). s.version) shown ∙ table_version limits log in
    subst (λ (v : ℕ). ReceivesAt (table limits log (length log)) v packet floor answer) version (subst (λ (s : TableState). ReceivesAt s replica.shown.version packet floor answer) shown h)

quiet_carries0 : (others : ℕ) (s : Stamped) (v : ℕ → LinkView) → taking s.done.event None ≡ [] → Carries0 others s None nothing v v
quiet_carries0 others s v none = start_carries others s nothing v v none (hands_nothing others s.stamp v v (λ p. refl))

pub receives_act : (number cores clock : ℕ) (x : Part) (s : Stamped) (v : ℕ → LinkView) → IsFitting number cores x → Receives number clock (replica_of x) s → Acts number cores clock v v x x s
receives_act number cores clock (part.Core0 core) s v f r = record {
  m = None;
  out = nothing;
  leads = λ before h. record {
    after = record before { clock = s.stamp };
    stands = record { clock_is = refl; place_is = h.place_is; requests_are = h.requests_are; shown_is = h.shown_is; others_are = h.others_are; between = h.between };
    step = record {
      ticks = r.stamp_next ∙ ap (λ n. n + 1) (sym h.clock_is);
      does = subst (λ (e : Event). Does0 (cores - 1) core.replica.budget before s.stamp e None (record before { clock = s.stamp }) s.done.answer nothing) (sym (r.is_event ∙ ap (λ (n : ℕ). Rx n r.job.number r.job.packet r.job.floor) f.0))
          (record { here = receives_at before.limits before.log core.replica r.job.packet r.job.floor s.done.answer h.shown_is r.here; next = refl; sends = refl });
    };
  };
  carries = quiet_carries0 (cores - 1) s v (ap (λ (e : Event). taking e None) r.is_event);
  same_budget = refl;
}
receives_act number cores clock (part.OtherCore core) s v f r = (
  f.0,
  f.1,
  record {
    m = None;
    leads = λ before h. record {
      after = record before { clock = s.stamp };
      stands = record { clock_is = refl; place_is = h.place_is; outstanding_is = h.outstanding_is; shown_is = h.shown_is; between = h.between };
      step = record {
        ticks = r.stamp_next ∙ ap (λ n. n + 1) (sym h.clock_is);
        does = subst (λ (e : Event). DoesOther f.0 core.replica.budget before s.stamp e None (record before { clock = s.stamp }) s.done.answer) (sym (r.is_event ∙ ap (λ (n : ℕ). Rx n r.job.number r.job.packet r.job.floor) f.1))
            (refl, record { here = receives_at before.limits before.log core.replica r.job.packet r.job.floor s.done.answer h.shown_is r.here; next = refl });
      };
    };
    carries = submit_carries s None v v (subst (λ (e : Event). sent_up e s.done.answer ≡ None) (sym r.is_event) (subst (λ (a : Answer). sent_up (Rx number r.job.number r.job.packet r.job.floor) a ≡ None) (sym r.here.is_answer) refl)) (hands_none (v 0) (v 0) refl) (λ p ne. refl);
    same_budget = refl;
  },
)

-- What comes after a look

pub on_none_map : {E : Type 0} {P Q : Type 0} (r : Result (Option Stamped) E) → (P → Q) → OnNone r P → OnNone r Q
on_none_map (Ok (Some s)) f h = tt
on_none_map (Ok None) f h = f h
on_none_map (Err x) f h = f h

pub on_idle_both : {E : Type 0} {P Q R : Type 0} (r : Result (Option Stamped) E) → (P → Q → R) → OnIdle r P → OnNone r Q → OnIdle r R
on_idle_both (Ok (Some s)) f h k = tt
on_idle_both (Ok None) f h k = f h k
on_idle_both (Err x) f h k = tt

pub on_none_both : {E : Type 0} {P Q R : Type 0} (r : Result (Option Stamped) E) → (P → Q → R) → OnNone r P → OnNone r Q → OnNone r R
on_none_both (Ok (Some s)) f h k = tt
on_none_both (Ok None) f h k = f h k
on_none_both (Err x) f h k = f h k

pub on_err_both : {E : Type 0} {P : Type 0} {Q R : E → Type 0} (r : Result (Option Stamped) E) → ((e : E) → P → Q e → R e) → OnNone r P → IfErr r Q → IfErr r R
on_err_both (Ok o) f h k = tt
on_err_both (Err x) f h k = f x h k

pub on_err_of : {E : Type 0} {P Q : Type 0} {R : E → Type 0} (r : Result (Option Stamped) E) → ((e : E) → P → Q → R e) → OnNone r P → OnNone r Q → IfErr r R
on_err_of (Ok o) f h k = tt
on_err_of (Err x) f h k = f x h k

pub on_event_map : {E : Type 0} {P Q : Stamped → Type 0} (r : Result (Option Stamped) E) → ((s : Stamped) → P s → Q s) → OnEvent r P → OnEvent r Q
on_event_map (Ok (Some s)) f h = f s h
on_event_map (Ok None) f h = tt
on_event_map (Err x) f h = tt

pub on_event_any : {E : Type 0} {P : Type 0} (r : Result (Option Stamped) E) → P → OnEvent r (λ s. P)
on_event_any (Ok (Some s)) h = h
on_event_any (Ok None) h = tt
on_event_any (Err x) h = tt

pub either_way : {E : Type 0} {P Q R : Type 0} (r : Result (Option Stamped) E) → (P → R) → (Q → R) → OnEvent r (λ s. P) → OnNone r Q → R
either_way (Ok (Some s)) f g h k = f h
either_way (Ok None) f g h k = g k
either_way (Err x) f g h k = g k

-- what can begin is a request
pub can_begin_has : (cores : ℕ) (x : Part) (requests : List Op) (view : ℕ → LinkView) → CanBeginNext cores x requests view → HasRequest cores x requests
can_begin_has cores (part.Core0 core) requests view can = can.some
can_begin_has cores (part.OtherCore core) requests view can = can.some

-- what there is to do is there still when more jobs are seen
pub work_stays : (cores : ℕ) (x : Part) (requests : List Op) (seen : ℕ → LinkView) (rx : Bool) (i j : Intake) (shown : Option ℕ)
    → IfSome shown (IsLeastShowing cores seen) → IsPrefix (jobs_seen i) (jobs_seen j) → (IsSome shown ⊎ (HasRequest cores x requests ⊎ MayReceive x rx i)) → HasWork cores x requests seen rx j
work_stays cores x requests seen rx i j (Some peer) least p (inl s) = inl (peer, least)
work_stays cores x requests seen rx i j None least p (inl s) = absurd cc
work_stays cores x requests seen rx i j shown least p (inr (inl h)) = inr (inl h)
work_stays cores x requests seen rx i j shown least p (inr (inr m)) = inr (inr (m.0, m.1, record { first = prefix_then (m.1 ∷ []) (jobs_seen i) (jobs_seen j) m.2.first p; floor = m.2.floor }))

-- an event keeps the budget
pub acts_budget : (number cores clock : ℕ) (v w : ℕ → LinkView) (x y : Part) (s : Stamped) → Acts number cores clock v w x y s → (replica_of y).budget ≡ (replica_of x).budget
acts_budget number cores clock v w (part.Core0 x) (part.Core0 y) s a = a.same_budget
acts_budget number cores clock v w (part.Core0 x) (part.OtherCore y) s a = absurd a
acts_budget number cores clock v w (part.OtherCore x) (part.Core0 y) s a = absurd a
acts_budget number cores clock v w (part.OtherCore x) (part.OtherCore y) s a = a.2.same_budget
