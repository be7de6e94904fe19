-- Nothing that a link brings stops a core of a machine.
use Rattle.std.proofs.Common.{◌≡◌, ◌+◌, ◌<◌, ℕ, suc, true, Option, Some, None, List, [], ◌∷◌, ◌++◌, length, slice_get, refl, sym, ap, subst, ◌∙◌, arith}
use mathlib.Core.List.{IsPrefix}
use Rattle.std.proofs.lemmas.Option.{slice_get_within}
use Rattle.filter_table.proofs.Positions.{get_at}
use Rattle.filter_table.specs.Limits.{TableLimits}
use Rattle.filter_table.specs.Tables.{TableState, table}
use Rattle.monitor_messages.specs.declared.message.Message.{Message}
use Rattle.monitor_messages.specs.declared.message.Message.TheVariants as message
use Rattle.monitor_messages.specs.Coding.{Coded}
use Rattle.monitor_messages.proofs.Messages.{coded_once}
use Rattle.two_phase.specs.Participants.{ParticipantPlace, Fits}
use Rattle.two_phase.specs.Coordinators.{CoordinatorPlace, Requests}
use Rattle.world_model.specs.Agreement.{Expects}
use Rattle.world_histories.specs.declared.history.Stamped.{Stamped}
use Rattle.world_histories.specs.Histories.{Stamping, sent_to, sent_by, taken_from, Core0State, OtherState, TakesInOrder, Computation}
use Rattle.world_progress.specs.Remaining.{AwaitsAt, NextIsAwaited}
use Rattle.world_progress.proofs.Awaited.{next_awaited}
use Rattle.core_links.specs.Views.{LinkView, first_of}
use Rattle.core_links.specs.Flows.{Flow, IsExact}
use Rattle.core_steps.specs.declared.core0.Core0.{Core0}
use Rattle.core_steps.specs.declared.other_core.OtherCore.{OtherCore}
use Rattle.core_steps.specs.Core0Steps.{core0_place}
use Rattle.core_steps.specs.OtherCoreSteps.{other_place, AwaitsHere}
use Rattle.core_loop.specs.declared.part.Part.TheVariants as part
use Rattle.core_loop.specs.declared.cause.Cause.{Cause}
use Rattle.core_loop.specs.declared.cause.Cause.TheVariants as cause
use Rattle.core_loop.specs.Carrying.{IsFirst}
use Rattle.core_loop.specs.Coded.{AreCoded}
use Rattle.core_loop.specs.Standing.{Stands0, StandsOther, AreBeside}
use Rattle.core_loop.specs.Keeping.{IsCore0, IsOtherCore}
use Rattle.core_loop.specs.Taking.{StopsAt}
use Rattle.core_loop.proofs.Conclusions.{coded_prefix}
use Rattle.core_machine.specs.Beside.{StandBeside}

-- bytes are those of one message
pub one_message : (b c : List ℕ) (m n : Stamping) → b ≡ c → Coded b m.stamp m.message → Coded c n.stamp n.message → m ≡ n
one_message b c m n e x y =
    ap (λ (p : ℕ × Message). record { stamp = p.0; message = p.1 }) (coded_once b m.stamp n.stamp m.message n.message x (subst (λ (l : List ℕ). Coded l n.stamp n.message) (sym e) y))

-- the bytes that are kept first are those of the message that was sent next
pub record Next (b : List ℕ) (ms ns : List Stamping) : Type 0 where
  pub m : Stamping
  pub later : List Stamping
  pub coded : Coded b m.stamp m.message
  pub sent : ns ≡ ms ++ m ∷ later

next_coded : (ts : List (List ℕ)) (b : List ℕ) (ks ss : List (List ℕ)) (ms ns : List Stamping) → AreCoded ts ms → AreCoded ss ns → IsPrefix (ts ++ b ∷ ks) ss → Next b ms ns
next_coded [] b ks [] [] ns t s p = absurd (let e = p.1 in cc)
next_coded [] b ks (c ∷ ss) [] [] t s p = absurd s
next_coded [] b ks (c ∷ ss) [] (n ∷ ns) t s p =
    let e : b ∷ (ks ++ p.0) ≡ c ∷ ss = p.1 in
    let first : b ≡ c = cc in
    record { m = n; later = ns; coded = subst (λ (l : List ℕ). Coded l n.stamp n.message) (sym first) s.0; sent = refl }
next_coded [] b ks ss (m ∷ ms) ns t s p = absurd t
next_coded (x ∷ ts) b ks ss [] ns t s p = absurd t
next_coded (x ∷ ts) b ks [] (m ∷ ms) ns t s p = absurd (let e = p.1 in cc)
next_coded (x ∷ ts) b ks (c ∷ ss) (m ∷ ms) [] t s p = absurd s
next_coded (x ∷ ts) b ks (c ∷ ss) (m ∷ ms) (n ∷ ns) t s p =
    let e : x ∷ ((ts ++ b ∷ ks) ++ p.0) ≡ c ∷ ss = p.1 in
    let first : x ≡ c = cc in
    let tail : (ts ++ b ∷ ks) ++ p.0 ≡ ss = cc in
    let same : m ≡ n = one_message x c m n first t.0 s.0 in
    let r = next_coded ts b ks ss ms ns t.1 s.1 (p.0, tail) in
    record { m = r.m; later = r.later; coded = r.coded; sent = ap (λ (y : Stamping). y ∷ ns) (sym same) ∙ ap (λ (l : List Stamping). m ∷ l) r.sent }

-- of a link of which this is kept first
pub kept_next : (v w : LinkView) (bytes : List ℕ) (ms ns : List Stamping) → IsPrefix (v.taken ++ v.kept) w.sent → AreCoded v.taken ms → AreCoded w.sent ns → first_of v.kept ≡ Some bytes → Next bytes ms ns
kept_next v w bytes ms ns front t s first = by_kept v.kept refl first
  where
    by_kept : (ks : List (List ℕ)) → v.kept ≡ ks → first_of ks ≡ Some bytes → Next bytes ms ns
    by_kept [] e f = absurd cc
    by_kept (k ∷ ks) e f =
        let is : k ≡ bytes = cc in
        next_coded v.taken bytes ks w.sent ms ns t s (subst (λ (l : List (List ℕ)). IsPrefix (v.taken ++ l) w.sent) (e ∙ ap (λ (x : List ℕ). x ∷ ks) is) front)

-- the cores made one computation
abbrev pub made : (limits : TableLimits) (budget : ℕ) (budgets : List ℕ) (h0 : List Stamped) (hs : List (List Stamped)) (view0 : ℕ → LinkView) (views : List (ℕ → LinkView)) (end : Core0State) (ends : List OtherState) → StandBeside limits budget budgets h0 hs view0 views end ends
    → Computation limits budget budgets h0 hs end ends
made limits budget budgets h0 hs view0 views end ends s = record {
  cores = s.histories;
  all_end = s.all_ends;
  sent = s.first.sent;
  taken = s.first.taken;
  of_core0 = s.first.is_history;
  of_other = λ i b h d at_b at_h at_d.
      let lt : i < length budgets = slice_get_within budgets i b at_b in
      let v = get_at views i (omega (arith, lt, s.all_views)) in
      let e = s.others i b h v.0 d at_b at_h v.1 at_d in
      record {
        taken = e.0.taken;
        is_history = e.0.is_history;
        down = coded_prefix (v.0 0).taken (view0 (suc i)).sent e.0.taken (sent_to i s.first.sent) e.0.has_taken (s.first.has_sent i lt) e.1.down;
        up = coded_prefix (view0 (suc i)).taken (v.0 0).sent (taken_from i s.first.taken) (sent_by h) (s.first.has_taken i lt) e.0.has_sent e.1.up;
      };
}

awaits_here : (core : OtherCore) (clock b : ℕ) (d : OtherState) (m : Message) → IsOtherCore core clock d → core.replica.budget ≡ b → AwaitsAt b d m → AwaitsHere core m
awaits_here core clock b d (message.Reply decision) is eb a = sym is.outstanding_is ∙ a
awaits_here core clock b d (message.Prepare txn op) is eb a =
    subst (λ (s : TableState). Fits s core.replica.budget (other_place core) (message.Prepare txn op)) (sym is.shown_is)
    (subst (λ (n : ℕ). Fits (table d.limits d.log (length d.log)) n (other_place core) (message.Prepare txn op)) (sym eb)
    (subst (λ (x : ParticipantPlace). Fits (table d.limits d.log (length d.log)) b x (message.Prepare txn op)) is.place_is a))
awaits_here core clock b d (message.Commit txn) is eb a = subst (λ (x : ParticipantPlace). Fits (table d.limits d.log (length d.log)) b x (message.Commit txn)) is.place_is a
awaits_here core clock b d (message.Abort txn) is eb a = subst (λ (x : ParticipantPlace). Fits (table d.limits d.log (length d.log)) b x (message.Abort txn)) is.place_is a
awaits_here core clock b d (message.Vote txn v) is eb a = absurd a
awaits_here core clock b d (message.Ack txn) is eb a = absurd a
awaits_here core clock b d (message.Submit op) is eb a = absurd a

pub other_goes_on : (limits : TableLimits) (budget : ℕ) (budgets : List ℕ) (h0 : List Stamped) (hs : List (List Stamped)) (view0 : ℕ → LinkView) (views : List (ℕ → LinkView)) (end : Core0State) (ends : List OtherState) → StandBeside limits budget budgets h0 hs view0 views end ends
    → (i b : ℕ) (h : List Stamped) (v : ℕ → LinkView) (d : OtherState) (core : OtherCore) (cores clock capacity : ℕ) (out come : Flow) (why : Cause) → slice_get budgets i ≡ Some b → slice_get hs i ≡ Some h → slice_get views i ≡ Some v → slice_get ends i ≡ Some d
    → IsOtherCore core clock d → core.replica.budget ≡ b → IsExact capacity (view0 (suc i)) (v 0) out come → StopsAt cores clock 0 (part.OtherCore core) v why → ⊥
other_goes_on limits budget budgets h0 hs view0 views end ends s i b h v d core cores clock capacity out come why at_b at_h at_v at_d is eb exact stops = by_cause why stops
  where
    o : StandsOther i limits b h v d
    o = (s.others i b h v d at_b at_h at_v at_d).0

    lt : i < length budgets
    lt = slice_get_within budgets i b at_b

    next : (bytes : List ℕ) → first_of (v 0).kept ≡ Some bytes → Next bytes o.taken (sent_to i s.first.sent)
    next bytes first = kept_next (v 0) (view0 (suc i)) bytes o.taken (sent_to i s.first.sent) exact.front o.has_taken (s.first.has_sent i lt) first

    by_cause : (why : Cause) → StopsAt cores clock 0 (part.OtherCore core) v why → ⊥
    by_cause (cause.Line fault) st = let e = exact.sound in cc (st, e)
    by_cause cause.BadMessage st = let n = next st.0 st.1 in st.2 n.m.stamp n.m.message n.coded
    by_cause cause.Stranger st =
        let n = next st.1.bytes st.1.there in
        let same : n.m ≡ st.0 = one_message st.1.bytes st.1.bytes n.m st.0 refl n.coded st.1.coded in
        let c = made limits budget budgets h0 hs view0 views end ends s in
        let a = (next_awaited limits budget budgets h0 hs end ends c).down i b h d o.taken n.later n.m at_b at_h at_d o.is_history n.sent in
        st.2 refl (subst (λ (x : Stamping). AwaitsHere core x.message) same (awaits_here core clock b d n.m.message is eb a))

pub first_goes_on : (limits : TableLimits) (budget : ℕ) (budgets : List ℕ) (h0 : List Stamped) (hs : List (List Stamped)) (view0 : ℕ → LinkView) (views : List (ℕ → LinkView)) (end : Core0State) (ends : List OtherState) → StandBeside limits budget budgets h0 hs view0 views end ends
    → (i b : ℕ) (h : List Stamped) (v : ℕ → LinkView) (d : OtherState) (core : Core0) (cores clock capacity : ℕ) (out come : Flow) (why : Cause) → slice_get budgets i ≡ Some b → slice_get hs i ≡ Some h → slice_get views i ≡ Some v → slice_get ends i ≡ Some d
    → IsCore0 (length budgets) core clock end → IsExact capacity (v 0) (view0 (suc i)) out come → StopsAt cores clock (suc i) (part.Core0 core) view0 why → ⊥
first_goes_on limits budget budgets h0 hs view0 views end ends s i b h v d core cores clock capacity out come why at_b at_h at_v at_d is exact stops = by_cause why stops
  where
    o : StandsOther i limits b h v d
    o = (s.others i b h v d at_b at_h at_v at_d).0

    lt : i < length budgets
    lt = slice_get_within budgets i b at_b

    next : (bytes : List ℕ) → first_of (view0 (suc i)).kept ≡ Some bytes → Next bytes (taken_from i s.first.taken) (sent_by h)
    next bytes first = kept_next (view0 (suc i)) (v 0) bytes (taken_from i s.first.taken) (sent_by h) exact.front (s.first.has_taken i lt) o.has_sent first

    by_cause : (why : Cause) → StopsAt cores clock (suc i) (part.Core0 core) view0 why → ⊥
    by_cause (cause.Line fault) st = let e = exact.sound in cc (st, e)
    by_cause cause.BadMessage st = let n = next st.0 st.1 in st.2 n.m.stamp n.m.message n.coded
    by_cause cause.Stranger st =
        let n = next st.1.bytes st.1.there in
        let same : n.m ≡ st.0 = one_message st.1.bytes st.1.bytes n.m st.0 refl n.coded st.1.coded in
        let c = made limits budget budgets h0 hs view0 views end ends s in
        let a = (next_awaited limits budget budgets h0 hs end ends c).up i h n.later n.m at_h n.sent in
        st.2 i refl (subst (λ (x : Stamping). Expects (core0_place core) core.coordinator.requests i x.message) same (subst (λ (r : Requests). Expects (core0_place core) r i n.m.message) is.requests_are (subst (λ (x : CoordinatorPlace). Expects x end.requests i n.m.message) is.place_is a)))
