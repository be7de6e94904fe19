-- Where nothing happens in a round, nothing is left to do.
use Rattle.std.proofs.Common.{◌≡◌, ◌≢◌, ◌+◌, ◌<◌, ◌≤◌, ◌⊎◌, inl, inr, ℕ, zero, suc, Bool, true, false, cond, Option, Some, None, List, [], ◌∷◌, ◌++◌, length, slice_get, refl, sym, ap, subst, ◌∙◌, arith, length-append}
use Rattle.std.proofs.lemmas.List.{append-nil}
use mathlib.Core.List.{IsPrefix}
use Rattle.std.proofs.lemmas.Option.{slice_get_within}
use Rattle.filter_table.proofs.Positions.{get_at}
use Rattle.filter_table.specs.Limits.{TableLimits}
use Rattle.filter_table.specs.declared.operation.Op.{Op}
use Rattle.monitor_messages.specs.declared.message.Message.{Message}
use Rattle.two_phase.specs.Coordinators.{CoordinatorPlace, Requests, Idle}
use Rattle.filter_table.specs.Tables.{TableState, table}
use Rattle.world_model.specs.Cases.{Outgoing, nothing, to_all, to_one, outgoing, TakesUpAt}
use Rattle.world_model.specs.Agreement.{Expects}
use Rattle.world_model.proofs.Submissions.{eq_self}
use Rattle.world_histories.specs.declared.history.Stamped.{Stamped}
use Rattle.world_histories.specs.Histories.{Stamping, Sending, History0, core0_first, sent_to, sent_by, taken_from, for_entry, Core0State, OtherState, other_first, TakesInOrder, Computation}
use Rattle.world_histories.proofs.Clocks.{step0_limits}
use Rattle.world_histories.proofs.Rests.{takes_are}
use Rattle.world_progress.specs.Remaining.{AreAtRest}
use Rattle.world_progress.proofs.Awaited.{next_awaited}
use Rattle.world_progress.proofs.LeftOver.{all_taken_idle, all_taken_rest, next_sends}
use Rattle.core_links.specs.Views.{LinkView}
use Rattle.core_links.specs.Flows.{Flow}
use Rattle.core_steps.specs.declared.core0.Core0.{Core0}
use Rattle.core_steps.specs.declared.other_core.OtherCore.{OtherCore}
use Rattle.core_steps.specs.Core0Steps.{core0_place}
use Rattle.core_loop.specs.Carrying.{CanCarry, IsFirst}
use Rattle.core_loop.specs.Choosing.{ShowsNothing, IsLeastShowing}
use Rattle.core_loop.specs.Coded.{AreCoded}
use Rattle.core_loop.specs.Standing.{StandsOther}
use Rattle.core_loop.specs.Keeping.{IsCore0, IsOtherCore}
use Rattle.core_machine.specs.Beside.{StandBeside, IsStillRing, Waits0, Idles0, IdlesOther, IsStillCore, NothingIsLeft}
use Rattle.core_machine.proofs.Stopping.{Next, kept_next, one_message, made}
use Rattle.core_machine.proofs.TakenUp.{IsTakenUp, taken_up}

-- Core 0 keeps its limits
history0_limits : (others budget : ℕ) (c : Core0State) (h : List Stamped) (c' : Core0State) (sent : List Sending) (taken : List (ℕ × Stamping)) → History0 others budget c h c' sent taken → c'.limits ≡ c.limits
history0_limits others budget c [] c' sent taken h = ap (λ (x : Core0State). x.limits) h.0
history0_limits others budget c (s ∷ later) c' sent taken h =
    history0_limits others budget h.0 later c' h.3 h.4 h.6 ∙ step0_limits others budget c h.0 s.stamp s.done.event h.1 s.done.answer h.2 h.5

-- Byte strings and messages

coded_long : (bs : List (List ℕ)) (ms : List Stamping) → AreCoded bs ms → length bs ≡ length ms
coded_long [] [] a = refl
coded_long [] (m ∷ ms) a = absurd a
coded_long (b ∷ bs) [] a = absurd a
coded_long (b ∷ bs) (m ∷ ms) a = ap suc (coded_long bs ms a.1)

coded_same : (bs : List (List ℕ)) (ms ns : List Stamping) → AreCoded bs ms → AreCoded bs ns → ms ≡ ns
coded_same [] [] [] a b = refl
coded_same [] [] (n ∷ ns) a b = absurd b
coded_same [] (m ∷ ms) ns a b = absurd a
coded_same (x ∷ bs) [] ns a b = absurd a
coded_same (x ∷ bs) (m ∷ ms) [] a b = absurd b
coded_same (x ∷ bs) (m ∷ ms) (n ∷ ns) a b =
    let first : m ≡ n = one_message x x m n refl a.0 b.0 in
    ap (λ (y : Stamping). y ∷ ms) first ∙ ap (λ (l : List Stamping). n ∷ l) (coded_same bs ms ns a.1 b.1)

long_front : {A : Type 0} (xs ys : List A) → IsPrefix xs ys → length xs ≡ length ys → xs ≡ ys
long_front {A} xs ys p e = by_rest p.0 p.1
  where
    by_rest : (rest : List A) → xs ++ rest ≡ ys → xs ≡ ys
    by_rest [] is = sym (append-nil xs) ∙ is
    by_rest (y ∷ rest) is = absurd (omega (arith, ap length is, length-append xs (y ∷ rest), e))

-- A ring over which nothing moved

ring_empty : (from to : LinkView) (out out' come come' : Flow) → IsStillRing from to out out' come come' → (from.ready ≡ false → out'.room ≡ 0) → come'.known ≡ 0 → (out'.out ≡ come'.come) × (from.ready ≡ true)
ring_empty from to out out' come come' r full dry = by_ready from.ready refl
  where
    by_ready : (b : Bool) → from.ready ≡ b → (out'.out ≡ come'.come) × (from.ready ≡ true)
    by_ready true e = (omega (arith, r.known.items, r.known.below, r.still_out.out, r.still_in.come, r.still_in.known, dry), e)
    by_ready false e = absurd (omega (arith, r.some, r.known.items, r.known.places, r.still_out.room, r.still_in.known, full e, dry))

-- all that went over it is taken, where none is kept
ring_taken : (from to : LinkView) (out out' come come' : Flow) → IsStillRing from to out out' come come' → from.ready ≡ true → out'.out ≡ come'.come → to.kept ≡ [] → to.taken ≡ from.sent
ring_taken from to out out' come come' r ready same none = sym (append-nil to.taken) ∙ (ap (λ (l : List (List ℕ)). to.taken ++ l) (sym none) ∙ r.after.all ready same)

-- what core 0 sends can be carried where the links to those that get it are ready
carries : (n : ℕ) (out : Outgoing) (view : ℕ → LinkView) → ((j : ℕ) → j < n → for_entry j out ≢ [] → (view (suc j)).ready ≡ true) → CanCarry n out view
carries n nothing view ready = tt
carries n (to_all m) view ready = λ entry lt. ready entry lt (λ e. cc)
carries n (to_one entry m) view ready = λ lt. ready entry lt (λ e. (let x : m ∷ [] ≡ [] = subst (λ (b : Bool). cond b (m ∷ []) [] ≡ []) (eq_self entry) e in cc))

pub still_rests : (limits : TableLimits) (budget : ℕ) (budgets : List ℕ) (h0 : List Stamped) (hs : List (List Stamped)) (view0 : ℕ → LinkView) (views : List (ℕ → LinkView)) (end : Core0State) (ends : List OtherState) → StandBeside limits budget budgets h0 hs view0 views end ends
    → (core0 : Core0) (clock0 : ℕ) (pending0 : List Op) (core : ℕ → OtherCore) (pending : ℕ → List Op) (f0 f0' g g' : ℕ → Flow) → IsCore0 (length budgets) core0 clock0 end → Idles0 (length budgets) core0 pending0 view0 f0'
    → ((i : ℕ) (v : ℕ → LinkView) (d : OtherState) → slice_get views i ≡ Some v → slice_get ends i ≡ Some d → IsStillCore (length budgets) i (core i) (pending i) d view0 v f0 f0' (g i) (g' i)) → NothingIsLeft view0 views end ends pending0 pending f0' g'
still_rests limits budget budgets h0 hs view0 views end ends s core0 clock0 pending0 core pending f0 f0' g g' home idles each = record {
  at_rest = rest;
  none0 = by_list0 pending0 refl;
  none = λ i d at_d. by_list i d at_d (pending i) refl;
  up = λ i v d at_v at_d. (let lt = slice_get_within views i v at_v in let x = up i v d (omega (arith, lt, s.all_views)) at_v at_d in record { received = x.0; none_kept = (nothing0 (suc i) (omega (arith, lt, s.all_views))).no_message; ready = x.1 });
  down = λ i v d at_v at_d. (let lt = slice_get_within views i v at_v in let x = down i v d (omega (arith, lt, s.all_views)) at_v at_d in record { received = x.0; none_kept = (nothing i v d (omega (arith, lt, s.all_views)) at_v at_d 0 (omega arith)).no_message; ready = x.1 });
}
  where
    n : ℕ
    n = length budgets

    c : Computation limits budget budgets h0 hs end ends
    c = made limits budget budgets h0 hs view0 views end ends s

    limits_end : end.limits ≡ limits
    limits_end = history0_limits n budget (core0_first limits n) h0 end c.sent c.taken c.of_core0

    -- the core with this entry, its history and its links
    place : (i : ℕ) → i < length budgets → (b : ℕ) × (h : List Stamped) × (v : ℕ → LinkView) × (d : OtherState) × (slice_get budgets i ≡ Some b) × (slice_get hs i ≡ Some h) × (slice_get views i ≡ Some v) × (slice_get ends i ≡ Some d)
    place i lt =
        let b = get_at budgets i lt in
        let h = get_at hs i (omega (arith, lt, s.histories)) in
        let v = get_at views i (omega (arith, lt, s.all_views)) in
        let d = get_at ends i (omega (arith, lt, s.all_ends)) in
        (b.0, h.0, v.0, d.0, b.1, h.1, v.1, d.1)

    -- the link to a core that has taken all is ready
    ready_taken : (j b : ℕ) (h : List Stamped) (v : ℕ → LinkView) (d : OtherState) → slice_get budgets j ≡ Some b → slice_get hs j ≡ Some h → slice_get views j ≡ Some v → slice_get ends j ≡ Some d
        → ((t : TakesInOrder j limits b s.first.sent s.first.taken h d) → t.taken ≡ sent_to j s.first.sent) → (view0 (suc j)).ready ≡ true
    ready_taken j b h v d at_b at_h at_v at_d taken_all = by_ready (view0 (suc j)).ready refl
      where
        lt : j < length budgets
        lt = slice_get_within budgets j b at_b

        o : StandsOther j limits b h v d
        o = (s.others j b h v d at_b at_h at_v at_d).0

        t : TakesInOrder j limits b s.first.sent s.first.taken h d
        t = c.of_other j b h d at_b at_h at_d

        long : length (v 0).taken ≡ length (view0 (suc j)).sent
        long = coded_long (v 0).taken o.taken o.has_taken ∙ (sym (takes_are j b (other_first limits) d h o.taken o.is_history) ∙ (takes_are j b (other_first limits) d h t.taken t.is_history
            ∙ (ap length (taken_all t) ∙ sym (coded_long (view0 (suc j)).sent (sent_to j s.first.sent) (s.first.has_sent j lt)))))

        by_ready : (x : Bool) → (view0 (suc j)).ready ≡ x → (view0 (suc j)).ready ≡ true
        by_ready true e = e
        by_ready false e = absurd (omega (arith, long, (each j v d at_v at_d).down.after.going e, length-append (v 0).taken (v 0).kept))

    -- core 0 doesn't wait
    waits_not : (peer : ℕ) → IsLeastShowing (suc (length budgets)) view0 peer → Waits0 (length budgets) core0 peer view0 → ⊥
    waits_not zero least w = least.shows idles.itself
    waits_not (suc i) least w = w.2 t.after t.told t.takes (carries (length budgets) (outgoing t.told.step (core0_place t.after)) view0 ready)
      where
        lt : i < length budgets
        lt = omega (arith, least.inside)

        q : (b : ℕ) × (h : List Stamped) × (v : ℕ → LinkView) × (d : OtherState) × (slice_get budgets i ≡ Some b) × (slice_get hs i ≡ Some h) × (slice_get views i ≡ Some v) × (slice_get ends i ≡ Some d)
        q = place i lt

        o : StandsOther i limits q.0 q.1 q.2 q.3
        o = (s.others i q.0 q.1 q.2 q.3 q.4 q.5 q.6 q.7).0

        next : Next w.1.bytes (taken_from i s.first.taken) (sent_by q.1)
        next = kept_next (view0 (suc i)) (q.2 0) w.1.bytes (taken_from i s.first.taken) (sent_by q.1) (each i q.2 q.3 q.6 q.7).up.after.front (s.first.has_taken i lt) o.has_sent w.1.there

        same : next.m ≡ w.0
        same = one_message w.1.bytes w.1.bytes next.m w.0 refl next.coded w.1.coded

        expects : Expects (core0_place core0) core0.coordinator.requests i w.0.message
        expects = subst (λ (x : Stamping). Expects (core0_place core0) core0.coordinator.requests i x.message) same
            (subst (λ (r : Requests). Expects (core0_place core0) r i next.m.message) home.requests_are
            (subst (λ (x : CoordinatorPlace). Expects x end.requests i next.m.message) home.place_is ((next_awaited limits budget budgets h0 hs end ends c).up i q.1 next.later next.m q.5 next.sent)))

        t : IsTakenUp core0 i w.0.message
        t = taken_up core0 i w.0.message home.between expects

        is_entry : t.takes.entry ≡ i
        is_entry = (let e = t.takes.is_core in omega (arith, e))

        takes_at : TakesUpAt (table limits end.log (length end.log)) end.place end.requests i next.m.message (core0_place t.after) t.after.coordinator.requests t.takes.committed t.told.step t.told.answer
        takes_at =
            subst (λ (x : CoordinatorPlace). TakesUpAt (table limits end.log (length end.log)) x end.requests i next.m.message (core0_place t.after) t.after.coordinator.requests t.takes.committed t.told.step t.told.answer) (sym home.place_is)
            (subst (λ (r : Requests). TakesUpAt (table limits end.log (length end.log)) (core0_place core0) r i next.m.message (core0_place t.after) t.after.coordinator.requests t.takes.committed t.told.step t.told.answer) (sym home.requests_are)
            (subst (λ (x : Stamping). TakesUpAt (table limits end.log (length end.log)) (core0_place core0) core0.coordinator.requests i x.message (core0_place t.after) t.after.coordinator.requests t.takes.committed t.told.step t.told.answer) (sym same)
            (subst (λ (m : TableLimits). TakesUpAt (table m end.log (length end.log)) (core0_place core0) core0.coordinator.requests i w.0.message (core0_place t.after) t.after.coordinator.requests t.takes.committed t.told.step t.told.answer) limits_end
            (subst (λ (x : TableState). TakesUpAt x (core0_place core0) core0.coordinator.requests i w.0.message (core0_place t.after) t.after.coordinator.requests t.takes.committed t.told.step t.told.answer) home.shown_is
            (subst (λ (k : ℕ). TakesUpAt core0.replica.shown (core0_place core0) core0.coordinator.requests k w.0.message (core0_place t.after) t.after.coordinator.requests t.takes.committed t.told.step t.told.answer) is_entry t.takes.here)))))

        ready : (j : ℕ) → j < length budgets → for_entry j (outgoing t.told.step (core0_place t.after)) ≢ [] → (view0 (suc j)).ready ≡ true
        ready j ltj some =
            let r = place j ltj in
            ready_taken j r.0 r.1 r.2 r.3 r.4 r.5 r.6 r.7
            (λ u. next_sends limits budget budgets h0 hs end ends c i q.1 next.later next.m (core0_place t.after) t.after.coordinator.requests t.takes.committed t.told.step t.told.answer q.5 next.sent takes_at j r.0 r.1 r.3 r.4 r.5 r.7 some u)

    nothing0 : (p : ℕ) → p < suc (length budgets) → ShowsNothing (view0 p)
    nothing0 = by_idle idles.no_message
      where
        by_idle : ((p : ℕ) → p < suc (length budgets) → ShowsNothing (view0 p)) ⊎ ((peer : ℕ) × IsLeastShowing (suc (length budgets)) view0 peer × Waits0 (length budgets) core0 peer view0) → (p : ℕ) → p < suc (length budgets) → ShowsNothing (view0 p)
        by_idle (inl all) = all
        by_idle (inr w) = absurd (waits_not w.0 w.1 w.2)

    -- the rings to core 0, and then those from it, are empty and ready
    up : (i : ℕ) (v : ℕ → LinkView) (d : OtherState) → i < length budgets → slice_get views i ≡ Some v → slice_get ends i ≡ Some d → ((g' i).out ≡ (f0' (suc i)).come) × ((v 0).ready ≡ true)
    up i v d lt at_v at_d = let x = each i v d at_v at_d in ring_empty (v 0) (view0 (suc i)) (g i) (g' i) (f0 (suc i)) (f0' (suc i)) x.up x.idles.full (idles.dry nothing0 (suc i) (omega (arith, lt)))

    nothing : (i : ℕ) (v : ℕ → LinkView) (d : OtherState) → i < length budgets → slice_get views i ≡ Some v → slice_get ends i ≡ Some d → (p : ℕ) → p < suc (length budgets) → ShowsNothing (v p)
    nothing i v d lt at_v at_d = by_idle (each i v d at_v at_d).idles.no_message
      where
        by_idle : ((p : ℕ) → p < suc (length budgets) → ShowsNothing (v p)) ⊎ ((v 0).ready ≡ false) → (p : ℕ) → p < suc (length budgets) → ShowsNothing (v p)
        by_idle (inl all) = all
        by_idle (inr blocked) = absurd (let x : true ≡ false = sym (up i v d lt at_v at_d).1 ∙ blocked in cc)

    down : (i : ℕ) (v : ℕ → LinkView) (d : OtherState) → i < length budgets → slice_get views i ≡ Some v → slice_get ends i ≡ Some d → ((f0' (suc i)).out ≡ (g' i).come) × ((view0 (suc i)).ready ≡ true)
    down i v d lt at_v at_d = let x = each i v d at_v at_d in ring_empty (view0 (suc i)) (v 0) (f0 (suc i)) (f0' (suc i)) (g i) (g' i) x.down (idles.full (suc i)) (x.idles.dry (nothing i v d lt at_v at_d))

    -- so all that was sent is taken
    all : (i b : ℕ) (h : List Stamped) (d : OtherState) → slice_get budgets i ≡ Some b → slice_get hs i ≡ Some h → slice_get ends i ≡ Some d → (t : TakesInOrder i limits b s.first.sent s.first.taken h d) → (t.taken ≡ sent_to i s.first.sent) × (taken_from i s.first.taken ≡ sent_by h)
    all i b h d at_b at_h at_d t =
        let lt : i < length budgets = slice_get_within budgets i b at_b in
        let v = get_at views i (omega (arith, lt, s.all_views)) in
        let o = (s.others i b h v.0 d at_b at_h v.1 at_d).0 in
        let x = each i v.0 d v.1 at_d in
        let took_up = ring_taken (v.0 0) (view0 (suc i)) (g i) (g' i) (f0 (suc i)) (f0' (suc i)) x.up (up i v.0 d lt v.1 at_d).1 (up i v.0 d lt v.1 at_d).0 (nothing0 (suc i) (omega (arith, lt))).no_message in
        let took_down = ring_taken (view0 (suc i)) (v.0 0) (f0 (suc i)) (f0' (suc i)) (g i) (g' i) x.down (down i v.0 d lt v.1 at_d).1 (down i v.0 d lt v.1 at_d).0 (nothing i v.0 d lt v.1 at_d 0 (omega arith)).no_message in
        let same_up : taken_from i s.first.taken ≡ sent_by h = coded_same (v.0 0).sent (taken_from i s.first.taken) (sent_by h) (subst (λ (l : List (List ℕ)). AreCoded l (taken_from i s.first.taken)) took_up (s.first.has_taken i lt)) o.has_sent in
        let same_down : o.taken ≡ sent_to i s.first.sent = coded_same (view0 (suc i)).sent o.taken (sent_to i s.first.sent) (subst (λ (l : List (List ℕ)). AreCoded l o.taken) took_down o.has_taken) (s.first.has_sent i lt) in
        (long_front t.taken (sent_to i s.first.sent) t.down (sym (takes_are i b (other_first limits) d h t.taken t.is_history) ∙ (takes_are i b (other_first limits) d h o.taken o.is_history ∙ ap length same_down)), same_up)

    idle : (end.place.phase ≡ Idle) × (length end.requests.waiting ≡ length budgets)
    idle = all_taken_idle limits budget budgets h0 hs end ends c all

    phase : core0.coordinator.phase ≡ Idle
    phase = sym (ap (λ (x : CoordinatorPlace). x.phase) home.place_is) ∙ idle.0

    ready0 : (entry : ℕ) → entry < length budgets → (view0 (suc entry)).ready ≡ true
    ready0 entry lt = let q = place entry lt in (down entry q.2 q.3 lt q.6 q.7).1

    none_waits : (i : ℕ) (op : Op) → slice_get end.requests.waiting i ≡ Some (Some op) → ⊥
    none_waits i op at = idles.no_request (record {
      idle = phase;
      some = inr (record { entry = i; op = op; inside = omega (arith, idle.1, slice_get_within end.requests.waiting i (Some op) at); is_waiting = subst (λ (r : Requests). slice_get r.waiting i ≡ Some (Some op)) home.requests_are at });
      ready = ready0;
    })

    rest : AreAtRest end ends
    rest = all_taken_rest limits budget budgets h0 hs end ends c all none_waits

    by_list0 : (ops : List Op) → pending0 ≡ ops → pending0 ≡ []
    by_list0 [] e = e
    by_list0 (op ∷ ops) e = absurd (idles.no_request (record { idle = phase; some = inl (λ none. (let x : op ∷ ops ≡ [] = sym e ∙ none in cc)); ready = ready0 }))

    by_list : (i : ℕ) (d : OtherState) → slice_get ends i ≡ Some d → (ops : List Op) → pending i ≡ ops → pending i ≡ []
    by_list i d at_d [] e = e
    by_list i d at_d (op ∷ ops) e =
        let lt : i < length budgets = omega (arith, s.all_ends, slice_get_within ends i d at_d) in
        let v = get_at views i (omega (arith, lt, s.all_views)) in
        let x = each i v.0 d v.1 at_d in
        absurd (x.idles.no_request (record { some = λ none. (let y : op ∷ ops ≡ [] = sym e ∙ none in cc); free = sym x.is_other.outstanding_is ∙ (rest.others i d at_d).0; ready = (up i v.0 d lt v.1 at_d).1 }))
