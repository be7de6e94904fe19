-- In order of their stamps the events of a computation are a run of the machine.
use Rattle.std.proofs.Common.{◌≡◌, ◌<◌, ◌≤◌, ◌⊎◌, ◌==◌, inl, inr, ℕ, zero, suc, true, false, Some, List, [], ◌∷◌, ◌++◌, length, slice_get, slice_set, refl, ap, sym, ◌∙◌, subst, arith, append_assoc}
use Rattle.std.proofs.lemmas.List.{append-nil}
use Rattle.world_model.specs.Worlds.{Peer, World, boot, Run}
use Rattle.world_model.proofs.Lists.{get-set_same, get-set_other, length-slice_set, same_or_not}
use Rattle.world_model.proofs.Known.{run_known}
use Rattle.world_model.proofs.Submissions.{eq_self, eq_other}
use Rattle.world_histories.specs.declared.history.Stamped.{Stamped}
use Rattle.world_histories.specs.Histories.{Stamping, Sending, sent_to, sent_by, taken_from, Core0State, core0_first, History0, OtherState, HistoryOther, Computation}
use Rattle.world_histories.specs.Merging.{core_of, part, IsBefore, IsInOrder, Merged, as_listed, EndsAs, AllEnd, IsRun}
use Rattle.world_histories.proofs.Lists.{less_or_not, get_next, size, size_set, Least, NoneLeft, least_of}
use Rattle.world_histories.proofs.Parts.{part_own, part_other, placed}
use Rattle.world_histories.proofs.Clocks.{step0_clock, next0, step_clock, next_other}
use Rattle.world_histories.proofs.Seats.{messages, SeatOf, Joint}
use Rattle.world_histories.proofs.Rests.{rest_down, rest_up, rests_of}
use Rattle.world_histories.proofs.Joining.{Next, joint0, joint_own, joint_first}
use Rattle.std.proofs.lemmas.Option.{slice_get_within}
use Rattle.filter_table.specs.Limits.{TableLimits}
use Rattle.filter_table.proofs.Positions.{get_at}

-- the rests of the histories, in one list that goes on with the run
record Goes (rd ru : ℕ → List Stamping) (limits : TableLimits) (budget : ℕ) (budgets : List ℕ) (before : List Stamped) (all : List (List Stamped)) (end : Core0State) (ends : List OtherState) : Type 0 where
  later : List Stamped
  in_order : IsInOrder later
  heads : (t : Stamped) (rest : List Stamped) → later ≡ t ∷ rest → (k : ℕ) × (r : List Stamped) × (slice_get all k ≡ Some (t ∷ r)) × (core_of t.done.event ≡ k)
  of_each : (core : ℕ) (h : List Stamped) → slice_get all core ≡ Some h → part core later ≡ h
  of_cores : (k : ℕ) (s : Stamped) → slice_get later k ≡ Some s → core_of s.done.event < length all
  world : World
  run : Run limits budget budgets (as_listed (before ++ later)) world
  all_end : AllEnd world end ends
  under_way : (i : ℕ) (p : Peer) → slice_get world.peers i ≡ Some p → (p.down ≡ messages (rd i)) × (p.up ≡ messages (ru i))

-- Nothing is left

finished : (rd ru : ℕ → List Stamping) (limits : TableLimits) (budget : ℕ) (budgets : List ℕ) (before : List Stamped) (w : World) (c : Core0State) (h0 : List Stamped) (hs : List (List Stamped)) (end : Core0State) (ends : List OtherState) → NoneLeft (h0 ∷ hs) → Joint rd ru limits budget budgets before w c h0 hs end ends
    → Goes rd ru limits budget budgets before (h0 ∷ hs) end ends
finished rd ru limits budget budgets before w c h0 hs end ends none j = record {
  later = [];
  in_order = tt;
  heads = λ t rest e. absurd (cc);
  of_each = λ core h at. sym (none core h at);
  of_cores = λ k s at. absurd (cc);
  world = w;
  run = subst (λ (xs : List Stamped). Run limits budget budgets (as_listed xs) w) (sym (append-nil before)) j.run;
  all_end = record {
    limits_are = j.limits_are ∙ sym (ap (λ (x : Core0State). x.limits) ended);
    log_is = j.log_is ∙ sym (ap (λ (x : Core0State). x.log) ended);
    place_is = j.place_is ∙ sym (ap (λ (x : Core0State). x.place) ended);
    requests_are = j.requests_are ∙ sym (ap (λ (x : Core0State). x.requests) ended);
    others = λ i p d at at_d. other i p d (j.seats i p at) at_d;
  };
  under_way = λ i p at. left i p (j.seats i p at);
}
  where
    ended : end ≡ c
    ended = (subst (λ (x : List Stamped). History0 (length budgets) budget c x end j.sent j.taken) (none 0 h0 refl) j.ahead).0

    none_sent : (j.sent ≡ []) × (j.taken ≡ [])
    none_sent = let x = subst (λ (x : List Stamped). History0 (length budgets) budget c x end j.sent j.taken) (none 0 h0 refl) j.ahead in (x.1, x.2)

    left : (i : ℕ) (p : Peer) → SeatOf rd ru i w.limits w.log p hs ends j.sent j.taken → (p.down ≡ messages (rd i)) × (p.up ≡ messages (ru i))
    left i p o =
        let s = o.seat in
        let is : o.history ≡ [] = none (suc i) o.history o.is_history in
        let untaken : s.taken ≡ [] = (subst (λ (x : List Stamped). HistoryOther i p.budget s.core x o.end s.taken) is s.ahead).1 in
        let takes : [] ++ rd i ≡ s.down ++ sent_to i [] =
        subst (λ (x : List Sending). [] ++ rd i ≡ s.down ++ sent_to i x) none_sent.0 (subst (λ (x : List Stamping). x ++ rd i ≡ s.down ++ sent_to i j.sent) untaken s.takes) in
        let gives : taken_from i [] ++ ru i ≡ s.up ++ sent_by [] =
        subst (λ (x : List Stamped). taken_from i [] ++ ru i ≡ s.up ++ sent_by x) is (subst (λ (x : List (ℕ × Stamping)). taken_from i x ++ ru i ≡ s.up ++ sent_by o.history) none_sent.1 s.gives) in (
          sym s.down_is ∙ ap messages (sym (append-nil s.down) ∙ sym takes),
          sym s.up_is ∙ ap messages (sym (append-nil s.up) ∙ sym gives),
        )

    other : (i : ℕ) (p : Peer) (d : OtherState) → SeatOf rd ru i w.limits w.log p hs ends j.sent j.taken → slice_get ends i ≡ Some d → EndsAs w p d
    other i p d o at_d =
        let same : o.end ≡ d = (let x = o.is_end in cc) in
        let last : o.end ≡ o.seat.core = (subst (λ (x : List Stamped). HistoryOther i p.budget o.seat.core x o.end o.seat.taken) (none (suc i) o.history o.is_history) o.seat.ahead).0 in
        let is : o.seat.core ≡ d = sym last ∙ same in
        subst (λ (x : OtherState). EndsAs w p x) is (record { limits_are = o.seat.limits_are; version_is = o.seat.version_is; is_front = o.seat.is_front; place_is = o.seat.place_is; outstanding_is = o.seat.outstanding_is })

-- One event, and the rest

goes_on : (rd ru : ℕ → List Stamping) (limits : TableLimits) (budget : ℕ) (budgets : List ℕ) (before : List Stamped) (all : List (List Stamped)) (k : ℕ) (s : Stamped) (r : List Stamped) (end : Core0State) (ends : List OtherState) → slice_get all k ≡ Some (s ∷ r) → core_of s.done.event ≡ k
    → ((j : ℕ) (t : Stamped) (rest : List Stamped) → slice_get all j ≡ Some (t ∷ rest) → (s.stamp < t.stamp) ⊎ ((s.stamp ≡ t.stamp) × (k ≤ j)))
    → ((t : Stamped) (rest : List Stamped) → r ≡ t ∷ rest → s.stamp < t.stamp) → Goes rd ru limits budget budgets (before ++ s ∷ []) (slice_set all k r) end ends → Goes rd ru limits budget budgets before all end ends
goes_on rd ru limits budget budgets before all k s r end ends here is least next g = record {
  later = s ∷ g.later;
  in_order = ordered g.later g.in_order g.heads;
  heads = λ t rest e. let same : s ≡ t = cc in (k, r, here ∙ ap (λ (x : Stamped). Some (x ∷ r)) same, ap (λ (x : Stamped). core_of x.done.event) (sym same) ∙ is);
  of_each = λ core h at. part_of core h at (same_or_not k core);
  of_cores = within;
  world = g.world;
  run = subst (λ (xs : List Stamped). Run limits budget budgets (as_listed xs) g.world) (append_assoc before (s ∷ []) g.later) g.run;
  all_end = g.all_end;
  under_way = g.under_way;
}
  where
    first : (t : Stamped) → (j : ℕ) (rest : List Stamped) → slice_get (slice_set all k r) j ≡ Some (t ∷ rest) → core_of t.done.event ≡ j → ((k ≡ j) ⊎ (k ≡ j → ⊥)) → IsBefore s t
    first t j rest at is_t (inl e) =
        let a = get-set_same all k r (s ∷ r) here in
        let b : slice_get (slice_set all k r) k ≡ Some (t ∷ rest) = subst (λ (n : ℕ). slice_get (slice_set all k r) n ≡ Some (t ∷ rest)) (sym e) at in
        inl (next t rest cc)
    first t j rest at is_t (inr ne) = by_stamp (least j t rest (sym (get-set_other all k j r ne) ∙ at))
      where
        by_stamp : ((s.stamp < t.stamp) ⊎ ((s.stamp ≡ t.stamp) × (k ≤ j))) → IsBefore s t
        by_stamp (inl lt) = inl lt
        by_stamp (inr e) = inr (e.0, omega (arith, e.1, is, is_t, ne))

    ordered : (later : List Stamped) → IsInOrder later → ((t : Stamped) (rest : List Stamped) → later ≡ t ∷ rest → (n : ℕ) × (r' : List Stamped) × (slice_get (slice_set all k r) n ≡ Some (t ∷ r')) × (core_of t.done.event ≡ n)) → IsInOrder (s ∷ later)
    ordered [] o heads = tt
    ordered (t ∷ rest) o heads = let x = heads t rest refl in (first t x.0 x.1 x.2 x.3 (same_or_not k x.0), o)

    part_of : (core : ℕ) (h : List Stamped) → slice_get all core ≡ Some h → ((k ≡ core) ⊎ (k ≡ core → ⊥)) → part core (s ∷ g.later) ≡ h
    part_of core h at (inl e) =
        let at' : slice_get all k ≡ Some h = subst (λ (n : ℕ). slice_get all n ≡ Some h) (sym e) at in
        let whole : s ∷ r ≡ h = cc in
        let rest : part core g.later ≡ r = subst (λ (n : ℕ). part n g.later ≡ r) e (g.of_each k r (get-set_same all k r (s ∷ r) here)) in
        let test : (core_of s.done.event == core) ≡ true = ap (λ (n : ℕ). n == core) (is ∙ e) ∙ eq_self core in
        rw (test, rest) whole
    part_of core h at (inr ne) =
        let test : (core_of s.done.event == core) ≡ false = ap (λ (n : ℕ). n == core) is ∙ eq_other k core ne in
        rw test (g.of_each core h (get-set_other all k core r ne ∙ at))

    within : (n : ℕ) (x : Stamped) → slice_get (s ∷ g.later) n ≡ Some x → core_of x.done.event < length all
    within zero x at = let same : s ≡ x = cc in omega (arith, is, ap (λ (y : Stamped). core_of y.done.event) same, slice_get_within all k (s ∷ r) here)
    within (suc n) x at = omega (arith, g.of_cores n x at, length-slice_set all k r)

-- the rest of a core's history
own_ahead : (rd ru : ℕ → List Stamping) (limits : TableLimits) (budget : ℕ) (budgets : List ℕ) (before : List Stamped) (w : World) (c : Core0State) (h0 : List Stamped) (hs : List (List Stamped)) (end : Core0State) (ends : List OtherState) (i : ℕ) (s : Stamped) (r : List Stamped) → Joint rd ru limits budget budgets before w c h0 hs end ends
    → slice_get hs i ≡ Some (s ∷ r) → (b : ℕ) × (d : OtherState) × (e : OtherState) × (taken : List Stamping) × HistoryOther i b d (s ∷ r) e taken
own_ahead rd ru limits budget budgets before w c h0 hs end ends i s r j at =
    let k = run_known limits budget budgets (as_listed before) w j.run in
    let p = get_at w.peers i (omega (arith, k.cores, j.cores, slice_get_within hs i (s ∷ r) at)) in
    let o = j.seats i p.0 p.1 in
    let same : o.history ≡ s ∷ r = (let x = o.is_history in cc) in
    (p.0.budget, o.seat.core, o.end, o.seat.taken, subst (λ (x : List Stamped). HistoryOther i p.0.budget o.seat.core x o.end o.seat.taken) same o.seat.ahead)

abbrev Merges : (ℕ → List Stamping) → (ℕ → List Stamping) → TableLimits → ℕ → ℕ → List ℕ → Core0State → List OtherState → Type 0
Merges rd ru limits fuel budget budgets end ends = (before : List Stamped) (w : World) (c : Core0State) (h0 : List Stamped) (hs : List (List Stamped)) → size (h0 ∷ hs) ≤ fuel → Joint rd ru limits budget budgets before w c h0 hs end ends → Goes rd ru limits budget budgets before (h0 ∷ hs) end ends

merge_step : (rd ru : ℕ → List Stamping) (limits : TableLimits) (fuel budget : ℕ) (budgets : List ℕ) (before : List Stamped) (w : World) (c : Core0State) (h0 : List Stamped) (hs : List (List Stamped)) (end : Core0State) (ends : List OtherState) → Merges rd ru limits fuel budget budgets end ends
    → size (h0 ∷ hs) ≤ suc fuel → Joint rd ru limits budget budgets before w c h0 hs end ends → Least (h0 ∷ hs) → Goes rd ru limits budget budgets before (h0 ∷ hs) end ends
merge_step rd ru limits fuel budget budgets before w c h0 hs end ends rest le joint least = by_core least.core least.first least.later least.here least.before_all
  where
    by_core : (k : ℕ) (s : Stamped) (r : List Stamped) → slice_get (h0 ∷ hs) k ≡ Some (s ∷ r) → ((j : ℕ) (t : Stamped) (later : List Stamped) → slice_get (h0 ∷ hs) j ≡ Some (t ∷ later) → (s.stamp < t.stamp) ⊎ ((s.stamp ≡ t.stamp) × (k ≤ j)))
        → Goes rd ru limits budget budgets before (h0 ∷ hs) end ends
    by_core zero s r here all = goes_on rd ru limits budget budgets before (h0 ∷ hs) 0 s r end ends here core_is all after (rest (before ++ s ∷ []) n.world n.core0 r hs (omega (arith, le, size_set (h0 ∷ hs) 0 s r here)) n.joint)
      where
        whole : h0 ≡ s ∷ r
        whole = cc

        j : Joint rd ru limits budget budgets before w c (s ∷ r) hs end ends
        j = subst (λ (x : List Stamped). Joint rd ru limits budget budgets before w c x hs end ends) whole joint

        core_is : core_of s.done.event ≡ 0
        core_is = (step0_clock (length budgets) budget c j.ahead.0 s.stamp s.done.event j.ahead.1 s.done.answer j.ahead.2 j.ahead.5).2

        after : (t : Stamped) (later : List Stamped) → r ≡ t ∷ later → s.stamp < t.stamp
        after t later e = next0 (length budgets) budget c end s t later j.sent j.taken (subst (λ (x : List Stamped). History0 (length budgets) budget c (s ∷ x) end j.sent j.taken) e j.ahead)

        not_before : (i : ℕ) (t : Stamped) (later : List Stamped) → slice_get hs i ≡ Some (t ∷ later) → s.stamp ≤ t.stamp
        not_before i t later at = by_stamp (all (suc i) t later at)
          where
            by_stamp : ((s.stamp < t.stamp) ⊎ ((s.stamp ≡ t.stamp) × (0 ≤ suc i))) → s.stamp ≤ t.stamp
            by_stamp (inl lt) = omega (arith, lt)
            by_stamp (inr e) = omega (arith, e.0)

        n : Next rd ru limits budget budgets (before ++ s ∷ []) r hs end ends
        n = joint0 rd ru limits budget budgets before w c s r hs end ends j not_before
    by_core (suc i) s r here all = goes_on rd ru limits budget budgets before (h0 ∷ hs) (suc i) s r end ends here core_is all after (rest (before ++ s ∷ []) n.world n.core0 h0 (slice_set hs i r) (omega (arith, le, size_set (h0 ∷ hs) (suc i) s r here)) n.joint)
      where
        not_before : (t : Stamped) (later : List Stamped) → h0 ≡ t ∷ later → s.stamp ≤ t.stamp
        not_before t later e = by_stamp (all 0 t later (ap (λ (x : List Stamped). Some x) e))
          where
            by_stamp : ((s.stamp < t.stamp) ⊎ ((s.stamp ≡ t.stamp) × (suc i ≤ 0))) → s.stamp ≤ t.stamp
            by_stamp (inl lt) = omega (arith, lt)
            by_stamp (inr e') = omega (arith, e'.0)

        n : Next rd ru limits budget budgets (before ++ s ∷ []) h0 (slice_set hs i r) end ends
        n = joint_own rd ru limits budget budgets before w c h0 i s r hs end ends joint here not_before

        mine : (b : ℕ) × (d : OtherState) × (e : OtherState) × (taken : List Stamping) × HistoryOther i b d (s ∷ r) e taken
        mine = own_ahead rd ru limits budget budgets before w c h0 hs end ends i s r joint here

        core_is : core_of s.done.event ≡ suc i
        core_is = let a = mine.4 in (step_clock i mine.0 mine.1 a.0 s.stamp s.done.event a.1 s.done.answer a.3).2

        after : (t : Stamped) (later : List Stamped) → r ≡ t ∷ later → s.stamp < t.stamp
        after t later e = next_other i mine.0 mine.1 mine.2 s t later mine.3 (subst (λ (x : List Stamped). HistoryOther i mine.0 mine.1 (s ∷ x) mine.2 mine.3) e mine.4)

merge_from : (rd ru : ℕ → List Stamping) (limits : TableLimits) (fuel budget : ℕ) (budgets : List ℕ) (end : Core0State) (ends : List OtherState) → Merges rd ru limits fuel budget budgets end ends
merge_from rd ru limits zero budget budgets end ends before w c h0 hs le j = by_left (least_of (h0 ∷ hs))
  where
    by_left : (NoneLeft (h0 ∷ hs) ⊎ Least (h0 ∷ hs)) → Goes rd ru limits budget budgets before (h0 ∷ hs) end ends
    by_left (inl none) = finished rd ru limits budget budgets before w c h0 hs end ends none j
    by_left (inr l) = absurd (omega (arith, le, size_set (h0 ∷ hs) l.core l.first l.later l.here))
merge_from rd ru limits (suc fuel) budget budgets end ends before w c h0 hs le j = by_left (least_of (h0 ∷ hs)) (merge_from rd ru limits fuel budget budgets end ends)
  where
    by_left : (NoneLeft (h0 ∷ hs) ⊎ Least (h0 ∷ hs)) → Merges rd ru limits fuel budget budgets end ends → Goes rd ru limits budget budgets before (h0 ∷ hs) end ends
    by_left (inl none) rest = finished rd ru limits budget budgets before w c h0 hs end ends none j
    by_left (inr l) rest = merge_step rd ru limits fuel budget budgets before w c h0 hs end ends rest le j l

-- a list of all events, and the run that it is
pub record OneRun (limits : TableLimits) (budget : ℕ) (budgets : List ℕ) (core0 : List Stamped) (others : List (List Stamped)) (end : Core0State) (ends : List OtherState) : Type 0 where
  pub merged : List Stamped
  pub is_merged : Merged core0 others merged
  pub world : World
  pub run : Run limits budget budgets (as_listed merged) world
  pub all_end : AllEnd world end ends

pub one_run : (limits : TableLimits) (budget : ℕ) (budgets : List ℕ) (core0 : List Stamped) (others : List (List Stamped)) (end : Core0State) (ends : List OtherState) → Computation limits budget budgets core0 others end ends → OneRun limits budget budgets core0 others end ends
one_run limits budget budgets core0 others end ends h =
    let g = merge_from (rest_down others h.sent) (rest_up others h.taken) limits (size (core0 ∷ others)) budget budgets end ends [] (boot limits budget budgets) (core0_first limits (length budgets)) core0 others (omega arith) (joint_first (rest_down others h.sent) (rest_up others h.taken) limits budget budgets core0 others end ends h (rests_of limits budgets others ends h.sent h.taken)) in
    record {
      merged = g.later;
      is_merged = record { in_order = g.in_order; of_each = g.of_each; of_cores = λ k s at. omega (arith, g.of_cores k s at) };
      world = g.world;
      run = g.run;
      all_end = g.all_end;
    }

-- and what is under way at its end is what was sent and not taken
pub record RunLeft (limits : TableLimits) (budget : ℕ) (budgets : List ℕ) (end : Core0State) (ends : List OtherState) (others : List (List Stamped)) (sent : List Sending) (taken0 : List (ℕ × Stamping)) : Type 0 where
  pub merged : List Stamped
  pub world : World
  pub run : Run limits budget budgets (as_listed merged) world
  pub all_end : AllEnd world end ends
  pub under_way : (i : ℕ) (p : Peer) → slice_get world.peers i ≡ Some p → (p.down ≡ messages (rest_down others sent i)) × (p.up ≡ messages (rest_up others taken0 i))

pub run_left : (limits : TableLimits) (budget : ℕ) (budgets : List ℕ) (core0 : List Stamped) (others : List (List Stamped)) (end : Core0State) (ends : List OtherState) → (h : Computation limits budget budgets core0 others end ends) → RunLeft limits budget budgets end ends others h.sent h.taken
run_left limits budget budgets core0 others end ends h =
    let g = merge_from (rest_down others h.sent) (rest_up others h.taken) limits (size (core0 ∷ others)) budget budgets end ends [] (boot limits budget budgets) (core0_first limits (length budgets)) core0 others (omega arith) (joint_first (rest_down others h.sent) (rest_up others h.taken) limits budget budgets core0 others end ends h (rests_of limits budgets others ends h.sent h.taken)) in
    record { merged = g.later; world = g.world; run = g.run; all_end = g.all_end; under_way = g.under_way }

-- There is one such list

before_then : (a b c : Stamped) → IsBefore a b → IsBefore b c → IsBefore a c
before_then a b c (inl x) (inl y) = inl (omega (arith, x, y))
before_then a b c (inl x) (inr y) = inl (omega (arith, x, y.0))
before_then a b c (inr x) (inl y) = inl (omega (arith, x.0, y))
before_then a b c (inr x) (inr y) = inr (omega (arith, x.0, y.0), omega (arith, x.1, y.1))

not_both : (a b : Stamped) → IsBefore a b → IsBefore b a → ⊥
not_both a b (inl x) (inl y) = omega (arith, x, y)
not_both a b (inl x) (inr y) = omega (arith, x, y.0)
not_both a b (inr x) (inl y) = omega (arith, x.0, y)
not_both a b (inr x) (inr y) = omega (arith, x.1, y.1)

-- the first is before each that comes later
first_before : (a b : Stamped) (earlier later : List Stamped) → IsInOrder (a ∷ (earlier ++ b ∷ later)) → IsBefore a b
first_before a b [] later o = o.0
first_before a b (x ∷ xs) later o = before_then a x b o.0 (first_before x b xs later o.1)

pub rest_in_order : (a : Stamped) (rest : List Stamped) → IsInOrder (a ∷ rest) → IsInOrder rest
rest_in_order a [] o = tt
rest_in_order a (b ∷ rest) o = o.1

-- an event that is first of its core, where another core's is first of all
pub first_of_core : (a b : Stamped) (rest xs : List Stamped) → IsInOrder (a ∷ rest) → (core_of a.done.event ≡ core_of b.done.event → ⊥) → part (core_of b.done.event) (a ∷ rest) ≡ b ∷ xs → IsBefore a b
first_of_core a b rest xs o ne e =
    let here : part (core_of b.done.event) rest ≡ b ∷ xs = sym (part_other (core_of b.done.event) a rest ne) ∙ e in
    let p = placed (core_of b.done.event) rest [] b xs here in
    first_before a b p.earlier p.later (subst (λ (ys : List Stamped). IsInOrder (a ∷ ys)) p.is_split o)

same_list : (m n : List Stamped) → IsInOrder m → IsInOrder n → ((core : ℕ) → part core m ≡ part core n) → m ≡ n
same_list [] [] om on parts = refl
same_list [] (b ∷ n) om on parts = absurd (let e = parts (core_of b.done.event) ∙ part_own (core_of b.done.event) b n refl in cc)
same_list (a ∷ m) [] om on parts = absurd (let e = sym (part_own (core_of a.done.event) a m refl) ∙ parts (core_of a.done.event) in cc)
same_list (a ∷ m) (b ∷ n) om on parts = by_core (same_or_not (core_of a.done.event) (core_of b.done.event)) (λ same. same_list m n (rest_in_order a m om) (rest_in_order b n on) same)
  where
    rest_of : a ≡ b → (core : ℕ) → part core m ≡ part core n
    rest_of e core = by_place (same_or_not (core_of a.done.event) core)
      where
        core_b : core_of a.done.event ≡ core_of b.done.event
        core_b = ap (λ (x : Stamped). core_of x.done.event) e

        by_place : ((core_of a.done.event ≡ core) ⊎ (core_of a.done.event ≡ core → ⊥)) → part core m ≡ part core n
        by_place (inl is) =
            let x : a ∷ part core m ≡ b ∷ part core n = sym (part_own core a m is) ∙ (parts core ∙ part_own core b n (sym core_b ∙ is)) in
            cc
        by_place (inr ne) = sym (part_other core a m ne) ∙ (parts core ∙ part_other core b n (λ is. ne (core_b ∙ is)))

    by_core : ((core_of a.done.event ≡ core_of b.done.event) ⊎ (core_of a.done.event ≡ core_of b.done.event → ⊥)) → (((core : ℕ) → part core m ≡ part core n) → m ≡ n) → (a ∷ m) ≡ (b ∷ n)
    by_core (inl e) rest =
        let x : a ∷ part (core_of a.done.event) m ≡ b ∷ part (core_of a.done.event) n = sym (part_own (core_of a.done.event) a m refl) ∙ (parts (core_of a.done.event) ∙ part_own (core_of a.done.event) b n (sym e)) in
        let first : a ≡ b = cc in
        let later : m ≡ n = rest (rest_of first) in
        rw (first, later) refl
    by_core (inr ne) rest = absurd (not_both a b
        (first_of_core a b m (part (core_of b.done.event) n) om ne (parts (core_of b.done.event) ∙ part_own (core_of b.done.event) b n refl))
        (first_of_core b a n (part (core_of a.done.event) m) on (λ e. ne (sym e)) (sym (parts (core_of a.done.event)) ∙ part_own (core_of a.done.event) a m refl)))

-- no event is of a core beyond the last
none_beyond : (core0 : List Stamped) (others : List (List Stamped)) (m : List Stamped) (core : ℕ) → Merged core0 others m → length others < core → (xs : List Stamped) → part core m ≡ xs → xs ≡ []
none_beyond core0 others m core h beyond [] e = refl
none_beyond core0 others m core h beyond (x ∷ xs) e =
    let p = placed core m [] x xs e in
    let at : slice_get m (length p.earlier) ≡ Some x = ap (λ (ys : List Stamped). slice_get ys (length p.earlier)) p.is_split ∙ get_next p.earlier x p.later in
    absurd (omega (arith, h.of_cores (length p.earlier) x at, p.is_core, beyond))

pub merged_once : (core0 : List Stamped) (others : List (List Stamped)) (m n : List Stamped) → Merged core0 others m → Merged core0 others n → m ≡ n
merged_once core0 others m n a b = same_list m n a.in_order b.in_order by_core
  where
    by_core : (core : ℕ) → part core m ≡ part core n
    by_core core = by_place (less_or_not core (length others))
      where
        by_place : ((core ≤ length others) ⊎ (length others < core)) → part core m ≡ part core n
        by_place (inl le) = let h = get_at (core0 ∷ others) core (omega arith) in a.of_each core h.0 h.1 ∙ sym (b.of_each core h.0 h.1)
        by_place (inr lt) = none_beyond core0 others m core a lt (part core m) refl ∙ sym (none_beyond core0 others n core b lt (part core n) refl)

-- each list of all events by stamp and core is that run
pub run_of : (limits : TableLimits) (budget : ℕ) (budgets : List ℕ) (core0 : List Stamped) (others : List (List Stamped)) (end : Core0State) (ends : List OtherState) (merged : List Stamped) → Computation limits budget budgets core0 others end ends → Merged core0 others merged → IsRun limits budget budgets merged end ends
run_of limits budget budgets core0 others end ends merged h m =
    let o = one_run limits budget budgets core0 others end ends h in
    record { world = o.world; run = subst (λ (xs : List Stamped). Run limits budget budgets (as_listed xs) o.world) (merged_once core0 others o.merged merged o.is_merged m) o.run; all_end = o.all_end }
