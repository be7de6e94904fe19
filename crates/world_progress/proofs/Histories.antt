-- The events of the histories of all cores are those of their one run.
use Rattle.std.proofs.Common.{◌≡◌, ◌+◌, ◌*◌, ◌≤◌, ◌<◌, ◌⊎◌, inl, inr, ℕ, zero, suc, true, List, [], ◌∷◌, Some, length, slice_get, slice_set, refl, ap, sym, ◌∙◌, subst, arith}
use Rattle.filter_table.proofs.Positions.{get_at}
use Rattle.filter_table.specs.Limits.{TableLimits}
use Rattle.filter_table.specs.declared.decision.Vote.{Vote}
use Rattle.filter_table.specs.declared.decision.Vote.TheVariants as vote
use Rattle.world_events.specs.declared.event.Event.{Event}
use Rattle.world_events.specs.declared.event.Event.TheVariants.{Start, Submit, StartFor, Take, Rx}
use Rattle.world_events.specs.declared.event.Answer.{Answer}
use Rattle.world_events.specs.declared.event.Answer.TheVariants.{TookPrepare}
use Rattle.world_events.specs.declared.event.Done.{Done}
use Rattle.world_model.proofs.Lists.{get-set_same, get-set_other, length-slice_set, same_or_not}
use Rattle.world_histories.specs.declared.history.Stamped.{Stamped}
use Rattle.world_histories.specs.Histories.{unstamped, Core0State, OtherState, Computation}
use Rattle.world_histories.specs.Merging.{core_of, part, Merged, as_short, as_listed}
use Rattle.world_histories.proofs.Parts.{part_own, part_other}
use Rattle.world_histories.proofs.Merge.{OneRun, one_run}
use Rattle.world_progress.specs.Remaining.{is_step, is_request, per_request, steps, requests, steps_left, total}
use Rattle.world_progress.proofs.Bounds.{run_bounded}

-- a count by events
tally : (Event → ℕ) → List Stamped → ℕ
tally f [] = 0
tally f (s ∷ later) = f s.done.event + tally f later

tally_all : (Event → ℕ) → List (List Stamped) → ℕ
tally_all f [] = 0
tally_all f (h ∷ hs) = tally f h + tally_all f hs

tally_set : (f : Event → ℕ) (hs : List (List Stamped)) (i : ℕ) (old new : List Stamped) → slice_get hs i ≡ Some old → tally_all f (slice_set hs i new) + tally f old ≡ tally_all f hs + tally f new
unfolding tally_all
tally_set f [] i old new at = absurd cc
tally_set f (h ∷ hs) zero old new at = let e : h ≡ old = cc in rw e (omega arith)
tally_set f (h ∷ hs) (suc i) old new at = omega (arith, tally_set f hs i old new at)

tally_none : (f : Event → ℕ) (hs : List (List Stamped)) → ((k : ℕ) (h : List Stamped) → slice_get hs k ≡ Some h → [] ≡ h) → tally_all f hs ≡ 0
unfolding tally tally_all
tally_none f [] none = refl
tally_none f (h ∷ hs) none = rw (← none 0 h refl) (omega (arith, tally_none f hs (λ k x at. none (suc k) x at)))

tally_merged : (f : Event → ℕ) (m : List Stamped) (hs : List (List Stamped)) → ((k : ℕ) (h : List Stamped) → slice_get hs k ≡ Some h → part k m ≡ h)
    → ((k : ℕ) (s : Stamped) → slice_get m k ≡ Some s → core_of s.done.event < length hs) → tally f m ≡ tally_all f hs
unfolding tally
tally_merged f [] hs each inside = sym (tally_none f hs each)
tally_merged f (s ∷ r) hs each inside = by_rest (λ hs' each' inside'. tally_merged f r hs' each' inside')
  where
    c : ℕ
    c = core_of s.done.event

    here : (h : List Stamped) × (slice_get hs c ≡ Some h)
    here = get_at hs c (inside 0 s refl)

    mine : here.0 ≡ s ∷ part c r
    mine = sym (each c here.0 here.1) ∙ part_own c s r refl

    set : tally_all f (slice_set hs c (part c r)) + tally f here.0 ≡ tally_all f hs + tally f (part c r)
    set = tally_set f hs c here.0 (part c r) here.1

    each_left : (k : ℕ) (h : List Stamped) → slice_get (slice_set hs c (part c r)) k ≡ Some h → part k r ≡ h
    each_left k h at = by_place (same_or_not c k)
      where
        by_place : (c ≡ k) ⊎ (c ≡ k → ⊥) → part k r ≡ h
        by_place (inl e) =
            let at' : slice_get (slice_set hs c (part c r)) c ≡ Some h = subst (λ (n : ℕ). slice_get (slice_set hs c (part c r)) n ≡ Some h) (sym e) at in
            let there = get-set_same hs c (part c r) here.0 here.1 in
            let same : part c r ≡ h = cc in
            subst (λ (n : ℕ). part n r ≡ h) e same
        by_place (inr ne) = sym (part_other k s r ne) ∙ each k h (sym (get-set_other hs c k (part c r) ne) ∙ at)

    by_rest : ((hs' : List (List Stamped)) → ((k : ℕ) (h : List Stamped) → slice_get hs' k ≡ Some h → part k r ≡ h)
        → ((k : ℕ) (t : Stamped) → slice_get r k ≡ Some t → core_of t.done.event < length hs') → tally f r ≡ tally_all f hs') → tally f (s ∷ r) ≡ tally_all f hs
    by_rest rest = omega (arith, rest (slice_set hs c (part c r)) each_left (λ k t at. omega (arith, length-slice_set hs c (part c r), inside (suc k) t at)), set, ap (tally f) mine)

-- as counts of the specs

steps_tally : (h : List Stamped) → steps (unstamped h) ≡ tally is_step h
unfolding tally
steps_tally [] = refl
steps_tally (s ∷ r) = omega (arith, steps_tally r)

requests_tally : (h : List Stamped) → requests (unstamped h) ≡ tally is_request h
unfolding tally
requests_tally [] = refl
requests_tally (s ∷ r) = omega (arith, requests_tally r)

total_tally : (f : Event → ℕ) (count : List Done → ℕ) (hs : List (List Stamped)) → ((h : List Stamped) → count (unstamped h) ≡ tally f h) → total count hs ≡ tally_all f hs
unfolding tally_all
total_tally f count [] same = refl
total_tally f count (h ∷ hs) same = omega (arith, same h, total_tally f count hs same)

-- a flag that is set changes no count
short_step : (event : Event) (answer : Answer) → is_step (as_short event answer) ≡ is_step event
short_step (Take to from short) (TookPrepare txn vote.NoMemory) = refl
short_step (Take to from short) (TookPrepare txn v) = refl
short_step (Take to from short) answer = refl
short_step event answer = refl

short_request : (event : Event) (answer : Answer) → is_request (as_short event answer) ≡ is_request event
short_request (Take to from short) (TookPrepare txn vote.NoMemory) = refl
short_request (Take to from short) (TookPrepare txn v) = refl
short_request (Take to from short) answer = refl
short_request event answer = refl

listed_steps : (m : List Stamped) → steps (as_listed m) ≡ tally is_step m
unfolding tally
listed_steps [] = refl
listed_steps (s ∷ r) = omega (arith, listed_steps r, short_step s.done.event s.done.answer)

listed_requests : (m : List Stamped) → requests (as_listed m) ≡ tally is_request m
unfolding tally
listed_requests [] = refl
listed_requests (s ∷ r) = omega (arith, listed_requests r, short_request s.done.event s.done.answer)

pub computation_bounded : (limits : TableLimits) (budget : ℕ) (budgets : List ℕ) (core0 : List Stamped) (others : List (List Stamped)) (end : Core0State) (ends : List OtherState) → Computation limits budget budgets core0 others end ends
    → total steps (core0 ∷ others) ≤ per_request (length budgets) * total requests (core0 ∷ others)
computation_bounded limits budget budgets core0 others end ends h = by_counts (total steps (core0 ∷ others)) (total requests (core0 ∷ others)) all_steps all_requests
  where
    o : OneRun limits budget budgets core0 others end ends
    o = one_run limits budget budgets core0 others end ends h

    of : (f : Event → ℕ) → tally f o.merged ≡ tally_all f (core0 ∷ others)
    of f = tally_merged f o.merged (core0 ∷ others) o.is_merged.of_each (λ k s at. omega (arith, o.is_merged.of_cores k s at))

    all_steps : total steps (core0 ∷ others) ≡ steps (as_listed o.merged)
    all_steps = total_tally is_step steps (core0 ∷ others) steps_tally ∙ (sym (of is_step) ∙ sym (listed_steps o.merged))

    all_requests : total requests (core0 ∷ others) ≡ requests (as_listed o.merged)
    all_requests = total_tally is_request requests (core0 ∷ others) requests_tally ∙ (sym (of is_request) ∙ sym (listed_requests o.merged))

    by_counts : (a b : ℕ) → a ≡ steps (as_listed o.merged) → b ≡ requests (as_listed o.merged) → a ≤ per_request (length budgets) * b
    by_counts a b ea eb = rw (ea, eb) (let r = run_bounded limits budget budgets (as_listed o.merged) o.world o.run in omega (arith, r))
