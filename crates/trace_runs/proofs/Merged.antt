-- What the cores of a computation begin, in the one list of all their events.
use Rattle.std.proofs.Common.{◌≡◌, ◌==◌, ◌<◌, ◌≤◌, ◌⊎◌, inl, inr, ℕ, suc, true, false, Some, List, [], ◌∷◌, length, slice_get, refl, ap, sym, ◌∙◌, subst, arith}
use mathlib.Core.List.{IsPrefix}
use Rattle.filter_table.specs.Limits.{TableLimits}
use Rattle.filter_table.specs.declared.operation.Op.{Op}
use Rattle.filter_table.specs.declared.decision.Vote.TheVariants as vote
use Rattle.world_events.specs.declared.event.Event.{Event}
use Rattle.world_events.specs.declared.event.Event.TheVariants.{Take}
use Rattle.world_events.specs.declared.event.Answer.{Answer}
use Rattle.world_events.specs.declared.event.Answer.TheVariants.{TookPrepare}
use Rattle.world_model.proofs.Lists.{same_or_not}
use Rattle.world_model.proofs.Submissions.{eq_self, eq_other}
use Rattle.world_histories.specs.declared.history.Stamped.{Stamped}
use Rattle.world_histories.specs.Merging.{core_of, part, Merged, as_short, as_listed}
use Rattle.world_histories.proofs.Parts.{part_own, part_other}
use Rattle.core_loop.specs.Cores.{begins, begun}
use Rattle.core_machine.specs.Lanes.{items_for}
use Rattle.mk_script.specs.declared.script.Item.{Item}
use Rattle.run_engine.specs.Work.{requests_of}
use Rattle.trace_runs.specs.Traces.{begun_at}
use Rattle.std.specs.List.{All, flat_map}
use Rattle.world_events.specs.declared.event.Done.{Done}
use Rattle.world_model.specs.Worlds.{World}
use Rattle.world_histories.specs.Histories.{Core0State, OtherState}
use Rattle.world_histories.specs.Merging.{IsRun}
use Rattle.world_histories.proofs.Merge.{run_of}
use Rattle.sim_lines.specs.Events.{done_line}
use Rattle.world_events.specs.Memory.{WasNotRefused}
use Rattle.trace_runs.specs.Repeats.{BeginInOrder, PerformsTrace, DiffersByMemory, Repeats, same, short_of_memory, RanScript, CanRepeatMerged, ShowsTrace}
use Rattle.trace_runs.proofs.Again.{can_repeat}
use Rattle.trace_runs.proofs.Whatever.{repeats}
use Rattle.filter_table.proofs.Positions.{get_at}

-- an event that is listed is as it was, but for what it tells of memory
record SameButShort (event event' : Event) : Type 0 where
  same_core : core_of event' ≡ core_of event
  same_request : begins event' ≡ begins event

same_but_short : (event : Event) (answer : Answer) → SameButShort event (as_short event answer)
same_but_short (Take to from short) (TookPrepare txn vote.NoMemory) = record { same_core = refl; same_request = refl }
same_but_short event answer = record { same_core = refl; same_request = refl }

begun_of : (core : ℕ) (events : List Stamped) → begun_at core (as_listed events) ≡ begun (part core events)
begun_of core [] = refl
begun_of core (s ∷ ss) = by_core (same_or_not (core_of s.done.event) core) (begun_of core ss)
  where
    event : Event
    event = as_short s.done.event s.done.answer

    as_was : SameButShort s.done.event event
    as_was = same_but_short s.done.event s.done.answer

    by_core : ((core_of s.done.event ≡ core) ⊎ (core_of s.done.event ≡ core → ⊥)) → begun_at core (as_listed ss) ≡ begun (part core ss) → begun_at core (as_listed (s ∷ ss)) ≡ begun (part core (s ∷ ss))
    by_core (inl is) rest =
        let test : (core_of event == core) ≡ true = ap (λ (n : ℕ). n == core) (as_was.same_core ∙ is) ∙ eq_self core in
        let own = part_own core s ss is in
        rw (own, test, as_was.same_request, rest) refl
    by_core (inr ne) rest =
        let test : (core_of event == core) ≡ false = eq_other (core_of event) core (λ e. ne (sym as_was.same_core ∙ e)) in
        let other = part_other core s ss ne in
        rw (other, test) rest

none_beyond : (last core : ℕ) (events : List Stamped) → last < core → ((k : ℕ) (s : Stamped) → slice_get events k ≡ Some s → core_of s.done.event ≤ last) → part core events ≡ []
none_beyond last core [] lt inside = refl
none_beyond last core (s ∷ ss) lt inside = part_other core s ss (λ e. omega (arith, e, lt, inside 0 s refl)) ∙ none_beyond last core ss lt (λ k t at. inside (suc k) t at)

within : (core last : ℕ) → (core ≤ last) ⊎ (last < core)
within core last = grind arith

-- each core begins its requests in order where its history does
pub merged_begin : (core0 : List Stamped) (others : List (List Stamped)) (merged : List Stamped) (items : List Item) → Merged core0 others merged
    → ((core : ℕ) (history : List Stamped) → slice_get (core0 ∷ others) core ≡ Some history → IsPrefix (begun history) (items_for core (requests_of items))) → BeginInOrder items (as_listed merged)
merged_begin core0 others merged items m front core = subst (λ (ops : List Op). IsPrefix ops (items_for core (requests_of items))) (sym (begun_of core merged)) (by_core (within core (length others)))
  where
    by_core : ((core ≤ length others) ⊎ (length others < core)) → IsPrefix (begun (part core merged)) (items_for core (requests_of items))
    by_core (inl le) =
        let h = get_at (core0 ∷ others) core (omega arith) in
        subst (λ (ss : List Stamped). IsPrefix (begun ss) (items_for core (requests_of items))) (sym (m.of_each core h.0 h.1)) (front core h.0 h.1)
    by_core (inr lt) =
        subst (λ (ss : List Stamped). IsPrefix (begun ss) (items_for core (requests_of items))) (sym (none_beyond (length others) core merged lt m.of_cores)) (items_for core (requests_of items), refl)

-- The laws of a merged list

pub can_repeat_merged : (limits : TableLimits) (budget : ℕ) (budgets : List ℕ) (items : List Item) (end : Core0State) (ends : List OtherState) (merged : List Stamped) → RanScript limits budget budgets items end ends merged → CanRepeatMerged limits budget budgets items end ends merged
can_repeat_merged limits budget budgets items end ends merged h =
    let run = run_of limits budget budgets h.core0 h.others end ends merged h.computation h.is_merged in
    record { world = run.world; can = can_repeat limits budget budgets items (as_listed merged) run.world run.run (merged_begin h.core0 h.others merged items h.is_merged h.begin); all_end = run.all_end }

pub shown : (limits : TableLimits) (budget : ℕ) (budgets : List ℕ) (items : List Item) (end : Core0State) (ends : List OtherState) (merged : List Stamped) → RanScript limits budget budgets items end ends merged
    → ShowsTrace limits (budget ∷ budgets) items (as_listed merged) (flat_map done_line (as_listed merged))
shown limits budget budgets items end ends merged h = let c = can_repeat_merged limits budget budgets items end ends merged h in (budget, budgets, refl, (c.can.end, c.can.performs))

text_is : (events : List Done) (w end : World) (text : List ℕ) → Repeats events w end text → (text ≡ flat_map done_line events) ⊎ DiffersByMemory events text
text_is events w end text (same e is) = inl e
text_is events w end text (short_of_memory d) = inr d

pub only : (limits : TableLimits) (budget : ℕ) (budgets : List ℕ) (items : List Item) (end : Core0State) (ends : List OtherState) (merged : List Stamped) (text : List ℕ) → RanScript limits budget budgets items end ends merged → All WasNotRefused (as_listed merged)
    → ShowsTrace limits (budget ∷ budgets) items (as_listed merged) text → (text ≡ flat_map done_line (as_listed merged)) ⊎ DiffersByMemory (as_listed merged) text
only limits budget budgets items end ends merged text h had s =
    text_is (as_listed merged) run.world s.3.0.world text
    (repeats limits budget budgets items (as_listed merged) run.world s.3.0 text run.run (merged_begin h.core0 h.others merged items h.is_merged h.begin) had performs)
  where
    run : IsRun limits budget budgets merged end ends
    run = run_of limits budget budgets h.core0 h.others end ends merged h.computation h.is_merged

    first : s.0 ≡ budget
    first = let e = s.2 in cc

    rest : s.1 ≡ budgets
    rest = let e = s.2 in cc

    performs : PerformsTrace limits budget budgets items (as_listed merged) s.3.0 text
    performs = subst (λ (b : ℕ). PerformsTrace limits b budgets items (as_listed merged) s.3.0 text) first (subst (λ (bs : List ℕ). PerformsTrace limits s.0 bs items (as_listed merged) s.3.0 text) rest s.3.1)
