-- A run prints a line for each packet that its script has, so its text bounds their number.
use Rattle.std.proofs.Common.{◌≡◌, ◌==◌, ◌+◌, ◌<◌, ◌≤◌, ◌⊎◌, inl, inr, ℕ, zero, suc, Bool, true, false, cond, Some, List, [], ◌∷◌, ◌++◌, length, slice_get, refl, ap, subst, arith}
use Rattle.std.specs.Prelude.{if◌then◌else◌}
use Rattle.std.specs.List.{All, flat_map}
use Rattle.std.proofs.lemmas.List.{length-append}
use Rattle.std.proofs.lemmas.List.Elements.{All-head, All-tail}
use Rattle.std.proofs.lemmas.List.Sorted.{length_permutation}
use Rattle.rx_queue.specs.declared.job.Job.{Job}
use Rattle.world_events.specs.declared.event.Event.{Event}
use Rattle.world_events.specs.declared.event.Event.TheVariants.{Start, Submit, StartFor, Take, Rx}
use Rattle.world_events.specs.declared.event.Done.{Done}
use Rattle.world_model.proofs.Lists.{same_or_not}
use Rattle.world_model.proofs.Submissions.{eq_self, eq_other}
use Rattle.world_histories.specs.declared.history.Stamped.{Stamped}
use Rattle.world_histories.specs.Merging.{core_of, part, Merged}
use Rattle.world_histories.proofs.Parts.{part_own, part_other}
use Rattle.sim_lines.specs.Events.{done_line}
use Rattle.core_loop.specs.Receipts.{receives}
use Rattle.core_loop.specs.Cores.{receipts}
use Rattle.core_machine.specs.Lanes.{items_for}
use Rattle.mk_script.specs.declared.script.Item.{Item}
use Rattle.mk_script.specs.declared.script.Item.TheVariants.{Ask, Apply, Begin, Settle, Show}
use Rattle.mk_script.specs.declared.script.Item.TheVariants as item
use Rattle.mk_script.specs.Threads.{received}
use Rattle.run_engine.specs.Work.{jobs_of}
use Rattle.run_engine.specs.Showing.{ShowsLeft, left_lines}
use Rattle.trace_text.proofs.EventLemmas.{event_text, left_text, event_line_is, left_line_is}
use Rattle.filter_table.proofs.Positions.{get_at}

-- Sums over cores

abbrev total : (ℕ → ℕ) → ℕ → ℕ
total f zero = 0
total f (suc n) = total f n + f n

total_at_most : (f g : ℕ → ℕ) (n : ℕ) → ((core : ℕ) → core < n → f core ≤ g core) → total f n ≤ total g n
total_at_most f g zero le = omega arith
total_at_most f g (suc n) le = omega (arith, total_at_most f g n (λ core lt. le core (omega (arith, lt))), le n (omega arith))

total_both : (f g : ℕ → ℕ) (n : ℕ) → total (λ core. f core + g core) n ≡ total f n + total g n
total_both f g zero = refl
total_both f g (suc n) = omega (arith, total_both f g n)

total_none : (n : ℕ) → total (λ core. 0) n ≡ 0
total_none zero = refl
total_none (suc n) = omega (arith, total_none n)

-- one at this core, and none at the others
abbrev one_at : ℕ → ℕ → ℕ
one_at k core = cond (k == core) 1 0

one_here : (k : ℕ) → one_at k k ≡ 1
one_here k = ap (λ (b : Bool). cond {A = ℕ} b 1 0) (eq_self k)

none_there : (k core : ℕ) → (k ≡ core → ⊥) → one_at k core ≡ 0
none_there k core ne = ap (λ (b : Bool). cond {A = ℕ} b 1 0) (eq_other k core ne)

none_before : (k n : ℕ) → n ≤ k → total (one_at k) n ≡ 0
none_before k zero le = refl
none_before k (suc n) le = omega (arith, none_before k n (omega (arith, le)), none_there k n (λ e. omega (arith, e, le)))

one_below : (k n : ℕ) → k < n → total (one_at k) n ≡ 1
one_below k zero lt = absurd (omega (arith, lt))
one_below k (suc n) lt = by_core (same_or_not k n) (one_below k n)
  where
    by_core : ((k ≡ n) ⊎ (k ≡ n → ⊥)) → (k < n → total (one_at k) n ≡ 1) → total (one_at k) (suc n) ≡ 1
    by_core (inl is) below = omega (arith, none_before k n (omega (arith, is)), subst (λ (core : ℕ). one_at k core ≡ 1) is (one_here k))
    by_core (inr ne) below = omega (arith, below (omega (arith, lt, ne)), none_there k n ne)

one_at_most : (k n : ℕ) → total (one_at k) n ≤ 1
one_at_most k zero = omega arith
one_at_most k (suc n) = by_core (same_or_not k n) (one_at_most k n)
  where
    by_core : ((k ≡ n) ⊎ (k ≡ n → ⊥)) → total (one_at k) n ≤ 1 → total (one_at k) (suc n) ≤ 1
    by_core (inl is) most = omega (arith, none_before k n (omega (arith, is)), subst (λ (core : ℕ). one_at k core ≡ 1) is (one_here k))
    by_core (inr ne) most = omega (arith, most, none_there k n ne)

-- Items of each core

one_item : {T : Type 0} (b : Bool) (x : T) (xs : List T) → length ((if b then x ∷ [] else []) ++ xs) ≡ cond b 1 0 + length xs
one_item true x xs = omega arith
one_item false x xs = omega arith

items_at_most : {T : Type 0} (n : ℕ) (items : List (ℕ × T)) → total (λ core. length (items_for core items)) n ≤ length items
items_at_most n [] = omega (arith, total_none n)
items_at_most n (i ∷ items) =
    let more = total_at_most (λ core. length (items_for core (i ∷ items))) (λ core. one_at i.0 core + length (items_for core items)) n (λ core lt. omega (arith, one_item (i.0 == core) i.1 (items_for core items))) in
    omega (arith, more, total_both (one_at i.0) (λ core. length (items_for core items)) n, one_at_most i.0 n, items_at_most n items)

items_at_least : {T : Type 0} (n : ℕ) (items : List (ℕ × T)) → All (λ i. i.0 < n) items → length items ≤ total (λ core. length (items_for core items)) n
items_at_least n [] inside = omega arith
items_at_least n (i ∷ items) inside =
    let more = total_at_most (λ core. one_at i.0 core + length (items_for core items)) (λ core. length (items_for core (i ∷ items))) n (λ core lt. omega (arith, one_item (i.0 == core) i.1 (items_for core items))) in
    omega (
      arith,
      more,
      total_both (one_at i.0) (λ core. length (items_for core items)) n,
      one_below i.0 n (All-head (λ i. i.0 < n) i items inside),
      items_at_least n items (All-tail (λ i. i.0 < n) i items inside),
    )

-- Packets that are received

one_receipt : (event : Event) → length (receives event) ≤ 1
one_receipt (Rx core number packet floor) = omega arith
one_receipt (Start op) = omega arith
one_receipt (Submit core op) = omega arith
one_receipt (StartFor core) = omega arith
one_receipt (Take to from short) = omega arith

one_event : (core : ℕ) (s : Stamped) (events : List Stamped) → length (receipts (part core (s ∷ events))) ≤ one_at (core_of s.done.event) core + length (receipts (part core events))
one_event core s events = by_core (same_or_not (core_of s.done.event) core)
  where
    by_core : ((core_of s.done.event ≡ core) ⊎ (core_of s.done.event ≡ core → ⊥)) → length (receipts (part core (s ∷ events))) ≤ one_at (core_of s.done.event) core + length (receipts (part core events))
    by_core (inl is) =
        let here : one_at (core_of s.done.event) core ≡ 1 = subst (λ (n : ℕ). one_at (core_of s.done.event) n ≡ 1) is (one_here (core_of s.done.event)) in
        omega (
          arith,
          here,
          one_receipt s.done.event,
          ap (λ (ss : List Stamped). length (receipts ss)) (part_own core s events is),
          length-append (receives s.done.event) (receipts (part core events)),
        )
    by_core (inr ne) = omega (arith, ap (λ (ss : List Stamped). length (receipts ss)) (part_other core s events ne))

receipts_at_most : (n : ℕ) (events : List Stamped) → total (λ core. length (receipts (part core events))) n ≤ length events
receipts_at_most n [] = omega (arith, total_none n)
receipts_at_most n (s ∷ events) =
    let more = total_at_most (λ core. length (receipts (part core (s ∷ events)))) (λ core. one_at (core_of s.done.event) core + length (receipts (part core events))) n (λ core lt. one_event core s events) in
    omega (arith, more, total_both (one_at (core_of s.done.event)) (λ core. length (receipts (part core events))) n, one_at_most (core_of s.done.event) n, receipts_at_most n events)

-- The packets of a script

as_many : (items : List Item) → length (received items) ≡ length (jobs_of items)
as_many [] = refl
as_many (Apply (Rx core number packet floor) ∷ items) = ap suc (as_many items)
as_many (Apply (Start op) ∷ items) = as_many items
as_many (Apply (Submit core op) ∷ items) = as_many items
as_many (Apply (StartFor core) ∷ items) = as_many items
as_many (Apply (Take to from short) ∷ items) = as_many items
as_many (Ask core op ∷ items) = as_many items
as_many (Begin ∷ items) = as_many items
as_many (item.Submit core ∷ items) = as_many items
as_many (item.StartFor core ∷ items) = as_many items
as_many (Settle ∷ items) = as_many items
as_many (Show core ∷ items) = as_many items

-- each was received, or is left
pub packets_done : (core0 : List Stamped) (others : List (List Stamped)) (merged : List Stamped) (items : List Item) (left : List (ℕ × Job)) → Merged core0 others merged
    → ((core : ℕ) (history : List Stamped) → slice_get (core0 ∷ others) core ≡ Some history → receipts history ++ items_for core left ≡ items_for core (jobs_of items))
    → All (λ j. j.0 < suc (length others)) (jobs_of items) → length (received items) ≤ length merged + length left
packets_done core0 others merged items left m did inside =
    let n = suc (length others) in
    let each : (core : ℕ) → core < n → length (items_for core (jobs_of items)) ≤ length (receipts (part core merged)) + length (items_for core left) = λ core lt.
    let h = get_at (core0 ∷ others) core (omega (arith, lt)) in
    omega (arith, ap (λ (js : List Job). length js) (did core h.0 h.1), length-append (receipts h.0) (items_for core left), ap (λ (ss : List Stamped). length (receipts ss)) (m.of_each core h.0 h.1)) in
    let sums = total_at_most (λ core. length (items_for core (jobs_of items))) (λ core. length (receipts (part core merged)) + length (items_for core left)) n each in
    omega (
      arith,
      as_many items,
      items_at_least n (jobs_of items) inside,
      sums,
      total_both (λ core. length (receipts (part core merged))) (λ core. length (items_for core left)) n,
      receipts_at_most n merged,
      items_at_most n left,
    )

-- Lines

pub a_line_each : (events : List Done) → length events ≤ length (flat_map done_line events)
a_line_each [] = omega arith
a_line_each (d ∷ events) =
    let rest = flat_map done_line events in
    omega (arith, ap (λ (t : List ℕ). length t) (event_line_is d rest), length-append (event_text d) (10 ∷ rest), a_line_each events)

a_line_left : (left : List (ℕ × Job)) → length left ≤ length (left_lines left)
a_line_left [] = omega arith
a_line_left (l ∷ left) =
    let rest = left_lines left in
    omega (arith, ap (λ (t : List ℕ). length t) (left_line_is l.0 l.1.number rest), length-append (left_text l.0 l.1.number) (10 ∷ rest), a_line_left left)

pub left_shown : (left : List (ℕ × Job)) (text : List ℕ) → ShowsLeft left text → length left ≤ length text
left_shown left text s = omega (arith, length_permutation left s.in_order s.same, a_line_left s.in_order, ap (λ (t : List ℕ). length t) s.printed)
