-- The queues and the outlets are emptied, one core after another.
use Rattle.std.proofs.Common.{All, ◌≡◌, ◌≢◌, ◌<◌, ◌≤◌, ◌+◌, ℕ, zero, suc, List, [], ◌∷◌, ◌++◌, ◌==◌, ◌⊎◌, inl, inr, Some, slice_get, slice_set, get_or, length, refl, sym, ap, ◌∙◌, subst, arith, rules, if◌then◌else◌}
use Rattle.std.proofs.lemmas.Grind.{flat_map-append, common_steps}
use Rattle.std.proofs.lemmas.List.{append-nil}
use Rattle.std.proofs.lemmas.List.Elements.{All-append}
use Rattle.std.proofs.lemmas.Option.{slice_get_within}
use Rattle.world_model.proofs.Lists.{get-set_other, length-slice_set}
use Rattle.world_histories.proofs.Lists.{set_cases}
use Rattle.rx_queue.specs.declared.job.Job.{Job}
use Rattle.rx_queue.specs.Queue.{jobs_taken}
use Rattle.core_threads.specs.declared.feeding.Outlet.{Outlet}
use Rattle.core_threads.specs.declared.threads.Ran.{Ran}
use Rattle.core_threads.specs.Feeding.{jobs_through}
use Rattle.core_machine.specs.Lanes.{items_for}
use Rattle.core_threads.specs.Leaving.{tagged, SameButTaken, Leaves, IsFedBy, AreFedBy, SameRan, AreSameRan, AllLeft}

pub items_for-append : {T : Type 0} (core : ℕ) (xs ys : List (ℕ × T)) → items_for core (xs ++ ys) ≡ items_for core xs ++ items_for core ys
items_for-append {T} core xs ys = flat_map-append (λ i. if i.0 == core then i.1 ∷ [] else []) xs ys

-- what is tagged with a core is that core's
pub items_for-tagged : {T : Type 0} (core : ℕ) (items : List T) → items_for core (tagged core items) ≡ items
items_for-tagged core [] = refl
items_for-tagged {T} core (x ∷ xs) =
    let f : ℕ × T → List T = λ i. if i.0 == core then i.1 ∷ [] else [] in
    let e : f (core, x) ≡ x ∷ [] = grind (arith, common_steps) in
    ap (λ l. l ++ items_for core (tagged core xs)) e ∙ ap (λ l. x ∷ l) (items_for-tagged core xs)

-- and no other's
pub items_for-untagged : {T : Type 0} (core other : ℕ) (items : List T) → core ≢ other → items_for core (tagged other items) ≡ []
items_for-untagged core other [] apart = refl
items_for-untagged {T} core other (x ∷ xs) apart =
    let f : ℕ × T → List T = λ i. if i.0 == core then i.1 ∷ [] else [] in
    let e : f (other, x) ≡ [] = grind (arith, common_steps) in
    ap (λ l. l ++ items_for core (tagged other xs)) e ∙ items_for-untagged core other xs apart

tagged_within : {T : Type 0} (core count : ℕ) (items : List T) → core < count → All (λ j. j.0 < count) (tagged core items)
tagged_within core count [] below = search rules
tagged_within {T} core count (x ∷ xs) below = All-append (λ j. j.0 < count) ((core, x) ∷ []) (tagged core xs) one (tagged_within core count xs below)
  where
    one : (k : ℕ) (d : ℕ × T) → k < 1 → (get_or ((core, x) ∷ []) k d).0 < count
    one zero d inside = below
    one (suc k) d inside = absurd (omega arith)

same_ran : (r : Ran) → SameRan r r
same_ran r = record { core = record { core = refl; intake = search rules }; halted = refl }

-- the cores below this place are done
pub record Emptying (place : ℕ) (start ran : List Ran) (outlets left_outlets : List Outlet) (left : List (ℕ × Job)) : Type 0 where
  pub same : AreSameRan start ran
  pub ahead : (i : ℕ) → place ≤ i → slice_get ran i ≡ slice_get start i
  pub ahead_outlets : (i : ℕ) → place ≤ i → slice_get left_outlets i ≡ slice_get outlets i
  pub long : length left_outlets ≡ length outlets
  pub done : (i : ℕ) (r : Ran) (o : Outlet) → i < place → slice_get start i ≡ Some r → slice_get outlets i ≡ Some o → jobs_taken r.core.intake ++ items_for i left ≡ jobs_through o
  pub none : (i : ℕ) → place ≤ i → items_for i left ≡ []
  pub inside : All (λ j. j.0 < length start) left

pub emptying_first : (ran : List Ran) (outlets : List Outlet) (left : List (ℕ × Job)) → left ≡ [] → Emptying 0 ran ran outlets outlets left
emptying_first ran outlets left is = record {
  same = record { all = refl; each = λ i r s at_r at_s. (let e : r ≡ s = cc in subst (λ (x : Ran). SameRan r x) e (same_ran r)) };
  ahead = λ i _. refl;
  ahead_outlets = λ i _. refl;
  long = refl;
  done = λ i r o below. absurd (omega arith);
  none = λ i _. ap (λ (l : List (ℕ × Job)). items_for i l) is;
  inside = subst (λ (l : List (ℕ × Job)). All (λ j. j.0 < length ran) l) (sym is) (search rules);
}

pub below_or : (i n : ℕ) → i < n + 1 → (i < n) ⊎ (i ≡ n)
below_or zero zero h = inr refl
below_or zero (suc n) h = inl (omega arith)
below_or (suc i) zero h = absurd (omega arith)
below_or (suc i) (suc n) h = elim (below_or i n (omega arith)) [ inl a ↦ inl (omega arith) | inr b ↦ inr (ap suc b) ]

-- the next core is done
module _ (place : ℕ) (start ran : List Ran) (outlets left_outlets : List Outlet) (left left' : List (ℕ × Job)) (r r' : Ran) (o o' : Outlet)
    (was : Emptying place start ran outlets left_outlets left) (at_r : slice_get ran place ≡ Some r) (at_o : slice_get left_outlets place ≡ Some o)
    (same : SameButTaken r.core r'.core) (halted : r'.halted ≡ r.halted) (more : Leaves place (jobs_taken r.core.intake) (jobs_through o) left left') where
  at_start : slice_get start place ≡ Some r
  at_start = sym (was.ahead place (omega arith)) ∙ at_r

  at_outlet : slice_get outlets place ≡ Some o
  at_outlet = sym (was.ahead_outlets place (omega arith)) ∙ at_o

  grown : (i : ℕ) → items_for i left' ≡ items_for i left ++ items_for i (tagged place more.more)
  grown i = ap (λ (l : List (ℕ × Job)). items_for i l) more.left ∙ items_for-append i left (tagged place more.more)

  here : items_for place left' ≡ more.more
  here = grown place ∙ ap (λ l. l ++ items_for place (tagged place more.more)) (was.none place (omega arith)) ∙ items_for-tagged place more.more

  elsewhere : (i : ℕ) → i ≢ place → items_for i left' ≡ items_for i left
  elsewhere i apart = grown i ∙ ap (λ l. items_for i left ++ l) (items_for-untagged i place more.more apart) ∙ append-nil (items_for i left)

  each_same : (i : ℕ) (a b : Ran) → slice_get start i ≡ Some a → slice_get (slice_set ran place r') i ≡ Some b → SameRan a b
  each_same i a b at_a at_b = elim (set_cases ran place r' r at_r i b at_b) [
    | inl k ↦ (let e : a ≡ r = (let f : slice_get start i ≡ Some r = subst (λ (n : ℕ). slice_get start n ≡ Some r) k.0 at_start in cc) in
        let is_b : b ≡ r' = k.1 in
        subst (λ (x : Ran). SameRan x b) (sym e) (subst (λ (x : Ran). SameRan r x) (sym is_b) (record { core = same; halted = halted })))
    | inr k ↦ was.same.each i a b at_a k.1
  ]

  done_more : (i : ℕ) (a : Ran) (p : Outlet) → i < place + 1 → slice_get start i ≡ Some a → slice_get outlets i ≡ Some p → jobs_taken a.core.intake ++ items_for i left' ≡ jobs_through p
  done_more i a p below at_a at_p = elim (below_or i place below) [
    | inl less ↦ ap (λ l. jobs_taken a.core.intake ++ l) (elsewhere i (omega arith)) ∙ was.done i a p less at_a at_p
    | inr is ↦ (let f : slice_get start place ≡ Some a = subst (λ (n : ℕ). slice_get start n ≡ Some a) is at_a in
        let g : slice_get outlets place ≡ Some p = subst (λ (n : ℕ). slice_get outlets n ≡ Some p) is at_p in
        let e : r ≡ a = (let h = at_start in cc) in
        let d : o ≡ p = (let h = at_outlet in cc) in
        subst (λ (n : ℕ). jobs_taken a.core.intake ++ items_for n left' ≡ jobs_through p) (sym is)
        (subst (λ (x : Ran). jobs_taken x.core.intake ++ items_for place left' ≡ jobs_through p) e
        (subst (λ (x : Outlet). jobs_taken r.core.intake ++ items_for place left' ≡ jobs_through x) d
        (ap (λ l. jobs_taken r.core.intake ++ l) here ∙ more.whole))))
  ]

  pub emptying_more : Emptying (place + 1) start (slice_set ran place r') outlets (slice_set left_outlets place o') left'
  emptying_more = record {
    same = record { all = length-slice_set ran place r' ∙ was.same.all; each = each_same };
    ahead = λ i after. get-set_other ran place i r' (λ e. absurd (omega (arith, e))) ∙ was.ahead i (omega arith);
    ahead_outlets = λ i after. get-set_other left_outlets place i o' (λ e. absurd (omega (arith, e))) ∙ was.ahead_outlets i (omega arith);
    long = length-slice_set left_outlets place o' ∙ was.long;
    done = done_more;
    none = λ i after. elsewhere i (λ e. absurd (omega (arith, e))) ∙ was.none i (omega arith);
    inside = subst (λ (l : List (ℕ × Job)). All (λ j. j.0 < length start) l) (sym more.left)
        (All-append (λ j. j.0 < length start) left (tagged place more.more) was.inside (tagged_within place (length start) more.more (slice_get_within start place r at_start)));
  }

pub emptying_last : (place : ℕ) (start ran : List Ran) (outlets left_outlets : List Outlet) (left : List (ℕ × Job)) → Emptying place start ran outlets left_outlets left → length outlets ≤ place → AllLeft start ran outlets left
emptying_last place start ran outlets left_outlets left was whole = record {
  same = was.same;
  each = λ i r o at_r at_o. (let below = slice_get_within outlets i o at_o in was.done i r o (omega arith) at_r at_o);
  inside = was.inside;
}

-- the next core is fed by the next outlet still
pub fed_next : (place : ℕ) (start ran : List Ran) (outlets left_outlets : List Outlet) (left : List (ℕ × Job)) (r : Ran) (o : Outlet) → AreFedBy start outlets → Emptying place start ran outlets left_outlets left
    → slice_get ran place ≡ Some r → slice_get left_outlets place ≡ Some o → IsFedBy place r o
fed_next place start ran outlets left_outlets left r o fed was at_r at_o =
    fed.each place r o (sym (was.ahead place (omega arith)) ∙ at_r) (sym (was.ahead_outlets place (omega arith)) ∙ at_o)

pub emptying_next : (place : ℕ) (start ran : List Ran) (outlets left_outlets : List Outlet) (left left' : List (ℕ × Job)) (r r' : Ran) (o o' : Outlet)
    → Emptying place start ran outlets left_outlets left → slice_get ran place ≡ Some r → slice_get left_outlets place ≡ Some o → SameButTaken r.core r'.core → r'.halted ≡ r.halted → r.core.number ≡ place
    → Leaves r.core.number (jobs_taken r.core.intake) (jobs_through o) left left' → Emptying (place + 1) start (slice_set ran place r') outlets (slice_set left_outlets place o') left'
emptying_next place start ran outlets left_outlets left left' r r' o o' was at_r at_o same halted number more =
    emptying_more place start ran outlets left_outlets left left' r r' o o' was at_r at_o same halted (subst (λ (n : ℕ). Leaves n (jobs_taken r.core.intake) (jobs_through o) left left') number more)
