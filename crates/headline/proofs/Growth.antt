-- What one event more adds to what a core began and to what was decided of that.
use Rattle.std.proofs.Common.{◌≡◌, ◌==◌, ◌+◌, ◌<◌, ◌≤◌, ◌++◌, ◌∷◌, ◌⊎◌, inl, inr, ℕ, Bool, true, false, cond, List, [], length, refl, ap, sym, ◌∙◌, subst, arith, append_assoc, length-append}
use Rattle.std.proofs.lemmas.List.{append-nil}
use Rattle.std.proofs.lemmas.List.Concat.{flat_map-append}
use Rattle.filter_table.specs.declared.operation.Op.{Op}
use Rattle.filter_table.specs.declared.decision.Decision.{Decision}
use Rattle.world_events.specs.declared.event.Done.{Done}
use Rattle.world_model.specs.Readings.{commits_at, version_of}
use Rattle.world_model.proofs.Known.{version_of-more}
use Rattle.world_model.proofs.Submissions.{eq_self, eq_other}
use Rattle.world_histories.specs.Merging.{core_of}
use Rattle.core_loop.specs.Answering.{own_decision, is_own}
use Rattle.headline.specs.Decided.{events_at, decided_from, decided_in}
use Rattle.headline.specs.Headline.{begun_by, begun_in}
use Rattle.headline.specs.Judged.{IsSince}
use Rattle.headline.proofs.Ordering.{at_more, begun_at, count_first}

-- whether the last request that core 0 began is its own
abbrev pub own_from : Bool → List Done → Bool
own_from own [] = own
own_from own (d ∷ ds) = own_from (is_own own d.event) ds

abbrev pub own_at : ℕ → List Done → Bool
own_at core events = own_from false (events_at core events)

-- the decision that a core has with one event more
abbrev pub added : ℕ → List Done → Done → List Decision
added core events d = cond (core_of d.event == core) (own_decision (own_at core events) d.event d.answer) []

decided_last : (own : Bool) (events : List Done) (d : Done) → decided_from own (events ++ d ∷ []) ≡ decided_from own events ++ own_decision (own_from own events) d.event d.answer
decided_last own [] d = append-nil (own_decision own d.event d.answer)
decided_last own (x ∷ xs) d = ap (λ (ds : List Decision). own_decision own x.event x.answer ++ ds) (decided_last (is_own own x.event) xs d)
    ∙ sym (append_assoc (own_decision own x.event x.answer) (decided_from (is_own own x.event) xs) (own_decision (own_from (is_own own x.event) xs) d.event d.answer))

pub decided_more : (core : ℕ) (events : List Done) (d : Done) → decided_in core (events ++ d ∷ []) ≡ decided_in core events ++ added core events d
decided_more core events d = by_test (core_of d.event == core) (at_more core events (d ∷ []))
  where
    by_test : (b : Bool) → events_at core (events ++ d ∷ []) ≡ events_at core events ++ cond b (d ∷ []) [] → decided_in core (events ++ d ∷ []) ≡ decided_in core events ++ cond b (own_decision (own_at core events) d.event d.answer) []
    by_test true e = ap (decided_from false) e ∙ decided_last false (events_at core events) d
    by_test false e = ap (decided_from false) (e ∙ append-nil (events_at core events)) ∙ sym (append-nil (decided_in core events))

own_last : (own : Bool) (events : List Done) (d : Done) → own_from own (events ++ d ∷ []) ≡ is_own (own_from own events) d.event
own_last own [] d = refl
own_last own (x ∷ xs) d = own_last (is_own own x.event) xs d

pub own_more : (core : ℕ) (events : List Done) (d : Done) → core_of d.event ≡ core → own_at core (events ++ d ∷ []) ≡ is_own (own_at core events) d.event
own_more core events d own =
    let here : (core_of d.event == core) ≡ true = ap (λ (n : ℕ). n == core) own ∙ eq_self core in
    ap (own_from false) (at_more core events (d ∷ []) ∙ ap (λ (b : Bool). events_at core events ++ cond b (d ∷ []) []) here) ∙ own_last false (events_at core events) d

pub own_other : (core : ℕ) (events : List Done) (d : Done) → (core_of d.event ≡ core → ⊥) → own_at core (events ++ d ∷ []) ≡ own_at core events
own_other core events d other =
    ap (own_from false) (at_more core events (d ∷ []) ∙ (ap (λ (b : Bool). events_at core events ++ cond b (d ∷ []) []) (eq_other (core_of d.event) core other) ∙ append-nil (events_at core events)))

pub begun_more : (core : ℕ) (events : List Done) (d : Done) → begun_in core (events ++ d ∷ []) ≡ begun_in core events ++ begun_by core d.event
begun_more core events d = flat_map-append (λ (x : Done). begun_by core x.event) events (d ∷ []) ∙ ap (λ (ops : List Op). begun_in core events ++ ops) (append-nil (begun_by core d.event))

-- Fronts of events

not_empty : (xs ys : List Done) (d : Done) → [] ≡ xs ++ d ∷ ys → ⊥
not_empty [] ys d e = cc
not_empty (x ∷ xs) ys d e = cc

-- a front of events with one more is all of them, or one of those before
pub front_of : (events front rest : List Done) (d : Done) → events ++ d ∷ [] ≡ front ++ rest → (front ≡ events ++ d ∷ []) ⊎ ((left : List Done) × (events ≡ front ++ left))
front_of events [] rest d e = inr (events, refl)
front_of [] (y ∷ front) rest d e = inl (let first : d ≡ y = cc in let tail : [] ≡ front ++ rest = cc in rw (← first) (ap (λ (zs : List Done). d ∷ zs) (none front tail)))
  where
    none : (front : List Done) → [] ≡ front ++ rest → front ≡ []
    none [] e = refl
    none (z ∷ front) e = absurd (cc)
front_of (x ∷ events) (y ∷ front) rest d e =
    let first : x ≡ y = cc in
    let tail : events ++ d ∷ [] ≡ front ++ rest = cc in
    by_tail (front_of events front rest d tail) first
  where
    by_tail : ((front ≡ events ++ d ∷ []) ⊎ ((left : List Done) × (events ≡ front ++ left))) → x ≡ y → ((y ∷ front) ≡ (x ∷ events) ++ d ∷ []) ⊎ ((left : List Done) × ((x ∷ events) ≡ (y ∷ front) ++ left))
    by_tail (inl all) first = inl (rw (← first) (ap (λ (zs : List Done). x ∷ zs) all))
    by_tail (inr l) first = inr (l.0, rw first (ap (λ (zs : List Done). y ∷ zs) l.1))

pub since_more : (events : List Done) (d : Done) (core number version : ℕ) → number < length (begun_in core (events ++ d ∷ [])) → IsSince events core number version → IsSince (events ++ d ∷ []) core number version
since_more events d core number version begun old front rest e few = by_test (core_of d.event == core) (at_more core events (d ∷ []))
  where
    by_front : events_at core (events ++ d ∷ []) ≡ events_at core events ++ d ∷ [] → ((front ≡ events_at core events ++ d ∷ []) ⊎ ((left : List Done) × (events_at core events ≡ front ++ left))) → version_of core front ≤ version
    by_front here (inl all) = absurd (omega (arith, begun, few, ap length (begun_at core (events ++ d ∷ [])), ap (λ (ds : List Done). length (begun_in core ds)) (here ∙ sym all)))
    by_front here (inr l) = old front l.0 l.1 few

    by_test : (b : Bool) → events_at core (events ++ d ∷ []) ≡ events_at core events ++ cond b (d ∷ []) [] → version_of core front ≤ version
    by_test true here = by_front here (front_of (events_at core events) front rest d (sym here ∙ e))
    by_test false here = old front rest (sym (here ∙ append-nil (events_at core events)) ∙ e) few

version_front : (core : ℕ) (front rest : List Done) → version_of core front ≤ version_of core (front ++ rest)
version_front core front [] = omega (arith, ap (version_of core) (append-nil front))
version_front core front (d ∷ rest) =
    let next = version_front core (front ++ d ∷ []) rest in
    omega (arith, next, version_of-more core front d, ap (version_of core) (append_assoc front (d ∷ []) rest))

-- by its own events alone a core has no newer version
version_own : (core : ℕ) (xs : List Done) → version_of core (events_at core xs) ≤ version_of core xs
version_own core [] = omega arith
version_own core (x ∷ xs) = by_test (core_of x.event == core) (version_own core xs)
  where
    p : Done → Bool
    p d = commits_at core d.event d.answer

    by_test : (b : Bool) → version_of core (events_at core xs) ≤ version_of core xs → version_of core (cond b (x ∷ events_at core xs) (events_at core xs)) ≤ version_of core (x ∷ xs)
    by_test true rest = omega (arith, rest, count_first p x xs, count_first p x (events_at core xs))
    by_test false rest = omega (arith, rest, count_first p x xs)

-- a core's version is not older than those that it had
pub since_now : (events : List Done) (core number version : ℕ) → version_of core events ≤ version → IsSince events core number version
since_now events core number version le front rest e few = omega (arith, le, version_own core events, version_front core front rest, ap (version_of core) e)
