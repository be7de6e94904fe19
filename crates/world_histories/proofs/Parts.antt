-- Where an event of one core stands in the list of all.
use Rattle.std.proofs.Common.{◌≡◌, ◌⊎◌, ◌==◌, inl, inr, ℕ, Bool, true, false, cond, List, [], ◌∷◌, ◌++◌, refl, ap, sym, ◌∙◌}
use mathlib.Core.List.{IsPrefix}
use Rattle.world_model.proofs.Lists.{same_or_not}
use Rattle.world_model.proofs.Submissions.{eq_self, eq_other}
use Rattle.world_histories.specs.declared.history.Stamped.{Stamped}
use Rattle.world_histories.specs.Merging.{core_of, part}

pub part-append : (core : ℕ) (xs ys : List Stamped) → part core (xs ++ ys) ≡ part core xs ++ part core ys
part-append core [] ys = refl
part-append core (x ∷ xs) ys = by_test (core_of x.done.event == core) refl (part-append core xs ys)
  where
    by_test : (b : Bool) → (core_of x.done.event == core) ≡ b → part core (xs ++ ys) ≡ part core xs ++ part core ys → part core ((x ∷ xs) ++ ys) ≡ part core (x ∷ xs) ++ part core ys
    by_test true e rest = rw e (ap (λ (zs : List Stamped). x ∷ zs) rest)
    by_test false e rest = rw e rest

pub part_own : (core : ℕ) (x : Stamped) (xs : List Stamped) → core_of x.done.event ≡ core → part core (x ∷ xs) ≡ x ∷ part core xs
part_own core x xs e = ap (λ (b : Bool). cond b (x ∷ part core xs) (part core xs)) (ap (λ (n : ℕ). n == core) e ∙ eq_self core)

pub part_other : (core : ℕ) (x : Stamped) (xs : List Stamped) → (core_of x.done.event ≡ core → ⊥) → part core (x ∷ xs) ≡ part core xs
part_other core x xs ne = ap (λ (b : Bool). cond b (x ∷ part core xs) (part core xs)) (eq_other (core_of x.done.event) core ne)

pub record Placed (core : ℕ) (events before : List Stamped) (s : Stamped) (after : List Stamped) : Type 0 where
  pub earlier : List Stamped
  pub later : List Stamped
  pub is_split : events ≡ earlier ++ s ∷ later
  pub is_core : core_of s.done.event ≡ core
  pub own : part core earlier ≡ before
  pub own_later : part core later ≡ after

equal_if : (m n : ℕ) → (m == n) ≡ true → m ≡ n
equal_if m n test = by_case (same_or_not m n)
  where
    by_case : ((m ≡ n) ⊎ (m ≡ n → ⊥)) → m ≡ n
    by_case (inl e) = e
    by_case (inr ne) = absurd (let x : false ≡ true = sym (eq_other m n ne) ∙ test in cc)

nothing_more : (before after : List Stamped) (s : Stamped) → [] ≡ before ++ s ∷ after → ⊥
nothing_more [] after s e = cc
nothing_more (b ∷ bs) after s e = cc

pub placed : (core : ℕ) (events before : List Stamped) (s : Stamped) (after : List Stamped) → part core events ≡ before ++ s ∷ after → Placed core events before s after
placed core [] before s after e = absurd (nothing_more before after s e)
placed core (x ∷ xs) before s after e = by_test (core_of x.done.event == core) refl (λ b e'. placed core xs b s after e')
  where
    further : (b : Bool) → (core_of x.done.event == core) ≡ b → (front : List Stamped) → (p : Placed core xs front s after) → cond b (x ∷ front) front ≡ before → Placed core (x ∷ xs) before s after
    further b is front p e' = record {
      earlier = x ∷ p.earlier;
      later = p.later;
      is_split = ap (λ (zs : List Stamped). x ∷ zs) p.is_split;
      is_core = p.is_core;
      own = ap (λ (t : Bool). cond t (x ∷ part core p.earlier) (part core p.earlier)) is ∙ (ap (λ (zs : List Stamped). cond b (x ∷ zs) zs) p.own ∙ e');
      own_later = p.own_later;
    }

    by_test : (b : Bool) → (core_of x.done.event == core) ≡ b → ((front : List Stamped) → part core xs ≡ front ++ s ∷ after → Placed core xs front s after) → Placed core (x ∷ xs) before s after
    by_test false is rest =
        let here : part core xs ≡ before ++ s ∷ after = sym (ap (λ (t : Bool). cond t (x ∷ part core xs) (part core xs)) is) ∙ e in
        further false is before (rest before here) refl
    by_test true is rest = by_front before refl
      where
        here : x ∷ part core xs ≡ before ++ s ∷ after
        here = sym (ap (λ (t : Bool). cond t (x ∷ part core xs) (part core xs)) is) ∙ e

        by_front : (front : List Stamped) → front ≡ before → Placed core (x ∷ xs) before s after
        by_front [] none =
            let h : x ∷ part core xs ≡ s ∷ after = here ∙ ap (λ (zs : List Stamped). zs ++ s ∷ after) (sym none) in
            let same : x ≡ s = cc in
            record { earlier = []; later = xs; is_split = ap (λ (y : Stamped). y ∷ xs) same; is_core = ap (λ (y : Stamped). core_of y.done.event) (sym same) ∙ equal_if (core_of x.done.event) core is; own = none; own_later = cc }
        by_front (b ∷ bs) some =
            let h : x ∷ part core xs ≡ (b ∷ bs) ++ s ∷ after = here ∙ ap (λ (zs : List Stamped). zs ++ s ∷ after) (sym some) in
            let same : x ≡ b = cc in
            let tail : part core xs ≡ bs ++ s ∷ after = cc in
            further true is bs (rest bs tail) (ap (λ (y : Stamped). y ∷ bs) same ∙ some)

-- what comes before it is the front of each core's events
pub front_of_each : (core : ℕ) (events earlier rest h : List Stamped) → events ≡ earlier ++ rest → part core events ≡ h → IsPrefix (part core earlier) h
front_of_each core events earlier rest h e is = (part core rest, sym (part-append core earlier rest) ∙ (ap (part core) (sym e) ∙ is))
