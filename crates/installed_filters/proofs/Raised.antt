-- Lists of what endpoints keep are right once one endpoint is raised.
use Rattle.std.proofs.Common.{◌≡◌, ◌<◌, ◌≤◌, ◌⊎◌, ◌↔◌, inl, inr, ℕ, List, [], max, min, refl, ap, sym, ◌∙◌, subst, arith, Contains}
use Rattle.filter_table.specs.declared.delivery.Kept.{Kept}
use Rattle.filter_table.proofs.Lists.{never, three}
use Rattle.installed_filters.specs.Keeping.{Keeps, AreKept}
use Rattle.filter_table.specs.Raising.{at_endpoint, raised}
use Rattle.filter_table.proofs.Raised.{raised_increases, raised_others, Raise, more, new, raise_cases}

-- What the list is right for

-- it may be said in other words
pub kept_alike : (gets other : ℕ → ℕ → Type 0) (captured : ℕ) (kept : List Kept) → ((e v : ℕ) → gets e v → other e v) → ((e v : ℕ) → other e v → gets e v) → AreKept gets captured kept → AreKept other captured kept
kept_alike gets other captured kept to back h = record {
  increasing = h.increasing;
  each = λ e b. (
    λ at. (let k = (h.each e b).0 at in record { greatest = k.greatest; is_one = to e k.greatest k.is_one; above_all = λ v o. k.above_all v (back e v o); is_kept = k.is_kept }),
    λ k. (h.each e b).1 (record { greatest = k.greatest; is_one = back e k.greatest k.is_one; above_all = λ v o. k.above_all v (to e v o); is_kept = k.is_kept }),
  );
  all = λ e v o. h.all e v (back e v o);
}

pub kept_none : (gets : ℕ → ℕ → Type 0) (captured : ℕ) → ((e v : ℕ) → gets e v → ⊥) → AreKept gets captured []
kept_none gets captured none = record {
  increasing = tt;
  each = λ e b. (λ at. absurd (never _ at), λ k. absurd (none e k.greatest k.is_one));
  all = λ e v g. absurd (none e v g);
}

-- it gets one endpoint more with a verdict
module _ (gets : ℕ → ℕ → Type 0) (captured : ℕ) (kept : List Kept) (endpoint verdict : ℕ) (so_far : AreKept gets captured kept) where
  abbrev More : ℕ → ℕ → Type 0
  More e v = gets e v ⊎ ((e ≡ endpoint) × (v ≡ verdict))

  abbrev now : List Kept
  now = raised kept endpoint (min verdict captured)

  others : (e b : ℕ) → (e ≡ endpoint → ⊥) → Contains now (at_endpoint e b) ↔ Keeps More captured e b
  others e b differs = (λ at. more ((so_far.each e b).0 (same.0 at)), λ k. same.1 ((so_far.each e b).1 (less k)))
    where
      same : Contains now (at_endpoint e b) ↔ Contains kept (at_endpoint e b)
      same = raised_others kept endpoint (min verdict captured) e b differs

      earlier : (v : ℕ) → More e v → gets e v
      earlier v m = elim m [ inl old ↦ old | inr last ↦ absurd (differs last.0) ]

      more : Keeps gets captured e b → Keeps More captured e b
      more k = record { greatest = k.greatest; is_one = inl k.is_one; above_all = λ v m. k.above_all v (earlier v m); is_kept = k.is_kept }

      less : Keeps More captured e b → Keeps gets captured e b
      less k = record { greatest = k.greatest; is_one = earlier k.greatest k.is_one; above_all = λ v g. k.above_all v (inl g); is_kept = k.is_kept }

  -- where the endpoint was listed
  listed : (old b : ℕ) → Keeps gets captured endpoint old → (b ≡ max old (min verdict captured)) ↔ Keeps More captured endpoint b
  listed old b k = (to, back)
    where
      at_most : (v : ℕ) → More endpoint v → v ≤ max k.greatest verdict
      at_most v m = elim m [ inl earlier ↦ (let le = k.above_all v earlier in omega arith) | inr last ↦ (let is = last.1 in omega arith) ]

      greater : (w : ℕ) → w ≡ max k.greatest verdict → More endpoint w
      greater w is = by_order (three k.greatest verdict)
        where
          by_order : (k.greatest < verdict) ⊎ ((k.greatest ≡ verdict) ⊎ (verdict < k.greatest)) → More endpoint w
          by_order (inl lt) = inr (refl, omega arith)
          by_order (inr (inl e)) = inr (refl, omega arith)
          by_order (inr (inr gt)) = inl (subst (λ (n : ℕ). gets endpoint n) {x = k.greatest} (omega arith) k.is_one)

      to : b ≡ max old (min verdict captured) → Keeps More captured endpoint b
      to e = record { greatest = max k.greatest verdict; is_one = greater (max k.greatest verdict) refl; above_all = at_most; is_kept = let was = k.is_kept in omega arith }

      back : Keeps More captured endpoint b → b ≡ max old (min verdict captured)
      back m =
          let below = at_most m.greatest m.is_one in
          let over = m.above_all k.greatest (inl k.is_one) in
          let mine = m.above_all verdict (inr (refl, refl)) in
          let was = k.is_kept in
          let is = m.is_kept in
          omega arith

  -- where it was not
  unlisted : (b : ℕ) → ((v : ℕ) → gets endpoint v → ⊥) → (b ≡ min verdict captured) ↔ Keeps More captured endpoint b
  unlisted b none = (
    λ e. record { greatest = verdict; is_one = inr (refl, refl); above_all = λ v m. (let is = is_last v m in omega arith); is_kept = e },
    λ k. k.is_kept ∙ ap (λ (v : ℕ). min v captured) (is_last k.greatest k.is_one),
  )
    where
      is_last : (v : ℕ) → More endpoint v → v ≡ verdict
      is_last v m = elim m [ inl earlier ↦ absurd (none v earlier) | inr last ↦ last.1 ]

  by_raise : Raise kept endpoint (min verdict captured) → (b : ℕ) → Contains now (at_endpoint endpoint b) ↔ Keeps More captured endpoint b
  by_raise (more old at there one) b =
      let both = listed old b ((so_far.each endpoint old).0 at) in
      (λ at'. both.0 (one b at'), λ k. subst (λ (n : ℕ). Contains now (at_endpoint endpoint n)) (sym (both.1 k)) there)
  by_raise (new none there one) b =
      let both = unlisted b (λ v g. (let c = so_far.all endpoint v g in none c.0 c.1)) in
      (λ at'. both.0 (one b at'), λ k. subst (λ (n : ℕ). Contains now (at_endpoint endpoint n)) (sym (both.1 k)) there)

  raised_each : (e b : ℕ) → Contains now (at_endpoint e b) ↔ Keeps More captured e b
  raised_each e b = by_order (three endpoint e)
    where
      by_order : (endpoint < e) ⊎ ((endpoint ≡ e) ⊎ (e < endpoint)) → Contains now (at_endpoint e b) ↔ Keeps More captured e b
      by_order (inl lt) = others e b (λ same. omega arith)
      by_order (inr (inl same)) = subst (λ (n : ℕ). Contains now (at_endpoint n b) ↔ Keeps More captured n b) same (by_raise (raise_cases kept endpoint (min verdict captured) so_far.increasing) b)
      by_order (inr (inr gt)) = others e b (λ same. omega arith)

  is_listed : Raise kept endpoint (min verdict captured) → (b : ℕ) × Contains now (at_endpoint endpoint b)
  is_listed (more old at there one) = (max old (min verdict captured), there)
  is_listed (new none there one) = (min verdict captured, there)

  raised_all : (e v : ℕ) → More e v → (b : ℕ) × Contains now (at_endpoint e b)
  raised_all e v m = by_order (three endpoint e)
    where
      elsewhere : (e ≡ endpoint → ⊥) → (b : ℕ) × Contains now (at_endpoint e b)
      elsewhere differs = elim m [
        | inl earlier ↦ (let c = so_far.all e v earlier in (c.0, (raised_others kept endpoint (min verdict captured) e c.0 differs).1 c.1))
        | inr last ↦ absurd (differs last.0)
      ]

      by_order : (endpoint < e) ⊎ ((endpoint ≡ e) ⊎ (e < endpoint)) → (b : ℕ) × Contains now (at_endpoint e b)
      by_order (inl lt) = elsewhere (λ same. omega arith)
      by_order (inr (inl same)) = subst (λ (n : ℕ). (b : ℕ) × Contains now (at_endpoint n b)) same (is_listed (raise_cases kept endpoint (min verdict captured) so_far.increasing))
      by_order (inr (inr gt)) = elsewhere (λ same. omega arith)

  pub kept_raised : AreKept More captured now
  kept_raised = record { increasing = raised_increases kept endpoint (min verdict captured) so_far.increasing; each = raised_each; all = raised_all }
