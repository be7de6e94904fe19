-- One place of several is changed.
use Rattle.std.proofs.Common.{◌≡◌, ◌≢◌, ◌<◌, ◌≤◌, ℕ, zero, suc, List, [], ◌∷◌, Option, Some, None, length, slice_index_or, slice_set, refl, sym, ap, subst, ◌∙◌, ◌⊎◌, inl, inr, arith}
use Rattle.std.proofs.lemmas.List.{get_or-set_same, get_or-set_other}
use Rattle.core_links.specs.Views.{LinkView}
use Rattle.core_links.specs.Slots.{SamePlace, place_view, place-itself}

pub same_or_not : (a b : ℕ) → (a ≡ b) ⊎ (a ≢ b)
same_or_not zero zero = inl refl
same_or_not zero (suc b) = inr (λ e. cc)
same_or_not (suc a) zero = inr (λ e. cc)
same_or_not (suc a) (suc b) = elim (same_or_not a b) [ inl e ↦ inl (ap suc e) | inr n ↦ inr (λ e. n (cc)) ]

pub below_or_not : (a b : ℕ) → (a < b) ⊎ (b ≤ a)
below_or_not zero zero = inr (omega arith)
below_or_not zero (suc b) = inl (omega arith)
below_or_not (suc a) zero = inr (omega arith)
below_or_not (suc a) (suc b) = elim (below_or_not a b) [ inl h ↦ inl (omega (arith, h)) | inr h ↦ inr (omega (arith, h)) ]

module _ {A : Type 0} where
  -- within a list, what is read past its end plays no part
  pub any_default : (xs : List A) (i : ℕ) (d e : A) → i < length xs → slice_index_or xs i d ≡ slice_index_or xs i e
  any_default [] i d e lt = absurd (let no : ⊥ = omega (arith, lt) in no)
  any_default (x ∷ xs) zero d e lt = refl
  any_default (x ∷ xs) (suc i) d e lt = any_default xs i d e (omega (arith, lt))

  -- past its end, it is what is read
  pub past_end : (xs : List A) (i : ℕ) (d : A) → length xs ≤ i → slice_index_or xs i d ≡ d
  past_end [] i d le = refl
  past_end (x ∷ xs) zero d le = absurd (let no : ⊥ = omega (arith, le) in no)
  past_end (x ∷ xs) (suc i) d le = past_end xs i d (omega (arith, le))

-- a place is a link's, and another link stands there now, which is the same in one sense and has changed in another. The views of all others
-- are as before
pub record Changes {K : Type 0} (same : K → K → Type 0) (view : K → LinkView) (place : ℕ) (R : LinkView → LinkView → Type 0) (xs ys : List (Option K)) : Type 0 where
  pub each : (p : ℕ) → SamePlace same (slice_index_or xs p None) (slice_index_or ys p None)
  pub here : R (place_view view (slice_index_or xs place None)) (place_view view (slice_index_or ys place None))
  pub others : (p : ℕ) → p ≢ place → place_view view (slice_index_or ys p None) ≡ place_view view (slice_index_or xs p None)

module _ {K : Type 0} (same : K → K → Type 0) (view : K → LinkView) (itself : (k : K) → same k k) where
  same_at : (xs : List (Option K)) (i p : ℕ) (a b : K) → slice_index_or xs i None ≡ Some a → i < length xs → same a b → ((p ≡ i) ⊎ (p ≢ i))
      → SamePlace same (slice_index_or xs p None) (slice_index_or (slice_set xs i (Some b)) p None)
  same_at xs i p a b is lt eq (inl e) =
      subst (λ (n : ℕ). SamePlace same (slice_index_or xs n None) (slice_index_or (slice_set xs i (Some b)) n None)) (sym e)
      (subst (λ (x : Option K). SamePlace same x (slice_index_or (slice_set xs i (Some b)) i None)) (sym is)
      (subst (λ (x : Option K). SamePlace same (Some a) x) (sym (get_or-set_same xs i (Some b) None lt)) eq))
  same_at xs i p a b is lt eq (inr n) =
      subst (λ (x : Option K). SamePlace same (slice_index_or xs p None) x) (sym (get_or-set_other xs i p (Some b) None n)) (place-itself same itself (slice_index_or xs p None))

  pub changed : (xs : List (Option K)) (i : ℕ) (d : Option K) (a b : K) (R : LinkView → LinkView → Type 0) → slice_index_or xs i d ≡ Some a → i < length xs → same a b
      → R (view a) (view b) → Changes same view i R xs (slice_set xs i (Some b))
  changed xs i d a b R at lt eq r =
      let is : slice_index_or xs i None ≡ Some a = any_default xs i None d lt ∙ at in
      record {
        each = λ p. same_at xs i p a b is lt eq (same_or_not p i);
        here = subst (λ (x : Option K). R (place_view view x) (place_view view (slice_index_or (slice_set xs i (Some b)) i None))) (sym is)
            (subst (λ (x : Option K). R (view a) (place_view view x)) (sym (get_or-set_same xs i (Some b) None lt)) r);
        others = λ p n. ap (place_view view) (get_or-set_other xs i p (Some b) None n);
      }
