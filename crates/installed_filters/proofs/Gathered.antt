-- Raises one by one.
use Rattle.std.proofs.Common.{◌≡◌, ◌<◌, ◌≤◌, ◌+◌, ◌⊎◌, inl, inr, ℕ, suc, Some, List, [], length, min, slice_get, refl, ap, sym, ◌∙◌, subst, arith, Contains, get_or}
use Rattle.std.specs.List.Sorted.{IsPermutation}
use Rattle.std.proofs.lemmas.List.Sorted.{Contains-permutation, IsPermutation-sym}
use Rattle.std.proofs.lemmas.Option.{slice_get_within, get_or_from_slice_get, slice_get_read}
use Rattle.std.proofs.lemmas.Bool.{cases_lt}
use Rattle.filter_table.specs.declared.delivery.Kept.{Kept}
use Rattle.filter_table.proofs.Lists.{get_some}
use Rattle.filter_table.specs.Raising.{at_endpoint, raised}
use Rattle.installed_filters.specs.Keeping.{AreKept, IsRaised, IsRaisedBefore}
use Rattle.installed_filters.proofs.Raised.{kept_alike, kept_none, kept_raised}

module _ (raises : List Kept) (captured : ℕ) where
  pub raised_none : AreKept (IsRaisedBefore raises 0) captured []
  raised_none = kept_none (IsRaisedBefore raises 0) captured (λ e v g. absurd (omega (arith, g.1)))

  pub raised_more : (index endpoint bytes : ℕ) (kept : List Kept) → slice_get raises index ≡ Some (at_endpoint endpoint bytes) → AreKept (IsRaisedBefore raises index) captured kept
      → AreKept (IsRaisedBefore raises (index + 1)) captured (raised kept endpoint (min bytes captured))
  raised_more index endpoint bytes kept at so_far =
      kept_alike (λ e v. IsRaisedBefore raises index e v ⊎ ((e ≡ endpoint) × (v ≡ bytes))) (IsRaisedBefore raises (index + 1)) captured (raised kept endpoint (min bytes captured)) to back
      (kept_raised (IsRaisedBefore raises index) captured kept endpoint bytes so_far)
    where
      to : (e v : ℕ) → IsRaisedBefore raises index e v ⊎ ((e ≡ endpoint) × (v ≡ bytes)) → IsRaisedBefore raises (index + 1) e v
      to e v (inl early) = (early.0, omega (arith, early.1), early.2)
      to e v (inr mine) = (index, omega arith, at ∙ ap (λ (k : Kept). Some k) (ap (λ (n : ℕ). at_endpoint n bytes) (sym mine.0) ∙ ap (at_endpoint e) (sym mine.1)))

      last : (e v i : ℕ) → i ≡ index → slice_get raises i ≡ Some (at_endpoint e v) → (e ≡ endpoint) × (v ≡ bytes)
      last e v i is found =
          let both : Some (at_endpoint e v) ≡ Some (at_endpoint endpoint bytes) = sym found ∙ (ap (slice_get raises) is ∙ at) in
          let one : at_endpoint e v ≡ at_endpoint endpoint bytes = cc in
          (ap (λ (k : Kept). k.endpoint) one, ap (λ (k : Kept). k.kept) one)

      back : (e v : ℕ) → IsRaisedBefore raises (index + 1) e v → IsRaisedBefore raises index e v ⊎ ((e ≡ endpoint) × (v ≡ bytes))
      back e v g = elim (cases_lt g.0 index) [
        | inl early ↦ inl (g.0, early, g.2)
        | inr late ↦ inr (last e v g.0 (omega (arith, late, g.1)) g.2)
      ]

  pub raised_all : (index : ℕ) (kept : List Kept) → length raises ≤ index → AreKept (IsRaisedBefore raises index) captured kept → AreKept (IsRaised raises) captured kept
  raised_all index kept past = kept_alike (IsRaisedBefore raises index) (IsRaised raises) captured kept to back
    where
      to : (e v : ℕ) → IsRaisedBefore raises index e v → IsRaised raises e v
      to e v g = (g.0, slice_get_within raises g.0 (at_endpoint e v) g.2, get_or_from_slice_get raises g.0 (at_endpoint e v) (at_endpoint e v) g.2)

      back : (e v : ℕ) → IsRaised raises e v → IsRaisedBefore raises index e v
      back e v g = (g.0, omega (arith, g.1, past), slice_get_read raises (length raises) g.0 (at_endpoint e v) refl g.1 (sym g.2))

-- in any order
pub raised_permuted : (raises other : List Kept) (captured : ℕ) (kept : List Kept) → IsPermutation raises other → AreKept (IsRaised other) captured kept → AreKept (IsRaised raises) captured kept
raised_permuted raises other captured kept moved = kept_alike (IsRaised other) (IsRaised raises) captured kept (λ e v g. Contains-permutation other raises (at_endpoint e v) (IsPermutation-sym raises other moved) g) (λ e v g. Contains-permutation raises other (at_endpoint e v) moved g)
