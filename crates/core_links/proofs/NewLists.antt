-- The places of new links over lists, one after another.
use Rattle.std.proofs.Common.{◌≡◌, ◌≢◌, ◌+◌, ◌<◌, ◌≤◌, ℕ, List, [], ◌∷◌, ◌++◌, length, slice_index_or, Option, Some, None, refl, sym, subst, ◌⊎◌, inl, inr, arith}
use Rattle.std.proofs.lemmas.List.{length-append}
use Rattle.std.proofs.Math.ListN.{get_or-append}
use Rattle.std.proofs.Math.Seq.{get_or-append_seam}
use Rattle.core_links.specs.declared.list_links.ListLink.{ListLink}
use Rattle.core_links.specs.Views.{IsFresh}
use Rattle.core_links.specs.Slots.{place_view}
use Rattle.core_links.specs.MessageLists.{read_of, capacity_of}
use Rattle.core_links.specs.ListSlots.{list_link_view, collected_in, send_capacity_in, give_capacity_in}
use Rattle.core_links.proofs.Places.{same_or_not, below_or_not, past_end}

-- nothing has gone over any link, a peer's place has one, and the core's own has none
pub record IsPlaceFor (own capacity p : ℕ) (x : Option ListLink) : Type 0 where
  pub fresh : IsFresh (place_view list_link_view x) × (collected_in x ≡ [])
  pub peer : p ≢ own → (send_capacity_in x ≡ capacity) × (give_capacity_in x ≡ capacity)
  pub none : p ≡ own → x ≡ None

pub record ArePlaces (own capacity count : ℕ) (xs : List (Option ListLink)) : Type 0 where
  pub count_is : length xs ≡ count
  pub each : (p : ℕ) → p < count → IsPlaceFor own capacity p (slice_index_or xs p None)

pub places_more : (own capacity count : ℕ) (xs : List (Option ListLink)) (x : Option ListLink) → ArePlaces own capacity count xs → IsPlaceFor own capacity count x → ArePlaces own capacity (count + 1) (xs ++ x ∷ [])
places_more own capacity count xs x are is = record { count_is = simp length-append (omega (arith, are.count_is)); each = λ p lt. by_place p lt (same_or_not p count) }
  where
    by_place : (p : ℕ) → p < count + 1 → ((p ≡ count) ⊎ (p ≢ count)) → IsPlaceFor own capacity p (slice_index_or (xs ++ x ∷ []) p None)
    by_place p lt (inl e) =
        subst (λ (n : ℕ). IsPlaceFor own capacity n (slice_index_or (xs ++ x ∷ []) n None)) (sym e)
        (subst (λ (y : Option ListLink). IsPlaceFor own capacity count y)
        (sym (subst (λ (n : ℕ). slice_index_or (xs ++ x ∷ []) n None ≡ x) are.count_is (get_or-append_seam xs x [] None))) is)
    by_place p lt (inr n) =
        let below : p < count = omega (arith, lt, n) in
        subst (λ (y : Option ListLink). IsPlaceFor own capacity p y) (sym (get_or-append xs (x ∷ []) None p (omega (arith, below, are.count_is)))) (are.each p below)

pub no_fresh : IsFresh (place_view list_link_view None) × (collected_in None ≡ [])
no_fresh = (record { sent = refl; taken = refl; kept = refl; stopped = refl }, refl)

-- the place of a peer, and the one of the core itself
pub here : (own capacity p : ℕ) (k : ListLink) → p ≢ own → IsFresh (list_link_view k) × (read_of k.sent ≡ []) → (capacity_of k.sent ≡ capacity) × (capacity_of k.given ≡ capacity)
    → IsPlaceFor own capacity p (Some k)
here own capacity p k ne fresh is = record { fresh = fresh; peer = λ n. is; none = λ e. absurd (ne e) }

pub away : (own capacity p : ℕ) (x : Option ListLink) → p ≡ own → x ≡ None → IsPlaceFor own capacity p x
away own capacity p x e is = subst (λ (y : Option ListLink). IsPlaceFor own capacity p y) (sym is) (record { fresh = no_fresh; peer = λ n. absurd (n e); none = λ _. refl })

pub none_at : (own capacity count : ℕ) (xs : List (Option ListLink)) (p : ℕ) → ArePlaces own capacity count xs → own < count → ((count ≤ p) ⊎ (p ≡ own)) → slice_index_or xs p None ≡ None
none_at own capacity count xs p are lt (inl le) = past_end xs p None (omega (arith, are.count_is, le))
none_at own capacity count xs p are lt (inr e) = (are.each p (omega (arith, e, lt))).none e

pub fresh_at : (own capacity count : ℕ) (xs : List (Option ListLink)) (p : ℕ) → ArePlaces own capacity count xs
    → IsFresh (place_view list_link_view (slice_index_or xs p None)) × (collected_in (slice_index_or xs p None) ≡ [])
fresh_at own capacity count xs p are = by_place (below_or_not p count)
  where
    by_place : ((p < count) ⊎ (count ≤ p)) → IsFresh (place_view list_link_view (slice_index_or xs p None)) × (collected_in (slice_index_or xs p None) ≡ [])
    by_place (inl lt) = (are.each p lt).fresh
    by_place (inr le) = subst (λ (x : Option ListLink). IsFresh (place_view list_link_view x) × (collected_in x ≡ [])) (sym (past_end xs p None (omega (arith, are.count_is, le)))) no_fresh
