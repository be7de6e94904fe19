use Rattle.std.proofs.Common.{◌≡◌, ◌∙◌, ◌<◌, ◌≤◌, arith, ap, inl, inr, get_or, length, List, Some, ℕ, max, set, slice_get, sym, subst}
use Rattle.std.proofs.lemmas.Bool.{cases_lt}
use Rattle.std.proofs.lemmas.Option.{slice_get_within, get_or_from_slice_get}
use Rattle.filter_table.specs.declared.delivery.Kept.{Kept}
use Rattle.filter_table.specs.Raising.{at_endpoint}
use Rattle.filter_table.proofs.Raised.{raised_found, raised_inserted}
use Rattle.installed_filters.proofs.raising.raise_inside.Goals as goal

pub returns-in-Some : goal.returns-in-Some
returns-in-Some c =
    let kept = c.args.kept.now.items in
    let place = c.place_for-place.result in
    let one = at_endpoint c.args.endpoint c.in-Some.old in
    let at : slice_get kept place ≡ Some one = subst (λ (ks : List Kept). slice_get ks place ≡ Some one) c.deref-2.ensures.value c.in-Some.ensures in
    let read : get_or kept place one ≡ one = get_or_from_slice_get kept place one one at in
    let most : c.max-most.result ≡ max (get_or kept place one).kept c.args.bytes = c.max-most.ensures ∙ ap (λ (k : Kept). max k.kept c.args.bytes) (sym read) in
    ap (λ (m : ℕ). set kept place (at_endpoint c.args.endpoint m)) most
    ∙ raised_found kept one place c.args.endpoint c.args.bytes c.requires (slice_get_within kept place one at) (ap (λ (k : Kept). k.endpoint) read)

strictly : (e k : ℕ) → e ≤ k → (k ≡ e → ⊥) → e < k
strictly e k most apart = elim (cases_lt e k) [ inl low ↦ low | inr high ↦ absurd (apart (omega arith)) ]

pub returns-in_ok-insert-in-None : goal.returns-in_ok-insert-in-None
returns-in_ok-insert-in-None c =
    let kept = c.args.kept.now.items in
    let place = c.place_for-place.result in
    let value = c.deref.ensures.value in
    let value' = c.deref-2.ensures.value in
    let within : place ≤ length kept = subst (λ (ks : List Kept). place ≤ length ks) value c.place_for-place.ensures.within in
    let below = subst (λ (ks : List Kept). (i : ℕ) (one : Kept) → i < place → slice_get ks i ≡ Some one → one.endpoint < c.args.endpoint) value c.place_for-place.ensures.below in
    let above = subst (λ (ks : List Kept). (one : Kept) → slice_get ks place ≡ Some one → c.args.endpoint ≤ one.endpoint) value c.place_for-place.ensures.above in
    let apart = subst (λ (ks : List Kept). (one : Kept) → slice_get ks place ≡ Some one → one.endpoint ≡ c.args.endpoint → ⊥) value' c.in-None.ensures in
    c.in_ok-insert-in-None.ensures.items
    ∙ raised_inserted kept place c.args.endpoint c.args.bytes c.requires within below
    (λ one at. strictly c.args.endpoint one.endpoint (above one at) (apart one at))
