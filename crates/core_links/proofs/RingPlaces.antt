-- One ring link of several is changed.
use Rattle.std.proofs.Common.{◌≡◌, ◌≢◌, ◌<◌, ◌++◌, ℕ, zero, suc, List, [], ◌∷◌, arith, Option, Some, None, length, slice_index_or, slice_set, refl, sym, ap, subst, ◌∙◌, ◌⊎◌, inl, inr}
use Rattle.std.proofs.lemmas.List.{get_or-set_same}
use mathlib.Core.List.{IsPrefix}
use Rattle.core_links.specs.declared.ring_links.Link.{Link}
use Rattle.core_links.specs.declared.ring_links.RingLinks.{RingLinks}
use Rattle.core_links.specs.Views.{LinkView, IsSameView}
use Rattle.core_links.specs.Slots.{place_view}
use Rattle.core_links.specs.RingSlots.{link_to, link_view, SameLink, SameSlot, AreJoined, AreJoinedSlots}
use Rattle.core_links.specs.RingLaws.{SameLink-itself}
use Rattle.core_links.proofs.Places.{same_or_not, any_default, changed, Changes}
use Rattle.core_links.proofs.Steps.{same_view}

-- the view of a place
abbrev pub view_in : List (Option Link) → ℕ → LinkView
view_in xs p = place_view link_view (slice_index_or xs p None)

pub at_slot : (xs : List (Option Link)) (i peer : ℕ) (d : Option Link) (a b : Link) (R : LinkView → LinkView → Type 0) → i ≡ peer → slice_index_or xs i d ≡ Some a → i < length xs
    → SameLink a b → R (link_view a) (link_view b) → Changes SameLink link_view peer R xs (slice_set xs i (Some b))
at_slot xs i peer d a b R here is lt same r =
    subst (λ (n : ℕ). Changes SameLink link_view n R xs (slice_set xs i (Some b))) here (changed SameLink link_view SameLink-itself xs i d a b R is lt same r)

-- a change of one link that shows nothing shows nothing of any
pub all_same : (xs ys : List (Option Link)) (peer : ℕ) → Changes SameLink link_view peer IsSameView xs ys → (p : ℕ) → IsSameView (view_in xs p) (view_in ys p)
all_same xs ys peer h p = by_place (same_or_not p peer)
  where
    by_place : ((p ≡ peer) ⊎ (p ≢ peer)) → IsSameView (view_in xs p) (view_in ys p)
    by_place (inl e) = subst (λ (n : ℕ). IsSameView (view_in xs n) (view_in ys n)) (sym e) h.here
    by_place (inr n) = subst (λ (w : LinkView). IsSameView (view_in xs p) w) (sym (h.others p n)) (same_view (view_in xs p))

pub view_at : (xs : List (Option Link)) (i peer : ℕ) (b : Link) → i ≡ peer → i < length xs → view_in (slice_set xs i (Some b)) peer ≡ link_view b
view_at xs i peer b here lt = subst (λ (n : ℕ). view_in (slice_set xs i (Some b)) n ≡ link_view b) here (ap (place_view link_view) (get_or-set_same xs i (Some b) None lt))

pub prefix_at : {a b x y : LinkView} → x ≡ a → y ≡ b → IsPrefix x.taken y.sent → IsPrefix a.taken b.sent
prefix_at {a} {b} {x} {y} e f h = subst (λ (v : LinkView). IsPrefix v.taken b.sent) e (subst (λ (v : LinkView). IsPrefix x.taken v.sent) f h)

-- joined links have places in both lists
pub within_here : (xs : List (Option Link)) (i : ℕ) (y : Option Link) → AreJoinedSlots (slice_index_or xs i None) y → i < length xs
within_here [] i y h = absurd h
within_here (x ∷ xs) zero y h = omega arith
within_here (x ∷ xs) (suc i) y h = let below : i < length xs = within_here xs i y h in omega (arith, below)

pub within_there : (x : Option Link) (ys : List (Option Link)) (j : ℕ) → AreJoinedSlots x (slice_index_or ys j None) → j < length ys
within_there None ys j h = absurd h
within_there (Some a) [] j h = absurd h
within_there (Some a) (y ∷ ys) zero h = omega arith
within_there (Some a) (y ∷ ys) (suc j) h = let below : j < length ys = within_there (Some a) ys j h in omega (arith, below)

-- the links that stand there are joined
pub joined_there : (r s : RingLinks) (i j own other : ℕ) (d e : Option Link) (a b : Link) → AreJoinedSlots (link_to r other) (link_to s own) → i ≡ other → j ≡ own
    → slice_index_or r.slots.items i d ≡ Some a → slice_index_or s.slots.items j e ≡ Some b → AreJoined a b
joined_there r s i j own other d e a b joined i_is j_is at_i at_j =
    let lt_i : i < length r.slots.items = subst (λ (n : ℕ). n < length r.slots.items) (sym i_is) (within_here r.slots.items other (link_to s own) joined) in
    let lt_j : j < length s.slots.items = subst (λ (n : ℕ). n < length s.slots.items) (sym j_is) (within_there (link_to r other) s.slots.items own joined) in
    let here : link_to r other ≡ Some a = ap (λ (n : ℕ). link_to r n) (sym i_is) ∙ any_default r.slots.items i None d lt_i ∙ at_i in
    let there : link_to s own ≡ Some b = ap (λ (n : ℕ). link_to s n) (sym j_is) ∙ any_default s.slots.items j None e lt_j ∙ at_j in
    subst (λ (y : Option Link). AreJoinedSlots (Some a) y) there (subst (λ (x : Option Link). AreJoinedSlots x (link_to s own)) here joined)

-- a link that stands at a place now was shown beside another: nothing has changed, and its view is the one of its place
pub record StandsBeside (xs : List (Option Link)) (i peer : ℕ) (b : Link) : Type 0 where
  pub each : (p : ℕ) → SameSlot (slice_index_or xs p None) (slice_index_or (slice_set xs i (Some b)) p None)
  pub views : (p : ℕ) → IsSameView (view_in xs p) (view_in (slice_set xs i (Some b)) p)
  pub view : view_in (slice_set xs i (Some b)) peer ≡ link_view b

pub stands_beside : (xs : List (Option Link)) (i peer : ℕ) (d : Option Link) (a b : Link) → i ≡ peer → peer < length xs → slice_index_or xs i d ≡ Some a → SameLink a b
    → IsSameView (link_view a) (link_view b) → StandsBeside xs i peer b
stands_beside xs i peer d a b here below is same view =
    let lt : i < length xs = subst (λ (n : ℕ). n < length xs) (sym here) below in
    let at : Changes SameLink link_view peer IsSameView xs (slice_set xs i (Some b)) = at_slot xs i peer d a b IsSameView here is lt same view in
    record { each = at.each; views = all_same xs (slice_set xs i (Some b)) peer at; view = view_at xs i peer b here lt }

-- one more place with no link
pub none_more : (xs : List (Option Link)) → ((p : ℕ) → slice_index_or xs p None ≡ None) → (p : ℕ) → slice_index_or (xs ++ None ∷ []) p None ≡ None
none_more [] none zero = refl
none_more [] none (suc p) = refl
none_more (x ∷ xs) none zero = none 0
none_more (x ∷ xs) none (suc p) = none_more xs (λ q. none (suc q)) p
