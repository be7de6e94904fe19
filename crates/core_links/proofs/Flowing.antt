-- The lines of one ring link of several, and what a pull and a pump do to them.
use Rattle.std.proofs.Common.{◌≡◌, ◌≢◌, ◌<◌, ◌≤◌, ◌*◌, ℕ, suc, List, [], ◌∷◌, arith, All, Option, Some, None, length, slice_index_or, slice_set, refl, sym, ap, subst, ◌∙◌, ◌⊎◌, inl, inr}
use Rattle.std.proofs.lemmas.List.{get_or-set_same, get_or-set_other}
use Rattle.core_links.specs.declared.ring_links.Link.{Link}
use Rattle.core_links.specs.Flows.{Flow, IsExact, link_flow, place_flow, place_capacity}
use Rattle.core_links.specs.Slots.{place_view}
use Rattle.core_links.specs.RingSlots.{link_view}
use Rattle.ump_ring.specs.Lines.{IsMessage, line_count, stream}
use Rattle.ump_ring.specs.Senders.{sender_capacity}
use Rattle.ump_ring.proofs.Laws.{lines_in, length-stream}
use Rattle.core_links.proofs.Places.{same_or_not, any_default}

-- the flow of a place
abbrev pub flow_in : List (Option Link) → ℕ → Flow
flow_in xs p = place_flow (slice_index_or xs p None)

-- one of the flows is changed so, and no other
abbrev pub FlowChanges : ℕ → (Flow → Flow → Type 0) → List (Option Link) → List (Option Link) → Type 0
FlowChanges peer R xs ys = R (flow_in xs peer) (flow_in ys peer) × ((p : ℕ) → p ≢ peer → flow_in ys p ≡ flow_in xs p)

pub flows_at_slot : (xs : List (Option Link)) (i peer : ℕ) (d : Option Link) (a b : Link) (R : Flow → Flow → Type 0) → i ≡ peer → slice_index_or xs i d ≡ Some a → i < length xs
    → R (link_flow a) (link_flow b) → FlowChanges peer R xs (slice_set xs i (Some b))
flows_at_slot xs i peer d a b R here is lt r = subst (λ (n : ℕ). FlowChanges n R xs (slice_set xs i (Some b))) here (changed, others)
  where
    there : slice_index_or xs i None ≡ Some a
    there = any_default xs i None d lt ∙ is

    changed : R (flow_in xs i) (flow_in (slice_set xs i (Some b)) i)
    changed = subst (λ (x : Option Link). R (place_flow x) (flow_in (slice_set xs i (Some b)) i)) (sym there)
        (subst (λ (x : Option Link). R (link_flow a) (place_flow x)) (sym (get_or-set_same xs i (Some b) None lt)) r)

    others : (p : ℕ) → p ≢ i → flow_in (slice_set xs i (Some b)) p ≡ flow_in xs p
    others p ne = ap place_flow (get_or-set_other xs i p (Some b) None ne)

-- nothing changes where no line of one link moves
pub flows_same : (xs : List (Option Link)) (i : ℕ) (d : Option Link) (a b : Link) → slice_index_or xs i d ≡ Some a → i < length xs
    → link_flow b ≡ link_flow a → (p : ℕ) → flow_in (slice_set xs i (Some b)) p ≡ flow_in xs p
flows_same xs i d a b is lt same p = by_place (same_or_not p i)
  where
    at : FlowChanges i (λ v w. w ≡ v) xs (slice_set xs i (Some b))
    at = flows_at_slot xs i i d a b (λ v w. w ≡ v) refl is lt same

    by_place : ((p ≡ i) ⊎ (p ≢ i)) → flow_in (slice_set xs i (Some b)) p ≡ flow_in xs p
    by_place (inl e) = subst (λ (n : ℕ). flow_in (slice_set xs i (Some b)) n ≡ flow_in xs n) (sym e) at.0
    by_place (inr ne) = at.1 p ne

-- Two cores' links beside each other

pub link_at : (xs : List (Option Link)) (i peer : ℕ) (b : Link) → i ≡ peer → i < length xs → slice_index_or (slice_set xs i (Some b)) peer None ≡ Some b
link_at xs i peer b here lt = subst (λ (n : ℕ). slice_index_or (slice_set xs i (Some b)) n None ≡ Some b) here (get_or-set_same xs i (Some b) None lt)

abbrev pub ExactPlaces : Option Link → Option Link → Type 0
ExactPlaces x y = IsExact (place_capacity x) (place_view link_view x) (place_view link_view y) (place_flow x) (place_flow y)

pub exact_at : (x y : Option Link) (a b : Link) → x ≡ Some a → y ≡ Some b → IsExact (sender_capacity a.sender) (link_view a) (link_view b) (link_flow a) (link_flow b) → ExactPlaces x y
exact_at x y a b ex ey h = subst (λ (u : Option Link). ExactPlaces u y) (sym ex) (subst (λ (u : Option Link). ExactPlaces (Some a) u) (sym ey) h)

-- messages have at most 587 lines each
pub lines_within : (ms : List (List ℕ)) → All IsMessage ms → length (stream 0 ms) ≤ 587 * length ms
lines_within ms all = subst (λ (n : ℕ). n ≤ 587 * length ms) (sym (length-stream 0 ms)) (each ms all)
  where
    most : (size : ℕ) → size ≤ 32832 → line_count size ≤ 587
    most size le = omega arith

    each : (ms : List (List ℕ)) → All IsMessage ms → lines_in ms ≤ 587 * length ms
    each [] all = omega arith
    each (m ∷ ms) all =
        let is : IsMessage m = all 0 m (omega arith) in
        omega (arith, most (length m) is.most, each ms (λ k d lt. all (suc k) d (omega (arith, lt))))
