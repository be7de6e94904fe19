-- One more core is joined to core 0.
use Rattle.std.proofs.Common.{◌≡◌, ◌≢◌, ◌+◌, ◌≤◌, inl, inr, ℕ, suc, List, [], ◌∷◌, ◌++◌, length, Option, Some, None, slice_get, refl, sym, ap, ◌∙◌, subst, arith, length-append}
use Rattle.world_model.proofs.Lists.{get_more, same_or_not}
use Rattle.core_links.specs.declared.ring_links.Link.{Link}
use Rattle.core_links.specs.declared.ring_links.RingLinks.{RingLinks}
use Rattle.core_links.specs.RingSlots.{own_of, places_of, link_to, link_view, ring_view, AreJoinedSlots, AreJoinedLinks}
use Rattle.core_links.specs.Slots.{place_view}
use Rattle.ump_ring.specs.Senders.{messages_offered, sender_capacity}
use Rattle.ump_ring.specs.Receivers.{messages_taken}
use Rattle.core_links.specs.Flows.{HoldLines, place_capacity, ring_capacity}
use Rattle.core_loop.specs.Standing.{IsSilent}
use Rattle.core_machine.specs.Wiring.{AreSilent, IsWired, AreWired}

pub wired_first : (cores : ℕ) (first : RingLinks) (others : List RingLinks) → own_of first ≡ 0 → places_of first ≡ cores → ((p : ℕ) → link_to first p ≡ None) → others ≡ [] → AreWired cores 1 first others
wired_first cores first others own room empty none = record {
  own = own;
  room = room;
  count = ap (λ (l : List RingLinks). length l + 1) none;
  silent = λ p. subst (λ (o : Option Link). IsSilent (place_view link_view o)) (sym (empty p)) (refl, refl);
  free = λ p _. empty p;
  no_itself = empty 0;
  each = λ i l at. absurd (let e = ap (λ (l : List RingLinks). slice_get l i) none in cc);
}

-- what the other links do not see of it
still_joined : (first first' other : RingLinks) → own_of first' ≡ own_of first → link_to first' (own_of other) ≡ link_to first (own_of other) → AreJoinedLinks first other → AreJoinedLinks first' other
still_joined first first' other own same joined =
    subst (λ (n : ℕ). AreJoinedSlots (link_to first' (own_of other)) (link_to other n)) (sym own)
    (subst (λ (o : Option Link). AreJoinedSlots o (link_to other (own_of first))) (sym same) joined)

-- nor what its rings hold
still_holds : (first first' other : RingLinks) → own_of first' ≡ own_of first → link_to first' (own_of other) ≡ link_to first (own_of other) → HoldLines first other → HoldLines first' other
still_holds first first' other own same h =
    (subst (λ (o : Option Link). 1 ≤ place_capacity o) (sym same) h.0, subst (λ (n : ℕ). 1 ≤ ring_capacity other n) (sym own) h.1)

-- the rings that were joined hold what they were made for
pub holding : (first other : RingLinks) (a b : Link) → link_to first (own_of other) ≡ Some a → link_to other (own_of first) ≡ Some b → sender_capacity a.sender ≡ 64 → sender_capacity b.sender ≡ 64 → HoldLines first other
holding first other a b at_a at_b is_a is_b = (
  subst (λ (o : Option Link). 1 ≤ place_capacity o) (sym at_a) (omega (arith, is_a)),
  subst (λ (o : Option Link). 1 ≤ place_capacity o) (sym at_b) (omega (arith, is_b)),
)

pub wired_more : (cores peer : ℕ) (first first' other : RingLinks) (others others' : List RingLinks) → AreWired cores peer first others
    → own_of first' ≡ own_of first → places_of first' ≡ places_of first → ((p : ℕ) → p ≢ peer → link_to first' p ≡ link_to first p) → IsSilent (ring_view first' peer)
    → own_of other ≡ peer → AreSilent other → AreJoinedLinks first' other → HoldLines first' other → ((entry : ℕ) → link_to other (suc entry) ≡ None) → others' ≡ others ++ other ∷ [] → AreWired cores (peer + 1) first' others'
wired_more cores peer first first' other others others' was own room same silent its_own its_silent joined holds no_other pushed = record {
  own = own ∙ was.own;
  room = room ∙ was.room;
  count = ap (λ (l : List RingLinks). length l + 1) pushed ∙ omega (arith, length-append others (other ∷ []), was.count);
  silent = λ p. elim (same_or_not p peer) [
    | inl e ↦ subst (λ (n : ℕ). IsSilent (ring_view first' n)) (sym e) silent
    | inr apart ↦ subst (λ (o : Option Link). IsSilent (place_view link_view o)) (sym (same p apart)) (was.silent p)
  ];
  free = λ p after. same p (λ e. absurd (omega (arith, e))) ∙ was.free p (omega arith);
  no_itself = same 0 (λ e. absurd (omega (arith, e, was.count))) ∙ was.no_itself;
  each = λ i l at. each_more i l (subst (λ (x : List RingLinks). slice_get x i ≡ Some l) pushed at);
}
  where
    each_more : (i : ℕ) (l : RingLinks) → slice_get (others ++ other ∷ []) i ≡ Some l → IsWired i first' l
    each_more i l at = elim (get_more others other l i at) [
      | inl last ↦ (let place : own_of other ≡ suc i = its_own ∙ omega (arith, was.count, last.0) in
          subst (λ (x : RingLinks). IsWired i first' x) (sym last.1) (record { own = place; silent = its_silent; joined = joined; holds = holds; no_other = no_other }))
      | inr old ↦ (let w = was.each i l old.1 in
          record {
            own = w.own;
            silent = w.silent;
            joined = still_joined first first' l own (same (own_of l) (λ e. absurd (omega (arith, e, w.own, was.count, old.0)))) w.joined;
            holds = still_holds first first' l own (same (own_of l) (λ e. absurd (omega (arith, e, w.own, was.count, old.0)))) w.holds;
            no_other = w.no_other;
          })
    ]

-- nothing has gone over a new link
pub silent_link : (r : RingLinks) (p : ℕ) (l : Link) → link_to r p ≡ Some l → messages_offered l.sender ≡ [] → messages_taken l.receiver ≡ [] → IsSilent (ring_view r p)
silent_link r p l is offered taken = subst (λ (o : Option Link). IsSilent (place_view link_view o)) (sym is) (offered, taken)

pub silent_alone : (old new : RingLinks) (peer : ℕ) → ((p : ℕ) → link_to old p ≡ None) → ((p : ℕ) → p ≢ peer → link_to new p ≡ link_to old p) → IsSilent (ring_view new peer) → AreSilent new
silent_alone old new peer empty others silent p = elim (same_or_not p peer) [
  | inl e ↦ subst (λ (n : ℕ). IsSilent (ring_view new n)) (sym e) silent
  | inr apart ↦ subst (λ (o : Option Link). IsSilent (place_view link_view o)) (sym (others p apart ∙ empty p)) (refl, refl)
]

-- links that only the one to core 0 was joined to have no other
pub alone : (old new : RingLinks) → ((p : ℕ) → link_to old p ≡ None) → ((p : ℕ) → p ≢ 0 → link_to new p ≡ link_to old p) → (entry : ℕ) → link_to new (suc entry) ≡ None
alone old new empty others entry = others (suc entry) (λ e. absurd (omega (arith, e))) ∙ empty (suc entry)
