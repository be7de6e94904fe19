-- Links stay calm while nothing is taken in.
use Rattle.std.proofs.Common.{◌≡◌, ◌≢◌, ◌<◌, ◌≤◌, [], ◌∷◌, ℕ, List, Option, Some, None, length, slice_index_or, slice_set, drop, refl, sym, ap, subst, ◌∙◌, ◌⊎◌, inl, inr, arith}
use Rattle.std.specs.Prelude.{Result, Vec, Bool, true, false, ◌&&◌, is_none}
use Rattle.std.specs.Global.{Global}
use Rattle.ump_ring.specs.Joiners.{shown_list}
use Rattle.ump_ring.specs.Receivers.{message_kept, stopped, lines_known}
use Rattle.ump_ring.specs.declared.fault.LineFault.{LineFault}
use Rattle.ump_ring.specs.declared.sender.Busy.{Busy}
use Rattle.core_links.specs.declared.ring_links.Link.{Link}
use Rattle.core_links.specs.Calm.{IsCalm}
use Rattle.core_links.specs.Ends.{is_nothing, is_empty_end, AreEmptyEnds}
use Rattle.core_links.specs.Views.{LinkView, no_link, GivenUp, HandedOver, HandedBytes}
use Rattle.core_links.specs.Slots.{place_view}
use Rattle.core_links.specs.RingSlots.{link_view}
use Rattle.core_links.specs.Flows.{Flow, no_flow, link_flow, place_flow}
use Rattle.core_links.specs.Pumping.{MovesOn}
use Rattle.core_links.specs.Marks.{LieBelow}
use Rattle.core_links.proofs.Places.{any_default, below_or_not}
use Rattle.core_links.proofs.Marking.{each_place, none_above}

abbrev pub Calm : Option Link → Type 0
Calm x = IsCalm (place_view link_view x) (place_flow x)

both : (a b : Bool) → (a && b) ≡ true → (a ≡ true) × (b ≡ true)
both true b e = (refl, e)
both false b e = absurd cc

all_three : (a b d : Bool) → a ≡ true → b ≡ true → d ≡ true → (a && (b && d)) ≡ true
all_three a b d e f h = rw (e, f, h) refl

none_in : {A : Type 0} → (x : Option A) → is_none x ≡ true → x ≡ None
none_in None e = refl
none_in (Some m) e = absurd cc

none_shown : (x : Option (List ℕ)) → shown_list x ≡ [] → is_none x ≡ true
none_shown None e = refl
none_shown (Some m) e = absurd cc

nothing : {A : Type 0} → (xs : List A) → length xs ≡ 0 → is_nothing xs ≡ true
nothing [] e = refl
nothing (x ∷ xs) e = absurd (omega (arith, e))

none_long : {A : Type 0} → (xs : List A) → is_nothing xs ≡ true → length xs ≡ 0
none_long [] e = refl
none_long (x ∷ xs) e = absurd cc

-- what is seen of a link says this of its end
pub end_of : (x : Option Link) → Calm x → is_empty_end x ≡ true
end_of None calm = refl
end_of (Some l) calm =
    all_three (is_none (message_kept l.receiver)) (is_none (stopped l.receiver)) (is_nothing (lines_known l.receiver)) (none_shown (message_kept l.receiver) calm.none_kept)
    (ap (λ (s : Option LineFault). is_none s) calm.running) (nothing (lines_known l.receiver) calm.none_known)

pub calm_of : (x : Option Link) → is_empty_end x ≡ true → Calm x
calm_of None end = record { none_kept = refl; running = refl; none_known = refl }
calm_of (Some l) end =
    let first = both (is_none (message_kept l.receiver)) (is_none (stopped l.receiver) && is_nothing (lines_known l.receiver)) end in
    let rest = both (is_none (stopped l.receiver)) (is_nothing (lines_known l.receiver)) first.1 in
    record { none_kept = ap shown_list (none_in (message_kept l.receiver) first.0); running = none_in (stopped l.receiver) rest.0; none_known = none_long (lines_known l.receiver) rest.1 }

-- one link changed, and is calm if it was
pub still_empty : (xs : List (Option Link)) (i : ℕ) (d : Option Link) (a b : Link) → i < length xs → slice_index_or xs i d ≡ Some a → (Calm (Some a) → Calm (Some b)) → AreEmptyEnds xs → AreEmptyEnds (slice_set xs i (Some b))
still_empty xs i d a b lt is stays was =
    each_place (λ p x. is_empty_end x ≡ true) xs i (Some b) lt (λ p ne. was p)
    (end_of (Some b) (stays (calm_of (Some a) (subst (λ (x : Option Link). is_empty_end x ≡ true) (any_default xs i None d lt ∙ is) (was i)))))

pub calm_given : (a b : Link) → GivenUp (link_view a) (link_view b) → link_flow b ≡ link_flow a → Calm (Some a) → Calm (Some b)
calm_given a b given lines calm = record {
  none_kept = given.kept ∙ ap (λ (ms : List (List ℕ)). drop 1 ms) calm.none_kept;
  running = given.stopped ∙ calm.running;
  none_known = ap (λ (f : Flow). f.known) lines ∙ calm.none_known;
}

pub calm_bytes : (a b : Link) (message : List ℕ) (took : Bool) → HandedBytes (link_view a) (link_view b) message took → link_flow b ≡ link_flow a → Calm (Some a) → Calm (Some b)
calm_bytes a b message took handed lines calm = record {
  none_kept = handed.kept ∙ calm.none_kept;
  running = handed.stopped ∙ calm.running;
  none_known = ap (λ (f : Flow). f.known) lines ∙ calm.none_known;
}

pub calm_handed : (a b : Link) (message : Vec ℕ Global) (r : Result (Unit {0}) Busy) → HandedOver (link_view a) (link_view b) message r → link_flow b ≡ link_flow a → Calm (Some a) → Calm (Some b)
calm_handed a b message r handed lines calm = record {
  none_kept = handed.kept ∙ calm.none_kept;
  running = handed.stopped ∙ calm.running;
  none_known = ap (λ (f : Flow). f.known) lines ∙ calm.none_known;
}

-- what is moved on stays calm
pub pumped_empty : (xs ys : List (Option Link)) → ((p : ℕ) → MovesOn (slice_index_or xs p None) (slice_index_or ys p None)) → AreEmptyEnds xs → AreEmptyEnds ys
pumped_empty xs ys each was p =
    let calm = calm_of (slice_index_or xs p None) (was p) in
    end_of (slice_index_or ys p None) (record {
      none_kept = (each p).pumped.kept ∙ calm.none_kept;
      running = (each p).pumped.stopped ∙ calm.running;
      none_known = (each p).lines.known ∙ calm.none_known;
    })

-- a place without a link is calm
no_link_calm : (x : Option Link) → place_view link_view x ≡ no_link → place_flow x ≡ no_flow → Calm x
no_link_calm x is lines = record {
  none_kept = ap (λ (w : LinkView). w.kept) is;
  running = ap (λ (w : LinkView). w.stopped) is;
  none_known = ap (λ (g : Flow). g.known) lines;
}

-- all ends are empty where the links below a number are calm, and none is to a peer above
pub all_empty : (span cores : ℕ) (xs : List (Option Link)) → span ≤ cores → LieBelow span xs → ((p : ℕ) → p < cores → Calm (slice_index_or xs p None)) → AreEmptyEnds xs
all_empty span cores xs within below calm p = by_order (below_or_not p span)
  where
    by_order : ((p < span) ⊎ (span ≤ p)) → is_empty_end (slice_index_or xs p None) ≡ true
    by_order (inl lt) = end_of (slice_index_or xs p None) (calm p (omega (arith, lt, within)))
    by_order (inr le) = let none = none_above span xs below p le in end_of (slice_index_or xs p None) (no_link_calm (slice_index_or xs p None) none.0 none.1)
