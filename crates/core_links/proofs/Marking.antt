-- The marks of links say what they have to do, once one link has changed.
use Rattle.std.proofs.Common.{◌≡◌, ◌≢◌, ◌<◌, ◌≤◌, ℕ, Bool, true, false, cond, ◌||◌, List, Option, Some, None, is_some, is_none, length, slice_index_or, slice_set, refl, sym, ap, subst, ◌∙◌, ◌⊎◌, inl, inr, arith}
use Rattle.std.proofs.lemmas.List.{get_or-set_same, get_or-set_other}
use Rattle.std.specs.Int.{bit_at}
use Rattle.std.proofs.lemmas.Nat.Bits.{bit_at-zero}
use Rattle.ump_ring.specs.Senders.{current}
use Rattle.core_links.specs.declared.marks.Marks.{Marks}
use Rattle.core_links.specs.declared.ring_links.Link.{Link}
use Rattle.core_links.specs.Views.{no_link}
use Rattle.core_links.specs.Slots.{place_view}
use Rattle.core_links.specs.RingSlots.{link_view}
use Rattle.core_links.specs.Flows.{no_flow, place_flow}
use Rattle.core_links.specs.Marks.{is_joined, has_moved, is_due, TellMoved, TellDue, LieBelow}
use Rattle.core_links.specs.Notes.{Notes}
use Rattle.core_links.proofs.Places.{same_or_not, below_or_not, any_default}

-- what holds of each other place, and of the one that was written, holds of each
pub each_place : (P : ℕ → Option Link → Type 0) (xs : List (Option Link)) (i : ℕ) (b : Option Link) → i < length xs → ((p : ℕ) → p ≢ i → P p (slice_index_or xs p None)) → P i b
    → (p : ℕ) → P p (slice_index_or (slice_set xs i b) p None)
each_place P xs i b lt others here p = by_place (same_or_not p i)
  where
    by_place : ((p ≡ i) ⊎ (p ≢ i)) → P p (slice_index_or (slice_set xs i b) p None)
    by_place (inl e) = subst (λ (n : ℕ). P n (slice_index_or (slice_set xs i b) n None)) (sym e) (subst (λ (x : Option Link). P i x) (sym (get_or-set_same xs i b None lt)) here)
    by_place (inr n) = subst (λ (x : Option Link). P p x) (sym (get_or-set_other xs i p b None n)) (others p n)

-- no bit of 0 is set
pub none_set : (p : ℕ) → bit_at 0 p ≡ 0
none_set p = bit_at-zero p

not_joined : (x : Option Link) → is_joined x ≡ false → x ≡ None
not_joined None e = refl
not_joined (Some l) e = absurd cc

-- above the links there is none
pub none_above : (span : ℕ) (xs : List (Option Link)) → LieBelow span xs → (p : ℕ) → span ≤ p → (place_view link_view (slice_index_or xs p None) ≡ no_link) × (place_flow (slice_index_or xs p None) ≡ no_flow)
none_above span xs below p le = let is = not_joined (slice_index_or xs p None) (below p le) in (ap (place_view link_view) is, ap place_flow is)

pub still_below : (span : ℕ) (xs : List (Option Link)) (i : ℕ) (d : Option Link) (a b : Link) → i < length xs → slice_index_or xs i d ≡ Some a → LieBelow span xs → LieBelow span (slice_set xs i (Some b))
still_below span xs i d a b lt is below =
    each_place (λ p x. span ≤ p → is_joined x ≡ false) xs i (Some b) lt (λ p ne. below p)
    (λ le. let no = below i le in let there = any_default xs i None d lt ∙ is in let no' = subst (λ (x : Option Link). is_joined x ≡ false) there no in absurd cc)

pub joined_below : (span span' : ℕ) (xs : List (Option Link)) (i : ℕ) (b : Option Link) → i < length xs → span ≤ span' → i < span' → LieBelow span xs → LieBelow span' (slice_set xs i b)
joined_below span span' xs i b lt more some below =
    each_place (λ p x. span' ≤ p → is_joined x ≡ false) xs i b lt (λ p ne le. below p (omega (arith, le, more))) (λ le. absurd (omega (arith, le, some)))

-- what waits at a link that takes no message is due
pub some_waits : (x : Option (List ℕ)) → is_some x ≡ false → is_none x ≡ true
some_waits None e = refl
some_waits (Some m) e = absurd cc

pub none_waits : (x : Option (List ℕ)) → is_none x ≡ true → is_some x ≡ false
none_waits None e = refl
none_waits (Some m) e = absurd cc

pub no_part : (a b : Bool) → (a || b) ≡ false → (a ≡ false) × (b ≡ false)
no_part true b e = absurd cc
no_part false b e = (refl, e)

pub neither : (a b : Bool) → a ≡ false → b ≡ false → (a || b) ≡ false
neither a b e f = rw (e, f) refl

-- a link over which no line moved, and that takes messages still if it did, is due only if it was
pub due_still : (a b : Link) → (a.moved ≡ false → b.moved ≡ false) → ((link_view a).ready ≡ true → (link_view b).ready ≡ true) → is_due (Some a) ≡ false → is_due (Some b) ≡ false
due_still a b moved ready none =
    let parts = no_part a.moved (is_some (current a.sender)) none in
    neither b.moved (is_some (current b.sender)) (moved parts.0) (none_waits (current b.sender) (ready (some_waits (current a.sender) parts.1)))

-- no link lies above, and the marks tell of all
pub record Keep (span : ℕ) (marks : Marks) (xs : List (Option Link)) : Type 0 where
  pub below : LieBelow span xs
  pub moves : TellMoved marks.moved xs
  pub dues : TellDue marks.due xs

module _ (span : ℕ) (marks : Marks) (xs : List (Option Link)) (i : ℕ) (d : Option Link) (a b : Link) (lt : i < length xs) (is : slice_index_or xs i d ≡ Some a) (was : Keep span marks xs) where
  there : slice_index_or xs i None ≡ Some a
  there = any_default xs i None d lt ∙ is

  -- one link changed, and no line moved over it
  pub keep_still : b.moved ≡ a.moved → ((link_view a).ready ≡ true → (link_view b).ready ≡ true) → Keep span marks (slice_set xs i (Some b))
  keep_still moved ready = record {
    below = still_below span xs i d a b lt is was.below;
    moves = each_place (λ p x. p < 64 → bit_at marks.moved p ≡ cond (has_moved x) 1 0) xs i (Some b) lt (λ p ne. was.moves p)
        (λ below. was.moves i below ∙ ap (λ (x : Option Link). cond (has_moved x) 1 0) there ∙ ap (λ m. cond m 1 0) (sym moved));
    dues = each_place (λ p x. p < 64 → bit_at marks.due p ≡ 0 → is_due x ≡ false) xs i (Some b) lt (λ p ne. was.dues p)
        (λ below clear. due_still a b (λ e. moved ∙ e) ready (subst (λ (x : Option Link). is_due x ≡ false) there (was.dues i below clear)));
  }

-- a link stands at a place now, and that was noted
module _ (span : ℕ) (marks marks' : Marks) (xs : List (Option Link)) (i : ℕ) (x : Option Link) (b : Link) (moved waits : Bool) (lt : i < length xs) (is : slice_index_or xs i None ≡ x) (was : Keep span marks xs)
    (notes : Notes i moved waits marks marks') (moves : moved ≡ true → b.moved ≡ true) (stays : moved ≡ false → b.moved ≡ has_moved x) (rests : (moved || waits) ≡ false → is_due x ≡ false → is_due (Some b) ≡ false) where
  by_moved : (m : Bool) → moved ≡ m → i < 64 → bit_at marks'.moved i ≡ cond b.moved 1 0
  by_moved true e below = notes.moves e below ∙ sym (ap (λ (m : Bool). cond m 1 0) (moves e))
  by_moved false e below = ap (λ (n : ℕ). bit_at n i) (notes.stays e) ∙ was.moves i below ∙ ap (λ (y : Option Link). cond (has_moved y) 1 0) is ∙ sym (ap (λ (m : Bool). cond m 1 0) (stays e))

  by_due : (m : Bool) → (moved || waits) ≡ m → i < 64 → bit_at marks'.due i ≡ 0 → is_due (Some b) ≡ false
  by_due true e below clear = let set = notes.due e below in absurd (omega (arith, set, clear))
  by_due false e below clear =
      let same : bit_at marks.due i ≡ 0 = ap (λ (n : ℕ). bit_at n i) (sym (notes.rests e)) ∙ clear in
      rests e (subst (λ (y : Option Link). is_due y ≡ false) is (was.dues i below same))

  pub keep_noted : (span' : ℕ) → span ≤ span' → i < span' → Keep span' marks' (slice_set xs i (Some b))
  keep_noted span' more inside = record {
    below = joined_below span span' xs i (Some b) lt more inside was.below;
    moves = each_place (λ p y. p < 64 → bit_at marks'.moved p ≡ cond (has_moved y) 1 0) xs i (Some b) lt (λ p ne below. (notes.others p ne).0 ∙ was.moves p below) (λ below. by_moved moved refl below);
    dues = each_place (λ p y. p < 64 → bit_at marks'.due p ≡ 0 → is_due y ≡ false) xs i (Some b) lt (λ p ne below clear. was.dues p below (sym (notes.others p ne).1 ∙ clear))
        (λ below clear. by_due (moved || waits) refl below clear);
  }

-- a joined link has a place below
pub lies_below : (span : ℕ) (xs : List (Option Link)) (i : ℕ) (d : Option Link) (a : Link) → i < length xs → slice_index_or xs i d ≡ Some a → LieBelow span xs → i < span
lies_below span xs i d a lt is below = by_order (below_or_not i span)
  where
    by_order : ((i < span) ⊎ (span ≤ i)) → i < span
    by_order (inl h) = h
    by_order (inr h) =
        let no : is_joined (Some a) ≡ false = subst (λ (x : Option Link). is_joined x ≡ false) (any_default xs i None d lt ∙ is) (below i h) in
        absurd cc
