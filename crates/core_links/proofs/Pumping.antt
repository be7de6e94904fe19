-- The links that are due are moved on one after another.
use Rattle.std.proofs.Common.{◌≡◌, ◌≢◌, ◌<◌, ◌≤◌, ◌+◌, ◌*◌, ◌%◌, ◌^◌, ℕ, Bool, true, false, cond, ◌||◌, not, slice_set, List, Option, Some, None, length, slice_index_or, refl, sym, ap, subst, ◌∙◌, ◌⊎◌, inl, inr, arith, w64}
use Rattle.std.specs.Int.{bit_at, bit_not}
use Rattle.std.specs.Int.RustNames.{bit_and}
use Rattle.std.proofs.lemmas.Bool.{cases_eq}
use Rattle.std.proofs.lemmas.List.{get_or-set_same, get_or-set_other}
use Rattle.std.proofs.lemmas.Nat.{and_le_l}
use Rattle.std.proofs.lemmas.Nat.Bits.{bit_at_clear_same, bit_at_clear_other}
use Rattle.core_links.specs.declared.marks.Marks.{Marks}
use Rattle.core_links.specs.declared.ring_links.Link.{Link}
use Rattle.core_links.specs.Flows.{FlowsOut, no_flow, link_flow}
use Rattle.core_links.specs.RingSlots.{link_view, SameLink, SameSlot}
use Rattle.core_links.specs.RingLaws.{SameSlot-itself}
use Rattle.core_links.specs.Slots.{place_view}
use Rattle.core_links.specs.Views.{Pumped}
use Rattle.core_links.specs.Notes.{Notes}
use Rattle.core_links.specs.Marks.{is_joined, has_moved, is_due, TellMoved, TellDue, LieBelow}
use Rattle.core_links.specs.Pumping.{MovesOn, MovesOnAt}
use Rattle.core_links.proofs.Places.{same_or_not, any_default, past_end, below_or_not}
use Rattle.core_links.proofs.Steps.{pumped_itself}
use Rattle.core_links.proofs.Marking.{none_set, no_part, neither, some_waits, none_waits}

-- some were moved on, and some are left as they were
pub record Pumping (Done Left : ℕ → Type 0) (start xs : List (Option Link)) (marks : Marks) : Type 0 where
  pub moved_on : (p : ℕ) → Done p → MovesOn (slice_index_or start p None) (slice_index_or xs p None)
  pub still : (p : ℕ) → Left p → slice_index_or xs p None ≡ slice_index_or start p None
  pub moves : (p : ℕ) → p < 64 → Done p → bit_at marks.moved p ≡ cond (has_moved (slice_index_or xs p None)) 1 0
  pub dues : (p : ℕ) → p < 64 → Done p → bit_at marks.due p ≡ 0 → is_due (slice_index_or xs p None) ≡ false
  pub clear : (p : ℕ) → p < 64 → Left p → bit_at marks.moved p ≡ 0

-- a link with nothing to do
quiet_lines : (l : Link) → l.moved ≡ false → (link_view l).ready ≡ true → FlowsOut (link_flow l) (link_flow l) (link_view l).ready
quiet_lines l moved ready = record {
  out = omega arith;
  room = omega arith;
  come = refl;
  known = refl;
  full = λ e. absurd cc;
  still = λ e. refl;
  moved = λ e. absurd cc;
}

none_lines : FlowsOut no_flow no_flow false
none_lines = record { out = omega arith; room = omega arith; come = refl; known = refl; full = λ e. refl; still = λ e. refl; moved = λ e. absurd cc }

pub quiet : (x : Option Link) → is_due x ≡ false → MovesOn x x
quiet None e = record { same = tt; pumped = pumped_itself (place_view link_view None); lines = none_lines }
quiet (Some l) e =
    let parts = no_part l.moved _ e in
    record { same = SameSlot-itself (Some l); pumped = pumped_itself (link_view l); lines = quiet_lines l parts.0 (some_waits _ parts.1) }

quiet_bit : (x : Option Link) → is_due x ≡ false → has_moved x ≡ false
quiet_bit None e = refl
quiet_bit (Some l) e = (no_part l.moved _ e).0

-- the bits that are left, and those that are not
abbrev pub BitClear : ℕ → ℕ → Type 0
BitClear left p = (p < 64) × (bit_at left p ≡ 0)

abbrev pub BitLeft : ℕ → ℕ → Type 0
BitLeft left p = p < 64 → bit_at left p ≡ 1

pub begun : (due : ℕ) (start : List (Option Link)) (marks : Marks) → TellDue due start → marks.moved ≡ 0 → Pumping (BitClear due) (BitLeft due) start start marks
begun due start marks tell none = record {
  moved_on = λ p done. quiet (slice_index_or start p None) (tell p done.0 done.1);
  still = λ p left. refl;
  moves = λ p lt done. ap (λ n. bit_at n p) none ∙ none_set p ∙ sym (ap (λ m. cond m 1 0) (quiet_bit (slice_index_or start p None) (tell p done.0 done.1)));
  dues = λ p lt done clear. tell p done.0 done.1;
  clear = λ p lt left. ap (λ n. bit_at n p) none ∙ none_set p;
}

-- one more was moved on
module _ (Done Left Done' Left' : ℕ → Type 0) (peer : ℕ) (start xs ys : List (Option Link)) (marks marks' : Marks) (was : Pumping Done Left start xs marks) (step : MovesOnAt peer xs ys marks marks')
    (before : Left peer) (done : (p : ℕ) → p ≢ peer → Done' p → Done p) (left : (p : ℕ) → Left' p → (p ≢ peer) × Left p) where
  here : MovesOn (slice_index_or start peer None) (slice_index_or ys peer None)
  here = subst (λ (x : Option Link). MovesOn x (slice_index_or ys peer None)) (was.still peer before) step.here

  pub one_more : Pumping Done' Left' start ys marks'
  one_more = record {
    moved_on = λ p d. on p d (same_or_not p peer);
    still = λ p l. step.others p (left p l).0 ∙ was.still p (left p l).1;
    moves = λ p lt d. bits p lt d (same_or_not p peer);
    dues = λ p lt d e. rest p lt d e (same_or_not p peer);
    clear = λ p lt l. (step.other_bits p (left p l).0).0 ∙ was.clear p lt (left p l).1;
  }
    where
      on : (p : ℕ) → Done' p → ((p ≡ peer) ⊎ (p ≢ peer)) → MovesOn (slice_index_or start p None) (slice_index_or ys p None)
      on p d (inl e) = subst (λ (n : ℕ). MovesOn (slice_index_or start n None) (slice_index_or ys n None)) (sym e) here
      on p d (inr n) = subst (λ (x : Option Link). MovesOn (slice_index_or start p None) x) (sym (step.others p n)) (was.moved_on p (done p n d))

      bits : (p : ℕ) → p < 64 → Done' p → ((p ≡ peer) ⊎ (p ≢ peer)) → bit_at marks'.moved p ≡ cond (has_moved (slice_index_or ys p None)) 1 0
      bits p lt d (inl e) =
          let lt' : peer < 64 = subst (λ (n : ℕ). n < 64) e lt in
          subst (λ (n : ℕ). bit_at marks'.moved n ≡ cond (has_moved (slice_index_or ys n None)) 1 0) (sym e) (step.moved lt' (was.clear peer lt' before))
      bits p lt d (inr n) = (step.other_bits p n).0 ∙ was.moves p lt (done p n d) ∙ sym (ap (λ (x : Option Link). cond (has_moved x) 1 0) (step.others p n))

      rest : (p : ℕ) → p < 64 → Done' p → bit_at marks'.due p ≡ 0 → ((p ≡ peer) ⊎ (p ≢ peer)) → is_due (slice_index_or ys p None) ≡ false
      rest p lt d e0 (inl e) =
          subst (λ (n : ℕ). is_due (slice_index_or ys n None) ≡ false) (sym e) (step.due (subst (λ (n : ℕ). n < 64) e lt) (subst (λ (n : ℕ). bit_at marks'.due n ≡ 0) e e0))
      rest p lt d e0 (inr n) = ap is_due (step.others p n) ∙ was.dues p lt (done p n d) (sym (step.other_bits p n).1 ∙ e0)

-- the link of a peer was moved on, and noted
module _ (peer : ℕ) (xs : List (Option Link)) (d : Option Link) (a b : Link) (marks marks' : Marks) (ready : Bool) (lt : peer < length xs) (is : slice_index_or xs peer d ≡ Some a) (same : SameLink a b)
    (pumped : Pumped (link_view a) (link_view b)) (lines : FlowsOut (link_flow a) (link_flow b) (link_view b).ready) (ready_is : ready ≡ (link_view b).ready) (notes : Notes peer b.moved (not ready) marks marks') where
  now : slice_index_or (slice_set xs peer (Some b)) peer None ≡ Some b
  now = get_or-set_same xs peer (Some b) None lt

  by_moved : (m : Bool) → b.moved ≡ m → peer < 64 → bit_at marks.moved peer ≡ 0 → bit_at marks'.moved peer ≡ cond b.moved 1 0
  by_moved true e below clear = notes.moves e below ∙ sym (ap (λ (m : Bool). cond m 1 0) e)
  by_moved false e below clear = ap (λ (n : ℕ). bit_at n peer) (notes.stays e) ∙ clear ∙ sym (ap (λ (m : Bool). cond m 1 0) e)

  not_ready : (m : Bool) → not m ≡ false → m ≡ true
  not_ready true e = refl
  not_ready false e = absurd cc

  by_due : (m : Bool) → (b.moved || not ready) ≡ m → peer < 64 → bit_at marks'.due peer ≡ 0 → is_due (Some b) ≡ false
  by_due true e below clear = let set = notes.due e below in absurd (omega (arith, set, clear))
  by_due false e below clear =
      let parts = no_part b.moved (not ready) e in
      neither b.moved _ parts.0 (none_waits _ (sym ready_is ∙ not_ready ready parts.1))

  pub moved_on_at : MovesOnAt peer xs (slice_set xs peer (Some b)) marks marks'
  moved_on_at = record {
    here = subst (λ (x : Option Link). MovesOn x (slice_index_or (slice_set xs peer (Some b)) peer None)) (sym (any_default xs peer None d lt ∙ is))
        (subst (λ (x : Option Link). MovesOn (Some a) x) (sym now) (record { same = same; pumped = pumped; lines = lines }));
    others = λ p ne. get_or-set_other xs peer p (Some b) None ne;
    moved = λ below clear. by_moved b.moved refl below clear ∙ sym (ap (λ (x : Option Link). cond (has_moved x) 1 0) now);
    due = λ below clear. ap is_due now ∙ by_due (b.moved || not ready) refl below clear;
    other_bits = notes.others;
  }

-- a bit that is set is cleared: the number is less, and no other bit has changed
abbrev pub without : ℕ → ℕ → ℕ
without word k = bit_and word (bit_not w64 (1 * 2 ^ k % 2 ^ 64))

pub less_without : (word k : ℕ) → k < 64 → bit_at word k ≡ 1 → without word k < word
less_without word k within set =
    let gone : bit_at (without word k) k ≡ 0 = bit_at_clear_same w64 word k within in
    elim (cases_eq (without word k) word) [
      | inl same ↦ absurd (let both : bit_at (without word k) k ≡ bit_at word k = ap (λ x. bit_at x k) same in omega arith)
      | inr other ↦ omega (arith, and_le_l word (bit_not w64 (1 * 2 ^ k % 2 ^ 64)))
    ]

-- the link of one bit more was moved on
pub one_bit_more : (left bit : ℕ) (start xs ys : List (Option Link)) (marks marks' : Marks) → bit < 64 → bit_at left bit ≡ 1 → Pumping (BitClear left) (BitLeft left) start xs marks → MovesOnAt bit xs ys marks marks'
    → Pumping (BitClear (without left bit)) (BitLeft (without left bit)) start ys marks'
one_bit_more left bit start xs ys marks marks' within set was step =
    one_more (BitClear left) (BitLeft left) (BitClear (without left bit)) (BitLeft (without left bit)) bit start xs ys marks marks' was step (λ lt. set)
    (λ p ne done. (done.0, sym (bit_at_clear_other w64 left bit within p done.0 ne) ∙ done.1)) (λ p l. (away p l, λ lt. sym (bit_at_clear_other w64 left bit within p lt (away p l)) ∙ l lt))
  where
    away : (p : ℕ) → BitLeft (without left bit) p → p ≢ bit
    away p l = λ e. let gone : bit_at (without left bit) bit ≡ 0 = bit_at_clear_same w64 left bit within in
        let one : bit_at (without left bit) bit ≡ 1 = subst (λ (n : ℕ). BitLeft (without left bit) n) e l within in
        omega (arith, gone, one)

abbrev pub Before : ℕ → ℕ → Type 0
Before place p = p < place

abbrev pub From : ℕ → ℕ → Type 0
From place p = place ≤ p

-- where no bit is left, all that have one were moved on
pub bits_done : (left : ℕ) (start xs : List (Option Link)) (marks : Marks) → left ≡ 0 → Pumping (BitClear left) (BitLeft left) start xs marks → Pumping (Before 64) (From 64) start xs marks
bits_done left start xs marks none was = record {
  moved_on = λ p lt. was.moved_on p (lt, ap (λ n. bit_at n p) none ∙ none_set p);
  still = λ p le. was.still p (λ lt. absurd (omega (arith, lt, le)));
  moves = λ p lt d. was.moves p lt (lt, ap (λ n. bit_at n p) none ∙ none_set p);
  dues = λ p lt d. was.dues p lt (lt, ap (λ n. bit_at n p) none ∙ none_set p);
  clear = λ p lt le. absurd (omega (arith, lt, le));
}

-- one place more was moved on
pub one_place_more : (place : ℕ) (start xs ys : List (Option Link)) (marks marks' : Marks) → Pumping (Before place) (From place) start xs marks → MovesOnAt place xs ys marks marks'
    → Pumping (Before (place + 1)) (From (place + 1)) start ys marks'
one_place_more place start xs ys marks marks' was step =
    one_more (Before place) (From place) (Before (place + 1)) (From (place + 1)) place start xs ys marks marks' was step (omega arith)
    (λ p ne lt. omega (arith, ne, lt)) (λ p le. ((λ e. omega (arith, e, le)), omega (arith, le)))

-- all were moved on
pub record AllMovedOn (start xs : List (Option Link)) (marks : Marks) : Type 0 where
  pub each : (p : ℕ) → MovesOn (slice_index_or start p None) (slice_index_or xs p None)
  pub moves : TellMoved marks.moved xs
  pub dues : TellDue marks.due xs

pub all_moved_on : (place : ℕ) (start xs : List (Option Link)) (marks : Marks) → 64 ≤ place → length xs ≤ place → length xs ≡ length start → Pumping (Before place) (From place) start xs marks → AllMovedOn start xs marks
all_moved_on place start xs marks some end same was = record {
  each = λ p. by_place p (below_or_not p place);
  moves = λ p lt. was.moves p lt (omega (arith, lt, some));
  dues = λ p lt. was.dues p lt (omega (arith, lt, some));
}
  where
    by_place : (p : ℕ) → ((p < place) ⊎ (place ≤ p)) → MovesOn (slice_index_or start p None) (slice_index_or xs p None)
    by_place p (inl lt) = was.moved_on p lt
    by_place p (inr le) = rw (past_end start p None (omega (arith, le, same, end)), past_end xs p None (omega (arith, le, end))) (quiet None refl)

-- the same links lie below the same peer
joined_same : (x y : Option Link) → SameSlot x y → is_joined x ≡ false → is_joined y ≡ false
joined_same None None same e = refl
joined_same None (Some b) same e = absurd same
joined_same (Some a) y same e = absurd cc

pub below_along : (span : ℕ) (xs ys : List (Option Link)) → ((p : ℕ) → SameSlot (slice_index_or xs p None) (slice_index_or ys p None)) → LieBelow span xs → LieBelow span ys
below_along span xs ys same below p le = joined_same (slice_index_or xs p None) (slice_index_or ys p None) (same p) (below p le)
