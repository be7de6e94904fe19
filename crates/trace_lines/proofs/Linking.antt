-- The events of a picture, one after the other.
use Rattle.std.proofs.Common.{◌≡◌, ℕ, suc, ◌+◌, ◌-◌, ◌<◌, ◌≤◌, ◌==◌, ◌&&◌, Bool, true, false, cond, if◌then◌else◌, List, [], ◌∷◌, ◌++◌, length, take, drop, drop-cons, add-one, get_or, Option, refl, ap, sym, ◌∙◌, subst, arith, append_assoc, length-append, inl, inr}
use Rattle.std.specs.Prelude.{filter, map, not, nat_le, slice_set}
use Rattle.std.specs.List.{enumerate_from, flat_map, position_or_len}
use Rattle.std.proofs.lemmas.List.{append-nil, drop_all, map-append, take-append-le}
use Rattle.std.proofs.Math.Seq.{take-append-add, take-append_seam}
use Rattle.std.proofs.lemmas.List.Elements.{filter-append}
use Rattle.std.proofs.lemmas.Bool.{cases_lt, le-leb, lt-leb, eqb-true, and_parts}
use Rattle.std.proofs.lemmas.Bool.Decides.{nat_tests}
use Rattle.trace_lines.specs.declared.event.TraceEvent.{TraceEvent}
use Rattle.trace_lines.specs.declared.messages.Effect.{Effect}
use Rattle.trace_lines.specs.declared.messages.Front.{Front}
use Rattle.trace_lines.specs.declared.messages.TraceMessage.{TraceMessage}
use Rattle.trace_lines.specs.declared.messages.State.{State}
use Rattle.trace_lines.specs.declared.lines.Line.{Line}
use Rattle.trace_lines.specs.declared.picture.Row.{Row}
use Rattle.trace_lines.specs.Lines.{Shown}
use Rattle.trace_lines.specs.Links.{Drawn, acks, acks_after, asker, asker_after, drawn_from, drawn_of, effect_at, ends_at, highest_of, is_between, is_under_way, kept, left_of, past_after, sender, sends, sent, taken, under_way}
use Rattle.trace_lines.specs.Following.{Follows, HasTaken, front, is_front}
use Rattle.trace_lines.specs.Views.{drawn, shown}
use Rattle.trace_lines.proofs.Fronts.{parts_to}

-- A front that is set

twice : (b : Bool) (k m n : ℕ) → (if b then k else n) ≡ (if b then k else (if b then m else n))
twice true k m n = refl
twice false k m n = refl

exchanged : (a b : Bool) (k m n : ℕ) → (a ≡ true → b ≡ false) → (if a then k else (if b then m else n)) ≡ (if b then m else (if a then k else n))
exchanged true true k m n apart = absurd (let e = apart refl in cc)
exchanged true false k m n apart = refl
exchanged false b k m n apart = refl

-- a front of the same cores
same_cores : (x v : Front) (from to : ℕ) → is_front v.from v.to x ≡ true → is_front from to x ≡ is_front from to v
same_cores x v from to same =
    let both = and_parts (x.from == v.from) (x.to == v.to) same in
    let e = eqb-true x.from v.from both.0 in
    let f = eqb-true x.to v.to both.1 in
    ap (λ n. n == from && x.to == to) e ∙ ap (λ n. v.from == from && n == to) f

other_cores : (x v : Front) (from to : ℕ) → is_front v.from v.to x ≡ false → is_front from to x ≡ true → is_front from to v ≡ false
other_cores x v from to other here =
    let both = and_parts (x.from == from) (x.to == to) here in
    let e = eqb-true x.from from both.0 in
    let f = eqb-true x.to to both.1 in
    grind (arith, nat_tests)

set_step : (b : Bool) (v x : Front) (xs : List Front) (from to : ℕ) → is_front v.from v.to x ≡ b
    → (position_or_len (is_front v.from v.to) xs < length xs → front from to (slice_set xs (position_or_len (is_front v.from v.to) xs) v) ≡ (if is_front from to v then v.place else front from to xs))
    → cond (not b) (1 + position_or_len (is_front v.from v.to) xs) 0 < suc (length xs)
    → front from to (slice_set (x ∷ xs) (cond (not b) (1 + position_or_len (is_front v.from v.to) xs) 0) v) ≡ (if is_front from to v then v.place else front from to (x ∷ xs))
set_step true v x xs from to here h within =
    rw (same_cores x v from to here) (twice (is_front from to v) v.place x.place (front from to xs))
set_step false v x xs from to here h within =
    let e : 1 + position_or_len (is_front v.from v.to) xs ≡ suc (position_or_len (is_front v.from v.to) xs) = omega arith in
    rw (e, h (omega arith)) (exchanged (is_front from to x) (is_front from to v) x.place v.place (front from to xs) (other_cores x v from to here))

set_first : (v : Front) (from to : ℕ) (fs : List Front) → position_or_len (is_front v.from v.to) fs < length fs
    → front from to (slice_set fs (position_or_len (is_front v.from v.to) fs) v) ≡ (if is_front from to v then v.place else front from to fs)
set_first v from to [] within = absurd (omega arith)
set_first v from to (x ∷ xs) within = set_step (is_front v.from v.to x) v x xs from to refl (set_first v from to xs) within

pub front-set : (v : Front) (fs : List Front) (place : ℕ) → place ≡ position_or_len (is_front v.from v.to) fs → place < length fs → (from to : ℕ)
    → front from to (slice_set fs place v) ≡ (if is_front from to v then v.place else front from to fs)
front-set v fs place at within from to =
    let first = set_first v from to fs (subst (λ n. n < length fs) at within) in
    subst (λ n. front from to (slice_set fs n v) ≡ (if is_front from to v then v.place else front from to fs)) (sym at) first

push_step : (b : Bool) (v x : Front) (xs : List Front) (from to : ℕ) → is_front v.from v.to x ≡ b
    → (length xs ≤ position_or_len (is_front v.from v.to) xs → front from to (xs ++ v ∷ []) ≡ (if is_front from to v then v.place else front from to xs))
    → suc (length xs) ≤ cond (not b) (1 + position_or_len (is_front v.from v.to) xs) 0
    → front from to (x ∷ (xs ++ v ∷ [])) ≡ (if is_front from to v then v.place else front from to (x ∷ xs))
push_step true v x xs from to here h past = absurd (omega arith)
push_step false v x xs from to here h past =
    rw (h (omega arith)) (exchanged (is_front from to x) (is_front from to v) x.place v.place (front from to xs) (other_cores x v from to here))

push_first : (v : Front) (from to : ℕ) (fs : List Front) → length fs ≤ position_or_len (is_front v.from v.to) fs
    → front from to (fs ++ v ∷ []) ≡ (if is_front from to v then v.place else front from to fs)
push_first v from to [] past = refl
push_first v from to (x ∷ xs) past = push_step (is_front v.from v.to x) v x xs from to refl (push_first v from to xs) past

pub front-push : (v : Front) (fs : List Front) (place : ℕ) → place ≡ position_or_len (is_front v.from v.to) fs → length fs ≤ place → (from to : ℕ)
    → front from to (fs ++ v ∷ []) ≡ (if is_front from to v then v.place else front from to fs)
front-push v fs place at past from to = push_first v from to fs (subst (λ n. length fs ≤ n) at past)

-- An event

-- what it sends follows
pub follows_next : (highest : ℕ) (past : List TraceEvent) (event : TraceEvent) (effect : Effect) (mid new : State) → HasTaken highest past (ends_at event.act event.told) mid
    → effect ≡ effect_at event.act event.told
    → new.asker ≡ asker_after effect mid.asker → ((n : ℕ) → mid.acks ≡ highest - n → new.acks ≡ highest - acks_after effect n)
    → new.messages.items ≡ mid.messages.items ++ sends highest past effect → new.fronts.items ≡ mid.fronts.items
    → Follows highest (event ∷ past) new
follows_next highest past event effect mid new so is asker_is acks_are messages fronts = record {
  asker = asker_is ∙ ap (asker_after effect) so.asker ∙ ap (λ e. asker_after e (asker past)) is;
  acks = acks_are (acks past) so.acks ∙ ap (λ e. highest - acks_after e (acks past)) is;
  messages = messages ∙ ap (λ ms. ms ++ sends highest past effect) so.messages ∙ ap (λ e. sent highest past ++ sends highest past e) is;
  within = λ f t. let inside = so.within f t in rw (fronts, messages, length-append) (omega arith);
  taken = λ f t.
      let same = take-append-le (front f t mid.fronts.items) mid.messages.items (sends highest past effect) (so.within f t) in
      ap (λ fs. length (filter (is_between f t) (take (front f t fs) new.messages.items))) fronts
      ∙ ap (λ ms. length (filter (is_between f t) (take (front f t mid.fronts.items) ms))) messages
      ∙ ap (λ ms. length (filter (is_between f t) ms)) same ∙ so.taken f t;
}

-- The messages under way

-- of a message that passes a test: it is at a front or after it, if as many that pass are before it as before the front
after_front : (p : TraceMessage → Bool) (done rest : List TraceMessage) (m : TraceMessage) (k count : ℕ) → p m ≡ true
    → length (filter p (take k (done ++ m ∷ rest))) ≡ count → nat_le k (length done) ≡ nat_le count (length (filter p done))
after_front p done rest m k count passes counted = elim (cases_lt (length done) k) [
  | inl past ↦
      let one : length (filter p (m ∷ [])) ≡ 1 = rw passes refl in
      let here : take (length done + 1) (done ++ m ∷ rest) ≡ done ++ m ∷ [] = take-append-add done (m ∷ rest) 1 in
      let to : length (filter p (take (length done + 1) (done ++ m ∷ rest))) ≡ length (filter p done) + 1 = rw here (simp (filter-append, length-append) (omega (arith, one))) in
      let e : length done + 1 + (k - (length done + 1)) ≡ k = omega arith in
      let more = rw e at (parts_to p (length done + 1) (k - (length done + 1)) (done ++ m ∷ rest)) in
      lt-leb k (length done) past ∙ sym (lt-leb count (length (filter p done)) (omega arith))
  | inr before ↦
      let here : take (length done) (done ++ m ∷ rest) ≡ done = take-append_seam done (m ∷ rest) in
      let e : k + (length done - k) ≡ length done = omega arith in
      let more = rw (e, here) at (parts_to p k (length done - k) (done ++ m ∷ rest)) in
      le-leb k (length done) before ∙ sym (le-leb count (length (filter p done)) (omega arith))
]

between_own : (m : TraceMessage) → is_between m.from m.to m ≡ true
between_own m = grind (arith, nat_tests)

left_from : (highest : ℕ) (past : List TraceEvent) (state : State) → Follows highest past state → (done rest : List TraceMessage) → done ++ rest ≡ sent highest past
    → flat_map (λ at. kept (nat_le (front at.1.from at.1.to state.fronts.items) at.0) at.1) (enumerate_from (length done) rest)
    ≡ flat_map (λ at. kept (is_under_way highest past at.0 at.1) at.1) (enumerate_from (length done) rest)
left_from highest past state so done [] whole = refl
left_from highest past state so done (m ∷ rest) whole =
    let counted : length (filter (is_between m.from m.to) (take (front m.from m.to state.fronts.items) (done ++ m ∷ rest))) ≡ taken highest m.from m.to past =
    ap (λ ms. length (filter (is_between m.from m.to) (take (front m.from m.to state.fronts.items) ms))) (whole ∙ sym so.messages) ∙ so.taken m.from m.to in
    let here = after_front (is_between m.from m.to) done rest m (front m.from m.to state.fronts.items) (taken highest m.from m.to past) (between_own m) counted in
    let before : take (length done) (sent highest past) ≡ done = ap (take (length done)) (sym whole) ∙ take-append_seam done (m ∷ rest) in
    let test : nat_le (front m.from m.to state.fronts.items) (length done) ≡ is_under_way highest past (length done) m =
    here ∙ ap (λ ms. nat_le (taken highest m.from m.to past) (length (filter (is_between m.from m.to) ms))) (sym before) in
    let longer : length (done ++ m ∷ []) ≡ length done + 1 = length-append done (m ∷ []) in
    let later = rw longer at (left_from highest past state so (done ++ m ∷ []) rest (append_assoc done (m ∷ []) rest ∙ whole)) in
    rw (test, later) refl

pub all_left : (highest : ℕ) (past : List TraceEvent) (state : State) → Follows highest past state
    → flat_map (λ at. kept (nat_le (front at.1.from at.1.to state.fronts.items) at.0) at.1) (enumerate_from 0 state.messages.items) ≡ under_way highest past
all_left highest past state so =
    ap (λ ms. flat_map (λ at. kept (nat_le (front at.1.from at.1.to state.fronts.items) at.0) at.1) (enumerate_from 0 ms)) so.messages
    ∙ left_from highest past state so [] (sent highest past) refl

-- The rows

-- the rows so far, and the events that are still to be drawn
pub record Linked (highest row : ℕ) (all : List Shown) (rows : List Drawn) (rest : List Shown) (state : State) : Type 0 where
  pub past : List TraceEvent
  pub counted : row ≡ length past
  pub drawn : rows ++ drawn_from highest past rest ≡ drawn_from highest [] all
  pub ends : past_after past rest ≡ past_after [] all
  pub follows : Follows highest past state

-- one more event is drawn
pub linked_next : (highest row : ℕ) (lines : List Line) (rows rows' : List Row) (state state' : State) (d : Line) {from : Option ℕ} → row < length lines
    → rows' ≡ rows ++ record { row = row; sender = from; line = get_or lines row d } ∷ []
    → (so : Linked highest row (map shown lines) (map drawn rows) (map shown (drop row lines)) state)
    → from ≡ sender highest so.past (ends_at (get_or lines row d).event.act (get_or lines row d).event.told)
    → Follows highest ((get_or lines row d).event ∷ so.past) state'
    → Linked highest (row + 1) (map shown lines) (map drawn rows') (map shown (drop (row + 1) lines)) state'
linked_next highest row lines rows rows' state state' d within pushed so sent_by follows =
    let next : drop row lines ≡ get_or lines row d ∷ drop (row + 1) lines = rw add-one (drop-cons lines row d within) in
    let before = rw (next, ← so.counted) at so.drawn in
    record {
      past = (get_or lines row d).event ∷ so.past;
      counted = omega arith;
      drawn = rw (pushed, map-append, append_assoc, sent_by) before;
      ends = rw next at so.ends;
      follows = follows;
    }

-- all are drawn
pub linked_all : (highest row : ℕ) (lines : List Line) (rows : List Drawn) (state : State) → highest ≡ highest_of (map shown lines) → length lines ≤ row
    → (so : Linked highest row (map shown lines) rows (map shown (drop row lines)) state)
    → (rows ≡ drawn_of (map shown lines)) × (under_way highest so.past ≡ left_of (map shown lines))
linked_all highest row lines rows state is past so =
    let none = drop_all row lines past in
    let drawn = rw (none, append-nil) at so.drawn in
    let ends = rw none at so.ends in (
      drawn ∙ ap (λ h. drawn_from h [] (map shown lines)) is,
      ap (under_way highest) ends ∙ ap (λ h. under_way h (past_after [] (map shown lines))) is,
    )
