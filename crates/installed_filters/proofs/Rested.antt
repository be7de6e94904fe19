-- Programs that go to rest as their filters lapse.
use Rattle.std.proofs.Common.{◌≡◌, ◌<◌, ◌≤◌, ◌+◌, ◌-◌, ◌==◌, ◌⊎◌, ◌↔◌, inl, inr, ℕ, suc, Bool, true, false, Option, Some, None, List, [], ◌∷◌, Contains, refl, ap, sym, ◌∙◌, subst, arith}
use Rattle.std.proofs.lemmas.Bool.{cases_eq, cases_lt}
use Rattle.std.specs.Prelude.{if◌then◌else◌}
use Rattle.bpf_insn.specs.declared.insn.Insn.{Insn}
use Rattle.chunked.specs.Maps.{SortedMap, value_at}
use Rattle.installed_filters.specs.Numbering.{Numbering, Has, IsFresh}
use Rattle.installed_filters.specs.declared.slots.Slot.{Slot}
use Rattle.installed_filters.specs.Slotting.{slot_at, one_lapsed}
use Rattle.installed_filters.specs.Counts.{number_of}
use Rattle.installed_filters.specs.declared.books.Row.{Row}
use Rattle.installed_filters.specs.Books.{AreBooked, IsTally, tally, has_number, holds_number}
use Rattle.installed_filters.specs.Listing.{AreListed, AreListedFor, AreThose, IsWith, IsWithout, Rests, Runs}
use Rattle.installed_filters.specs.Homes.{AreProgramsApart, program_in}
use Rattle.installed_filters.specs.Lapsing.{AreCountedHeld, AreHeldRows, AreOfHeld, AreRestingOr, HoldsMore, IsOfOne, IsUnheld, fewer_held, slots_counted, slots_lapsed}
use Rattle.filter_table.proofs.Lists.{first_or_later, never}
use Rattle.installed_filters.proofs.Booked.{eq_no, eq_yes, yes_eq}
use Rattle.installed_filters.proofs.Received.{tally_found}
use Rattle.installed_filters.proofs.Rows.{booked_slot, found_in, tally_some}
use Rattle.installed_filters.proofs.Through.{needs_none, only_next, only_now}

same_slot : (a b : Slot) → Some a ≡ Some b → a ≡ b
same_slot a b e = cc

-- A slot of which fewer filters are held

fewer_slot : (count : ℕ) (o : Option Slot) (t : Slot) → fewer_held count o ≡ Some t → (b : Slot) × (o ≡ Some b) × (t.program ≡ b.program) × (t.held ≡ b.held - count)
fewer_slot count None t e = absurd cc
fewer_slot count (Some b) t e =
    let is = same_slot (record b { held = b.held - count }) t e in
    (b, refl, ap (λ (x : Slot). x.program) (sym is), ap (λ (x : Slot). x.held) (sym is))

-- so many filters of each number
abbrev fewer : List (Option Slot) → (ℕ → ℕ) → ℕ → Option Slot
fewer slots count m = fewer_held (count m) (slot_at slots m)

fewer_runs : (slots : List (Option Slot)) (count : ℕ → ℕ) (m : ℕ) (p : List Insn) → Runs (fewer slots count) m p → Runs (slot_at slots) m p
fewer_runs slots count m p x =
    let b = fewer_slot (count m) (slot_at slots m) x.0 x.1 in
    let some = x.3 in
    let held = b.3 in
    (b.0, b.1, sym b.2 ∙ x.2, omega arith)

still_rests : (slots : List (Option Slot)) (count : ℕ → ℕ) (m : ℕ) (p : List Insn) → Rests (slot_at slots) m p → Rests (fewer slots count) m p
still_rests slots count m p x =
    let none = x.3 in
    (record x.0 { held = x.0.held - count m }, ap (fewer_held (count m)) x.1, x.2, omega arith)

-- no filter lapses of a number that rests only before
fewer_rests : (slots : List (Option Slot)) (count : ℕ → ℕ) (m : ℕ) (p : List Insn) → Rests (fewer slots count) m p → Rests (slot_at slots) m p ⊎ ((0 < count m) × (program_in (slot_at slots m) ≡ p))
fewer_rests slots count m p x =
    let b = fewer_slot (count m) (slot_at slots m) x.0 x.1 in
    let none = x.3 in
    let held = b.3 in
    elim (cases_lt 0 (count m)) [
      | inl some ↦ inr (some, ap program_in b.1 ∙ (sym b.2 ∙ x.2))
      | inr nobody ↦ inl (b.0, b.1, sym b.2 ∙ x.2, omega arith)
    ]

-- One more filter of a number is counted

module _ (slots : List (Option Slot)) (counts counts' : List (ℕ × ℕ)) (resting : Numbering) (number : ℕ) (s : Slot) (there : slot_at slots number ≡ Some s) (more : number_of (value_at counts number) < s.held)
    (h : AreThose resting (λ m p. Rests (slot_at slots) m p ⊎ Rests (slots_counted slots counts) m p)) where
  -- the program of the number doesn't rest
  none_here : (t : Slot) → slot_at slots number ≡ Some t → (t.held ≡ 0) ⊎ (t.held - number_of (value_at counts number) ≡ 0) → ⊥
  none_here t at zeroed =
      let is = ap (λ (x : Slot). x.held) (same_slot t s (sym at ∙ there)) in
      elim zeroed [ inl none ↦ omega arith | inr none ↦ omega arith ]

  -- a program that is listed has a slot that has none held
  slot_of : (m : ℕ) (p : List Insn) → Has resting m p → (t : Slot) × (slot_at slots m ≡ Some t) × (t.program ≡ p) × ((t.held ≡ 0) ⊎ (t.held - number_of (value_at counts m) ≡ 0))
  slot_of m p x = elim ((h m p).0 x) [
    | inl was ↦ (was.0, was.1, was.2, inl was.3)
    | inr next ↦ (let b = fewer_slot (number_of (value_at counts m)) (slot_at slots m) next.0 next.1 in (b.0, b.1, sym b.2 ∙ next.2, inr (sym b.3 ∙ next.3)))
  ]

  pub counted_fresh : AreProgramsApart slots → IsFresh resting number s.program
  counted_fresh apart = record {
    program_fresh = λ m x.
        let o = slot_of m s.program x in
        let here = apart m number o.0 s o.1 there o.2 in
        none_here o.0 (sym (ap (slot_at slots) here) ∙ o.1) (subst (λ (k : ℕ). (o.0.held ≡ 0) ⊎ (o.0.held - number_of (value_at counts k) ≡ 0)) here o.3);
    number_fresh = λ p x. (let o = slot_of number p x in none_here o.0 o.1 o.3);
  }

  module _ (step : (m : ℕ) → number_of (value_at counts' m) ≡ (if m == number then number_of (value_at counts number) + 1 else number_of (value_at counts m))) where
    counted_here : number_of (value_at counts' number) ≡ number_of (value_at counts number) + 1
    counted_here = let c = step number in let t = eq_yes number number refl in rw t at c

    counted_there : (m : ℕ) → (m ≡ number → ⊥) → number_of (value_at counts' m) ≡ number_of (value_at counts m)
    counted_there m off = let c = step m in let t = eq_no m number off in rw t at c

    -- at another number nothing changes
    rests_there : (m : ℕ) (p : List Insn) → (m ≡ number → ⊥) → Rests (slots_counted slots counts') m p → Rests (slots_counted slots counts) m p
    rests_there m p off x = (x.0, ap (λ (n : ℕ). fewer_held n (slot_at slots m)) (sym (counted_there m off)) ∙ x.1, x.2, x.3)

    rests_later : (m : ℕ) (p : List Insn) → (m ≡ number → ⊥) → Rests (slots_counted slots counts) m p → Rests (slots_counted slots counts') m p
    rests_later m p off x = (x.0, ap (λ (n : ℕ). fewer_held n (slot_at slots m)) (counted_there m off) ∙ x.1, x.2, x.3)

    -- a program that is listed stays
    stays : (m : ℕ) (p : List Insn) → Has resting m p → Rests (slot_at slots) m p ⊎ Rests (slots_counted slots counts') m p
    stays m p x = elim (cases_eq m number) [
      | inl here ↦ absurd (
          let o = slot_of m p x in
          none_here o.0 (sym (ap (slot_at slots) here) ∙ o.1) (subst (λ (k : ℕ). (o.0.held ≡ 0) ⊎ (o.0.held - number_of (value_at counts k) ≡ 0)) here o.3))
      | inr off ↦ elim ((h m p).0 x) [ inl was ↦ inl was | inr next ↦ inr (rests_later m p off next) ]
    ]

    -- others of the number are held
    pub counted_on : number_of (value_at counts number) + 1 < s.held → AreThose resting (λ m p. Rests (slot_at slots) m p ⊎ Rests (slots_counted slots counts') m p)
    counted_on still m p = (
      stays m p,
      λ x. (h m p).1 (elim x [
        | inl was ↦ inl was
        | inr next ↦ elim (cases_eq m number) [
          | inl here ↦ absurd (
              let b = fewer_slot (number_of (value_at counts' m)) (slot_at slots m) next.0 next.1 in
              let is = ap (λ (y : Slot). y.held) (same_slot b.0 s (sym b.1 ∙ (ap (slot_at slots) here ∙ there))) in
              let count = ap (λ (k : ℕ). number_of (value_at counts' k)) here ∙ counted_here in
              let held = b.3 in
              let none = next.3 in
              omega arith)
          | inr off ↦ inr (rests_there m p off next)
        ]
      ]),
    )

    -- it was the last
    pub counted_off : (resting' : Numbering) → s.held ≤ number_of (value_at counts number) + 1 → IsWith resting number s.program resting' → AreThose resting' (λ m p. Rests (slot_at slots) m p ⊎ Rests (slots_counted slots counts') m p)
    counted_off resting' last with' m p = (
      λ x. elim ((with' m p).0 x) [
        | inl was ↦ stays m p was
        | inr new ↦ inr (
          record s { held = s.held - number_of (value_at counts' m) },
          ap (fewer_held (number_of (value_at counts' m))) (ap (slot_at slots) new.0 ∙ there),
          sym new.1,
          (let count = ap (λ (k : ℕ). number_of (value_at counts' k)) new.0 ∙ counted_here in omega arith),
        )
      ],
      λ x. (with' m p).1 (elim x [
        | inl was ↦ inl ((h m p).1 (inl was))
        | inr next ↦ elim (cases_eq m number) [
          | inl here ↦ (
              let b = fewer_slot (number_of (value_at counts' m)) (slot_at slots m) next.0 next.1 in
              let is = same_slot b.0 s (sym b.1 ∙ (ap (slot_at slots) here ∙ there)) in
              inr (here, sym next.2 ∙ (b.2 ∙ ap (λ (y : Slot). y.program) is)))
          | inr off ↦ inl ((h m p).1 (inr (rests_there m p off next)))
        ]
      ]),
    )

-- All of them are counted

-- so many are counted, and the others are left
abbrev pub AreCountedSo : List (ℕ × ℕ) → List (ℕ × Row) → List (ℕ × Row) → Type 0
AreCountedSo counts rest all = (m : ℕ) → number_of (value_at counts m) + tally (has_number m) rest ≡ tally (has_number m) all

pub counted_none : (counts : List (ℕ × ℕ)) (all : List (ℕ × Row)) → counts ≡ [] → AreCountedSo counts all all
counted_none counts all none m = subst (λ (es : List (ℕ × ℕ)). number_of (value_at es m) + tally (has_number m) all ≡ tally (has_number m) all) (sym none) (omega arith)

pub counted_more : (counts counts' : List (ℕ × ℕ)) (e : ℕ × Row) (rest all : List (ℕ × Row)) → ((m : ℕ) → number_of (value_at counts' m) ≡ (if m == e.1.number then number_of (value_at counts e.1.number) + 1 else number_of (value_at counts m)))
    → AreCountedSo counts (e ∷ rest) all → AreCountedSo counts' rest all
counted_more counts counts' e rest all step h m = by_test (m == e.1.number) refl
  where
    by_test : (t : Bool) → (m == e.1.number) ≡ t → number_of (value_at counts' m) + tally (has_number m) rest ≡ tally (has_number m) all
    by_test true t =
        let is : m ≡ e.1.number = yes_eq m e.1.number t in
        let c = step m in
        let c' : number_of (value_at counts' m) ≡ number_of (value_at counts e.1.number) + 1 = rw t at c in
        let own : number_of (value_at counts e.1.number) ≡ number_of (value_at counts m) = ap (λ (k : ℕ). number_of (value_at counts k)) (sym is) in
        let one : tally (has_number m) (e ∷ rest) ≡ suc (tally (has_number m) rest) = rw (eq_yes e.1.number m (sym is)) refl in
        let was = h m in
        omega (arith, c', own, one, was)
    by_test false t =
        let off : e.1.number ≡ m → ⊥ = λ same. (let y = eq_yes m e.1.number (sym same) in cc) in
        let c = step m in
        let c' : number_of (value_at counts' m) ≡ number_of (value_at counts m) = rw t at c in
        let one : tally (has_number m) (e ∷ rest) ≡ tally (has_number m) rest = rw (eq_no e.1.number m off) refl in
        let was = h m in
        omega (arith, c', one, was)

-- more are held than were counted before this one
pub holds_more : (slots : List (Option Slot)) (counts : List (ℕ × ℕ)) (e : ℕ × Row) (rest all : List (ℕ × Row)) (s : Slot) → slot_at slots e.1.number ≡ Some s → tally (has_number e.1.number) all ≤ s.held
    → AreCountedSo counts (e ∷ rest) all → HoldsMore (slot_at slots e.1.number) (number_of (value_at counts e.1.number))
holds_more slots counts e rest all s at most h =
    let one : tally (has_number e.1.number) (e ∷ rest) ≡ suc (tally (has_number e.1.number) rest) = rw (eq_yes e.1.number e.1.number refl) refl in
    let was = h e.1.number in
    (s, at, omega (arith, one, was, most))

pub counted_all : (slots : List (Option Slot)) (counts : List (ℕ × ℕ)) (rest all : List (ℕ × Row)) (resting : Numbering) → rest ≡ [] → AreCountedSo counts rest all → AreThose resting (λ m p. Rests (slot_at slots) m p ⊎ Rests (slots_counted slots counts) m p)
    → AreThose resting (λ m p. Rests (slot_at slots) m p ⊎ Rests (slots_lapsed slots all) m p)
counted_all slots counts rest all resting none h are m p = (
  λ x. elim ((are m p).0 x) [ inl was ↦ inl was | inr next ↦ inr (next.0, sym (same m) ∙ next.1, next.2, next.3) ],
  λ x. (are m p).1 (elim x [ inl was ↦ inl was | inr next ↦ inr (next.0, same m ∙ next.1, next.2, next.3) ]),
)
  where
    same : (k : ℕ) → slots_counted slots counts k ≡ slots_lapsed slots all k
    same k = ap (λ (n : ℕ). fewer_held n (slot_at slots k)) (let was = h k in let over = ap (tally (has_number k)) none in omega (arith, was, over))

-- no slot has fewer so far
pub counted_begins : (slots : List (Option Slot)) (counts : List (ℕ × ℕ)) (resting : Numbering) → counts ≡ [] → AreThose resting (Rests (slot_at slots)) → AreThose resting (λ m p. Rests (slot_at slots) m p ⊎ Rests (slots_counted slots counts) m p)
counted_begins slots counts resting none are m p = (
  λ x. inl ((are m p).0 x),
  λ x. (are m p).1 (elim x [
    | inl was ↦ was
    | inr next ↦ elim (fewer_rests slots (λ k. number_of (value_at counts k)) m p next) [
      | inl was ↦ was
      | inr some ↦ absurd (let zeroed = ap (λ (es : List (ℕ × ℕ)). number_of (value_at es m)) none in let over = some.0 in omega (arith, over, zeroed))
    ]
  ]),
)

-- those that are there are of the filters that lapse
pub counted_some : (slots : List (Option Slot)) (counts : List (ℕ × ℕ)) (rest all : List (ℕ × Row)) (resting : Numbering) → AreCountedSo counts rest all → AreThose resting (λ m p. Rests (slot_at slots) m p ⊎ Rests (slots_counted slots counts) m p) → AreRestingOr slots all resting
counted_some slots counts rest all resting h are = record {
  all = λ m p x. (are m p).1 (inl x);
  others = λ m p x. elim ((are m p).0 x) [
    | inl was ↦ inl was
    | inr next ↦ elim (fewer_rests slots (λ k. number_of (value_at counts k)) m p next) [
      | inl was ↦ inl was
      | inr some ↦ inr (of_one all m p (let over = some.0 in let sum = h m in omega (arith, over, sum)) some.1)
    ]
  ];
}
  where
    of_one : (es : List (ℕ × Row)) (m : ℕ) (p : List Insn) → 0 < tally (has_number m) es → program_in (slot_at slots m) ≡ p → IsOfOne slots es m p
    of_one es m p some is = let found = tally_found (has_number m) es some in (found.0, found.1, yes_eq found.0.1.number m found.2, is)

-- the slot that is found
pub more_here : (slots : List (Option Slot)) (number count : ℕ) (s : Slot) → Some s ≡ slot_at slots number → HoldsMore (slot_at slots number) count → count < s.held
more_here slots number count s there more = subst (λ (t : Slot). count < t.held) (same_slot more.0 s (sym more.1 ∙ sym there)) more.2

-- Programs that wake again

-- the slots of filters that are held
pub held_slots : (rows : List (ℕ × Row)) (slots : List (Option Slot)) (ends : List (SortedMap ℕ)) (lapsing : List (ℕ × Row)) → AreBooked rows slots ends → AreHeldRows rows lapsing → AreOfHeld slots lapsing
held_slots rows slots ends lapsing booked h e at =
    let there = found_in rows e.0 e.1 (h.there e at) in
    let s = booked_slot rows slots ends booked (e.0, e.1) there in
    let tallied = subst (λ (o : Option Slot). IsTally o (tally (has_number e.1.number) rows) (tally (holds_number e.1.number) rows)) s.1 (booked.filters e.1.number) in
    let some = tally_some (holds_number e.1.number) rows (e.0, e.1) there (rw (h.held e at) (eq_yes e.1.number e.1.number refl)) in
    let count = tallied.1 in
    (s.0, s.1, omega (arith, some, count))

pub held_here : (slots : List (Option Slot)) (lapsing : List (ℕ × Row)) (e : ℕ × Row) (s : Slot) → AreOfHeld slots lapsing → Contains lapsing e → slot_at slots e.1.number ≡ Some s → 0 < s.held
held_here slots lapsing e s h at there = let t = h e at in subst (λ (x : Slot). 0 < x.held) (same_slot t.0 s (sym t.1 ∙ there)) t.2

pub not_there : (slots : List (Option Slot)) (lapsing : List (ℕ × Row)) (e : ℕ × Row) → AreOfHeld slots lapsing → Contains lapsing e → slot_at slots e.1.number ≡ None → ⊥
not_there slots lapsing e h at none = let t = h e at in let clash = sym none ∙ t.1 in cc

pub of_held : (slots : List (Option Slot)) (lapsing : List (ℕ × Row)) → AreCountedHeld slots lapsing → AreOfHeld slots lapsing
of_held slots lapsing h e at =
    let s = h e at in
    let some = tally_some (has_number e.1.number) lapsing e at (eq_yes e.1.number e.1.number refl) in
    let most = s.2 in
    (s.0, s.1, omega (arith, some, most))

pub wake_one : (slots : List (Option Slot)) (e : ℕ × Row) (rest : List (ℕ × Row)) (s : Slot) (resting resting' : Numbering) → AreProgramsApart slots → slot_at slots e.1.number ≡ Some s → 0 < s.held → IsWithout resting s.program resting' → AreRestingOr slots (e ∷ rest) resting
    → AreRestingOr slots rest resting'
wake_one slots e rest s resting resting' apart at some less h = record {
  all = λ m p x. (less m p).1 (
    h.all m p x,
    λ is.
        let here = apart m e.1.number x.0 s x.1 at (x.2 ∙ is) in
        let none = x.3 in
        absurd (let flip = ap (λ (y : Slot). y.held) (same_slot x.0 s (sym x.1 ∙ (ap (slot_at slots) here ∙ at))) in omega arith),
  );
  others = λ m p x.
      let y = (less m p).0 x in
      elim (h.others m p y.0) [
        | inl was ↦ inl was
        | inr one ↦ elim (first_or_later e rest one.0 one.1) [
          | inl same ↦ absurd (y.1 (sym one.3 ∙ (ap (λ (k : ℕ). program_in (slot_at slots k)) (sym one.2 ∙ ap (λ (r : ℕ × Row). r.1.number) (sym same)) ∙ ap program_in at)))
          | inr later ↦ inr (one.0, later, one.2, one.3)
        ]
      ];
}

pub woken : (slots : List (Option Slot)) (rest : List (ℕ × Row)) (resting : Numbering) → rest ≡ [] → AreRestingOr slots rest resting → AreThose resting (Rests (slot_at slots))
woken slots rest resting none h m p = (
  λ x. elim (h.others m p x) [ inl was ↦ was | inr one ↦ absurd (never one.0 (subst (λ (es : List (ℕ × Row)). Contains es one.0) none one.1)) ],
  h.all m p,
)

-- The lists while filters are to lapse, and afterwards

module _ (slots : List (Option Slot)) (lapsing : List (ℕ × Row)) where
  pub lapse_planned : (running resting' : Numbering) → AreThose running (Runs (slot_at slots)) → AreThose resting' (λ m p. Rests (slot_at slots) m p ⊎ Rests (slots_lapsed slots lapsing) m p) → AreListedFor (slot_at slots) (slots_lapsed slots lapsing) running resting'
  lapse_planned running resting' runs rests = record { run = needs_none running (Runs (slot_at slots)) (Runs (slots_lapsed slots lapsing)) runs (fewer_runs slots (λ m. tally (has_number m) lapsing)); rest = rests }

  pub lapse_runs : (m : ℕ) (p : List Insn) → Runs (slots_lapsed slots lapsing) m p → Runs (slot_at slots) m p
  lapse_runs = fewer_runs slots (λ m. tally (has_number m) lapsing)

  pub running_still : (running resting : Numbering) → AreListedFor (slot_at slots) (slots_lapsed slots lapsing) running resting → AreThose running (Runs (slot_at slots))
  running_still running resting h = only_now running (Runs (slot_at slots)) (Runs (slots_lapsed slots lapsing)) h.run lapse_runs

  pub resting_or : (running resting : Numbering) → AreListedFor (slot_at slots) (slots_lapsed slots lapsing) running resting → AreRestingOr slots lapsing resting
  resting_or running resting h = record {
    all = λ m p x. (h.rest m p).1 (inl x);
    others = λ m p x. elim ((h.rest m p).0 x) [
      | inl was ↦ inl was
      | inr next ↦ elim (fewer_rests slots (λ k. tally (has_number k) lapsing) m p next) [
        | inl was ↦ inl was
        | inr some ↦ (let found = tally_found (has_number m) lapsing some.0 in inr (found.0, found.1, yes_eq found.0.1.number m found.2, some.1))
      ]
    ];
  }

  pub have_lapsed : (running running' resting : Numbering) → AreListedFor (slot_at slots) (slots_lapsed slots lapsing) running resting → AreThose running' (Runs (slots_lapsed slots lapsing)) → AreListed (slots_lapsed slots lapsing) running' resting
  have_lapsed running running' resting h runs = record {
    run = runs;
    rest = only_next resting (Rests (slot_at slots)) (Rests (slots_lapsed slots lapsing)) h.rest (still_rests slots (λ m. tally (has_number m) lapsing));
  }

-- A filter lapses, and its program stops if it was the last

module _ (slots slots' : List (Option Slot)) (number : ℕ) (slots_at : (m : ℕ) → slot_at slots' m ≡ (if m == number then one_lapsed (slot_at slots number) else slot_at slots m)) where
  other_at : (m : ℕ) → (m ≡ number → ⊥) → slot_at slots' m ≡ slot_at slots m
  other_at m off = let a = slots_at m in let t = eq_no m number off in rw t at a

  own_at : slot_at slots' number ≡ one_lapsed (slot_at slots number)
  own_at = let a = slots_at number in let t = eq_yes number number refl in rw t at a

  lapsed_slot : (o : Option Slot) (t : Slot) → one_lapsed o ≡ Some t → (s : Slot) × (o ≡ Some s) × (t.program ≡ s.program) × (t.held ≡ s.held - 1)
  lapsed_slot o t e = fewer_slot 1 o t (as_fewer o ∙ e)
    where
      as_fewer : (a : Option Slot) → fewer_held 1 a ≡ one_lapsed a
      as_fewer None = refl
      as_fewer (Some s) = refl

  pub stopped : (running running' : Numbering) → AreProgramsApart slots → AreThose running (Runs (slot_at slots)) → ((m : ℕ) (p : List Insn) → Has running' m p ↔ (Has running m p × (IsUnheld (slot_at slots' number) → p ≡ program_in (slot_at slots' number) → ⊥)))
      → AreThose running' (Runs (slot_at slots'))
  stopped running running' apart h less m p = (
    λ x. (let y = (less m p).0 x in on m p ((h m p).0 y.0) y.1),
    λ x. (let y = before m p x in (less m p).1 ((h m p).1 y, other m p x)),
  )
    where
      before : (k : ℕ) (q : List Insn) → Runs (slot_at slots') k q → Runs (slot_at slots) k q
      before k q x = elim (cases_eq k number) [
        | inl here ↦
            let s = lapsed_slot (slot_at slots number) x.0 (sym own_at ∙ (sym (ap (slot_at slots') here) ∙ x.1)) in
            let some = x.3 in
            let held = s.3 in
            (s.0, ap (slot_at slots) here ∙ s.1, sym s.2 ∙ x.2, omega arith)
        | inr off ↦ (x.0, sym (other_at k off) ∙ x.1, x.2, x.3)
      ]

      on : (k : ℕ) (q : List Insn) → Runs (slot_at slots) k q → (IsUnheld (slot_at slots' number) → q ≡ program_in (slot_at slots' number) → ⊥) → Runs (slot_at slots') k q
      on k q x keeps = elim (cases_eq k number) [
        | inl here ↦
            let is : slot_at slots' number ≡ Some (record x.0 { held = x.0.held - 1 }) = own_at ∙ ap one_lapsed (sym (ap (slot_at slots) here) ∙ x.1) in
            elim (cases_lt 0 (x.0.held - 1)) [
              | inl some ↦ (record x.0 { held = x.0.held - 1 }, ap (slot_at slots') here ∙ is, x.2, some)
              | inr none ↦ absurd (keeps (subst IsUnheld (sym is) (omega arith)) (sym x.2 ∙ sym (ap program_in is)))
            ]
        | inr off ↦ (x.0, other_at k off ∙ x.1, x.2, x.3)
      ]

      held_none : (o : Option Slot) (t : Slot) → IsUnheld o → o ≡ Some t → t.held ≡ 0
      held_none None t none is = absurd none
      held_none (Some s) t none is = ap (λ (y : Slot). y.held) (same_slot t s (sym is)) ∙ none

      other : (k : ℕ) (q : List Insn) → Runs (slot_at slots') k q → IsUnheld (slot_at slots' number) → q ≡ program_in (slot_at slots' number) → ⊥
      other k q x none same = elim (cases_eq k number) [
        | inl here ↦ (let zeroed = held_none (slot_at slots' number) x.0 none (sym (ap (slot_at slots') here) ∙ x.1) in let some = x.3 in omega arith)
        | inr off ↦ (
            let u = unheld_slot (slot_at slots' number) none in
            let s = lapsed_slot (slot_at slots number) u.0 (sym own_at ∙ u.1) in
            off (apart k number x.0 s.0 (sym (other_at k off) ∙ x.1) s.1 (x.2 ∙ (same ∙ (ap program_in u.1 ∙ s.2)))))
      ]
        where
          unheld_slot : (o : Option Slot) → IsUnheld o → (t : Slot) × (o ≡ Some t)
          unheld_slot None n = absurd n
          unheld_slot (Some t) n = (t, refl)
