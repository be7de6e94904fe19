-- The lists of programs before a change, while it is planned, and after it.
use Rattle.std.proofs.Common.{◌≡◌, ◌<◌, ◌⊎◌, ◌↔◌, inl, inr, ℕ, true, Option, Some, List, length, ap, sym, ◌∙◌, subst, arith}
use Rattle.std.proofs.lemmas.Bool.{cases_lt}
use Rattle.bpf_insn.specs.declared.insn.Insn.{Insn}
use Rattle.installed_filters.specs.Numbering.{Numbering, Has, IsFresh}
use Rattle.installed_filters.specs.declared.slots.Slot.{Slot}
use Rattle.installed_filters.specs.Slotting.{slot_at}
use Rattle.installed_filters.specs.declared.books.Row.{Row}
use Rattle.installed_filters.specs.Books.{Begins, base_slot}
use Rattle.installed_filters.specs.Listing.{AreListed, AreListedFor, AreThose, IsWith, IsWithout, Rests, Runs}
use Rattle.installed_filters.specs.Homes.{AreProgramsApart, held_in, program_in, slots_with}
use Rattle.installed_filters.specs.Leaving.{GoesToRest, IsOneOf, Stops, Vanishes, slots_without}
use Rattle.installed_filters.specs.Planning.{slots_swapped}
use Rattle.installed_filters.proofs.Arrived.{own_runs, rests_before, rests_other, rests_still, runs_already, runs_before, runs_other, runs_still}
use Rattle.installed_filters.proofs.Exchanged.{between, between_apart, between_at, between_old, swapped_is}
use Rattle.installed_filters.proofs.Left.{goes_fresh, goes_other, goes_rests, rests_more, rests_on, runs_more, runs_on, slot_there, stops_other, vanishes_other}

-- One list

module _ (n n' : Numbering) (P Q : ℕ → List Insn → Type 0) where
  -- what only the change needs is put in
  pub put_in : (X : ℕ → List Insn → Type 0) → AreThose n P → ((m : ℕ) (p : List Insn) → Has n' m p ↔ (Has n m p ⊎ X m p)) → ((m : ℕ) (p : List Insn) → Q m p → P m p ⊎ X m p) → ((m : ℕ) (p : List Insn) → X m p → P m p ⊎ Q m p)
      → AreThose n' (λ m p. P m p ⊎ Q m p)
  put_in X h more to back m p = (
    λ x. elim ((more m p).0 x) [ inl was ↦ inl ((h m p).0 was) | inr new ↦ back m p new ],
    λ x. elim x [
      | inl was ↦ (more m p).1 (inl ((h m p).1 was))
      | inr next ↦ elim (to m p next) [ inl was ↦ (more m p).1 (inl ((h m p).1 was)) | inr new ↦ (more m p).1 (inr new) ]
    ],
  )

  -- what is needed before the change alone is taken out
  pub taken_out : (K : ℕ → List Insn → Type 0) → AreThose n (λ m p. P m p ⊎ Q m p) → ((m : ℕ) (p : List Insn) → Has n' m p ↔ (Has n m p × K m p)) → ((m : ℕ) (p : List Insn) → P m p → K m p → Q m p) → ((m : ℕ) (p : List Insn) → Q m p → K m p)
      → AreThose n' Q
  taken_out K h less to keeps m p = (
    λ x. (let y = (less m p).0 x in elim ((h m p).0 y.0) [ inl was ↦ to m p was y.1 | inr next ↦ next ]),
    λ x. (less m p).1 ((h m p).1 (inr x), keeps m p x),
  )

  -- what the change put in is taken back
  pub taken_back : (K : ℕ → List Insn → Type 0) → AreThose n (λ m p. P m p ⊎ Q m p) → ((m : ℕ) (p : List Insn) → Has n' m p ↔ (Has n m p × K m p)) → ((m : ℕ) (p : List Insn) → Q m p → K m p → P m p) → ((m : ℕ) (p : List Insn) → P m p → K m p)
      → AreThose n' P
  taken_back K h less to keeps m p = (
    λ x. (let y = (less m p).0 x in elim ((h m p).0 y.0) [ inl was ↦ was | inr next ↦ to m p next y.1 ]),
    λ x. (less m p).1 ((h m p).1 (inl x), keeps m p x),
  )

module _ (n : Numbering) (P Q : ℕ → List Insn → Type 0) where
  -- the change needs no others
  pub needs_none : AreThose n P → ((m : ℕ) (p : List Insn) → Q m p → P m p) → AreThose n (λ m p. P m p ⊎ Q m p)
  needs_none h to m p = (λ x. inl ((h m p).0 x), λ x. elim x [ inl was ↦ (h m p).1 was | inr next ↦ (h m p).1 (to m p next) ])

  -- nor does what was there
  pub only_next : AreThose n (λ m p. P m p ⊎ Q m p) → ((m : ℕ) (p : List Insn) → P m p → Q m p) → AreThose n Q
  only_next h to m p = (λ x. elim ((h m p).0 x) [ inl was ↦ to m p was | inr next ↦ next ], λ x. (h m p).1 (inr x))

  pub only_now : AreThose n (λ m p. P m p ⊎ Q m p) → ((m : ℕ) (p : List Insn) → Q m p → P m p) → AreThose n P
  only_now h to m p = (λ x. elim ((h m p).0 x) [ inl was ↦ was | inr next ↦ to m p next ], λ x. (h m p).1 (inl x))

pub those_same : (n n' : Numbering) (P : ℕ → List Insn → Type 0) → ((m : ℕ) (p : List Insn) → Has n' m p ↔ Has n m p) → AreThose n P → AreThose n' P
those_same n n' P same h m p = (λ x. (h m p).0 ((same m p).0 x), λ x. (same m p).1 ((h m p).1 x))

-- a program that is added or taken out under a condition
pub with_when : (n n' : Numbering) (number : ℕ) (program own : List Insn) (K : Type 0) → K → own ≡ program → IsWith n number program n' → (m : ℕ) (p : List Insn) → Has n' m p ↔ (Has n m p ⊎ (K × (m ≡ number) × (p ≡ own)))
with_when n n' number program own K k is more m p = (
  λ x. elim ((more m p).0 x) [ inl was ↦ inl was | inr new ↦ inr (k, new.0, new.1 ∙ sym is) ],
  λ x. (more m p).1 (elim x [ inl was ↦ inl was | inr new ↦ inr (new.1, new.2 ∙ is) ]),
)

pub without_when : (n n' : Numbering) (program own : List Insn) (K : Type 0) → K → own ≡ program → IsWithout n program n' → (m : ℕ) (p : List Insn) → Has n' m p ↔ (Has n m p × (K → p ≡ own → ⊥))
without_when n n' program own K k is less m p = (
  λ x. (let y = (less m p).0 x in (y.0, λ j same. y.1 (same ∙ is))),
  λ x. (less m p).1 (x.0, λ same. x.1 k (same ∙ sym is)),
)

-- one that is added and taken out again
pub taken_again : (old mid new : Numbering) (number : ℕ) (program : List Insn) → IsFresh old number program → IsWith old number program mid → IsWithout mid program new → (m : ℕ) (p : List Insn) → Has new m p ↔ Has old m p
taken_again old mid new number program fresh more less m p = (
  λ x. (let y = (less m p).0 x in elim ((more m p).0 y.0) [ inl was ↦ was | inr added ↦ absurd (y.1 added.1) ]),
  λ x. (less m p).1 ((more m p).1 (inl x), λ same. fresh.program_fresh m (subst (λ (q : List Insn). Has old m q) same x)),
)

-- Nothing is planned

pub listed_twice : (at : ℕ → Option Slot) (running resting : Numbering) → AreListed at running resting → AreListedFor at at running resting
listed_twice at running resting h = record { run = needs_none running (Runs at) (Runs at) h.run (λ m p x. x); rest = needs_none resting (Rests at) (Rests at) h.rest (λ m p x. x) }

pub listed_once : (at : ℕ → Option Slot) (running resting : Numbering) → AreListedFor at at running resting → AreListed at running resting
listed_once at running resting h = record { run = only_now running (Runs at) (Runs at) h.run (λ m p x. x); rest = only_now resting (Rests at) (Rests at) h.rest (λ m p x. x) }

runs_at : (at at' : ℕ → Option Slot) → ((m : ℕ) → at' m ≡ at m) → (m : ℕ) (p : List Insn) → Runs at m p → Runs at' m p
runs_at at at' same m p x = (x.0, same m ∙ x.1, x.2, x.3)

rests_at : (at at' : ℕ → Option Slot) → ((m : ℕ) → at' m ≡ at m) → (m : ℕ) (p : List Insn) → Rests at m p → Rests at' m p
rests_at at at' same m p x = (x.0, same m ∙ x.1, x.2, x.3)

pub runs_alike : (at at' : ℕ → Option Slot) (running : Numbering) → ((m : ℕ) → at' m ≡ at m) → AreThose running (Runs at) → AreThose running (Runs at')
runs_alike at at' running same h m p = (λ x. runs_at at at' same m p ((h m p).0 x), λ x. (h m p).1 (runs_at at' at (λ k. sym (same k)) m p x))

pub listed_same : (at at' : ℕ → Option Slot) (running resting : Numbering) → ((m : ℕ) → at' m ≡ at m) → AreListed at running resting → AreListed at' running resting
listed_same at at' running resting same h = record {
  run = runs_alike at at' running same h.run;
  rest = λ m p. (λ x. rests_at at at' same m p ((h.rest m p).0 x), λ x. (h.rest m p).1 (rests_at at' at (λ k. sym (same k)) m p x));
}

-- the same slots, for a change too
pub listed_alike : (now now' next next' : ℕ → Option Slot) (running resting : Numbering) → ((m : ℕ) → now' m ≡ now m) → ((m : ℕ) → next' m ≡ next m) → AreListedFor now next running resting → AreListedFor now' next' running resting
listed_alike now now' next next' running resting same same' h = record {
  run = λ m p. (
    λ x. elim ((h.run m p).0 x) [ inl a ↦ inl (runs_at now now' same m p a) | inr b ↦ inr (runs_at next next' same' m p b) ],
    λ x. (h.run m p).1 (elim x [ inl a ↦ inl (runs_at now' now (λ k. sym (same k)) m p a) | inr b ↦ inr (runs_at next' next (λ k. sym (same' k)) m p b) ]),
  );
  rest = λ m p. (
    λ x. elim ((h.rest m p).0 x) [ inl a ↦ inl (rests_at now now' same m p a) | inr b ↦ inr (rests_at next next' same' m p b) ],
    λ x. (h.rest m p).1 (elim x [ inl a ↦ inl (rests_at now' now (λ k. sym (same k)) m p a) | inr b ↦ inr (rests_at next' next (λ k. sym (same' k)) m p b) ]),
  );
}

-- A filter comes

module _ (slots : List (Option Slot)) (number : ℕ) (start : Option (List Insn)) (begins : Begins slots number start) where
  abbrev own : List Insn
  own = program_in (base_slot slots number start)

  abbrev kept_new : ℕ → List Insn → Type 0
  kept_new m p = held_in (base_slot slots number start) ≡ 0 → p ≡ program_in (base_slot slots number start) → ⊥

  abbrev Now : ℕ → List Insn → Type 0
  Now = Runs (slot_at slots)

  abbrev Then : ℕ → List Insn → Type 0
  Then = Runs (slots_with slots number start)

  pub come_planned : (running running' resting : Numbering) → AreListed (slot_at slots) running resting → IsWith running number (program_in (base_slot slots number start)) running' → AreListedFor (slot_at slots) (slots_with slots number start) running' resting
  come_planned running running' resting h more = record {
    run = put_in running running' Now Then (λ m p. (m ≡ number) × (p ≡ program_in (base_slot slots number start))) h.run more (runs_before slots number start begins)
        (λ m p x. inr (subst (λ (k : ℕ). Then k p) (sym x.0) (subst (λ (q : List Insn). Then number q) (sym x.1) (own_runs slots number start begins))));
    rest = needs_none resting (Rests (slot_at slots)) (Rests (slots_with slots number start)) h.rest (rests_before slots number start begins);
  }

  -- a program that comes and isn't taken back ran already
  ran : (m : ℕ) (p : List Insn) → m ≡ number → p ≡ program_in (base_slot slots number start) → (held_in (base_slot slots number start) ≡ 0 → p ≡ program_in (base_slot slots number start) → ⊥) → Runs (slot_at slots) m p
  ran m p here is keeps = elim (cases_lt 0 (held_in (base_slot slots number start))) [
    | inl some ↦ subst (λ (k : ℕ). Now k p) (sym here) (subst (λ (q : List Insn). Now number q) (sym is) (runs_already slots number start begins some))
    | inr none ↦ absurd (keeps (omega arith) is)
  ]

  module _ (apart : AreProgramsApart slots) where
    pub come_back : (running running' resting : Numbering) → AreListedFor (slot_at slots) (slots_with slots number start) running resting
        → ((m : ℕ) (p : List Insn) → Has running' m p ↔ (Has running m p × (held_in (base_slot slots number start) ≡ 0 → p ≡ program_in (base_slot slots number start) → ⊥))) → AreListed (slot_at slots) running' resting
    come_back running running' resting h less = record {
      run = taken_back running running' Now Then kept_new h.run less
          (λ m p x keeps. elim (runs_before slots number start begins m p x) [
            | inl was ↦ was
            | inr new ↦ ran m p new.0 new.1 keeps
          ])
          (λ m p x none. runs_other slots number start begins apart none m p x);
      rest = only_now resting (Rests (slot_at slots)) (Rests (slots_with slots number start)) h.rest (rests_before slots number start begins);
    }

    pub came : (running resting resting' : Numbering) → AreListedFor (slot_at slots) (slots_with slots number start) running resting
        → ((m : ℕ) (p : List Insn) → Has resting' m p ↔ (Has resting m p × (held_in (base_slot slots number start) ≡ 0 → p ≡ program_in (base_slot slots number start) → ⊥))) → AreListed (slots_with slots number start) running resting'
    came running resting resting' h less = record {
      run = only_next running Now Then h.run (runs_still slots number start begins);
      rest = taken_out resting resting' (Rests (slot_at slots)) (Rests (slots_with slots number start)) kept_new h.rest less (rests_still slots number start begins)
          (λ m p x none is. rests_other slots number start begins apart m p x is);
    }

-- A filter goes

module _ (slots : List (Option Slot)) (row : Row) (apart : AreProgramsApart slots) (one_of : IsOneOf (slot_at slots row.number) row.held) where
  abbrev s : Slot
  s = (slot_there (slot_at slots row.number) row.held one_of).0

  at : slot_at slots row.number ≡ Some (slot_there (slot_at slots row.number) row.held one_of).0
  at = (slot_there (slot_at slots row.number) row.held one_of).1

  one_is : IsOneOf (Some (slot_there (slot_at slots row.number) row.held one_of).0) row.held
  one_is = subst (λ (o : Option Slot). IsOneOf o row.held) at one_of

  abbrev Goes : Type 0
  Goes = GoesToRest row.held (slot_at slots row.number)

  abbrev program : List Insn
  program = program_in (slot_at slots row.number)

  pub go_fresh : (resting : Numbering) → AreThose resting (Rests (slot_at slots)) → GoesToRest row.held (slot_at slots row.number) → IsFresh resting row.number (program_in (slot_at slots row.number))
  go_fresh resting h goes = goes_fresh slots row apart s at one_is goes resting h

  pub go_other : GoesToRest row.held (slot_at slots row.number) → (m : ℕ) (p : List Insn) → Rests (slot_at slots) m p → p ≡ program_in (slot_at slots row.number) → ⊥
  go_other goes m p x same = goes_other slots row apart s at one_is goes m p x same

  pub go_planned : (running resting resting' : Numbering) → AreListed (slot_at slots) running resting
      → ((m : ℕ) (p : List Insn) → Has resting' m p ↔ (Has resting m p ⊎ (GoesToRest row.held (slot_at slots row.number) × (m ≡ row.number) × (p ≡ program_in (slot_at slots row.number))))) → AreListedFor (slot_at slots) (slots_without slots row) running resting'
  go_planned running resting resting' h more = record {
    run = needs_none running (Runs (slot_at slots)) (Runs (slots_without slots row)) h.run (runs_more slots row apart s at one_is);
    rest = put_in resting resting' (Rests (slot_at slots)) (Rests (slots_without slots row)) (λ m p. Goes × (m ≡ row.number) × (p ≡ program)) h.rest more (rests_more slots row apart s at one_is)
        (λ m p x. inr (subst (λ (k : ℕ). Rests (slots_without slots row) k p) (sym x.1) (subst (λ (q : List Insn). Rests (slots_without slots row) row.number q) (sym x.2) (goes_rests slots row apart s at one_is x.0))));
  }

  pub go_back : (running resting resting' : Numbering) → AreListedFor (slot_at slots) (slots_without slots row) running resting
      → ((m : ℕ) (p : List Insn) → Has resting' m p ↔ (Has resting m p × (GoesToRest row.held (slot_at slots row.number) → p ≡ program_in (slot_at slots row.number) → ⊥))) → AreListed (slot_at slots) running resting'
  go_back running resting resting' h less = record {
    run = only_now running (Runs (slot_at slots)) (Runs (slots_without slots row)) h.run (runs_more slots row apart s at one_is);
    rest = taken_back resting resting' (Rests (slot_at slots)) (Rests (slots_without slots row)) (λ m p. Goes → p ≡ program → ⊥) h.rest less
        (λ m p x keeps. elim (rests_more slots row apart s at one_is m p x) [ inl was ↦ was | inr new ↦ absurd (keeps new.0 new.2) ])
        (λ m p x goes. goes_other slots row apart s at one_is goes m p x);
  }

  pub gone : (running running' resting resting' : Numbering) → AreListedFor (slot_at slots) (slots_without slots row) running resting
      → ((m : ℕ) (p : List Insn) → Has running' m p ↔ (Has running m p × (Stops row.held (slot_at slots row.number) → p ≡ program_in (slot_at slots row.number) → ⊥)))
      → ((m : ℕ) (p : List Insn) → Has resting' m p ↔ (Has resting m p × (Vanishes row.held (slot_at slots row.number) → p ≡ program_in (slot_at slots row.number) → ⊥))) → AreListed (slots_without slots row) running' resting'
  gone running running' resting resting' h less less' = record {
    run = taken_out running running' (Runs (slot_at slots)) (Runs (slots_without slots row)) (λ m p. Stops row.held (slot_at slots row.number) → p ≡ program → ⊥) h.run less (runs_on slots row apart s at one_is)
        (λ m p x stops. stops_other slots row apart s at one_is stops m p x);
    rest = taken_out resting resting' (Rests (slot_at slots)) (Rests (slots_without slots row)) (λ m p. Vanishes row.held (slot_at slots row.number) → p ≡ program → ⊥) h.rest less' (rests_on slots row apart s at one_is)
        (λ m p x vanishes. vanishes_other slots row apart s at one_is vanishes m p x);
  }

-- A filter gets another program

module _ (slots : List (Option Slot)) (number : ℕ) (start : Option (List Insn)) (begins : Begins slots number start) (apart : AreProgramsApart slots) (inside : number < length slots) (old row : Row) (here : row.number ≡ number) (held : row.held ≡ true)
    (off : old.number ≡ number → ⊥) (one_of : IsOneOf (slot_at slots old.number) old.held) where
  abbrev mid : List (Option Slot)
  mid = between slots number start

  abbrev next : ℕ → Option Slot
  next = slots_swapped slots old row start

  abbrev left : Slot
  left = (slot_there (slot_at slots old.number) old.held one_of).0

  left_at : slot_at slots old.number ≡ Some (slot_there (slot_at slots old.number) old.held one_of).0
  left_at = (slot_there (slot_at slots old.number) old.held one_of).1

  left_one : IsOneOf (Some (slot_there (slot_at slots old.number) old.held one_of).0) old.held
  left_one = subst (λ (o : Option Slot). IsOneOf o old.held) left_at one_of

  mid_apart : AreProgramsApart (between slots number start)
  mid_apart = between_apart slots number start inside begins apart

  mid_at : slot_at (between slots number start) old.number ≡ Some (slot_there (slot_at slots old.number) old.held one_of).0
  mid_at = between_old slots number start inside old.number left off left_at

  mid_same : slot_at (between slots number start) old.number ≡ slot_at slots old.number
  mid_same = mid_at ∙ sym left_at

  next_is : (m : ℕ) → slots_swapped slots old row start m ≡ slots_without (between slots number start) old m
  next_is = swapped_is slots number start inside old row here held off

  -- what runs and rests between is what does with the filter that comes
  mid_runs : (m : ℕ) (p : List Insn) → Runs (slots_with slots number start) m p → Runs (slot_at (between slots number start)) m p
  mid_runs = runs_at (slots_with slots number start) (slot_at mid) (between_at slots number start inside)

  with_runs : (m : ℕ) (p : List Insn) → Runs (slot_at (between slots number start)) m p → Runs (slots_with slots number start) m p
  with_runs = runs_at (slot_at mid) (slots_with slots number start) (λ m. sym (between_at slots number start inside m))

  mid_rests : (m : ℕ) (p : List Insn) → Rests (slots_with slots number start) m p → Rests (slot_at (between slots number start)) m p
  mid_rests = rests_at (slots_with slots number start) (slot_at mid) (between_at slots number start inside)

  with_rests : (m : ℕ) (p : List Insn) → Rests (slot_at (between slots number start)) m p → Rests (slots_with slots number start) m p
  with_rests = rests_at (slot_at mid) (slots_with slots number start) (λ m. sym (between_at slots number start inside m))

  -- the two programs differ
  differ : program_in (base_slot slots number start) ≡ program_in (slot_at slots old.number) → ⊥
  differ same =
      let x = mid_runs number (program_in (base_slot slots number start)) (own_runs slots number start begins) in
      off (sym (mid_apart number old.number x.0 left x.1 mid_at (x.2 ∙ (same ∙ ap program_in left_at))))

  pub swap_runs : (m : ℕ) (p : List Insn) → Runs (slots_swapped slots old row start) m p → Runs (slot_at slots) m p ⊎ ((m ≡ number) × (p ≡ program_in (base_slot slots number start)))
  swap_runs m p x = runs_before slots number start begins m p (with_runs m p (runs_more mid old mid_apart left mid_at left_one m p (runs_at next (slots_without mid old) (λ k. sym (next_is k)) m p x)))

  swap_rests : (m : ℕ) (p : List Insn) → Rests (slots_swapped slots old row start) m p
      → Rests (slot_at slots) m p ⊎ (GoesToRest old.held (slot_at slots old.number) × (m ≡ old.number) × (p ≡ program_in (slot_at slots old.number)))
  swap_rests m p x = elim (rests_more mid old mid_apart left mid_at left_one m p (rests_at next (slots_without mid old) (λ k. sym (next_is k)) m p x)) [
    | inl was ↦ inl (rests_before slots number start begins m p (with_rests m p was))
    | inr goes ↦ inr (subst (GoesToRest old.held) mid_same goes.0, goes.1, goes.2 ∙ ap program_in mid_same)
  ]

  pub swap_planned : (running running' resting resting' : Numbering) → AreListed (slot_at slots) running resting → IsWith running number (program_in (base_slot slots number start)) running'
      → ((m : ℕ) (p : List Insn) → Has resting' m p ↔ (Has resting m p ⊎ (GoesToRest old.held (slot_at slots old.number) × (m ≡ old.number) × (p ≡ program_in (slot_at slots old.number)))))
      → AreListedFor (slot_at slots) (slots_swapped slots old row start) running' resting'
  swap_planned running running' resting resting' h more more' = record {
    run = put_in running running' (Runs (slot_at slots)) (Runs next) (λ m p. (m ≡ number) × (p ≡ program_in (base_slot slots number start))) h.run more swap_runs
        (λ m p x. inr (subst (λ (k : ℕ). Runs next k p) (sym x.0) (subst (λ (q : List Insn). Runs next number q) (sym x.1)
        (runs_at (slots_without mid old) next next_is number (program_in (base_slot slots number start))
        (runs_on mid old mid_apart left mid_at left_one number (program_in (base_slot slots number start)) (mid_runs number (program_in (base_slot slots number start)) (own_runs slots number start begins))
        (λ stops same. differ (same ∙ ap program_in mid_same)))))));
    rest = put_in resting resting' (Rests (slot_at slots)) (Rests next) (λ m p. GoesToRest old.held (slot_at slots old.number) × (m ≡ old.number) × (p ≡ program_in (slot_at slots old.number))) h.rest more' swap_rests
        (λ m p x. inr (subst (λ (k : ℕ). Rests next k p) (sym x.1) (subst (λ (q : List Insn). Rests next old.number q) (ap program_in mid_same ∙ sym x.2)
        (rests_at (slots_without mid old) next next_is old.number (program_in (slot_at mid old.number)) (goes_rests mid old mid_apart left mid_at left_one (subst (GoesToRest old.held) (sym mid_same) x.0))))));
  }

  pub swap_back : (running running' resting resting' : Numbering) → AreListedFor (slot_at slots) (slots_swapped slots old row start) running resting
      → ((m : ℕ) (p : List Insn) → Has running' m p ↔ (Has running m p × (held_in (base_slot slots number start) ≡ 0 → p ≡ program_in (base_slot slots number start) → ⊥)))
      → ((m : ℕ) (p : List Insn) → Has resting' m p ↔ (Has resting m p × (GoesToRest old.held (slot_at slots old.number) → p ≡ program_in (slot_at slots old.number) → ⊥))) → AreListed (slot_at slots) running' resting'
  swap_back running running' resting resting' h less less' = record {
    run = taken_back running running' (Runs (slot_at slots)) (Runs next) (λ m p. held_in (base_slot slots number start) ≡ 0 → p ≡ program_in (base_slot slots number start) → ⊥) h.run less
        (λ m p x keeps. elim (swap_runs m p x) [ inl was ↦ was | inr new ↦ ran slots number start begins m p new.0 new.1 keeps ])
        (λ m p x none. runs_other slots number start begins apart none m p x);
    rest = taken_back resting resting' (Rests (slot_at slots)) (Rests next) (λ m p. GoesToRest old.held (slot_at slots old.number) → p ≡ program_in (slot_at slots old.number) → ⊥) h.rest less'
        (λ m p x keeps. elim (swap_rests m p x) [ inl was ↦ was | inr new ↦ absurd (keeps new.0 new.2) ])
        (λ m p x goes. goes_other slots old apart left left_at left_one goes m p x);
  }

  pub swapped : (running running' resting between_resting resting' : Numbering) → AreListedFor (slot_at slots) (slots_swapped slots old row start) running resting
      → ((m : ℕ) (p : List Insn) → Has between_resting m p ↔ (Has resting m p × (held_in (base_slot slots number start) ≡ 0 → p ≡ program_in (base_slot slots number start) → ⊥)))
      → ((m : ℕ) (p : List Insn) → Has running' m p ↔ (Has running m p × (Stops old.held (slot_at slots old.number) → p ≡ program_in (slot_at slots old.number) → ⊥)))
      → ((m : ℕ) (p : List Insn) → Has resting' m p ↔ (Has between_resting m p × (Vanishes old.held (slot_at slots old.number) → p ≡ program_in (slot_at slots old.number) → ⊥)))
      → AreListed (slots_swapped slots old row start) running' resting'
  swapped running running' resting between_resting resting' h less_new less less' = record {
    run = taken_out running running' (Runs (slot_at slots)) (Runs next) (λ m p. Stops old.held (slot_at slots old.number) → p ≡ program_in (slot_at slots old.number) → ⊥) h.run less
        (λ m p x keeps. runs_at (slots_without mid old) next next_is m p
        (runs_on mid old mid_apart left mid_at left_one m p (mid_runs m p (runs_still slots number start begins m p x)) (λ stops same. keeps (subst (Stops old.held) mid_same stops) (same ∙ ap program_in mid_same))))
        (λ m p x stops same. stops_other mid old mid_apart left mid_at left_one (subst (Stops old.held) (sym mid_same) stops) m p (runs_at next (slots_without mid old) (λ k. sym (next_is k)) m p x) (same ∙ sym (ap program_in mid_same)));
    rest = taken_out resting resting' (Rests (slot_at slots)) (Rests next)
        (λ m p. (held_in (base_slot slots number start) ≡ 0 → p ≡ program_in (base_slot slots number start) → ⊥) × (Vanishes old.held (slot_at slots old.number) → p ≡ program_in (slot_at slots old.number) → ⊥)) h.rest
        (λ m p. (
          λ x. (let y = (less' m p).0 x in let z = (less_new m p).0 y.0 in (z.0, (z.1, y.1))),
          λ x. (less' m p).1 ((less_new m p).1 (x.0, x.1.0), x.1.1),
        ))
        (λ m p x keeps. rests_at (slots_without mid old) next next_is m p
        (rests_on mid old mid_apart left mid_at left_one m p (mid_rests m p (rests_still slots number start begins m p x keeps.0)) (λ vanishes same. keeps.1 (subst (Vanishes old.held) mid_same vanishes) (same ∙ ap program_in mid_same))))
        (λ m p x. (
          λ none is. elim (rests_more mid old mid_apart left mid_at left_one m p (rests_at next (slots_without mid old) (λ k. sym (next_is k)) m p x)) [
            | inl was ↦ rests_other slots number start begins apart m p (with_rests m p was) is
            | inr goes ↦ differ (sym is ∙ (goes.2 ∙ ap program_in mid_same))
          ],
          λ vanishes same. vanishes_other mid old mid_apart left mid_at left_one (subst (Vanishes old.held) (sym mid_same) vanishes) m p (rests_at next (slots_without mid old) (λ k. sym (next_is k)) m p x) (same ∙ sym (ap program_in mid_same)),
        ));
  }

-- what was put in is taken out again
pub put_back : (n n' n'' : Numbering) (P X K : ℕ → List Insn → Type 0) → AreThose n P → ((m : ℕ) (p : List Insn) → Has n' m p ↔ (Has n m p ⊎ X m p)) → ((m : ℕ) (p : List Insn) → Has n'' m p ↔ (Has n' m p × K m p))
    → ((m : ℕ) (p : List Insn) → X m p → K m p → ⊥) → ((m : ℕ) (p : List Insn) → P m p → K m p) → AreThose n'' P
put_back n n' n'' P X K h more less never keeps m p = (
  λ x. (let y = (less m p).0 x in elim ((more m p).0 y.0) [ inl was ↦ (h m p).0 was | inr new ↦ absurd (never m p new y.1) ]),
  λ x. (less m p).1 ((more m p).1 (inl ((h m p).1 x)), keeps m p x),
)
