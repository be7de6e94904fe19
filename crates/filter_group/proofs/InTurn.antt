-- Slots that are changed one after the other.
use Rattle.std.proofs.Common.{◌≡◌, ◌<◌, ◌≤◌, ◌+◌, ◌∙◌, inl, inr, ℕ, List, length, Some, get_or, slice_get, slice_set, refl, ap, sym, subst, arith}
use Rattle.std.proofs.lemmas.Bool.{cases_eq}
use Rattle.std.proofs.lemmas.Option.{slice_get-get_or, slice_get_within}
use Rattle.std.proofs.Math.ListN.{length-set}
use Rattle.bpf_insn.specs.declared.insn.Insn.{Insn}
use Rattle.filter_group.specs.declared.answers.Slot.{Slot}
use Rattle.filter_group.specs.Changes.{AreSame, CanHave, HasRoom, IsSame}
use Rattle.filter_group.proofs.Indexed.{set_here, set_other}
use Rattle.filter_group.proofs.Sides.{one_thing}

-- the first of them are related to what they were, and the others are that
pub record AreDone {X : Type 0} (R : ℕ → X → X → Type 0) (count : ℕ) (before after : List X) : Type 0 where
  pub many : length after ≡ length before
  pub done : (i : ℕ) (old new : X) → i < count → slice_get before i ≡ Some old → slice_get after i ≡ Some new → R i old new
  pub rest : (i : ℕ) → count ≤ i → slice_get after i ≡ slice_get before i

pub done_none : {X : Type 0} (R : ℕ → X → X → Type 0) (xs : List X) → AreDone R 0 xs xs
done_none R xs = record { many = refl; done = λ i old new low at_old at. absurd (omega arith); rest = λ i from. refl }

pub done_more : {X : Type 0} (R : ℕ → X → X → Type 0) (n : ℕ) (before xs : List X) (one new : X) → AreDone R n before xs → slice_get xs n ≡ Some one → R n one new
    → AreDone R (n + 1) before (slice_set xs n new)
done_more {X} R n before xs one new are at_one is = record {
  many = length-set xs n new ∙ are.many;
  done = λ i old x low at_old at. elim (cases_eq i n) [
    | inl same ↦
        let was : slice_get xs n ≡ Some old = are.rest n (omega arith) ∙ subst (λ (m : ℕ). slice_get before m ≡ Some old) same at_old in
        let is_old : one ≡ old = one_thing xs n one old at_one was in
        let is_new : new ≡ x = one_thing (slice_set xs n new) n new x (set_here xs n new (slice_get_within xs n one at_one)) (subst (λ (m : ℕ). slice_get (slice_set xs n new) m ≡ Some x) same at) in
        subst (λ (m : ℕ). R m old x) (sym same) (subst (λ (s : X). R n old s) is_new (subst (λ (s : X). R n s new) is_old is))
    | inr apart ↦ are.done i old x (omega arith) at_old (sym (set_other xs n i new apart) ∙ at)
  ];
  rest = λ i from. set_other xs n i new (λ e. omega arith) ∙ are.rest i (omega arith);
}

-- the next one stays
pub done_kept : {X : Type 0} (R : ℕ → X → X → Type 0) (n : ℕ) (before xs : List X) (one : X) → AreDone R n before xs → slice_get xs n ≡ Some one → R n one one
    → AreDone R (n + 1) before xs
done_kept {X} R n before xs one are at_one is = record {
  many = are.many;
  done = λ i old x low at_old at. elim (cases_eq i n) [
    | inl same ↦
        let was : slice_get xs n ≡ Some old = are.rest n (omega arith) ∙ subst (λ (m : ℕ). slice_get before m ≡ Some old) same at_old in
        let is_old : one ≡ old = one_thing xs n one old at_one was in
        let is_new : one ≡ x = one_thing xs n one x at_one (subst (λ (m : ℕ). slice_get xs m ≡ Some x) same at) in
        subst (λ (m : ℕ). R m old x) (sym same) (subst (λ (s : X). R n old s) is_new (subst (λ (s : X). R n s one) is_old is))
    | inr apart ↦ are.done i old x (omega arith) at_old at
  ];
  rest = λ i from. are.rest i (omega arith);
}

-- the slots say the same

pub same_more : (n : ℕ) (before slots : List Slot) (one new : Slot) → AreSame before slots → slice_get slots n ≡ Some one → IsSame one new → AreSame before (slice_set slots n new)
same_more n before slots one new are at_one is = record {
  count = length-set slots n new ∙ are.count;
  each = λ i old slot at_old at. elim (cases_eq i n) [
    | inl same ↦
        let was = are.each n old one (subst (λ (m : ℕ). slice_get before m ≡ Some old) same at_old) at_one in
        let is_new : new ≡ slot = one_thing (slice_set slots n new) n new slot (set_here slots n new (slice_get_within slots n one at_one)) (subst (λ (m : ℕ). slice_get (slice_set slots n new) m ≡ Some slot) same at) in
        subst (λ (s : Slot). IsSame old s) is_new (record { place = is.place ∙ was.place; constants = is.constants ∙ was.constants; rising = is.rising })
    | inr apart ↦ are.each i old slot at_old (sym (set_other slots n i new apart) ∙ at)
  ];
}

pub can_same : (before after : List Slot) (member : ℕ) (program : List Insn) → CanHave before member program → AreSame before after → CanHave after member program
can_same before after member program can are n slot at =
    let low = slice_get_within after n slot at in
    let old = get_or before n slot in
    let there = slice_get-get_or before n slot (omega (arith, are.count)) in
    let was = can n old there in
    let is = are.each n old slot there at in
    let long = ap (length {A = ℕ}) is.constants in
    let place = is.place in
    (let member_low = was.0 in omega arith, let inside = was.1 in omega arith, is.rising)

-- there is room in the first of them
abbrev pub HaveRoomBelow : ℕ → List Slot → ℕ → List Insn → Type 0
HaveRoomBelow count slots member program = (i : ℕ) (slot : Slot) (insn : Insn) → i < count → slice_get slots i ≡ Some slot → slice_get program slot.place ≡ Some insn → HasRoom slot member insn.k

pub room_more : (n : ℕ) (slots : List Slot) (one new : Slot) (member : ℕ) (program : List Insn) → HaveRoomBelow n slots member program → slice_get slots n ≡ Some one
    → ((insn : Insn) → slice_get program new.place ≡ Some insn → HasRoom new member insn.k) → HaveRoomBelow (n + 1) (slice_set slots n new) member program
room_more n slots one new member program before at_one room i slot insn low at at_insn = elim (cases_eq i n) [
  | inl same ↦
      let is_new : new ≡ slot = one_thing (slice_set slots n new) n new slot (set_here slots n new (slice_get_within slots n one at_one)) (subst (λ (m : ℕ). slice_get (slice_set slots n new) m ≡ Some slot) same at) in
      subst (λ (s : Slot). HasRoom s member insn.k) is_new (room insn (subst (λ (s : Slot). slice_get program s.place ≡ Some insn) (sym is_new) at_insn))
  | inr apart ↦ before i slot insn (omega arith) (sym (set_other slots n i new apart) ∙ at) at_insn
]
