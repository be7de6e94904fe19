use Rattle.std.proofs.Common.{arith, subst, ◌≡◌, ◌<◌, ◌+◌, inl, inr, ℕ, List, length, get_or, Some, slice_get}
use Rattle.std.proofs.lemmas.Bool.{cases_lt}
use Rattle.std.proofs.lemmas.Option.{slice_get-get_or, slice_get_within}
use Rattle.bpf_insn.specs.declared.insn.Insn.{Insn}
use Rattle.filter_group.proofs.MoreOrLess.{no_insn}
use Rattle.filter_group.proofs.Sides.{one_thing}
use Rattle.filter_group.proofs.shape.are_alike.Goals as goal

-- two instructions that differ at most in the constant
abbrev Differ : Insn → Insn → Type 0
Differ a b = (a.code ≡ b.code) × (a.jt ≡ b.jt) × (a.jf ≡ b.jf)

more : (p q : List Insn) (place : ℕ) (x y : Insn) → slice_get p place ≡ Some x → slice_get q place ≡ Some y → Differ x y
    → ((pc : ℕ) (a b : Insn) → pc < place → slice_get p pc ≡ Some a → slice_get q pc ≡ Some b → Differ a b)
    → (pc : ℕ) (a b : Insn) → pc < place + 1 → slice_get p pc ≡ Some a → slice_get q pc ≡ Some b → Differ a b
more p q place x y at_x at_y differ before pc a b low at_a at_b = elim (cases_lt pc place) [
  | inl below ↦ before pc a b below at_a at_b
  | inr from ↦
      let here : pc ≡ place = omega arith in
      let first : x ≡ a = one_thing p place x a at_x (subst (λ (n : ℕ). slice_get p n ≡ Some a) here at_a) in
      let second : y ≡ b = one_thing q place y b at_y (subst (λ (n : ℕ). slice_get q n ≡ Some b) here at_b) in
      subst (λ (z : Insn). Differ z b) first (subst (Differ x) second differ)
]

pub loop-place-preserved : goal.loop-place-preserved
loop-place-preserved c =
    let p = c.args.code.now in
    let q = c.args.other.now in
    let place = c.loop-place.place in
    let low : place < length p = let test = c.loop-place-test.true in let end = c.loop-place.auto.place-end in omega arith in
    let as_long : length p ≡ length q = c.if-code-other.false in
    more p q place (get_or p place no_insn) (get_or q place no_insn) (slice_get-get_or p place no_insn low) (slice_get-get_or q place no_insn (omega arith))
    (c.are_same_or_alike.ensures c.if-not-are_same_or_alike.false) c.loop-place.invariant

pub returns : goal.returns
returns c = λ _.
    let p = c.args.code.now in
    let as_long : length p ≡ length c.args.other.now = c.if-code-other.false in
    record {
      lengths = as_long;
      same = λ pc a b at_a at_b.
          let test = c.loop-place-test.false in
          let end = c.loop-place.auto.place-end in
          c.loop-place.invariant pc a b (let low = slice_get_within p pc a at_a in omega arith) at_a at_b;
    }
