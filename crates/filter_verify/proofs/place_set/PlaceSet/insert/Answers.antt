use Rattle.std.proofs.Common.{◌≡◌, ◌∙◌, ◌*◌, ◌/◌, ◌%◌, ◌^◌, ◌<◌, ◌⊎◌, ◌↔◌, ℕ, List, length, get_or, set, w64, inl, inr, arith, ap, sym, subst}
use Rattle.std.specs.Prelude.{bit_or}
use Rattle.std.specs.Int.{bit_at}
use Rattle.std.proofs.lemmas.Bool.{cases_eq}
use Rattle.std.proofs.lemmas.List.{get_or-set_same, get_or-set_other}
use Rattle.std.proofs.lemmas.Nat.Bits.{bit_at_set_same, bit_at_set_other}
use Rattle.std.proofs.Math.Nat.{div-add-mod}
use Rattle.filter_verify.proofs.place_set.PlaceSet.insert.Goals as goal

module _ (bits : List ℕ) (place : ℕ) (inside : place / 64 < length bits) where
  -- the words once the bit of the place is set
  abbrev after : List ℕ
  after = set bits (place / 64) (bit_or (get_or bits (place / 64) 0) (1 * 2 ^ (place % 64) % 18446744073709551616))

  abbrev Has : List ℕ → ℕ → Type 0
  Has words other = bit_at (get_or words (other / 64) 0) (other % 64) ≡ 1

  here : Has after place
  here = ap (λ n. bit_at n (place % 64)) (get_or-set_same bits (place / 64) _ 0 inside) ∙ bit_at_set_same w64 (get_or bits (place / 64) 0) (place % 64) (omega arith)

  elsewhere : (other : ℕ) → (other ≡ place → ⊥) → bit_at (get_or after (other / 64) 0) (other % 64) ≡ bit_at (get_or bits (other / 64) 0) (other % 64)
  elsewhere other apart = elim (cases_eq (other / 64) (place / 64)) [
    | inr words_apart ↦ ap (λ n. bit_at n (other % 64)) (get_or-set_other bits (place / 64) (other / 64) _ 0 words_apart)
    | inl same ↦
        let differs = λ (e : other % 64 ≡ place % 64). apart (let p = div-add-mod other 64 in let q = div-add-mod place 64 in omega arith) in
        ap (λ j. bit_at (get_or after j 0) (other % 64)) same
        ∙ ap (λ n. bit_at n (other % 64)) (get_or-set_same bits (place / 64) _ 0 inside)
        ∙ bit_at_set_other w64 (get_or bits (place / 64) 0) (place % 64) (omega arith) (other % 64) differs
        ∙ ap (λ j. bit_at (get_or bits j 0) (other % 64)) (sym same)
  ]

  inserted : (other : ℕ) → Has after other ↔ (Has bits other ⊎ (other ≡ place))
  inserted other = elim (cases_eq other place) [
    | inl same ↦ (λ has. inr same, λ _. subst (Has after) (sym same) here)
    | inr apart ↦ (λ has. inl (sym (elsewhere other apart) ∙ has), λ was. elim was [ inl has ↦ elsewhere other apart ∙ has | inr same ↦ absurd (apart same) ])
  ]

pub returns : goal.returns
returns c = rw (← c.self.view_is) (λ other. inserted c.self.inside.bits c.args.place (omega (arith, c.requires, c.self.invariant)) other)
