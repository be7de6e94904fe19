use Rattle.std.proofs.Common.{◌≡◌, ◌∙◌, ◌/◌, ◌%◌, ℕ, get_or, replicate, inl, inr, arith, ap}
use Rattle.std.specs.Int.{bit_at}
use Rattle.std.proofs.lemmas.Bool.{cases_lt}
use Rattle.std.proofs.lemmas.List.{get_or-replicate, get_or_past, length-replicate}
use Rattle.std.proofs.lemmas.Nat.Bits.{bit_at-zero}
use Rattle.filter_verify.proofs.place_set.PlaceSet.empty.Goals as goal

zero_there : (n word : ℕ) → ◌≡◌ {A = ℕ} (get_or (replicate n 0) word 0) 0
zero_there n word = elim (cases_lt word n) [
  | inl inside ↦ get_or-replicate n word 0 0 inside
  | inr beyond ↦ get_or_past (replicate n 0) word 0 (rw length-replicate beyond)
]

no_bit : (n word bit : ℕ) → bit_at (get_or (replicate n 0) word 0) bit ≡ 0
no_bit n word bit = ap (λ m. bit_at m bit) (zero_there n word) ∙ bit_at-zero bit

pub returns : goal.returns
returns c = λ place is. let none = no_bit 64 (place / 64) (place % 64) in absurd (omega (arith, is, none))
