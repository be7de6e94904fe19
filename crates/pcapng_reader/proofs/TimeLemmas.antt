-- Powers of ten and of two.
use Rattle.std.proofs.Common.{◌≡◌, ℕ, ◌-◌, ◌≤◌, ◌<◌, ◌^◌, arith, ap, ◌∙◌, inl, inr, Option, Some, None, MatchOption, ℤ}
use Rattle.std.proofs.lemmas.Bool.{cases_lt}
use Rattle.std.proofs.lemmas.Bool.Decides.{nat_tests}
use Rattle.std.proofs.lemmas.Nat.{pow_below, pow_pos}
use Rattle.std.proofs.Math.Nat.{pow-le-pow_right, one-le-pow}
use Rattle.pcapng_reader.specs.declared.time.Stamp.{Stamp}
use Rattle.pcapng_reader.specs.Times.{parts_of}

pub two_fits : (k : ℕ) → k < 128 → 2 ^ k < 340282366920938463463374607431768211456
two_fits k small = pow_below k 128 small

pub ten_fits : (k : ℕ) → k ≤ 38 → 10 ^ k < 340282366920938463463374607431768211456
ten_fits k small = let most : 10 ^ k ≤ 10 ^ 38 = pow-le-pow_right (omega arith) small in omega arith

ten_many : (k : ℕ) → 39 ≤ k → 19807040628566084398385987584 ≤ 10 ^ k
ten_many k large = let least : 10 ^ 39 ≤ 10 ^ k = pow-le-pow_right (omega arith) large in omega arith

parts_ten : (k : ℕ) → k < 128 → parts_of k ≡ 10 ^ k
parts_ten k small = grind (arith, nat_tests)

parts_two : (k : ℕ) → 128 ≤ k → parts_of k ≡ 2 ^ (k - 128)
parts_two k large = grind (arith, nat_tests)

pub parts_many : (k : ℕ) → 39 ≤ k → k < 128 → 19807040628566084398385987584 ≤ parts_of k
parts_many k large small = rw (parts_ten k small) (ten_many k large)

pub parts_pos : (k : ℕ) → 0 < parts_of k
parts_pos k = elim (cases_lt k 128) [
  | inl small ↦ rw (parts_ten k small) (omega (arith, one-le-pow k 10 (omega arith)))
  | inr large ↦ rw (parts_two k large) (pow_pos (k - 128))
]

pub parts_some : (o : Option ℕ) (n : ℕ) → 0 < n → MatchOption o (19807040628566084398385987584 ≤ n) (λ p. p ≡ n) → MatchOption o (19807040628566084398385987584 ≤ n) (λ p. (p ≡ n) × (0 < n))
parts_some None n some many = many
parts_some (Some p) n some same = (same, some)

abbrev stamp_with : ℤ → ℕ → Stamp
stamp_with seconds nanoseconds = record { seconds = seconds; nanoseconds = nanoseconds }

pub stamp_same : (a b : ℤ) (m n : ℕ) → a ≡ b → m ≡ n → stamp_with a m ≡ stamp_with b n
stamp_same a b m n e f = ap (λ z. stamp_with z m) e ∙ ap (stamp_with b) f
