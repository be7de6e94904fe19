-- The bits of a number by places.
use Rattle.std.proofs.Common.{◌≡◌, ◌<◌, ◌≤◌, ◌+◌, ◌*◌, ◌/◌, ◌%◌, ◌^◌, ℕ, zero, suc, Bool, true, false, cond, refl, sym, ap, ◌∙◌, arith}
use Rattle.std.specs.Int.{bit_at}
use Rattle.std.proofs.lemmas.Nat.Bits.{bit_at_lowest, bit_at-suc, same_from_bits_below, bit_at_cat_low}
use Rattle.std.proofs.lemmas.Nat.{pow_pos, shr_split}
use Rattle.core_links.specs.Waking.{bits_from, bits_below}

bit_least : (b : Bool) → cond b 1 0 ≤ 1
bit_least true = omega arith
bit_least false = omega arith

-- each bit of such a number is that of its place
pub bit_from : (count place i : ℕ) (has : ℕ → Bool) → i < count → bit_at (bits_from place count has) i ≡ cond (has (place + i)) 1 0
bit_from zero place i has lt = absurd (omega (arith, lt))
bit_from (suc count) place zero has lt =
    let least = bit_least (has place) in
    let rest = bits_from (suc place) count has in
    let low : (cond (has place) 1 0 + 2 * rest) % 2 ≡ cond (has place) 1 0 = omega (arith, least) in
    let here : place + 0 ≡ place = omega arith in
    bit_at_lowest (bits_from place (suc count) has) ∙ low ∙ ap (λ n. cond (has n) 1 0) (sym here)
bit_from (suc count) place (suc i) has lt =
    let least = bit_least (has place) in
    let rest = bits_from (suc place) count has in
    let half : (cond (has place) 1 0 + 2 * rest) / 2 ≡ rest = omega (arith, least) in
    let next : suc place + i ≡ place + suc i = omega arith in
    bit_at-suc (bits_from place (suc count) has) i ∙ ap (λ n. bit_at n i) half ∙ bit_from count (suc place) i has (omega (arith, lt)) ∙ ap (λ n. cond (has n) 1 0) next

-- such a number has no more bits
pub bits_short : (count place : ℕ) (has : ℕ → Bool) → bits_from place count has < 2 ^ count
bits_short zero place has = omega arith
bits_short (suc count) place has =
    let least = bit_least (has place) in
    let rest = bits_short count (suc place) has in
    let twice : 2 ^ suc count ≡ 2 * 2 ^ count = omega arith in
    omega (arith, least, rest, twice)

-- a number with no more bits is the one that they make
pub bits_are : (count n : ℕ) (has : ℕ → Bool) → n < 2 ^ count → ((i : ℕ) → i < count → bit_at n i ≡ cond (has i) 1 0) → n ≡ bits_below count has
bits_are count n has short each = same_from_bits_below count n (bits_below count has) short (bits_short count 0 has) (λ i lt. each i lt ∙ sym (bit_from count 0 i has lt ∙ ap (λ k. cond (has k) 1 0) (omega arith)))

-- and so are the low bits of a number
pub low_bits_are : (count n : ℕ) (has : ℕ → Bool) → ((i : ℕ) → i < count → bit_at n i ≡ cond (has i) 1 0) → n % 2 ^ count ≡ bits_below count has
low_bits_are count n has each =
    let some : 0 < 2 ^ count = pow_pos count in
    bits_are count (n % 2 ^ count) has (omega (arith, some))
    (λ i lt. sym (bit_at_cat_low (n / 2 ^ count) count (n % 2 ^ count) i lt) ∙ ap (λ k. bit_at k i) (shr_split n count) ∙ each i lt)

-- none of them is set
pub bits_none : (count place : ℕ) → bits_from place count (λ p. false) ≡ 0
bits_none zero place = refl
bits_none (suc count) place = let rest = bits_none count (suc place) in omega (arith, rest)
