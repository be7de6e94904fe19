-- Peers in the bits of a number.
use Rattle.std.specs.Prelude.{◌+◌, ◌*◌, ℕ, zero, suc, Bool, cond}

-- a number with a bit for each of so many places from one on, the least for that one: 1 where the place has something
abbrev pub bits_from : ℕ → ℕ → (ℕ → Bool) → ℕ
bits_from place zero has = 0
bits_from place (suc count) has = cond (has place) 1 0 + 2 * bits_from (suc place) count has

abbrev pub bits_below : ℕ → (ℕ → Bool) → ℕ
bits_below count has = bits_from 0 count has
