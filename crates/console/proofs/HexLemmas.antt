-- Digits that are read pair by pair, where a byte that is no digit is seen at the end.
use Rattle.std.proofs.Common.{◌≡◌, ◌≢◌, ℕ, ◌+◌, ◌*◌, ◌/◌, ◌%◌, ◌^◌, ◌<◌, ◌≤◌, ◌⊎◌, inl, inr, max, true, false, List, length, take, drop, get_or, length-drop, zero, suc, slice_index, slice_set, Option, Some, None, unwrap_or, is_some, Ok, Err, refl, sym, ap, ◌∙◌, arith}
use Rattle.std.specs.Prelude.{IsErr, not, ◌==◌}
use Rattle.std.specs.Bool.{MatchBool}
use Rattle.std.specs.Simd.{first_chunks}
use Rattle.std.proofs.lemmas.List.{get_or-take, get_or-drop}
use Rattle.std.proofs.lemmas.Bool.Decides.{eqb_tells}
use Rattle.hex.specs.Hex.{decode_of, decode_pairs, digit_or_error, hex_digit_value, is_hex_digit, pair_value}
use Rattle.hex.proofs.HexLemmas.{decode_of-even, decode_of-ok}
use Rattle.hex.proofs.Pairs.{prepend, decode_step, decode_done, decode_start}

-- so far each pair was of digits, and its byte is written; or some byte is no digit
abbrev pub IsSoFar : List ℕ → List ℕ → ℕ → ℕ → Type 0
IsSoFar line packet i most =
    ((most < 16) × (decode_pairs 0 line ≡ prepend (take i packet) (decode_pairs (2 * i) (drop (2 * i) line))))
    ⊎ ((most ≡ 255) × ((k : ℕ) × (k < length line) × (is_hex_digit (slice_index line k) ≡ false)))

pub so_far_start : (line packet : List ℕ) → IsSoFar line packet 0 0
so_far_start line packet = inl (omega arith, decode_start line packet)

-- a digit has a value below 16; a byte that is none counts as 255
digit_kind : (o : Option ℕ) (v : ℕ) → ((w : ℕ) → o ≡ Some w → w < 16) → v ≡ unwrap_or o 255
    → ((v < 16) × (o ≡ Some v)) ⊎ ((v ≡ 255) × (is_some o ≡ false))
digit_kind (Some w) v small e = let at : v ≡ w = e in inl (rw at (small w refl), ap Some (sym at))
digit_kind None v small e = inr (e, refl)

small_value : (c w : ℕ) → hex_digit_value c ≡ Some w → w < 16
small_value c w h = grind (arith)

kind_of : (c v : ℕ) → v ≡ unwrap_or (hex_digit_value c) 255 → ((v < 16) × (hex_digit_value c ≡ Some v)) ⊎ ((v ≡ 255) × (is_hex_digit c ≡ false))
kind_of c v e = digit_kind (hex_digit_value c) v (small_value c) e

pair_is : (a b high low i : ℕ) → hex_digit_value a ≡ Some high → hex_digit_value b ≡ Some low → pair_value a b i ≡ Ok (high * 16 + low)
pair_is a b high low i ha hb =
    let va : digit_or_error a i (hex_digit_value a) ≡ Ok high = ap (digit_or_error a i) ha in
    let vb : digit_or_error b (i + 1) (hex_digit_value b) ≡ Ok low = ap (digit_or_error b (i + 1)) hb in
    rw (va, vb) refl

-- one more pair
pub so_far_step : (line packet packet' : List ℕ) (i most most' high low byte : ℕ) → IsSoFar line packet i most
    → 2 * i + 1 < length line → i < length packet
    → high ≡ unwrap_or (hex_digit_value (slice_index line (2 * i))) 255
    → low ≡ unwrap_or (hex_digit_value (slice_index line (2 * i + 1))) 255
    → most' ≡ max (max most high) low → byte ≡ (high * 16 % 2 ^ 8 + low) % 2 ^ 8 → packet' ≡ slice_set packet i byte
    → IsSoFar line packet' (i + 1) most'
so_far_step line packet packet' i most most' high low byte so fits room eh el em eb ep = elim so [
  | inr bad ↦
      elim (kind_of (slice_index line (2 * i)) high eh) [
        | inl h ↦
            elim (kind_of (slice_index line (2 * i + 1)) low el) [
              | inl l ↦ inr (omega arith, bad.1)
              | inr l ↦ inr (omega arith, bad.1)
            ]
        | inr h ↦
            elim (kind_of (slice_index line (2 * i + 1)) low el) [
              | inl l ↦ inr (omega arith, bad.1)
              | inr l ↦ inr (omega arith, bad.1)
            ]
      ]
  | inl good ↦
      elim (kind_of (slice_index line (2 * i)) high eh) [
        | inl h ↦
            elim (kind_of (slice_index line (2 * i + 1)) low el) [
              | inl l ↦
                  let whole : high * 16 + low ≡ byte = omega arith in
                  inl (
                    omega arith,
                    rw ep (decode_step line packet i byte fits room (pair_is (slice_index line (2 * i)) (slice_index line (2 * i + 1)) high low (2 * i) h.1 l.1 ∙ ap (λ (v : ℕ). Ok v) whole) good.1),
                  )
              | inr l ↦ inr (omega arith, (2 * i + 1, fits, l.1))
            ]
        | inr h ↦
            elim (kind_of (slice_index line (2 * i + 1)) low el) [
              | inl l ↦ inr (omega arith, (2 * i, omega arith, h.1))
              | inr l ↦ inr (omega arith, (2 * i, omega arith, h.1))
            ]
      ]
]

-- all pairs were of digits
pub so_far_good : (line packet : List ℕ) (i most : ℕ) → IsSoFar line packet i most → length packet ≤ i → length packet ≡ length line / 2
    → length line % 2 ≡ 0 → most ≢ 255 → decode_of line ≡ Ok packet
so_far_good line packet i most so end half even no_bad = elim so [
  | inl good ↦ decode_of-even line even ∙ decode_done line packet i end (omega arith) good.1
  | inr bad ↦ absurd (no_bad bad.0)
]

is_err : (line : List ℕ) (k : ℕ) → k < length line → is_hex_digit (slice_index line k) ≡ false → IsErr (decode_of line)
is_err line k within bad = elim (decode_of line) as (λ r. decode_of line ≡ r → IsErr r) [
  | Ok bytes ↦ λ e. let all = (decode_of-ok line bytes e).1 in let one : is_hex_digit (slice_index line k) ≡ true = all k 0 within in cc
  | Err e ↦ λ _. refl
] refl

-- some byte is no digit
pub so_far_bad : (line packet : List ℕ) (i most : ℕ) → IsSoFar line packet i most → most ≡ 255 → IsErr (decode_of line)
so_far_bad line packet i most so seen = elim so [
  | inl good ↦ absurd (omega arith)
  | inr bad ↦ is_err line bad.1.0 bad.1.1 bad.1.2
]

-- what is answered at the end
pub so_far_end : (line packet : List ℕ) (i most : ℕ) → IsSoFar line packet i most → length packet ≤ i → length packet ≡ length line / 2
    → length line % 2 ≡ 0 → MatchBool (not (most == 255)) (decode_of line ≡ Ok packet) (IsErr (decode_of line))
so_far_end line packet i most so end half even = elim (eqb_tells most 255) [
  | inl e ↦ rw e.0 (so_far_bad line packet i most so e.1)
  | inr e ↦ rw e.0 (so_far_good line packet i most so end half even e.1)
]

-- a place in one of the first chunks of two
chunk_at : (k : ℕ) (xs : List ℕ) (i j : ℕ) (d : List ℕ) → i < k → j < 2 → 2 * k ≤ length xs → slice_index (get_or (first_chunks 2 k xs) i d) j ≡ slice_index xs (2 * i + j)
chunk_at zero xs i j d within small room = absurd (omega arith)
chunk_at (suc k) xs zero j d within small room =
    let same : j ≡ 2 * zero + j = omega arith in get_or-take 2 xs j 0 small ∙ ap (slice_index xs) same
chunk_at (suc k) xs (suc i) j d within small room =
    chunk_at k (drop 2 xs) i j d (omega arith) small (omega (arith, length-drop 2 xs)) ∙ get_or-drop 2 xs (2 * i + j) 0 ∙ ap (slice_index xs) (omega arith)

pair_at : (line : List ℕ) (pairs : List (List ℕ)) (i j : ℕ) (d : List ℕ) → pairs ≡ first_chunks 2 (length line / 2) line → i < length line / 2 → j < 2
    → slice_index (get_or pairs i d) j ≡ slice_index line (2 * i + j)
pair_at line pairs i j d are within small = rw are (chunk_at (length line / 2) line i j d within small (omega arith))

-- the two digits of a pair that was read as one number, the first in its low byte
pub digits_at : (line : List ℕ) (pairs : List (List ℕ)) (i number : ℕ) (d : List ℕ) → ((k : ℕ) → slice_index line k < 256) → pairs ≡ first_chunks 2 (length line / 2) line → i < length line / 2
    → number ≡ slice_index (get_or pairs i d) 0 + slice_index (get_or pairs i d) 1 * 256
    → (number % 256 ≡ slice_index line (2 * i)) × (number / 256 ≡ slice_index line (2 * i + 1))
digits_at line pairs i number d small are within is =
    let place : 2 * i + 0 ≡ 2 * i = omega arith in
    let first : slice_index (get_or pairs i d) 0 ≡ slice_index line (2 * i) = pair_at line pairs i 0 d are within (omega arith) ∙ ap (slice_index line) place in
    let second : slice_index (get_or pairs i d) 1 ≡ slice_index line (2 * i + 1) = pair_at line pairs i 1 d are within (omega arith) in
    (omega (arith, first, second, is, small (2 * i), small (2 * i + 1)), omega (arith, first, second, is, small (2 * i), small (2 * i + 1)))

-- a digit's value
pub value_of : (v a b : ℕ) → v ≡ unwrap_or (hex_digit_value a) 255 → a ≡ b → v ≡ unwrap_or (hex_digit_value b) 255
value_of v a b is same = is ∙ ap (λ d. unwrap_or (hex_digit_value d) 255) same
