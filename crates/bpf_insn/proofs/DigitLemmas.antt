-- Digits, one after another.
use Rattle.std.proofs.Common.{◌≡◌, ℕ, zero, suc, ◌+◌, ◌-◌, ◌<◌, ◌*◌, ◌&&◌, min, Bool, List, [], ◌∷◌, ◌++◌, length, take, get_or, arith, refl, true, false, None}
use Rattle.std.specs.Char.{is_ascii_digit}
use Rattle.std.specs.Int.{IsInRange}
use Rattle.std.specs.Str.{all_ascii_digits}
use Rattle.std.specs.Str.Parse.{digits_value}
use Rattle.std.proofs.lemmas.Str.{digit_value_digit}
use Rattle.std.proofs.lemmas.Str.Parse.{tells_all_ascii_digits}
use Rattle.std.proofs.lemmas.Int.Digits.{digits_value_push}
use Rattle.std.proofs.lemmas.List.{take_more}
use Rattle.bpf_insn.specs.Texts.{number_of}

-- a false conjunct makes a conjunction false
and_false : (b : Bool) → (b && false) ≡ false
and_false true = refl
and_false false = refl

-- a byte that is no digit makes a word no number
pub no_digit_at : (xs : List ℕ) (i : ℕ) → i < length xs → is_ascii_digit (get_or xs i 0) ≡ false → all_ascii_digits xs ≡ false
no_digit_at [] i within bad = absurd (omega arith)
no_digit_at (x ∷ xs) zero within bad = rw bad refl
no_digit_at (x ∷ xs) (suc i) within bad = rw (no_digit_at xs i (omega arith) bad) (and_false (is_ascii_digit x))

pub no_digit_no_number : (xs : List ℕ) (i : ℕ) → i < length xs → is_ascii_digit (get_or xs i 0) ≡ false → number_of xs ≡ None
no_digit_no_number xs i within bad = rw (no_digit_at xs i within bad, and_false) refl

digits_push : (xs : List ℕ) (y : ℕ) → all_ascii_digits xs ≡ true → is_ascii_digit y ≡ true → all_ascii_digits (xs ++ y ∷ []) ≡ true
digits_push [] y all one = rw one refl
digits_push (x ∷ xs) y all one =
    let parts = tells_all_ascii_digits.parts x xs all in
    tells_all_ascii_digits.more x (xs ++ y ∷ []) parts.0 (digits_push xs y parts.1 one)

-- what passes the test of digits is a digit
pub digit_in_range : (y : ℕ) → is_ascii_digit y ≡ true → IsInRange 48 57 y
digit_in_range y one = (tells_all_ascii_digits.parts y [] (digits_push [] y refl one)).0

-- one more digit
pub digits_more : (xs : List ℕ) (i : ℕ) → i < length xs → all_ascii_digits (take i xs) ≡ true → is_ascii_digit (get_or xs i 0) ≡ true → all_ascii_digits (take (i + 1) xs) ≡ true
digits_more xs i within all one = rw (take_more xs i 0 within) (digits_push (take i xs) (get_or xs i 0) all one)

pub value_more : (xs : List ℕ) (i v : ℕ) → i < length xs → IsInRange 48 57 (get_or xs i 0) → v ≡ min (digits_value 10 (take i xs)) 4294967296
    → min (v * 10 + (get_or xs i 0 - 48)) 4294967296 ≡ min (digits_value 10 (take (i + 1) xs)) 4294967296
value_more xs i v within digit e = rw (take_more xs i 0 within, digits_value_push 10 (take i xs) (get_or xs i 0)) (omega (arith, digit_value_digit (get_or xs i 0) digit))
