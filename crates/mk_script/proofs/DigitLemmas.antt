-- Digits of a number, one after another.
use Rattle.std.proofs.Common.{◌≡◌, ℕ, ◌+◌, ◌-◌, ◌<◌, ◌*◌, min, List, length, take, get_or, arith}
use Rattle.std.specs.Int.{IsInRange}
use Rattle.std.specs.Str.Parse.{digits_value}
use Rattle.std.proofs.lemmas.Str.{digit_value_digit}
use Rattle.std.proofs.lemmas.Int.Digits.{digits_value_push}
use Rattle.std.proofs.lemmas.List.{take_more}

pub value_more : (xs : List ℕ) (i v : ℕ) → i < length xs → IsInRange 48 57 (get_or xs i 0) → v ≡ min (digits_value 10 (take i xs)) 18446744073709551616
    → min (v * 10 + (get_or xs i 0 - 48)) 18446744073709551616 ≡ min (digits_value 10 (take (i + 1) xs)) 18446744073709551616
value_more xs i v within digit e = rw (take_more xs i 0 within, digits_value_push 10 (take i xs) (get_or xs i 0)) (omega (arith, digit_value_digit (get_or xs i 0) digit))
