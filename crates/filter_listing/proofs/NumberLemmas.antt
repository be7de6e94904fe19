-- A number grows with each digit.
use Rattle.std.proofs.Common.{ℕ, ◌+◌, ◌*◌, ◌≤◌, List, [], ◌∷◌, arith, le_refl, le_trans, mul-le-mul_left}
use Rattle.std.specs.Char.{digit_value}
use Rattle.std.specs.Str.Parse.{digits_value_after}

pub le-digits_value_after : (base n : ℕ) (ds : List ℕ) → 1 ≤ base → n ≤ digits_value_after base n ds
le-digits_value_after base n [] h = le_refl n
le-digits_value_after base n (d ∷ ds) h =
    let step : n ≤ n * base + digit_value d = omega (arith, mul-le-mul_left n h) in
    le_trans step (le-digits_value_after base (n * base + digit_value d) ds h)
