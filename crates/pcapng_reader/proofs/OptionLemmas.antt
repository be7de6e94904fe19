-- Options, one after the other.
use Rattle.std.proofs.Common.{◌≡◌, ◌≢◌, ℕ, zero, suc, ◌+◌, ◌-◌, min, ◌≤◌, ◌<◌, ◌==◌, Bool, true, false, List, length, take, drop, arith, refl, ap, sym, ◌∙◌, length-drop, Option, Some, None, if◌then◌else◌}
use Rattle.std.proofs.lemmas.Bool.Decides.{nat_tests}
use Rattle.std.proofs.lemmas.List.{take_rest, drop_min}
use Rattle.std.proofs.Math.Nat.{min_comm}
use Rattle.pcap_reader.specs.Savefile.{number}
use Rattle.pcapng_reader.specs.Options.{option_in, ends_options, padded}

ends_short : (big : Bool) (bytes : List ℕ) → length bytes ≤ 3 → ends_options big bytes ≡ true
ends_short big bytes short = grind (arith, nat_tests)

-- no option is in front of bytes that end the options
pub option_none : (n : ℕ) (big : Bool) (code : ℕ) (bytes : List ℕ) → ends_options big bytes ≡ true → option_in n big code bytes ≡ None
option_none zero big code bytes ends = refl
option_none (suc n) big code bytes ends = rw ends refl

-- as many options as there are bytes are enough
pub option_enough : (n m : ℕ) (big : Bool) (code : ℕ) (bytes : List ℕ) → length bytes ≤ n → length bytes ≤ m → option_in n big code bytes ≡ option_in m big code bytes
option_enough zero m big code bytes few many = sym (option_none m big code bytes (ends_short big bytes (omega arith)))
option_enough (suc n) zero big code bytes few many = option_none (suc n) big code bytes (ends_short big bytes (omega arith))
option_enough (suc n) (suc m) big code bytes few many =
    let k = 4 + padded (number big 2 (drop 2 bytes)) in
    ap (λ (r : Option (List ℕ)). if ends_options big bytes then None else (if number big 2 bytes == code then Some (take (number big 2 (drop 2 bytes)) (drop 4 bytes)) else r))
    (option_enough n m big code (drop k bytes) (omega (arith, length-drop k bytes)) (omega (arith, length-drop k bytes)))

-- an option is in front
pub goes_on : (big : Bool) (bytes : List ℕ) → 4 ≤ length bytes → number big 2 bytes ≢ 0 → 4 + number big 2 (drop 2 bytes) ≤ length bytes → ends_options big bytes ≡ false
goes_on big bytes long some fits = grind (arith, nat_tests)

option_at : (n : ℕ) (big : Bool) (code : ℕ) (bytes : List ℕ) → 4 ≤ n → ends_options big bytes ≡ false → number big 2 bytes == code ≡ true → option_in n big code bytes ≡ Some (take (number big 2 (drop 2 bytes)) (drop 4 bytes))
option_at (suc n) big code bytes some goes same = rw (goes, same) refl
option_at zero big code bytes some goes same = absurd (omega arith)

option_after : (n : ℕ) (big : Bool) (code : ℕ) (bytes : List ℕ) → 4 ≤ n → length bytes ≤ n → ends_options big bytes ≡ false → number big 2 bytes == code ≡ false
    → (rest : List ℕ) → rest ≡ drop (4 + padded (number big 2 (drop 2 bytes))) bytes → option_in (length rest) big code rest ≡ option_in n big code bytes
option_after (suc n) big code bytes some few goes other rest is =
    let k = 4 + padded (number big 2 (drop 2 bytes)) in
    rw (goes, other, is) (option_enough (length (drop k bytes)) n big code (drop k bytes) (omega arith) (omega (arith, length-drop k bytes)))
option_after zero big code bytes some few goes other rest is = absurd (omega arith)

eq_true : (a b : ℕ) → a ≡ b → a == b ≡ true
eq_true a b e = grind (arith, nat_tests)

eq_false : (a b : ℕ) → a ≢ b → a == b ≡ false
eq_false a b e = grind (arith, nat_tests)

-- it is the one that is sought
pub option_found : (big : Bool) (code : ℕ) (bytes : List ℕ) → 4 ≤ length bytes → number big 2 bytes ≢ 0 → 4 + number big 2 (drop 2 bytes) ≤ length bytes → number big 2 bytes ≡ code
    → option_in (length bytes) big code bytes ≡ Some (take (number big 2 (drop 2 bytes)) (drop 4 bytes))
option_found big code bytes long some fits same = option_at (length bytes) big code bytes long (goes_on big bytes long some fits) (eq_true _ _ same)

-- it is another
pub option_passed : (big : Bool) (code : ℕ) (bytes rest : List ℕ) → 4 ≤ length bytes → number big 2 bytes ≢ 0 → 4 + number big 2 (drop 2 bytes) ≤ length bytes → number big 2 bytes ≢ code
    → rest ≡ drop (4 + padded (number big 2 (drop 2 bytes))) bytes → option_in (length rest) big code rest ≡ option_in (length bytes) big code bytes
option_passed big code bytes rest long some fits other is =
    option_after (length bytes) big code bytes long (omega arith) (goes_on big bytes long some fits) (eq_false _ _ other) rest is

-- there is none
pub option_short : (big : Bool) (code : ℕ) (bytes : List ℕ) → length bytes < 4 → option_in (length bytes) big code bytes ≡ None
option_short big code bytes short = option_none (length bytes) big code bytes (ends_short big bytes (omega arith))

-- what is left after so many bytes, or after all
pub rest_after : (bytes : List ℕ) (count n : ℕ) → count ≡ min (length bytes) n → take (length bytes - count) (drop count bytes) ≡ drop n bytes
rest_after bytes count n is = take_rest bytes count ∙ (ap (λ k. drop k bytes) (is ∙ min_comm (length bytes) n) ∙ drop_min n bytes)
