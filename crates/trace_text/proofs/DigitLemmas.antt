-- Decimal numbers as words that `draw` reads.
use Rattle.std.proofs.Common.{◌≡◌, ℕ, ◌+◌, ◌-◌, ◌*◌, ◌/◌, ◌%◌, ◌<◌, ◌≤◌, Bool, true, false, eqb, ltb, leb, List, [], ◌∷◌, ◌++◌, length, Some, refl, ap, ◌∙◌, inl, inr, arith, length-append}
use Rattle.std.specs.Prelude.{codes, nat_lt}
use Rattle.std.specs.Char.{is_ascii_digit}
use Rattle.std.specs.Fmt.{decimal, digits, digit_glyph}
use Rattle.std.specs.Int.{IsInRange}
use Rattle.std.specs.List.{list_all}
use Rattle.std.specs.Str.{all_ascii_digits, bytes_eq}
use Rattle.std.proofs.lemmas.Bool.{and_from, cases_lt, lt-ltb}
use Rattle.std.proofs.lemmas.Bool.Decides.{nat_tests}
use Rattle.std.proofs.lemmas.List.Folds.{list_all-append}
use Rattle.std.proofs.lemmas.Str.Parse.{tells_all_ascii_digits}
use Rattle.trace_lines.specs.Lines.{core_of, core_below}
use Rattle.trace_lines.specs.Words.{is_number, is_no}
use Rattle.trace_text.proofs.TextLemmas.{decimal_digits, decimal_some}
use Rattle.trace_text.proofs.WordLemmas.{is_letter, is_word}

-- Words that begin with a digit

record BeginsWithDigit (w : List ℕ) : Type 0 where
  pub first : ℕ
  pub rest : List ℕ
  pub is : w ≡ first ∷ rest
  pub low : 48 ≤ first
  pub high : first ≤ 57

digits_begin : (ds : List ℕ) → 0 < length ds → all_ascii_digits ds ≡ true → BeginsWithDigit ds
digits_begin [] some all = absurd (omega arith)
digits_begin (d ∷ ds) some all = let p = tells_all_ascii_digits.parts d ds all in record { first = d; rest = ds; is = refl; low = omega (arith, p.0); high = omega (arith, p.0) }

decimal_begins : (n : ℕ) → BeginsWithDigit (decimal n)
decimal_begins n = digits_begin (decimal n) (decimal_some n) (decimal_digits n)

begins_more : (w more : List ℕ) → BeginsWithDigit w → BeginsWithDigit (w ++ more)
begins_more w more b = record { first = b.first; rest = b.rest ++ more; is = ap (λ v. v ++ more) b.is; low = b.low; high = b.high }

-- they are none of the words that mean something
digit_no : (w : List ℕ) → BeginsWithDigit w → is_no w ≡ false
digit_no w b =
    let r : eqb b.first 114 ≡ false = grind (arith, nat_tests) in
    let f : eqb b.first 102 ≡ false = grind (arith, nat_tests) in
    let u : eqb b.first 66 ≡ false = grind (arith, nat_tests) in
    let n : eqb b.first 78 ≡ false = grind (arith, nat_tests) in
    let a : eqb b.first 97 ≡ false = grind (arith, nat_tests) in
    ap is_no b.is ∙ (rw (r, f, u, n, a) refl)

digit_core : (w : List ℕ) → BeginsWithDigit w → bytes_eq w (codes "NoSuchCore") ≡ false
digit_core w b =
    let n : eqb b.first 78 ≡ false = grind (arith, nat_tests) in
    ap (λ v. bytes_eq v (codes "NoSuchCore")) b.is ∙ (rw n refl)

pub decimal_no : (n : ℕ) → is_no (decimal n) ≡ false
decimal_no n = digit_no (decimal n) (decimal_begins n)

pub decimal_core : (n : ℕ) → bytes_eq (decimal n) (codes "NoSuchCore") ≡ false
decimal_core n = digit_core (decimal n) (decimal_begins n)

pub pair_no : (n m : ℕ) → is_no (decimal n ++ 61 ∷ decimal m) ≡ false
pair_no n m = digit_no (decimal n ++ 61 ∷ decimal m) (begins_more (decimal n) (61 ∷ decimal m) (decimal_begins n))

pub pair_core : (n m : ℕ) → bytes_eq (decimal n ++ 61 ∷ decimal m) (codes "NoSuchCore") ≡ false
pair_core n m = digit_core (decimal n ++ 61 ∷ decimal m) (begins_more (decimal n) (61 ∷ decimal m) (decimal_begins n))

-- Their bytes

digit_letter : (d : ℕ) → IsInRange 48 57 d → is_letter d ≡ true
digit_letter d is = grind (arith, nat_tests)

digit_digit : (d : ℕ) → IsInRange 48 57 d → is_ascii_digit d ≡ true
digit_digit d is = grind (arith, nat_tests)

digits_are : (p : ℕ → Bool) → ((d : ℕ) → IsInRange 48 57 d → p d ≡ true) → (ds : List ℕ) → all_ascii_digits ds ≡ true → list_all p ds ≡ true
digits_are p each [] all = refl
digits_are p each (d ∷ ds) all = let parts = tells_all_ascii_digits.parts d ds all in and_from (p d) (list_all p ds) (each d parts.0) (digits_are p each ds parts.1)

decimal_letters : (n : ℕ) → list_all is_letter (decimal n) ≡ true
decimal_letters n = digits_are is_letter digit_letter (decimal n) (decimal_digits n)

pub decimal_word : (n : ℕ) → is_word (decimal n) ≡ true
decimal_word n = and_from (nat_lt 0 (length (decimal n))) (list_all is_letter (decimal n)) (lt-ltb 0 (length (decimal n)) (decimal_some n)) (decimal_letters n)

-- and with letters after them
pub decimal_then : (n : ℕ) (more : List ℕ) → list_all is_letter more ≡ true → is_word (decimal n ++ more) ≡ true
decimal_then n more letters =
    let some : 0 < length (decimal n ++ more) = omega (arith, length-append (decimal n) more, decimal_some n) in
    and_from (nat_lt 0 (length (decimal n ++ more))) (list_all is_letter (decimal n ++ more)) (lt-ltb 0 (length (decimal n ++ more)) some)
    (list_all-append is_letter (decimal n) more ∙ and_from (list_all is_letter (decimal n)) (list_all is_letter more) (decimal_letters n) letters)

pub decimal_pair : (n m : ℕ) → is_word (decimal n ++ 61 ∷ decimal m) ≡ true
decimal_pair n m = decimal_then n (61 ∷ decimal m) (decimal_letters m)

-- a number
pub decimal_number : (n : ℕ) → is_number (decimal n) ≡ true
decimal_number n = and_from (nat_lt 0 (length (decimal n))) (list_all is_ascii_digit (decimal n)) (lt-ltb 0 (length (decimal n)) (decimal_some n)) (digits_are is_ascii_digit digit_digit (decimal n) (decimal_digits n))

-- Cores

glyph : (n : ℕ) → n < 10 → digit_glyph false n ≡ 48 + n
glyph n less = let small : ltb n 10 ≡ true = lt-ltb n 10 less in rw small refl

one_digit : (n : ℕ) → n < 10 → decimal n ≡ (48 + n) ∷ []
unfolding digits
one_digit n less =
    let last : eqb (n / 10) 0 ≡ true = grind (arith, nat_tests) in
    let same : n % 10 ≡ n = omega arith in
    rw last (ap (λ d. d ∷ []) (ap (digit_glyph false) same ∙ glyph n less))

two_digits : (n : ℕ) → 10 ≤ n → n < 100 → decimal n ≡ (48 + n / 10) ∷ (48 + n % 10) ∷ []
unfolding digits
two_digits n more less =
    let goes_on : eqb (n / 10) 0 ≡ false = grind (arith, nat_tests) in
    let last : eqb (n / 10 / 10) 0 ≡ true = grind (arith, nat_tests) in
    let same : n / 10 % 10 ≡ n / 10 = omega arith in
    let tens : digit_glyph false (n / 10 % 10) ≡ 48 + n / 10 = ap (digit_glyph false) same ∙ glyph (n / 10) (omega arith) in
    let ones : digit_glyph false (n % 10) ≡ 48 + n % 10 = glyph (n % 10) (omega arith) in
    rw goes_on (rw last (λ i. tens i ∷ ones i ∷ []))

one_read : (d : ℕ) → d < 10 → core_of ((48 + d) ∷ []) ≡ Some d
one_read d less =
    let low : leb 48 (48 + d) ≡ true = grind (arith, nat_tests) in
    let high : leb (48 + d) 57 ≡ true = grind (arith, nat_tests) in
    let back : 48 + d - 48 ≡ d = omega arith in
    rw (low, high) (ap Some back)

two_read : (t o n : ℕ) → 0 < t → t < 10 → o < 10 → n ≡ 10 * t + o → n < 64 → core_of ((48 + t) ∷ (48 + o) ∷ []) ≡ Some n
two_read t o n some t_less o_less is less =
    let t_low : leb 49 (48 + t) ≡ true = grind (arith, nat_tests) in
    let t_high : leb (48 + t) 57 ≡ true = grind (arith, nat_tests) in
    let o_low : leb 48 (48 + o) ≡ true = grind (arith, nat_tests) in
    let o_high : leb (48 + o) 57 ≡ true = grind (arith, nat_tests) in
    let back : 10 * (48 + t - 48) + (48 + o - 48) ≡ n = omega arith in
    let below : ltb n 64 ≡ true = lt-ltb n 64 less in
    rw (t_low, t_high, o_low, o_high) (ap core_below back ∙ (rw below refl))

-- a core below 64
pub core_read : (n : ℕ) → n < 64 → core_of (decimal n) ≡ Some n
core_read n less = elim (cases_lt n 10) [
  | inl one ↦ ap core_of (one_digit n one) ∙ one_read n one
  | inr two ↦ ap core_of (two_digits n two (omega arith)) ∙ two_read (n / 10) (n % 10) n (omega arith) (omega arith) (omega arith) (omega arith) less
]
