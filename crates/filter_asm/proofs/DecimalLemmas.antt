-- What the decimal digits of a number are in assembler text.
use Rattle.std.proofs.Common.{◌≡◌, ℕ, ◌+◌, ◌%◌, ◌<◌, ◌≤◌, ◌^◌, Bool, true, false, not, eqb, List, [], ◌∷◌, ◌++◌, length, get_or, take, Some, refl, ◌∙◌, arith, lit<}
use Rattle.std.specs.Prelude.{◌&&◌, ◌==◌, nat_lt, nat_eq, codes}
use Rattle.std.specs.List.{list_all, starts_with}
use Rattle.std.specs.Char.{is_ascii_digit, is_ascii_alphanumeric, is_digit}
use Rattle.std.specs.Cmp.Lexicographic.{pointwise}
use Rattle.std.specs.Fmt.{decimal}
use Rattle.std.proofs.lemmas.Fmt.{decimal_by_steps, decimal_is_IsNumeral, decimal_digit, first_decimal}
use Rattle.std.proofs.lemmas.List.Folds.{list_all-append}
use Rattle.std.proofs.lemmas.List.Sums.{AllPass-from_list_all}
use Rattle.std.proofs.lemmas.Bool.{cases_Bool, cases_lt, false≢true}
use Rattle.std.proofs.lemmas.Bool.Decides.{nat_tests}
use Rattle.std.proofs.Common.{inl, inr}
use Rattle.bpf_insn.specs.Texts.{is_blank}
use Rattle.filter_asm.specs.Token.{IsToken, EndsBefore, continues, begins_name, continues_name, is_digits}
use Rattle.filter_asm.specs.Number.{magnitude, number}
use Rattle.filter_asm.proofs.FitsLemmas.{both}

-- neither a line feed nor a semicolon
abbrev pub is_plain : ℕ → Bool
is_plain b = not (b == 10) && not (b == 59)

pub list_all-weaker : (p q : ℕ → Bool) → ((b : ℕ) → p b ≡ true → q b ≡ true) → (xs : List ℕ) → list_all p xs ≡ true → list_all q xs ≡ true
list_all-weaker p q weaker [] e = refl
list_all-weaker p q weaker (x ∷ xs) e =
    let parts = both (p x) (list_all p xs) e in
    rw (weaker x parts.0, list_all-weaker p q weaker xs parts.1) refl

digit_bounds : (b : ℕ) → is_ascii_digit b ≡ true → (48 ≤ b) × (b ≤ 57)
digit_bounds b e = (grind (arith, nat_tests), grind (arith, nat_tests))

digit_is_plain : (b : ℕ) → is_ascii_digit b ≡ true → is_plain b ≡ true
digit_is_plain b e = let bounds = digit_bounds b e in grind (arith, nat_tests)

digit_is_alphanumeric : (b : ℕ) → is_ascii_digit b ≡ true → is_ascii_alphanumeric b ≡ true
digit_is_alphanumeric b e = rw e refl

digit_continues_name : (b : ℕ) → is_ascii_digit b ≡ true → continues_name b ≡ true
digit_continues_name b e = rw (digit_is_alphanumeric b e) refl

digit_is_no_blank : (b : ℕ) → is_ascii_digit b ≡ true → is_blank b ≡ false
digit_is_no_blank b e = let bounds = digit_bounds b e in grind (arith, nat_tests)

digit_begins_no_name : (b : ℕ) → is_ascii_digit b ≡ true → begins_name b ≡ false
digit_begins_no_name b e = let bounds = digit_bounds b e in grind (arith, nat_tests)

digit_is_below_ten : (b : ℕ) → is_ascii_digit b ≡ true → is_digit b 10 ≡ true
digit_is_below_ten b e = let bounds = digit_bounds b e in grind (arith, nat_tests)

digit_is_no_x : (b : ℕ) → is_ascii_digit b ≡ true → eqb 120 b ≡ false
digit_is_no_x b e = let bounds = digit_bounds b e in grind (arith, nat_tests)

digit_at : (n : ℕ) → n < 10 → is_ascii_digit (48 + n) ≡ true
digit_at n below = grind (arith, nat_tests)

digits_push : (ds : List ℕ) (b : ℕ) → is_ascii_digit b ≡ true → is_digits ds ≡ true → is_digits (ds ++ b ∷ []) ≡ true
digits_push [] b digit e = digit
digits_push (d ∷ ds) b digit e = e

-- digits, one at least
pub record IsDigits (ds : List ℕ) : Type 0 where
  pub first : is_digits ds ≡ true
  pub all : list_all is_ascii_digit ds ≡ true

step : (n : ℕ) (ds : List ℕ) → 10 ≤ n → IsDigits ds → IsDigits (ds ++ ((48 + n % 10) ∷ []))
step n ds large before =
    let digit = digit_at (n % 10) (omega arith) in
    record {
      first = digits_push ds (48 + n % 10) digit before.first;
      all = list_all-append is_ascii_digit ds ((48 + n % 10) ∷ []) ∙ (rw (before.all, digit) refl);
    }

pub digits-decimal : (n : ℕ) → n < 2 ^ 64 → IsDigits (decimal n)
digits-decimal n small = decimal_by_steps (λ n ds. IsDigits ds) (λ n below. record { first = digit_at n below; all = rw (digit_at n below) refl }) step n small

-- digits are a token
pub digits_token : (ds : List ℕ) → IsDigits ds → IsToken ds
digits_token [] is = absurd (false≢true is.first)
digits_token (d ∷ ds) is =
    let parts = both (is_ascii_digit d) (list_all is_ascii_digit ds) is.all in
    let goes_on = list_all-weaker is_ascii_digit (continues d) (λ b e. rw (digit_begins_no_name d is.first, is.first, digit_is_alphanumeric b e) refl) ds parts.1 in
    (digit_is_no_blank d is.first, AllPass-from_list_all (continues d) ds goes_on)

-- which ends before what is neither a letter nor a digit
pub digits_end : (ds : List ℕ) (b : ℕ) (rest : List ℕ) → IsDigits ds → is_ascii_alphanumeric b ≡ false → EndsBefore ds (b ∷ rest)
digits_end [] b rest is mark = tt
digits_end (d ∷ ds) b rest is mark = rw (digit_begins_no_name d is.first, is.first, mark) refl

-- a letter l before digits makes a name
pub label_token : (ds : List ℕ) → IsDigits ds → IsToken (108 ∷ ds)
label_token ds is = (refl, AllPass-from_list_all continues_name ds (list_all-weaker is_ascii_digit continues_name digit_continues_name ds is.all))

pub digits_plain : (ds : List ℕ) → IsDigits ds → list_all is_plain ds ≡ true
digits_plain ds is = list_all-weaker is_ascii_digit is_plain digit_is_plain ds is.all

neither : (a b c : Bool) → b ≡ false → (a && (b && c)) ≡ false
neither true b c e = rw e refl
neither false b c e = refl

not_hexadecimal : (ds : List ℕ) → IsDigits ds → starts_with nat_eq ds (codes "0x") ≡ false
not_hexadecimal [] is = absurd (false≢true is.first)
not_hexadecimal (d ∷ []) is = neither (eqb 48 d) false false refl
not_hexadecimal (d ∷ e ∷ ds) is =
    let parts = both (is_ascii_digit d) (list_all is_ascii_digit (e ∷ ds)) is.all in
    let second = both (is_ascii_digit e) (list_all is_ascii_digit ds) parts.1 in
    neither (eqb 48 d) (eqb 120 e) (pointwise nat_eq [] (take 0 ds)) (digit_is_no_x e second.0)

no_leading_zero : (n : ℕ) → n < 2 ^ 64 → (nat_lt 1 (length (decimal n)) && (get_or (decimal n) 0 0 == 48)) ≡ false
no_leading_zero n small =
    elim (cases_lt 0 n) [
      | inl some ↦
          let first = first_decimal n some small in
          let other : eqb (get_or (decimal n) 0 0) 48 ≡ false = grind (arith, nat_tests) in
          elim (cases_Bool (nat_lt 1 (length (decimal n)))) [ inl long ↦ rw (long, other) refl | inr short ↦ rw short refl ]
      | inr none ↦ let zero_is : n ≡ 0 = omega arith in rw (zero_is, decimal_digit 0 (lit< tt)) refl
    ]

magnitude-decimal : (n : ℕ) → n < 2 ^ 64 → magnitude (decimal n) ≡ Some n
unfolding magnitude
magnitude-decimal n small =
    let is = digits-decimal n small in
    let below_ten = list_all-weaker is_ascii_digit (λ c. is_digit c 10) digit_is_below_ten (decimal n) is.all in
    rw (not_hexadecimal (decimal n) is, no_leading_zero n small, below_ten, (decimal_is_IsNumeral n small).1) refl

-- the number that they write
pub number-decimal : (n : ℕ) → n < 2 ^ 32 → number false (decimal n) ≡ Some n
unfolding number
number-decimal n small =
    let fits : nat_lt n (2 ^ 32) ≡ true = grind (arith, nat_tests) in
    rw (magnitude-decimal n (omega arith), fits) refl
