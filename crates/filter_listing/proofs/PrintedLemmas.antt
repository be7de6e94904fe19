-- Numbers that are printed are read.
use denote.Ref.{Bor}
use Rattle.std.proofs.Common.{◌≡◌, ◌≢◌, ◌⊎◌, ℕ, suc, ◌+◌, ◌-◌, ◌<◌, ◌≤◌, ◌^◌, inl, inr, eqb, Bool, true, false, List, [], ◌∷◌, ◌++◌, append_assoc, length, take, drop, Option, Some, None, refl, sym, ap, subst, ◌∙◌, arith, lit≤}
use Rattle.std.specs.Prelude.{◌&&◌, nat_lt, MatchOption}
use Rattle.std.specs.List.{list_all}
use Rattle.std.specs.Char.{is_digit, digit_value}
use Rattle.std.specs.Fmt.{decimal, digits}
use Rattle.std.specs.Str.Parse.{AllDigits, IsNumeral, digits_value}
use Rattle.std.proofs.lemmas.Bool.{lt-ltb, ltb-true, cases_lt, cases_order}
use Rattle.std.proofs.lemmas.Bool.Decides.{nat_tests}
use Rattle.std.proofs.lemmas.List.{append_cancel_left, append_cancel_right, map-append, take-append-drop}
use Rattle.std.proofs.lemmas.Fmt.{digits_is_IsNumeral, decimal_is_IsNumeral, decimal_injective}
use Rattle.filter_listing.specs.Number.{in_base, below_2_32, below_zero, from_zero}
use Rattle.filter_listing.specs.Image.{IsBody, IsImage, hexadecimal, label, look_up, row_of, rows, signed}
use Rattle.bpf_insn.specs.declared.insn.Insn.{Insn}
use Rattle.filter_listing.specs.declared.mnemonic.Mnemonic.{Mnemonic}
use Rattle.filter_listing.specs.declared.mnemonic.Operand.{Operand}
use Rattle.line_words.specs.Words.{texts, word_at}

all_digits : (base : ℕ) (ds : List ℕ) → AllDigits base ds → list_all (λ c. is_digit c base) ds ≡ true
all_digits base [] h = refl
all_digits base (c ∷ cs) h = rw (lt-ltb (digit_value c) base h.0, all_digits base cs h.1) refl

numeral_read : (base n : ℕ) (ds : List ℕ) → IsNumeral base ds → digits_value base ds ≡ n → n < 2 ^ 32 → below_2_32 (in_base base ds) ≡ Some n
numeral_read base n ds is value low = rw (lt-ltb 0 (length ds) is.0, all_digits base ds is.1, value, lt-ltb n (2 ^ 32) low) refl

pub decimal_read : (n : ℕ) → n < 2 ^ 32 → below_2_32 (in_base 10 (decimal n)) ≡ Some n
decimal_read n low = let is = decimal_is_IsNumeral n (omega arith) in numeral_read 10 n (decimal n) is.0 is.1 low

pub hexadecimal_read : (n : ℕ) → n < 2 ^ 32 → below_2_32 (in_base 16 (hexadecimal n)) ≡ Some n
hexadecimal_read n low =
    let within : n < 16 ^ 64 = omega arith in
    let is = digits_is_IsNumeral 16 false (lit≤ tt) (lit≤ tt) n within in
    numeral_read 16 n (hexadecimal n) is.0 is.1 low

-- a word that prints no number that is read prints none
pub prints_no_other : (print : ℕ → List ℕ) (read : List ℕ → Option ℕ) → ((n : ℕ) → n < 2 ^ 32 → read (print n) ≡ Some n) → (word : List ℕ) (found : ℕ) → read word ≡ Some found → (print found ≡ word → ⊥)
    → (n : ℕ) → n < 2 ^ 32 → word ≡ print n → ⊥
prints_no_other print read back word found is other n low e =
    let same : Some found ≡ Some n = sym is ∙ (ap read e ∙ back n low) in
    let number : found ≡ n = cc in
    other (ap print number ∙ sym e)

pub prints_none : (print : ℕ → List ℕ) (read : List ℕ → Option ℕ) → ((n : ℕ) → n < 2 ^ 32 → read (print n) ≡ Some n) → (word : List ℕ) → read word ≡ None
    → (n : ℕ) → n < 2 ^ 32 → word ≡ print n → ⊥
prints_none print read back word is n low e =
    let same : None ≡ Some n = sym is ∙ (ap read e ∙ back n low) in
    cc

not_eqb : (m n : ℕ) → m ≢ n → eqb m n ≡ false
not_eqb m n apart = grind (arith, nat_tests)

cases_eq : (m n : ℕ) → (m ≡ n) ⊎ (m ≢ n)
cases_eq m n = elim (cases_order m n) [
  | inl same ↦ inl same
  | inr apart ↦ elim apart [ inl less ↦ inr (λ e. omega arith) | inr more ↦ inr (λ e. omega arith) ]
]

both : (a b : Bool) → (a && b) ≡ true → (a ≡ true) × (b ≡ true)
both true b e = (refl, e)
both false b e = absurd (cc)

-- a decimal number has no sign
no_sign : (n : ℕ) (ds : List ℕ) → n < 2 ^ 32 → 45 ∷ ds ≡ decimal n → ⊥
no_sign n ds low e =
    let P : List ℕ → Type 0 = λ l. AllDigits 10 l in
    let digits : AllDigits 10 (45 ∷ ds) = subst P (sym e) (decimal_is_IsNumeral n (omega arith)).0.1 in
    omega (arith, digits.0)

-- a text after `-` that is no decimal number is none after it
pub minus_none : (digits : List ℕ) → ((n : ℕ) → n < 2 ^ 32 → digits ≡ decimal n → ⊥) → (n : ℕ) → n < 2 ^ 32 → 45 ∷ digits ≡ signed n → ⊥
minus_none digits none n low e = elim (cases_lt n (2 ^ 31)) [
  | inl small ↦ no_sign n digits low (rw (lt-ltb n (2 ^ 31) small) at e)
  | inr large ↦
      let test : nat_lt n (2 ^ 31) ≡ false = grind (arith, nat_tests) in
      let is : 45 ∷ digits ≡ 45 ∷ decimal (2 ^ 32 - n) = rw test at e in
      none (2 ^ 32 - n) (omega arith) (cc)
]

abbrev pub Printed : (ℕ → List ℕ) → List ℕ → Option ℕ → Type 0
Printed print word found = MatchOption found ((n : ℕ) → n < 2 ^ 32 → word ≡ print n → ⊥) (λ n. word ≡ print n)

pub minus_some : (m : ℕ) → m < 2 ^ 32 → Printed signed (45 ∷ decimal m) (below_zero m)
minus_some m low = elim (cases_eq m 0) [
  | inl zero_is ↦ rw zero_is (λ n below e. elim (cases_lt n (2 ^ 31)) [
    | inl small ↦ no_sign n (decimal 0) below (rw (lt-ltb n (2 ^ 31) small) at e)
    | inr large ↦
        let test : nat_lt n (2 ^ 31) ≡ false = grind (arith, nat_tests) in
        let is : 45 ∷ decimal 0 ≡ 45 ∷ decimal (2 ^ 32 - n) = rw test at e in
        let same : decimal 0 ≡ decimal (2 ^ 32 - n) = cc in
        let number : 0 ≡ 2 ^ 32 - n = decimal_injective 0 (2 ^ 32 - n) (omega arith) (omega arith) same in
        omega arith
  ])
  | inr some ↦ elim (cases_lt (2 ^ 31) m) [
    | inl large ↦ rw (not_eqb m 0 some, lt-ltb (2 ^ 31) m large) (λ n below e. elim (cases_lt n (2 ^ 31)) [
      | inl small ↦ no_sign n (decimal m) below (rw (lt-ltb n (2 ^ 31) small) at e)
      | inr high ↦
          let test : nat_lt n (2 ^ 31) ≡ false = grind (arith, nat_tests) in
          let is : 45 ∷ decimal m ≡ 45 ∷ decimal (2 ^ 32 - n) = rw test at e in
          let same : decimal m ≡ decimal (2 ^ 32 - n) = cc in
          let number : m ≡ 2 ^ 32 - n = decimal_injective m (2 ^ 32 - n) (omega arith) (omega arith) same in
          omega arith
    ])
    | inr small ↦
        let test : nat_lt (2 ^ 31) m ≡ false = grind (arith, nat_tests) in
        let negative : nat_lt (2 ^ 32 - m) (2 ^ 31) ≡ false = grind (arith, nat_tests) in
        let back : 2 ^ 32 - (2 ^ 32 - m) ≡ m = omega arith in
        rw (not_eqb m 0 some, test, negative, back) refl
  ]
]

-- without a `-` it is a number from 0 on
pub plus_none : (word : List ℕ) → ((rest : List ℕ) → word ≡ 45 ∷ rest → ⊥) → ((n : ℕ) → n < 2 ^ 32 → word ≡ decimal n → ⊥) → (n : ℕ) → n < 2 ^ 32 → word ≡ signed n → ⊥
plus_none word unsigned none n low e = elim (cases_lt n (2 ^ 31)) [
  | inl small ↦ none n low (rw (lt-ltb n (2 ^ 31) small) at e)
  | inr large ↦ let test : nat_lt n (2 ^ 31) ≡ false = grind (arith, nat_tests) in unsigned (decimal (2 ^ 32 - n)) (rw test at e)
]

pub plus_some : (m : ℕ) → m < 2 ^ 32 → Printed signed (decimal m) (from_zero m)
plus_some m low = elim (cases_lt m (2 ^ 31)) [
  | inl small ↦ rw (lt-ltb m (2 ^ 31) small) (rw (lt-ltb m (2 ^ 31) small) refl)
  | inr large ↦
      let none : nat_lt m (2 ^ 31) ≡ false = grind (arith, nat_tests) in
      rw none (λ n below e. elim (cases_lt n (2 ^ 31)) [
        | inl small ↦
            let same : decimal m ≡ decimal n = rw (lt-ltb n (2 ^ 31) small) at e in
            let number : m ≡ n = decimal_injective m n (omega arith) (omega arith) same in
            omega arith
        | inr high ↦ let test : nat_lt n (2 ^ 31) ≡ false = grind (arith, nat_tests) in no_sign m (decimal (2 ^ 32 - n)) low (sym (rw test at e))
      ])
]

-- what stands between two texts
pub between_is : (word before rest after : List ℕ) (r : Option (Bor (List ℕ))) → word ≡ before ++ rest → MatchOption r ((front : List ℕ) → rest ≢ front ++ after) (λ x. rest ≡ x.now ++ after)
    → MatchOption r ((middle : List ℕ) → word ≡ before ++ middle ++ after → ⊥) (λ middle. word ≡ before ++ middle.now ++ after)
between_is word before rest after None e m = λ middle is. m middle (append_cancel_left before rest (middle ++ after) (sym e ∙ (is ∙ append_assoc before middle after)))
between_is word before rest after (Some x) e m = e ∙ (ap (λ l. before ++ l) m ∙ sym (append_assoc before x.now after))

pub not_begun : (word before after : List ℕ) → ((rest : List ℕ) → word ≢ before ++ rest) → (middle : List ℕ) → word ≡ before ++ middle ++ after → ⊥
not_begun word before after none middle is = none (middle ++ after) (is ∙ append_assoc before middle after)

-- a print between two texts
pub print_none : (print : ℕ → List ℕ) (word before after : List ℕ) → ((middle : List ℕ) → word ≡ before ++ middle ++ after → ⊥) → (n : ℕ) → n < 2 ^ 32 → word ≡ before ++ print n ++ after → ⊥
print_none print word before after none n low e = none (print n) e

pub print_between : (print : ℕ → List ℕ) (word before middle after : List ℕ) (found : Option ℕ) → word ≡ before ++ middle ++ after → Printed print middle found → Printed (λ n. before ++ print n ++ after) word found
print_between print word before middle after None e m = λ n low is. m n low (append_cancel_left before middle (print n) (append_cancel_right (before ++ middle) (before ++ print n) after (sym e ∙ is)))
print_between print word before middle after (Some n) e m = e ∙ ap (λ l. before ++ l ++ after) m

-- a word alone
abbrev pub PrintedWords : (ℕ → List (List ℕ)) → List (List ℕ) → Option ℕ → Type 0
PrintedWords print words found = MatchOption found ((n : ℕ) → n < 2 ^ 32 → words ≡ print n → ⊥) (λ n. words ≡ print n)

pub alone : (print : ℕ → List ℕ) (word : List ℕ) (found : Option ℕ) → Printed print word found → PrintedWords (λ n. print n ∷ []) (word ∷ []) found
alone print word None m = λ n low e. m n low (cc)
alone print word (Some n) m = ap (λ w. w ∷ []) m

-- the target of a branch
pub branch_is : (word : List ℕ) (place target : ℕ) (found : Option ℕ) → place < 4096 → target < 2 ^ 32 → word ≡ decimal target → MatchOption found ((n : ℕ) → n < 2 ^ 8 → target ≡ place + 1 + n → ⊥) (λ n. target ≡ place + 1 + n)
    → MatchOption found ((n : ℕ) → n < 2 ^ 8 → word ≡ decimal (place + 1 + n) → ⊥) (λ n. word ≡ decimal (place + 1 + n))
branch_is word place target None low below e m = λ n small is. m n small (decimal_injective target (place + 1 + n) (omega arith) (omega arith) (sym e ∙ is))
branch_is word place target (Some n) low below e m = e ∙ ap decimal m

-- four words
pub four : (ws : List (List ℕ)) (a b c d : List ℕ) → length ws ≡ 4 → word_at ws 0 ≡ a → word_at ws 1 ≡ b → word_at ws 2 ≡ c → word_at ws 3 ≡ d → ws ≡ a ∷ b ∷ c ∷ d ∷ []
four [] a b c d long e f g h = absurd (omega (arith, long))
four (p ∷ []) a b c d long e f g h = absurd (omega (arith, long))
four (p ∷ q ∷ []) a b c d long e f g h = absurd (omega (arith, long))
four (p ∷ q ∷ r ∷ []) a b c d long e f g h = absurd (omega (arith, long))
four (p ∷ q ∷ r ∷ s ∷ []) a b c d long e f g h = cc
four (p ∷ q ∷ r ∷ s ∷ t ∷ ws) a b c d long e f g h = absurd (omega (arith, long))

-- words that are cut in two
pub joined : (ws front back : List (Bor (List ℕ))) (n : ℕ) (a b : List (List ℕ)) → front ≡ take n ws → back ≡ drop n ws → texts front ≡ a → texts back ≡ b → texts ws ≡ a ++ b
joined ws front back n a b e f g h =
    ap texts (sym (take-append-drop n ws)) ∙ (map-append (λ w. w.now) (take n ws) (drop n ws) ∙ (ap (λ l. texts l ++ texts (drop n ws)) (sym e) ∙ (ap (λ l. texts front ++ texts l) (sym f)
    ∙ (ap (λ l. l ++ texts back) g ∙ ap (λ l. a ++ l) h))))

-- a code that has a row is low
look_up_low : (code bound : ℕ) (rows : List (ℕ × Mnemonic × Operand)) (found : Mnemonic × Operand) → list_all (λ r. nat_lt r.0 bound) rows ≡ true → look_up code rows ≡ Some found → code < bound
look_up_low code bound [] found all e = absurd (cc)
look_up_low code bound (r ∷ rows) found all e = elim (cases_eq code r.0) [
  | inl same ↦ let low : r.0 < bound = ltb-true r.0 bound (both (nat_lt r.0 bound) (list_all (λ s. nat_lt s.0 bound) rows) all).0 in omega (arith, same, low)
  | inr apart ↦ look_up_low code bound rows found (both (nat_lt r.0 bound) (list_all (λ s. nat_lt s.0 bound) rows) all).1 (rw (not_eqb code r.0 apart) at e)
]

pub row_low : (code : ℕ) (found : Mnemonic × Operand) → row_of code ≡ Some found → code < 178
unfolding row_of
row_low code found e = look_up_low code 178 rows found refl e

pub long_texts : (ws : List (Bor (List ℕ))) → length (texts ws) ≡ length ws
long_texts [] = refl
long_texts (w ∷ ws) = ap suc (long_texts ws)

-- a label and a body are a line
pub image_is : (place : ℕ) (words : List (List ℕ)) (first word : List ℕ) (rest : List (List ℕ)) (found : Option Insn) → words ≡ first ∷ word ∷ rest → first ≡ label place
    → MatchOption found ((insn : Insn) → IsBody place (word ∷ rest) insn → ⊥) (IsBody place (word ∷ rest)) → MatchOption found ((insn : Insn) → IsImage place words insn → ⊥) (IsImage place words)
image_is place words first word rest None e l m = λ insn is.
    let whole : first ∷ word ∷ rest ≡ label place ∷ is.0 = sym e ∙ is.1 in
    let same : is.0 ≡ word ∷ rest = cc in
    m insn (rw same at is.2)
image_is place words first word rest (Some insn) e l m = (word ∷ rest, e ∙ ap (λ f. f ∷ word ∷ rest) l, m)
