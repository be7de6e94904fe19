-- What the bytes of a printed line are: digits, words that blanks part, and no LF or colon where there is none.
use Rattle.std.proofs.Common.{◌≡◌, ℕ, zero, suc, ◌/◌, ◌%◌, ◌<◌, ◌^◌, Bool, true, false, not, eqb, ltb, List, [], ◌∷◌, ◌++◌, length, filter, Ok, refl, ap, ◌∙◌, inl, inr, arith}
use Rattle.std.specs.List.{All, list_any, slice_split}
use Rattle.std.specs.Fmt.{decimal, digits, digits_onto, digit_glyph}
use Rattle.std.specs.Int.{IsInRange}
use Rattle.std.specs.Str.{all_ascii_digits}
use Rattle.std.proofs.lemmas.Bool.{cases_Bool}
use Rattle.std.proofs.lemmas.Bool.Decides.{nat_tests}
use Rattle.std.proofs.lemmas.Grind.{common_steps}
use Rattle.std.proofs.lemmas.List.Elements.{All-nil, All-cons}
use Rattle.std.proofs.lemmas.List.Folds.{list_any-append}
use Rattle.std.proofs.lemmas.List.Splits.{slice_split_at, slice_split_none}
use Rattle.std.proofs.lemmas.Str.Parse.{tells_all_ascii_digits}
use Rattle.bpf_insn.specs.Texts.{is_blank, words_of}
use Rattle.mk_script.specs.Drafts.{is_number}
use Rattle.mk_script.specs.Words.{number_below}
use Rattle.bpf_insn.proofs.DddTextLemmas.{number_of_decimal}

abbrev pub is_lf : ℕ → Bool
is_lf b = eqb b 10

abbrev pub is_colon : ℕ → Bool
is_colon b = eqb b 58

-- Bytes of which none passes a test

abbrev pub Lacks : (ℕ → Bool) → List ℕ → Type 0
Lacks p bytes = list_any p bytes ≡ false

pub lacks_append : (p : ℕ → Bool) (xs ys : List ℕ) → Lacks p xs → Lacks p ys → Lacks p (xs ++ ys)
lacks_append p xs ys first second = list_any-append p xs ys ∙ (rw (first, second) refl)

pub lacks_all : (p : ℕ → Bool) (bytes : List ℕ) → Lacks p bytes → All (λ x. p x ≡ false) bytes
lacks_all p [] lacks = All-nil (λ x. p x ≡ false)
lacks_all p (x ∷ xs) lacks = elim (cases_Bool (p x)) [
  | inl passes ↦ let never = rw passes at lacks in absurd (cc)
  | inr fails ↦ let rest = rw fails at lacks in All-cons (λ x. p x ≡ false) x xs fails (lacks_all p xs rest)
]

-- Digits

abbrev Digits : List ℕ → Type 0
Digits ds = all_ascii_digits ds ≡ true

glyph_digit : (m : ℕ) → m < 10 → IsInRange 48 57 (digit_glyph false m)
glyph_digit m less = let small : ltb m 10 ≡ true = grind (arith, nat_tests) in rw small (omega arith, omega arith)

digits_onto_all : (k n : ℕ) (acc : List ℕ) → Digits acc → Digits (digits_onto k 10 false n acc)
digits_onto_all zero n acc all = all
digits_onto_all (suc k) n acc all =
    let d = digit_glyph false (n % 10) in
    let more : Digits (d ∷ acc) = tells_all_ascii_digits.more d acc (glyph_digit (n % 10) (omega arith)) all in
    elim (cases_Bool (eqb (n / 10) 0)) [
      | inl last ↦ rw last more
      | inr goes_on ↦ rw goes_on (digits_onto_all k (n / 10) (d ∷ acc) more)
    ]

digits_onto_some : (k n x : ℕ) (acc : List ℕ) → 0 < length (digits_onto k 10 false n (x ∷ acc))
digits_onto_some zero n x acc = omega arith
digits_onto_some (suc k) n x acc =
    let d = digit_glyph false (n % 10) in
    elim (cases_Bool (eqb (n / 10) 0)) [
      | inl last ↦ rw last (omega arith)
      | inr goes_on ↦ rw goes_on (digits_onto_some k (n / 10) d (x ∷ acc))
    ]

pub decimal_digits : (n : ℕ) → Digits (decimal n)
unfolding digits
decimal_digits n = digits_onto_all 64 n [] refl

pub decimal_some : (n : ℕ) → 0 < length (decimal n)
unfolding digits
decimal_some n =
    let d = digit_glyph false (n % 10) in
    elim (cases_Bool (eqb (n / 10) 0)) [
      | inl last ↦ rw last (omega arith)
      | inr goes_on ↦ rw goes_on (digits_onto_some 63 (n / 10) d [])
    ]

-- a test that no digit passes
lacks_digits : (p : ℕ → Bool) → ((x : ℕ) → IsInRange 48 57 x → p x ≡ false) → (ds : List ℕ) → Digits ds → Lacks p ds
lacks_digits p none [] all = refl
lacks_digits p none (x ∷ xs) all = let parts = tells_all_ascii_digits.parts x xs all in rw (none x parts.0) (lacks_digits p none xs parts.1)

pub decimal_lf : (n : ℕ) → Lacks is_lf (decimal n)
decimal_lf n = lacks_digits is_lf (λ x digit. grind (arith, common_steps)) (decimal n) (decimal_digits n)

pub decimal_colon : (n : ℕ) → Lacks is_colon (decimal n)
decimal_colon n = lacks_digits is_colon (λ x digit. grind (arith, common_steps)) (decimal n) (decimal_digits n)

pub decimal_blank : (n : ℕ) → Lacks is_blank (decimal n)
decimal_blank n = lacks_digits is_blank (λ x digit. grind (arith, common_steps)) (decimal n) (decimal_digits n)

pub decimal_is_number : (n : ℕ) → is_number (decimal n) ≡ true
decimal_is_number n =
    let some : ltb 0 (length (decimal n)) ≡ true = let more = decimal_some n in grind (arith, nat_tests) in
    rw (some, decimal_digits n) refl

pub decimal_below : (limit n : ℕ) → n < limit → n < 2 ^ 64 → number_below limit (decimal n) ≡ Ok n
decimal_below limit n less low =
    let within : ltb n limit ≡ true = grind (arith, nat_tests) in
    rw (number_of_decimal n low, within) refl

-- Words

pub not_empty : (w : List ℕ) → 0 < length w → not (eqb (length w) 0) ≡ true
not_empty w some = grind (arith, nat_tests)

-- a word, a blank and a rest
pub words_then : (w rest : List ℕ) → 0 < length w → Lacks is_blank w → words_of (w ++ 32 ∷ rest) ≡ w ∷ words_of rest
words_then w rest some none =
    let cut : words_of (w ++ 32 ∷ rest) ≡ filter (λ v. not (eqb (length v) 0)) (w ∷ slice_split is_blank rest) =
    ap (filter (λ v. not (eqb (length v) 0))) (slice_split_at is_blank w 32 rest (lacks_all is_blank w none) refl) in
    rw (not_empty w some) at cut

-- one word
pub words_one : (w : List ℕ) → 0 < length w → Lacks is_blank w → words_of w ≡ w ∷ []
words_one w some none =
    let cut : words_of w ≡ filter (λ v. not (eqb (length v) 0)) (w ∷ []) = ap (filter (λ v. not (eqb (length v) 0))) (slice_split_none is_blank w (lacks_all is_blank w none)) in
    rw (not_empty w some) at cut
