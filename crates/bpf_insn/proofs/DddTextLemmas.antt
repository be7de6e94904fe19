-- The text that is written of a program spells it.
use Rattle.std.proofs.Common.{◌≡◌, ◌≢◌, ℕ, ◌+◌, ◌≤◌, ◌<◌, ◌==◌, ◌^◌, Bool, true, false, Some, List, [], ◌∷◌, ◌++◌, length, map, filter, not, arith, refl, ap, sym, ◌∙◌, inl, inr, append_assoc, get_or, take, drop}
use Rattle.std.specs.List.{All, AllZip, slice_split, flat_map}
use Rattle.std.specs.Fmt.{decimal}
use Rattle.std.specs.Int.{IsInRange}
use Rattle.std.specs.Str.{all_ascii_digits}
use Rattle.std.proofs.lemmas.Grind.{common_steps}
use Rattle.std.proofs.lemmas.Fmt.{decimal_is_IsNumeral, digits_decimal, decimal_nonempty}
use Rattle.std.proofs.lemmas.Str.Parse.{numerals_by_value, tells_all_ascii_digits}
use Rattle.std.proofs.lemmas.List.{append-nil, at_drop_more, at_drop_all, take_all}
use Rattle.std.proofs.lemmas.List.Elements.{All-nil, All-cons, All-append, All-head, All-tail}
use Rattle.std.proofs.lemmas.List.Splits.{slice_split_at, slice_split_none}
use Rattle.bpf_insn.specs.declared.insn.Insn.{Insn}
use Rattle.bpf_insn.specs.Table.{InRange}
use Rattle.bpf_insn.specs.Texts.{is_blank, words_of, number_of}
use Rattle.bpf_insn.specs.Ddd.{Ddd, cuts, is_separator, IsEndFull, SpellsInsn}
use Rattle.bpf_insn.specs.DddText.{ddd_text, insn_line}

digits_of_decimal : (n : ℕ) → n < 2 ^ 64 → all_ascii_digits (decimal n) ≡ true
digits_of_decimal n low = digits_decimal (numerals_by_value (λ ds. all_ascii_digits ds ≡ true) tells_all_ascii_digits) n low

-- a test that no digit passes, no byte of a number passes
none_in_digits : (p : ℕ → Bool) → ((x : ℕ) → IsInRange 48 57 x → p x ≡ false) → (ds : List ℕ) → all_ascii_digits ds ≡ true → All (λ x. p x ≡ false) ds
none_in_digits p none [] all = All-nil (λ x. p x ≡ false)
none_in_digits p none (x ∷ xs) all = let parts = tells_all_ascii_digits.parts x xs all in All-cons (λ y. p y ≡ false) x xs (none x parts.0) (none_in_digits p none xs parts.1)

digit_no_separator : (x : ℕ) → IsInRange 48 57 x → is_separator x ≡ false
digit_no_separator x digit = grind (arith, common_steps)

digit_no_blank : (x : ℕ) → IsInRange 48 57 x → is_blank x ≡ false
digit_no_blank x digit = grind (arith, common_steps)

no_separator : (n : ℕ) → n < 2 ^ 64 → All (λ x. is_separator x ≡ false) (decimal n)
no_separator n low = none_in_digits is_separator digit_no_separator (decimal n) (digits_of_decimal n low)

no_blank : (n : ℕ) → n < 2 ^ 64 → All (λ x. is_blank x ≡ false) (decimal n)
no_blank n low = none_in_digits is_blank digit_no_blank (decimal n) (digits_of_decimal n low)

not_empty : (w : List ℕ) → 0 < length w → not (length w == 0) ≡ true
not_empty w some = grind (arith, common_steps)

-- a number that is written is a word of its value
pub number_of_decimal : (n : ℕ) → n < 2 ^ 64 → number_of (decimal n) ≡ Some n
number_of_decimal n low =
    let some : 0 < length (decimal n) = decimal_nonempty n low in
    let all : all_ascii_digits (decimal n) ≡ true = digits_of_decimal n low in
    let value = (decimal_is_IsNumeral n low).1 in
    rw (all, value) (grind (arith, common_steps))

-- a word, a blank and a rest
words_then : (w rest : List ℕ) → 0 < length w → All (λ x. is_blank x ≡ false) w → words_of (w ++ 32 ∷ rest) ≡ w ∷ words_of rest
words_then w rest some none =
    let cut : words_of (w ++ 32 ∷ rest) ≡ filter (λ v. not (length v == 0)) (w ∷ slice_split is_blank rest) = ap (filter (λ v. not (length v == 0))) (slice_split_at is_blank w 32 rest none refl) in
    rw (not_empty w some) at cut

-- one word
words_one : (w : List ℕ) → 0 < length w → All (λ x. is_blank x ≡ false) w → words_of w ≡ w ∷ []
words_one w some none =
    let cut : words_of w ≡ filter (λ v. not (length v == 0)) (w ∷ []) = ap (filter (λ v. not (length v == 0))) (slice_split_none is_blank w none) in
    rw (not_empty w some) at cut

-- the words of an instruction's line
abbrev fields : Insn → List (List ℕ)
fields i = decimal i.code ∷ decimal i.jt ∷ decimal i.jf ∷ decimal i.k ∷ []

abbrev body : Insn → List ℕ
body i = decimal i.code ++ 32 ∷ (decimal i.jt ++ 32 ∷ (decimal i.jf ++ 32 ∷ decimal i.k))

words_of_body : (i : Insn) → InRange i → words_of (body i) ≡ fields i
words_of_body i range =
    let code : i.code < 2 ^ 64 = omega (arith, range.0) in
    let jt : i.jt < 2 ^ 64 = omega (arith, range.1) in
    let jf : i.jf < 2 ^ 64 = omega (arith, range.2) in
    let k : i.k < 2 ^ 64 = omega (arith, range.3) in
    words_then (decimal i.code) (decimal i.jt ++ 32 ∷ (decimal i.jf ++ 32 ∷ decimal i.k)) (decimal_nonempty i.code code) (no_blank i.code code)
    ∙ ap (λ ws. decimal i.code ∷ ws) (words_then (decimal i.jt) (decimal i.jf ++ 32 ∷ decimal i.k) (decimal_nonempty i.jt jt) (no_blank i.jt jt)
    ∙ ap (λ ws. decimal i.jt ∷ ws) (words_then (decimal i.jf) (decimal i.k) (decimal_nonempty i.jf jf) (no_blank i.jf jf)
    ∙ ap (λ ws. decimal i.jf ∷ ws) (words_one (decimal i.k) (decimal_nonempty i.k k) (no_blank i.k k))))

no_separator_in_body : (i : Insn) → InRange i → All (λ x. is_separator x ≡ false) (body i)
no_separator_in_body i range =
    let P : ℕ → Type 0 = λ x. is_separator x ≡ false in
    let code : i.code < 2 ^ 64 = omega (arith, range.0) in
    let jt : i.jt < 2 ^ 64 = omega (arith, range.1) in
    let jf : i.jf < 2 ^ 64 = omega (arith, range.2) in
    let k : i.k < 2 ^ 64 = omega (arith, range.3) in
    All-append P (decimal i.code) _ (no_separator i.code code) (All-cons P 32 _ refl
    (All-append P (decimal i.jt) _ (no_separator i.jt jt) (All-cons P 32 _ refl
    (All-append P (decimal i.jf) _ (no_separator i.jf jf) (All-cons P 32 _ refl (no_separator i.k k))))))

line_parts : (a b c d e rest : List ℕ) → a ++ b ++ c ++ d ++ e ++ rest ≡ a ++ (b ++ (c ++ (d ++ (e ++ rest))))
line_parts a b c d e rest = simp append_assoc

body_parts : (a b c d rest : List ℕ) → a ++ (b ++ (c ++ d)) ++ rest ≡ a ++ (b ++ (c ++ (d ++ rest)))
body_parts a b c d rest = simp append_assoc

line_is : (i : Insn) (rest : List ℕ) → insn_line i ++ rest ≡ body i ++ 10 ∷ rest
line_is i rest =
    line_parts (decimal i.code) (32 ∷ decimal i.jt) (32 ∷ decimal i.jf) (32 ∷ decimal i.k) (10 ∷ []) rest
    ∙ sym (body_parts (decimal i.code) (32 ∷ decimal i.jt) (32 ∷ decimal i.jf) (32 ∷ decimal i.k) (10 ∷ rest))

-- the pieces of the lines, and the empty one after the last line feed
cut_lines : (program : List Insn) → All InRange program → cuts (flat_map insn_line program) ≡ map fields program ++ [] ∷ []
cut_lines [] ranges = refl
cut_lines (i ∷ program) ranges =
    let range : InRange i = All-head InRange i program ranges in
    let rest : List ℕ = flat_map insn_line program in
    ap cuts (line_is i rest) ∙ ap (map words_of) (slice_split_at is_separator (body i) 10 rest (no_separator_in_body i range) refl)
    ∙ ap (λ ws. ws ∷ cuts rest) (words_of_body i range) ∙ ap (λ ps. fields i ∷ ps) (cut_lines program (All-tail InRange i program ranges))

cut_text : (program : List Insn) → All InRange program → length program < 2 ^ 64 → cuts (ddd_text program) ≡ ((decimal (length program) ∷ []) ∷ map fields program) ++ [] ∷ []
cut_text program ranges low =
    let n : ℕ = length program in
    let rest : List ℕ = flat_map insn_line program in
    ap (map words_of) (slice_split_at is_separator (decimal (length program)) 10 rest (no_separator (length program) low) refl)
    ∙ ap (λ ws. ws ∷ cuts rest) (words_one (decimal (length program)) (decimal_nonempty (length program) low) (no_blank (length program) low))
    ∙ ap (λ ps. (decimal (length program) ∷ []) ∷ ps) (cut_lines program ranges)

-- where no piece is empty, the last isn't
full_end : (pieces : List (List (List ℕ))) → All (λ words. words ≢ []) pieces → IsEndFull pieces
full_end [] full = inl refl
full_end (words ∷ pieces) full = elim (full_end pieces (All-tail (λ ws. ws ≢ []) words pieces full)) [
  | inl none ↦ inr ([], words, ap (λ ps. words ∷ ps) none, All-head (λ ws. ws ≢ []) words pieces full)
  | inr ends ↦ inr (words ∷ ends.0, ends.1, ap (λ ps. words ∷ ps) ends.2, ends.3)
]

full_fields : (program : List Insn) → All (λ words. words ≢ []) (map fields program)
full_fields [] = All-nil (λ words. words ≢ [])
full_fields (i ∷ program) = All-cons (λ words. words ≢ []) (fields i) (map fields program) (λ e. cc) (full_fields program)

each_spells : (program : List Insn) → All InRange program → AllZip SpellsInsn (map fields program) program
each_spells [] ranges = tt
each_spells (i ∷ program) ranges =
    let range : InRange i = All-head InRange i program ranges in (
      record {
        a = decimal i.code;
        b = decimal i.jt;
        c = decimal i.jf;
        d = decimal i.k;
        four = refl;
        code = number_of_decimal i.code (omega (arith, range.0));
        jt = number_of_decimal i.jt (omega (arith, range.1));
        jf = number_of_decimal i.jf (omega (arith, range.2));
        k = number_of_decimal i.k (omega (arith, range.3));
        code_fits = range.0;
        jt_fits = range.1;
        jf_fits = range.2;
        k_fits = range.3;
      },
      each_spells program (All-tail InRange i program ranges),
    )

pub ddd_text_spells : (program : List Insn) → All InRange program → length program ≤ 4096 → Ddd (ddd_text program) program
ddd_text_spells program ranges short =
    let low : length program < 2 ^ 64 = omega arith in
    record {
      first = decimal (length program) ∷ [];
      rest = map fields program;
      pieces = record {
        gap = [] ∷ [];
        whole = cut_text program ranges low;
        empty = All-cons (λ words. words ≡ []) [] [] refl (All-nil (λ words. words ≡ []));
        full = full_end ((decimal (length program) ∷ []) ∷ map fields program)
            (All-cons (λ words. words ≢ []) (decimal (length program) ∷ []) (map fields program) (λ e. cc) (full_fields program));
      };
      count = record { word = decimal (length program); alone = refl; value = number_of_decimal (length program) low };
      short = short;
      each = each_spells program ranges;
    }

-- one more line, and the last
pub line_written : (old new whole : List ℕ) (program : List Insn) (i : ℕ) (d : Insn) → i < length program → new ≡ old ++ insn_line (get_or program i d)
    → old ++ flat_map insn_line (drop i program) ≡ whole → new ++ flat_map insn_line (drop (i + 1) program) ≡ whole
line_written old new whole program i d within line so =
    ap (λ t. t ++ flat_map insn_line (drop (i + 1) program)) line ∙ append_assoc old (insn_line (get_or program i d)) (flat_map insn_line (drop (i + 1) program))
    ∙ ap (λ t. old ++ t) (sym (at_drop_more (flat_map insn_line) program i d within)) ∙ so

pub all_written : (text whole : List ℕ) (program : List Insn) (i : ℕ) → length program ≤ i → text ++ flat_map insn_line (drop i program) ≡ whole → text ≡ whole
all_written text whole program i all so = sym (append-nil text) ∙ ap (λ t. text ++ t) (sym (at_drop_all (flat_map insn_line) program i all)) ∙ so

pub written_spells : (text : List ℕ) (program : List Insn) (i : ℕ) → length program ≤ i → text ≡ ddd_text program → All InRange (take i program) → length program ≤ 4096 → Ddd text program
written_spells text program i all so ranges short =
    let whole : take i program ≡ program = take_all i program all in
    rw so (ddd_text_spells program (rw whole at ranges) short)
