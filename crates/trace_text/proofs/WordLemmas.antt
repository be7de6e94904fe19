-- Words with a space before each: what they are cut into, and what bytes they have.
use Rattle.std.proofs.Common.{◌≡◌, ℕ, ◌<◌, Bool, true, false, ◌&&◌, ◌||◌, List, [], ◌∷◌, ◌++◌, length, refl, ap, ◌∙◌, arith, append-nil}
use Rattle.std.specs.Prelude.{nat_lt, ◌==◌}
use Rattle.std.specs.Char.{is_ascii_alphanumeric}
use Rattle.std.specs.List.{flat_map, list_all}
use Rattle.std.proofs.lemmas.Bool.{and_parts, and_from, ltb-true}
use Rattle.std.proofs.lemmas.Bool.Decides.{nat_tests}
use Rattle.std.proofs.lemmas.List.Folds.{list_all-append}
use Rattle.bpf_insn.specs.Texts.{is_blank, words_of}
use Rattle.trace_lines.specs.Words.{is_plain}
use Rattle.trace_text.proofs.TextLemmas.{is_lf, Lacks, words_then, words_one}

-- a letter, a digit, `:` or `=`
abbrev pub is_letter : ℕ → Bool
is_letter b = is_ascii_alphanumeric b || (b == 58 || b == 61)

-- one or more of them
abbrev pub is_word : List ℕ → Bool
is_word w = nat_lt 0 (length w) && list_all is_letter w

-- each word after a space
abbrev pub spaced : List (List ℕ) → List ℕ
spaced ws = flat_map (λ w. 32 ∷ w) ws

-- Bytes

letter_blank : (b : ℕ) → is_letter b ≡ true → is_blank b ≡ false
letter_blank b is = grind (arith, nat_tests)

letter_plain : (b : ℕ) → is_letter b ≡ true → is_plain b ≡ true
letter_plain b is = grind (arith, nat_tests)

plain_lf : (b : ℕ) → is_plain b ≡ true → is_lf b ≡ false
plain_lf b is = grind (arith, nat_tests)

letters_blank : (w : List ℕ) → list_all is_letter w ≡ true → Lacks is_blank w
letters_blank [] all = refl
letters_blank (b ∷ w) all = let p = and_parts (is_letter b) (list_all is_letter w) all in rw (letter_blank b p.0) (letters_blank w p.1)

letters_plain : (w : List ℕ) → list_all is_letter w ≡ true → list_all is_plain w ≡ true
letters_plain [] all = refl
letters_plain (b ∷ w) all = let p = and_parts (is_letter b) (list_all is_letter w) all in rw (letter_plain b p.0) (letters_plain w p.1)

pub plains_lf : (w : List ℕ) → list_all is_plain w ≡ true → Lacks is_lf w
plains_lf [] all = refl
plains_lf (b ∷ w) all = let p = and_parts (is_plain b) (list_all is_plain w) all in rw (plain_lf b p.0) (plains_lf w p.1)

-- Words

word_some : (w : List ℕ) → is_word w ≡ true → 0 < length w
word_some w is = ltb-true 0 (length w) (and_parts (nat_lt 0 (length w)) (list_all is_letter w) is).0

word_letters : (w : List ℕ) → is_word w ≡ true → list_all is_letter w ≡ true
word_letters w is = (and_parts (nat_lt 0 (length w)) (list_all is_letter w) is).1

-- the words are those that are spaced
pub words_spaced : (ws : List (List ℕ)) → list_all is_word ws ≡ true → words_of (spaced ws) ≡ ws
words_spaced [] all = refl
words_spaced (w ∷ []) all =
    let is = (and_parts (is_word w) true all).0 in
    ap words_of (append-nil w) ∙ words_one w (word_some w is) (letters_blank w (word_letters w is))
words_spaced (w ∷ v ∷ ws) all =
    let p = and_parts (is_word w) (list_all is_word (v ∷ ws)) all in
    words_then w (v ++ spaced ws) (word_some w p.0) (letters_blank w (word_letters w p.0)) ∙ ap (λ l. w ∷ l) (words_spaced (v ∷ ws) p.1)

pub plain_spaced : (ws : List (List ℕ)) → list_all is_word ws ≡ true → list_all is_plain (spaced ws) ≡ true
plain_spaced [] all = refl
plain_spaced (w ∷ ws) all =
    let p = and_parts (is_word w) (list_all is_word ws) all in
    list_all-append is_plain w (spaced ws) ∙ and_from (list_all is_plain w) (list_all is_plain (spaced ws)) (letters_plain w (word_letters w p.0)) (plain_spaced ws p.1)
