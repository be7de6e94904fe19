-- A line is an `end` where its first word is that, and only blanks stand after it.
use Rattle.std.proofs.Common.{◌≡◌, ℕ, suc, ◌+◌, true, false, ◌&&◌, eqb, List, [], ◌∷◌, length, take, drop, refl, sym, ap, ◌∙◌, inl, inr, arith}
use Rattle.std.specs.Prelude.{◌⊎◌, not, codes, filter}
use Rattle.std.specs.List.{position_or_len, slice_split, onto_first}
use Rattle.std.specs.Str.{bytes_eq}
use Rattle.std.proofs.lemmas.Bool.{cases_Bool}
use Rattle.std.proofs.Math.Bool.{and-true, and-false}
use Rattle.std.proofs.lemmas.Bool.Decides.{nat_tests}
use Rattle.std.proofs.lemmas.List.Splits.{slice_split-cons_yes, slice_split-cons_no}
use Rattle.bpf_insn.specs.Texts.{is_blank, words_of}
use Rattle.mk_script.specs.Statements.{is_end}

-- how many blanks stand at the front, and how many others
abbrev pub blanks : List ℕ → ℕ
blanks bytes = position_or_len (λ b. not (is_blank b)) bytes

abbrev pub others : List ℕ → ℕ
others bytes = position_or_len is_blank bytes

one_more : (n : ℕ) → 1 + n ≡ suc n
one_more n = omega arith

not_none : (n : ℕ) → (eqb (suc n) 0 ≡ false) × (eqb 0 (suc n) ≡ false)
not_none n = (grind (arith, nat_tests), grind (arith, nat_tests))

blank_first : (b : ℕ) (bytes : List ℕ) → is_blank b ≡ true → words_of (b ∷ bytes) ≡ words_of bytes
blank_first b bytes blank = rw (slice_split-cons_yes is_blank b bytes blank) refl

front_blanks : (bytes : List ℕ) → words_of bytes ≡ words_of (drop (blanks bytes) bytes)
front_blanks [] = refl
front_blanks (b ∷ bytes) = elim (cases_Bool (is_blank b)) [
  | inl blank ↦
      let step : drop (blanks (b ∷ bytes)) (b ∷ bytes) ≡ drop (blanks bytes) bytes = rw (blank, one_more (blanks bytes)) refl in
      blank_first b bytes blank ∙ front_blanks bytes ∙ ap words_of (sym step)
  | inr other ↦ let step : drop (blanks (b ∷ bytes)) (b ∷ bytes) ≡ b ∷ bytes = rw other refl in ap words_of (sym step)
]

front_other : (bytes : List ℕ) (b : ℕ) (more : List ℕ) → drop (blanks bytes) bytes ≡ b ∷ more → is_blank b ≡ false
front_other [] b more e = absurd (cc)
front_other (c ∷ bytes) b more e = elim (cases_Bool (is_blank c)) [
  | inl blank ↦ let further = rw (blank, one_more (blanks bytes)) at e in front_other bytes b more further
  | inr other ↦ let here = rw other at e in let same : c ≡ b = cc in rw (← same) other
]

-- the parts after the first blank
abbrev behind : List ℕ → List (List ℕ)
behind [] = []
behind (b ∷ bytes) = slice_split is_blank bytes

cut_word : (bytes : List ℕ) → slice_split is_blank bytes ≡ take (others bytes) bytes ∷ behind (drop (others bytes) bytes)
cut_word [] = refl
cut_word (b ∷ bytes) = elim (cases_Bool (is_blank b)) [
  | inl blank ↦ slice_split-cons_yes is_blank b bytes blank ∙ (rw blank refl)
  | inr other ↦ slice_split-cons_no is_blank b bytes other ∙ ap (onto_first b) (cut_word bytes) ∙ (rw (other, one_more (others bytes)) refl)
]

behind_words : (bytes : List ℕ) → filter (λ w. not (eqb (length w) 0)) (behind (drop (others bytes) bytes)) ≡ words_of (drop (others bytes) bytes)
behind_words [] = refl
behind_words (b ∷ bytes) = elim (cases_Bool (is_blank b)) [
  | inl blank ↦ rw blank (sym (blank_first b bytes blank))
  | inr other ↦ rw (other, one_more (others bytes)) (behind_words bytes)
]

word_first : (b : ℕ) (bytes : List ℕ) → is_blank b ≡ false → words_of (b ∷ bytes) ≡ take (others (b ∷ bytes)) (b ∷ bytes) ∷ words_of (drop (others (b ∷ bytes)) (b ∷ bytes))
word_first b bytes other =
    let rest = behind_words (b ∷ bytes) in
    let some : eqb (length (take (others (b ∷ bytes)) (b ∷ bytes))) 0 ≡ false = rw (other, one_more (others bytes)) (not_none (length (take (others bytes) bytes))).0 in
    ap (filter (λ w. not (eqb (length w) 0))) (cut_word (b ∷ bytes)) ∙ (rw some (ap (λ l. take (others (b ∷ bytes)) (b ∷ bytes) ∷ l) rest))

record HasNone (bytes : List ℕ) : Type 0 where
  pub all : eqb (blanks bytes) (length bytes) ≡ true
  pub none : words_of bytes ≡ []

record HasSome (bytes : List ℕ) : Type 0 where
  pub part : eqb (blanks bytes) (length bytes) ≡ false
  pub word : List ℕ
  pub words : List (List ℕ)
  pub some : words_of bytes ≡ word ∷ words

none_or_some : (bytes : List ℕ) → HasNone bytes ⊎ HasSome bytes
none_or_some [] = inl (record { all = refl; none = refl })
none_or_some (b ∷ bytes) = elim (cases_Bool (is_blank b)) [
  | inl blank ↦ elim (none_or_some bytes) [
    | inl h ↦ let all = h.all in inl (record { all = rw (blank, one_more (blanks bytes)) (grind (arith, nat_tests)); none = blank_first b bytes blank ∙ h.none })
    | inr h ↦ let part = h.part in inr (record { part = rw (blank, one_more (blanks bytes)) (grind (arith, nat_tests)); word = h.word; words = h.words; some = blank_first b bytes blank ∙ h.some })
  ]
  | inr other ↦ inr (record { part = rw other (not_none (length bytes)).1; word = _; words = _; some = word_first b bytes other })
]

end_first : (w rest : List ℕ) → is_end (w ∷ words_of rest) ≡ (bytes_eq w (codes "end") && eqb (blanks rest) (length rest))
end_first w rest = elim (none_or_some rest) [
  | inl h ↦ let all = h.all in let none = h.none in rw (none, all) (sym (and-true (bytes_eq w (codes "end"))))
  | inr h ↦ let part = h.part in let some = h.some in rw (some, part) (sym (and-false (bytes_eq w (codes "end"))))
]

at_word : (line word : List ℕ) → drop (blanks line) line ≡ word → is_end (words_of word) ≡ (bytes_eq (take (others word) word) (codes "end") && eqb (blanks (drop (others word) word)) (length (drop (others word) word)))
at_word line [] e = refl
at_word line (b ∷ more) e = ap is_end (word_first b more (front_other line b more e)) ∙ end_first (take (others (b ∷ more)) (b ∷ more)) (drop (others (b ∷ more)) (b ∷ more))

end_is : (line : List ℕ) → is_end (words_of line) ≡ (let word = drop (blanks line) line in (bytes_eq (take (others word) word) (codes "end") && eqb (blanks (drop (others word) word)) (length (drop (others word) word))))
end_is line = ap is_end (front_blanks line) ∙ at_word line (drop (blanks line) line) refl

-- by the parts of a line: its first word and what stands after it
pub end_parts : (line word first rest : List ℕ) (n m : ℕ) → n ≡ blanks line → word ≡ drop n line → m ≡ others word → first ≡ take m word → rest ≡ drop m word
    → is_end (words_of line) ≡ (bytes_eq first (codes "end") && eqb (blanks rest) (length rest))
end_parts line word first rest n m e e' e'' e''' e'''' = rw (e'''', e''', e'', e', e) (end_is line)
