-- The lines of a text are no longer than the text, and the words of a line no longer than the line.
use Rattle.std.proofs.Common.{ℕ, zero, suc, ◌≤◌, Bool, List, [], ◌∷◌, length, inl, inr, arith, eqb}
use Rattle.std.specs.Prelude.{filter}
use Rattle.std.specs.List.{slice_split, onto_first}
use Rattle.std.proofs.lemmas.Bool.{cases_Bool}
use Rattle.std.proofs.lemmas.List.Splits.{slice_split-cons_yes, slice_split-cons_no}
use Rattle.bpf_insn.specs.Texts.{is_blank, words_of}
use Rattle.filter_asm.specs.Program.{ended, text_lines}
use Rattle.line_words.specs.Words.{word_at}

abbrev pub AllShort : ℕ → List (List ℕ) → Type 0
AllShort n [] = Unit {0}
AllShort n (w ∷ ws) = (length w ≤ n) × AllShort n ws

longer_short : (n : ℕ) (ws : List (List ℕ)) → AllShort n ws → AllShort (suc n) ws
longer_short n [] h = tt
longer_short n (w ∷ ws) h = (omega (arith, h.0), longer_short n ws h.1)

onto_short : (n : ℕ) (x : ℕ) (ws : List (List ℕ)) → AllShort n ws → AllShort (suc n) (onto_first x ws)
onto_short n x [] h = (omega arith, tt)
onto_short n x (w ∷ ws) h = (omega (arith, h.0), longer_short n ws h.1)

split_short : (p : ℕ → Bool) (xs : List ℕ) → AllShort (length xs) (slice_split p xs)
split_short p [] = (omega arith, tt)
split_short p (x ∷ xs) = elim (cases_Bool (p x)) [
  | inl yes' ↦ rw (slice_split-cons_yes p x xs yes') (omega arith, longer_short (length xs) (slice_split p xs) (split_short p xs))
  | inr no' ↦ rw (slice_split-cons_no p x xs no') (onto_short (length xs) x (slice_split p xs) (split_short p xs))
]

ended_short : (n : ℕ) (lines : List (List ℕ)) → AllShort n lines → AllShort n (ended lines)
ended_short n [] h = tt
ended_short n (last ∷ []) h = elim (cases_Bool (eqb (length last) 0)) [ inl empty ↦ rw empty tt | inr some ↦ rw some h ]
ended_short n (line ∷ next ∷ lines) h = (h.0, ended_short n (next ∷ lines) h.1)

pub lines_short : (text : List ℕ) → AllShort (length text) (text_lines text)
lines_short text = ended_short (length text) (slice_split (λ b. eqb b 10) text) (split_short (λ b. eqb b 10) text)

filter_short : (p : List ℕ → Bool) (n : ℕ) (ws : List (List ℕ)) → AllShort n ws → AllShort n (filter p ws)
filter_short p n [] h = tt
filter_short p n (w ∷ ws) h = elim (cases_Bool (p w)) [
  | inl keeps ↦ rw keeps (h.0, filter_short p n ws h.1)
  | inr drops ↦ rw drops (filter_short p n ws h.1)
]

at_short : (n : ℕ) (ws : List (List ℕ)) (i : ℕ) → AllShort n ws → length (word_at ws i) ≤ n
at_short n [] i h = omega arith
at_short n (w ∷ ws) zero h = h.0
at_short n (w ∷ ws) (suc i) h = at_short n ws i h.1

pub word_short : (line : List ℕ) (i : ℕ) → length (word_at (words_of line) i) ≤ length line
word_short line i = at_short (length line) (words_of line) i (filter_short _ (length line) (slice_split is_blank line) (split_short is_blank line))
