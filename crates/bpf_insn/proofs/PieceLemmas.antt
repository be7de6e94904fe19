-- A text cut at its first separator, and a piece cut at its first blank.
use Rattle.std.proofs.Common.{◌≡◌, ℕ, ◌+◌, ◌≤◌, ◌==◌, Bool, List, [], ◌∷◌, length, take, drop, arith, false, Some, None, position, filter, not, ◌∙◌, ap}
use Rattle.std.specs.List.{slice_split, position_or_len, All}
use Rattle.std.proofs.lemmas.List.Splits.{slice_split_first, slice_split_none}
use Rattle.std.proofs.lemmas.List.Sums.{position_or_len_is, fails_before_first}
use Rattle.std.proofs.lemmas.List.Quantifiers.{position-Some}
use Rattle.std.proofs.lemmas.Grind.{common_steps}
use Rattle.bpf_insn.specs.Texts.{is_blank, words_of}

-- at the first number that passes, a list is cut into what stands before it and the parts of the rest
pub cut_at : (p : ℕ → Bool) (bs : List ℕ) (i : ℕ) → position p bs ≡ Some i → slice_split p bs ≡ take i bs ∷ slice_split p (drop (i + 1) bs)
cut_at p bs i e =
    let f = position-Some p bs i 0 e in
    let at : position_or_len p bs ≡ i = position_or_len_is p bs i 0 (omega (arith, f.0)) f.2 (λ _. f.1) in
    slice_split_first p bs 0 (omega (arith, f.0, at)) ∙ ap (λ n. take n bs ∷ slice_split p (drop (n + 1) bs)) at

none_passes : (p : ℕ → Bool) (xs : List ℕ) → position p xs ≡ None → length xs ≤ position_or_len p xs
none_passes p xs none = grind (arith, common_steps)

-- where no number passes, a list is one part
pub cut_none : (p : ℕ → Bool) (bs : List ℕ) → position p bs ≡ None → slice_split p bs ≡ bs ∷ []
cut_none p bs none =
    let all : length bs ≤ position_or_len p bs = none_passes p bs none in
    let no : All (λ x. p x ≡ false) bs = λ k d within. fails_before_first p bs k d (omega arith) in
    slice_split_none p bs no

-- other pieces have the word before the first blank
pub words_take : (bs : List ℕ) (i : ℕ) → position is_blank bs ≡ Some i → (length (take i bs) == 0) ≡ false → words_of bs ≡ take i bs ∷ words_of (drop (i + 1) bs)
words_take bs i at some =
    let e : words_of bs ≡ filter (λ w. not (length w == 0)) (take i bs ∷ slice_split is_blank (drop (i + 1) bs)) = ap (filter (λ w. not (length w == 0))) (cut_at is_blank bs i at) in
    rw some at e

-- and else is one word
pub words_last : (bs : List ℕ) → position is_blank bs ≡ None → (length bs == 0) ≡ false → words_of bs ≡ bs ∷ []
words_last bs none some =
    let e : words_of bs ≡ filter (λ w. not (length w == 0)) (bs ∷ []) = ap (filter (λ w. not (length w == 0))) (cut_none is_blank bs none) in
    rw some at e
