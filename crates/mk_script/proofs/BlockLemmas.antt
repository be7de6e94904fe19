-- The lines of an `asm` block, one after another.
use Rattle.std.proofs.Common.{◌≡◌, ℕ, ◌+◌, ◌-◌, ◌<◌, ◌≤◌, Bool, true, false, eqb, List, [], ◌∷◌, ◌++◌, length, take, append_assoc, length-append, length-drop, refl, sym, ap, ◌∙◌, arith, get_or, add_assoc, Some, None}
use Rattle.std.specs.List.{before_first, after_first, position_or_len}
use Rattle.std.proofs.Math.Seq.{take-append_seam}
use Rattle.std.proofs.lemmas.List.Sums.{split_at_first, passes_at_first}
use Rattle.std.proofs.lemmas.Bool.Decides.{nat_tests}
use Rattle.bpf_insn.specs.Texts.{words_of}
use Rattle.filter_asm.specs.Program.{text_lines}
use Rattle.filter_asm.proofs.LineLemmas.{text_lines-first}
use Rattle.mk_script.specs.Statements.{opened, ended, unended, is_end, statements_from}
use Rattle.mk_script.specs.Pieces.{grown}

abbrev pub is_lf : ℕ → Bool
is_lf b = eqb b 10

-- the block so far
pub record BlockSoFar (text rest : List ℕ) (lines : ℕ) (front : List ℕ) : Type 0 where
  pub within : lines + length rest ≤ length text
  pub parts : 0 < length rest → text ≡ front ++ rest
  pub goes_on : (n number : ℕ) (line : List ℕ) → statements_from n (Some (opened number line)) (text_lines text) ≡ statements_from (n + lines) (Some (grown number line front)) (text_lines rest)

-- a text that has an LF is its first line, the LF and the rest
first_line : (rest : List ℕ) → 0 < length (after_first is_lf rest) → rest ≡ (before_first is_lf rest ++ 10 ∷ []) ++ after_first is_lf rest
first_line rest some =
    let place = position_or_len is_lf rest in
    let within : place < length rest = omega (arith, length-drop (place + 1) rest) in
    let passes : eqb (get_or rest place 0) 10 ≡ true = passes_at_first is_lf rest 0 within in
    let lf : get_or rest place 0 ≡ 10 = grind (arith, nat_tests) in
    split_at_first is_lf rest 0 within ∙ ap (λ b. before_first is_lf rest ++ b ∷ after_first is_lf rest) lf ∙ sym (append_assoc (before_first is_lf rest) (10 ∷ []) (after_first is_lf rest))

pub shorter_rest : (rest : List ℕ) → 0 < length rest → length (after_first is_lf rest) + 1 ≤ length rest
shorter_rest rest some = omega (arith, length-drop (position_or_len is_lf rest + 1) rest)

module _ (text rest : List ℕ) (lines : ℕ) (front : List ℕ) (so_far : BlockSoFar text rest lines front) (some : 0 < length rest) where
  pub one_more : is_end (words_of (before_first is_lf rest)) ≡ false → BlockSoFar text (after_first is_lf rest) (lines + 1) (front ++ before_first is_lf rest ++ 10 ∷ [])
  one_more differs = record {
    within = omega (arith, shorter_rest rest some, so_far.within);
    parts = λ more. so_far.parts some ∙ ap (λ r. front ++ r) (first_line rest more) ∙ (rw (append_assoc, append_assoc, append_assoc) refl);
    goes_on = λ n number line. so_far.goes_on n number line ∙ (rw (text_lines-first rest some, differs, add_assoc) refl);
  }

  pub at_end : is_end (words_of (before_first is_lf rest)) ≡ true → (n number : ℕ) (line : List ℕ)
      → statements_from n (Some (opened number line)) (text_lines text) ≡ ended (grown number line front) ∷ statements_from (n + (lines + 1)) None (text_lines (after_first is_lf rest))
  at_end ends n number line = so_far.goes_on n number line ∙ (rw (text_lines-first rest some, ends, add_assoc) refl)

  pub front_is : take (length text - length rest) text ≡ front
  front_is =
      let shown : (t : List ℕ) → t ≡ front ++ rest → take (length t - length rest) t ≡ front =
      λ t e. rw e (let n : length (front ++ rest) - length rest ≡ length front = omega (arith, length-append front rest) in rw n (take-append_seam front rest)) in
      shown text (so_far.parts some)

  pub found_within : (lines + 1) + length (after_first is_lf rest) ≤ length text
  found_within = omega (arith, shorter_rest rest some, so_far.within)

-- without an end the block goes on to the end of the text
pub no_end : (text rest : List ℕ) (lines : ℕ) (front : List ℕ) → BlockSoFar text rest lines front → eqb (length rest) 0 ≡ true
    → (n number : ℕ) (line : List ℕ) → statements_from n (Some (opened number line)) (text_lines text) ≡ unended (opened number line) ∷ []
no_end text [] lines front so_far empty n number line = so_far.goes_on n number line
no_end text (b ∷ rest) lines front so_far empty n number line = absurd (grind (arith, nat_tests))
