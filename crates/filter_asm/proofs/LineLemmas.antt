-- The lines of a text, one after another.
use Rattle.std.proofs.Common.{◌≡◌, ℕ, ◌+◌, ◌<◌, ◌≤◌, Bool, true, false, eqb, List, [], ◌∷◌, ◌++◌, length, drop, take, Err, append_assoc, length-append, length-drop, refl, sym, ap, ◌∙◌, inl, inr, arith, zero, suc, get_or, le_refl, get_or-take}
use Rattle.std.specs.List.{slice_split, onto_first, before_first, after_first, position_or_len, prefix_len, AllPass, All}
use Rattle.std.proofs.lemmas.List.{append-nil, drop_all, take_all, length-take}
use Rattle.std.proofs.lemmas.List.Elements.{All-from_get_or}
use Rattle.std.proofs.lemmas.List.Sums.{fails_before_first, prefix_len_passes, prefix_len_stops}
use Rattle.std.proofs.lemmas.Bool.{cases_Bool, cases_lt}
use Rattle.std.proofs.lemmas.Bool.Decides.{nat_tests}
use Rattle.std.proofs.lemmas.List.Splits.{slice_split_none, slice_split_first, slice_split-cons_yes, slice_split-cons_no}
use Rattle.filter_asm.specs.declared.pass.Pass.{Pass}
use Rattle.filter_asm.specs.declared.fault.AsmFaultKind.{AsmFaultKind}
use Rattle.bpf_insn.specs.Texts.{is_blank}
use Rattle.filter_asm.specs.Token.{Tokens, continues, without_comment}
use Rattle.filter_asm.proofs.TokenLemmas.{token_at}
use Rattle.filter_asm.proofs.ProgramLemmas.{drafts_from-stops}
use Rattle.filter_asm.specs.Program.{line_of, Line, Spells, SpellsAll, text_lines, ended, line_gives, Assembles}
use Rattle.filter_asm.specs.Passed.{Passed}

-- the lines so far: those that complete the rest complete the text
pub record ReadSoFar (text rest : List ℕ) (number : ℕ) (pass : Pass) (lines : List Line) : Type 0 where
  pub counted : number ≡ length lines
  pub within : number + length rest ≤ length text
  pub spelled : (more : List Line) → SpellsAll (text_lines rest) more → SpellsAll (text_lines text) (lines ++ more)
  pub passed : Passed lines pass

-- a list of parts is not empty
pub parts_some : (xs : List ℕ) → (first : List ℕ) × ((more : List (List ℕ)) × (slice_split (λ b. eqb b 10) xs ≡ first ∷ more))
parts_some [] = ([], ([], refl))
parts_some (x ∷ xs) =
    elim (cases_Bool (eqb x 10)) [
      | inl ends ↦ ([], (slice_split (λ b. eqb b 10) xs, slice_split-cons_yes (λ b. eqb b 10) x xs ends))
      | inr goes_on ↦ let r = parts_some xs in (x ∷ r.0, (r.1.0, slice_split-cons_no (λ b. eqb b 10) x xs goes_on ∙ ap (onto_first x) r.1.1))
    ]

-- a text that is not empty is its first line, and the lines of the rest
pub text_lines-first : (text : List ℕ) → 0 < length text → text_lines text ≡ before_first (λ b. eqb b 10) text ∷ text_lines (after_first (λ b. eqb b 10) text)
text_lines-first text some =
    let p : ℕ → Bool = λ b. eqb b 10 in
    elim (cases_lt (position_or_len p text) (length text)) [
      | inl within ↦
          let r = parts_some (after_first p text) in
          ap ended (slice_split_first p text 0 within ∙ ap (λ l. before_first p text ∷ l) r.1.1)
          ∙ ap (λ l. before_first p text ∷ ended l) (sym r.1.1)
      | inr past ↦
          let none : All (λ b. p b ≡ false) text = All-from_get_or (λ b. p b ≡ false) text 0 (λ i lt. fails_before_first p text i 0 (omega arith)) in
          let whole : before_first p text ≡ text = take_all (position_or_len p text) text past in
          let rest : after_first p text ≡ [] = drop_all (position_or_len p text + 1) text (omega arith) in
          let not_empty : eqb (length text) 0 ≡ false = grind (arith, nat_tests) in
          ap ended (slice_split_none p text none) ∙ (rw not_empty (ap (λ l. l ∷ []) (sym whole) ∙ ap (λ l. before_first p text ∷ text_lines l) (sym rest)))
    ]

passes_front : (p : ℕ → Bool) (xs : List ℕ) → AllPass p (take (prefix_len p xs) xs)
passes_front p xs =
    let n = prefix_len p xs in
    All-from_get_or (λ x. p x ≡ true) (take n xs) 0
    (λ i lt. let below : i < n = omega (arith, length-take n xs) in rw (get_or-take n xs i 0 below) (prefix_len_passes p xs i 0 below))

tokens_within : (n : ℕ) (bytes : List ℕ) → length bytes ≤ n → (tokens : List (List ℕ)) × Tokens tokens bytes
tokens_within zero bytes short = ([], λ k d lt. absurd (omega arith))
tokens_within (suc n) bytes short =
    let b = prefix_len is_blank bytes in
    elim (cases_lt b (length bytes)) [
      | inl within ↦
          let first = get_or bytes b 0 in
          let more = drop (b + 1) bytes in
          let k = prefix_len (continues first) more in
          let rest = drop (1 + k) (drop b bytes) in
          let found = token_at bytes b k (take (1 + k) (drop b bytes)) rest within (passes_front is_blank bytes) (prefix_len_stops is_blank bytes 0 within)
          (passes_front (continues first) more) (prefix_len_stops (continues first) more 0) refl refl in
          let further = tokens_within n rest (omega (arith, length-drop (1 + k) (drop b bytes), length-drop b bytes)) in
          (take (1 + k) (drop b bytes) ∷ further.0, (rest, found, further.1))
      | inr past ↦ ([], rw take_all at (passes_front is_blank bytes))
    ]

-- each line has tokens
pub tokens_some : (bytes : List ℕ) → (tokens : List (List ℕ)) × Tokens tokens bytes
tokens_some bytes = tokens_within (length bytes) bytes (le_refl (length bytes))

-- each list of lines is spelled by some
pub spells_some : (parts : List (List ℕ)) → (lines : List Line) × SpellsAll parts lines
spells_some [] = ([], tt)
spells_some (part ∷ parts) =
    let found = tokens_some (without_comment part) in
    let further = spells_some parts in
    (line_of found.0 ∷ further.0, ((found.0, found.1, refl), further.1))

module _ (text rest : List ℕ) (number : ℕ) (pass : Pass) (lines : List Line) (line : Line) (so_far : ReadSoFar text rest number pass lines) (some : 0 < length rest)
    (spells : Spells (before_first (λ b. eqb b 10) rest) line) where
  first_line : (more : List Line) → SpellsAll (text_lines (after_first (λ b. eqb b 10) rest)) more → SpellsAll (text_lines rest) (line ∷ more)
  first_line more spelled = rw (text_lines-first rest some) (spells, spelled)

  pub read_more : (newer : Pass) → Passed (lines ++ line ∷ []) newer → ReadSoFar text (after_first (λ b. eqb b 10) rest) (number + 1) newer (lines ++ line ∷ [])
  read_more newer passed = record {
    counted = omega (arith, length-append lines (line ∷ []), so_far.counted);
    within = omega (arith, length-drop (position_or_len (λ b. eqb b 10) rest + 1) rest, so_far.within);
    spelled = λ more spelled. rw append_assoc (so_far.spelled (line ∷ more) (first_line more spelled));
    passed = passed;
  }

  pub read_stops : (k : AsmFaultKind) → line_gives lines line ≡ Err k → Assembles text (Err (record { line = number + 1; kind = k }))
  read_stops k refused =
      let more = spells_some (text_lines (after_first (λ b. eqb b 10) rest)) in
      let stops = drafts_from-stops [] lines line more.0 _ k so_far.passed.drafted refused in
      (lines ++ line ∷ more.0, so_far.spelled (line ∷ more.0) (first_line more.0 more.1), rw (stops, so_far.counted) refl)

-- once nothing is left, the lines are the text's
pub read_all : (text rest : List ℕ) (number : ℕ) (pass : Pass) (lines : List Line) → ReadSoFar text rest number pass lines → eqb (length rest) 0 ≡ true → SpellsAll (text_lines text) lines
read_all text [] number pass lines so_far empty = rw append-nil at (so_far.spelled [] tt)
read_all text (b ∷ rest) number pass lines so_far empty = absurd (grind (arith, nat_tests))
