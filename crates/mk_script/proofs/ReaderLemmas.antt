-- What a reader knows, and what a piece of the text means after it.
use Rattle.std.proofs.Common.{◌≡◌, ℕ, ◌+◌, true, false, eqb, ◌≤◌, List, [], ◌∷◌, ◌++◌, length, None, Result, Ok, Err, refl, sym, subst, inl, inr, arith}
use Rattle.std.proofs.lemmas.Bool.Decides.{nat_tests}
use Rattle.filter_asm.specs.Program.{text_lines}
use Rattle.mk_script.specs.declared.fault.ScriptFault.{ScriptFault}
use Rattle.mk_script.specs.declared.fault.ScriptFaultKind.{ScriptFaultKind}
use Rattle.mk_script.specs.declared.lines.Piece.{Piece}
use Rattle.mk_script.specs.declared.reading.Reading.{Reading}
use Rattle.mk_script.specs.Bodies.{Means, DraftMeans, DraftedMeans}
use Rattle.mk_script.specs.Changes.{Knows}
use Rattle.mk_script.specs.Drafts.{Settings, Draft, draft_of}
use Rattle.mk_script.specs.DraftViews.{known_of}
use Rattle.mk_script.specs.Meanings.{Meaning, Known, known}
use Rattle.mk_script.specs.Pieces.{PieceIs, statement_of}
use Rattle.mk_script.specs.Reading.{Advances}
use Rattle.mk_script.specs.Scripts.{MeanBehind, fault_at}
use Rattle.mk_script.specs.Statements.{Statement, is_skipped, statements, statements_from}
use Rattle.line_words.specs.Words.{texts}

pub known_same : (r : Reading) (given : List Meaning) → Knows r given → known_of r ≡ known given
known_same r given knows = λ i. record {
  limits = knows.same_limits i;
  budgets = knows.same_budgets i;
  programs = λ name. knows.same_programs name i;
  packets = λ name. knows.same_packets name i;
  captures = λ name. knows.same_captures name i;
  home = λ domain. knows.same_home domain i;
  acted = knows.same_acted i;
  jobs = knows.same_jobs i;
}

pub drafted_err : (s : Settings) (r : Reading) (given : List Meaning) (st : Statement) (fault : ScriptFaultKind) → Knows r given → draft_of s (known_of r) st ≡ Err fault → Means s (known given) st (Err fault)
drafted_err s r given st fault knows e =
    subst (λ (k : Known). Means s k st (Err fault)) (known_same r given knows) (subst (λ (d : Result Draft ScriptFaultKind). DraftedMeans d (Err fault)) (sym e) refl)

pub drafted_ok : (s : Settings) (r : Reading) (given : List Meaning) (st : Statement) (draft : Draft) (outcome : Result Meaning ScriptFaultKind) → Knows r given → draft_of s (known_of r) st ≡ Ok draft → DraftMeans draft outcome
    → Means s (known given) st outcome
drafted_ok s r given st draft outcome knows e means =
    subst (λ (k : Known). Means s k st outcome) (known_same r given knows) (subst (λ (d : Result Draft ScriptFaultKind). DraftedMeans d outcome) (sym e) means)

module _ (s : Settings) (given : List Meaning) (n : ℕ) (text : List ℕ) (p : Piece) (is : PieceIs text p) where
  pub piece_refuses : is_skipped (texts p.words.items) ≡ false → (kind : ScriptFaultKind) → Means s (known given) (statement_of n p) (Err kind) → MeanBehind s given (statements_from n None (text_lines text)) (Err (fault_at n kind))
  piece_refuses stays kind means = rw (is.statements n, stays) (inr (kind, means, refl))

  pub piece_advances : (r : Reading) → is_skipped (texts p.words.items) ≡ false → (m : Meaning) → Means s (known given) (statement_of n p) (Ok m) → Knows r (given ++ m ∷ []) → Advances s given n text p.lines p.rest.now r
  piece_advances r stays m means knows = (given ++ m ∷ [], knows, λ outcome rest. rw (is.statements n, stays) (inl (m, means, rest)))

  pub piece_skipped : (r : Reading) → is_skipped (texts p.words.items) ≡ true → Knows r given → Advances s given n text p.lines p.rest.now r
  piece_skipped r skipped knows = (given, knows, λ outcome rest. rw (is.statements n, skipped) rest)

-- once nothing is left, the lines mean what is known
pub read_all : (s : Settings) (given : List Meaning) (n : ℕ) (rest : List ℕ) → eqb (length rest) 0 ≡ true → MeanBehind s given (statements_from n None (text_lines rest)) (Ok given)
read_all s given n [] empty = refl
read_all s given n (b ∷ rest) empty = absurd (grind (arith, nat_tests))

-- the lines so far
pub record ReadSoFar (s : Settings) (text rest : List ℕ) (lines : ℕ) (r : Reading) : Type 0 where
  pub within : lines + length rest ≤ length text
  pub given : List Meaning
  pub knows : Knows r given
  pub goes_on : (outcome : Result (List Meaning) ScriptFault) → MeanBehind s given (statements_from (lines + 1) None (text_lines rest)) outcome → MeanBehind s [] (statements text) outcome

pub read_more : (s : Settings) (text rest after : List ℕ) (lines more : ℕ) (r newer : Reading) → (so_far : ReadSoFar s text rest lines r) → more + length after ≤ length rest
    → Advances s so_far.given (lines + 1) rest more after newer → ReadSoFar s text after (lines + more) newer
read_more s text rest after lines more r newer so_far within next = record {
  within = omega (arith, within, so_far.within);
  given = next.0;
  knows = next.1;
  goes_on = λ outcome behind. let moved : (lines + more) + 1 ≡ (lines + 1) + more = omega arith in so_far.goes_on outcome (next.2 outcome (rw (← moved) behind));
}
