use Rattle.std.proofs.Common.{inl, inr}
use Rattle.std.proofs.lemmas.Result.{err_from_is_err_and}
use Rattle.mk_script.specs.DraftViews.{meaning_of, settings_of, draft_of}
use Rattle.mk_script.specs.Pieces.{statement_of}
use Rattle.mk_script.proofs.ReaderLemmas.{drafted_err, drafted_ok}
use Rattle.mk_script.proofs.reader.read_piece.Goals as goal

pub returns-in_err-draft-clause-err : goal.returns-in_err-draft-clause-err
returns-in_err-draft-clause-err c =
    let p = err_from_is_err_and c.from_residual.result c.from_residual.ensures.1 in
    rw (p.1, p.2) (elim (c.in_err-draft.ensures.drafts 0) [
      | inl memory ↦ inl memory
      | inr e ↦ inr (λ given n knows. drafted_err (settings_of c.args.settings) c.args.reading.now given (statement_of n c.args.piece.now) c.in_err-draft.field-0.0 knows e)
    ])

pub returns-in_err-meaning-clause-err : goal.returns-in_err-meaning-clause-err
returns-in_err-meaning-clause-err c =
    let p = err_from_is_err_and c.from_residual-in_err-meaning.result c.from_residual-in_err-meaning.ensures.1 in
    rw (p.1, p.2) (elim c.in_err-meaning.ensures.err [
      | inl memory ↦ inl memory
      | inr means ↦ inr (λ given n knows. drafted_ok (settings_of c.args.settings) c.args.reading.now given (statement_of n c.args.piece.now) (draft_of c.in_ok-draft.draft) _ knows (c.in_ok-draft.ensures.drafts n) means)
    ])

pub returns-clause-ok : goal.returns-clause-ok
returns-clause-ok c = λ given n knows. (
  meaning_of c.in_ok-meaning.meaning,
  drafted_ok (settings_of c.args.settings) c.args.reading.now given (statement_of n c.args.piece.now) (draft_of c.in_ok-draft.draft) _ knows (c.in_ok-draft.ensures.drafts n) c.in_ok-meaning.ensures.ok,
  c.in_ok-add.ensures given knows,
)
