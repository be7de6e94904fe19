use Rattle.std.proofs.Common.{ap, sym, ◌∙◌, inl, inr}
use Rattle.std.proofs.lemmas.Result.{err_from_is_err_and}
use Rattle.mk_script.specs.DraftViews.{settings_of}
use Rattle.mk_script.specs.Statements.{is_skipped}
use Rattle.line_words.specs.Words.{texts}
use Rattle.mk_script.proofs.ReaderLemmas.{piece_refuses, piece_advances, piece_skipped}
use Rattle.mk_script.proofs.reader.read_first.Goals as goal

pub returns-then-is_skipped-clause-ok : goal.returns-then-is_skipped-clause-ok
returns-then-is_skipped-clause-ok c =
    let p = c.in_ok-piece.piece in
    let skipped = ap (λ ws. is_skipped (texts ws)) (sym c.deref.ensures.value) ∙ sym c.if-is_skipped.ensures in
    λ given n knows. piece_skipped (settings_of c.args.settings) given n c.args.text.now p c.in_ok-piece.ensures c.args.reading.now skipped knows

pub returns-in_err-read_piece-clause-err : goal.returns-in_err-read_piece-clause-err
returns-in_err-read_piece-clause-err c =
    let piece = c.in_ok-piece.piece in
    let stays = ap (λ ws. is_skipped (texts ws)) (sym c.deref.ensures.value) ∙ sym c.if-is_skipped.ensures in
    let p = err_from_is_err_and c.from_residual-in_err-read_piece.result c.from_residual-in_err-read_piece.ensures.1 in
    rw (p.1, p.2) (elim c.in_err-read_piece.ensures.err [
      | inl memory ↦ inl memory
      | inr means ↦ inr (λ given n knows. piece_refuses (settings_of c.args.settings) given n c.args.text.now piece c.in_ok-piece.ensures stays _ (means given n knows))
    ])

pub returns-clause-ok : goal.returns-clause-ok
returns-clause-ok c =
    let piece = c.in_ok-piece.piece in
    let stays = ap (λ ws. is_skipped (texts ws)) (sym c.deref.ensures.value) ∙ sym c.if-is_skipped.ensures in
    λ given n knows.
    let m = c.in_ok-read_piece.ensures.ok given n knows in
    piece_advances (settings_of c.args.settings) given n c.args.text.now piece c.in_ok-piece.ensures c.read_piece.new.reading stays m.0 m.1 m.2
