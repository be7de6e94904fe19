use Rattle.std.proofs.Common.{◌≡◌, ◌∷◌, [], Ok, Err, Some, None, length, drop, is_ok, sym, ap, ◌∙◌, inl, inr, arith}
use Rattle.std.proofs.ResultArms.{chosen}
use Rattle.std.proofs.lemmas.Result.{err_from_is_err_and}
use Rattle.std.proofs.lemmas.List.{map-append, append-nil}
use Rattle.std.specs.Prelude.{option_map}
use Rattle.filter_asm.specs.Program.{definitions}
use Rattle.filter_asm.specs.DraftViews.{draft_of, drafts_of}
use Rattle.filter_asm.specs.Texts.{texts}
use Rattle.filter_asm.proofs.ProgramLemmas.{line_gives-twice}
use Rattle.filter_asm.proofs.ReadLemmas.{line_refused, line_known, line_drafted}
use Rattle.filter_asm.proofs.assembler.read_tokens.Goals as goal

pub returns-in_err-labels_len-clause-err : goal.returns-in_err-labels_len-clause-err
returns-in_err-labels_len-clause-err c =
    let tokens = texts c.args.tokens.now in
    let p = err_from_is_err_and c.from_residual.result c.from_residual.ensures.1 in
    rw (p.1, p.2) (elim c.in_err-labels_len.ensures.err [
      | inl memory ↦ inl memory
      | inr twice ↦ inr (λ lines passed numbered. line_gives-twice lines tokens (twice.1 (definitions lines) passed.known) ∙ ap (λ k. Err k) (sym twice.0))
    ])

pub returns-in_err-draft-clause-err : goal.returns-in_err-draft-clause-err
returns-in_err-draft-clause-err c =
    let pass = c.args.pass.now in
    let tokens = texts c.args.tokens.now in
    let rest = texts (drop c.in_ok-labels_len.labels_len c.args.tokens.now) in
    let body_is : texts c.split_at.result.1.now ≡ rest = ap texts c.split_at.ensures.back in
    let defines = c.in_ok-labels_len.ensures.ok in
    let counted : c.len-count.result ≡ length pass.drafts.items = omega (arith, pass.drafts.ok.0, c.len-count.ensures) in
    let p = err_from_is_err_and c.from_residual-in_err-draft.result c.from_residual-in_err-draft.ensures.1 in
    rw (p.1, p.2) (inr (λ lines passed numbered. line_refused lines pass c.define_labels.new.labels c.args.number c.len-count.result tokens rest (texts c.split_at.result.1.now) passed numbered counted defines body_is _ c.in_err-draft.ensures.gives))

pub returns-in_ok-push-clause-ok : goal.returns-in_ok-push-clause-ok
returns-in_ok-push-clause-ok c = λ lines passed numbered.
    let pass = c.args.pass.now in
    let tokens = texts c.args.tokens.now in
    let rest = texts (drop c.in_ok-labels_len.labels_len c.args.tokens.now) in
    let body_is : texts c.split_at.result.1.now ≡ rest = ap texts c.split_at.ensures.back in
    let defines = c.in_ok-labels_len.ensures.ok in
    let counted : c.len-count.result ≡ length pass.drafts.items = omega (arith, pass.drafts.ok.0, c.len-count.ensures) in
    let draft = c.in-Some.draft in
    let pushed = chosen _ _ _ _ c.push.ensures.items (ap is_ok c.in_ok-push.was) in
    let given = c.in_ok-draft.ensures.gives in
    record {
      known = line_known lines pass c.define_labels.new.labels c.args.number c.len-count.result tokens rest (texts c.split_at.result.1.now) passed numbered counted defines body_is;
      drafted = line_drafted lines pass c.define_labels.new.labels c.args.number c.len-count.result tokens rest (texts c.split_at.result.1.now) passed numbered counted defines body_is (Some (draft_of draft)) (ap (λ o. Ok (option_map draft_of o)) (sym c.in-Some.is) ∙ given)
          ∙ ap (λ l. Ok l) (sym (ap drafts_of pushed ∙ map-append draft_of pass.drafts.items (draft ∷ [])));
    }

pub returns-in_default-clause-ok : goal.returns-in_default-clause-ok
returns-in_default-clause-ok c = λ lines passed numbered.
    let pass = c.args.pass.now in
    let tokens = texts c.args.tokens.now in
    let rest = texts (drop c.in_ok-labels_len.labels_len c.args.tokens.now) in
    let body_is : texts c.split_at.result.1.now ≡ rest = ap texts c.split_at.ensures.back in
    let defines = c.in_ok-labels_len.ensures.ok in
    let counted : c.len-count.result ≡ length pass.drafts.items = omega (arith, pass.drafts.ok.0, c.len-count.ensures) in
    let given = c.in_ok-draft.ensures.gives in
    let is = c.in_default.is in
    record {
      known = line_known lines pass c.define_labels.new.labels c.args.number c.len-count.result tokens rest (texts c.split_at.result.1.now) passed numbered counted defines body_is;
      drafted = line_drafted lines pass c.define_labels.new.labels c.args.number c.len-count.result tokens rest (texts c.split_at.result.1.now) passed numbered counted defines body_is None (ap (λ o. Ok (option_map draft_of o)) (sym is) ∙ given)
          ∙ ap (λ l. Ok l) (append-nil (drafts_of pass.drafts.items));
    }
