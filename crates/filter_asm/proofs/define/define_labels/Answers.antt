use Rattle.std.proofs.Common.{◌+◌, ◌∷◌, [], ◌++◌, drop, inl, inr, length-drop, arith}
use Rattle.std.proofs.lemmas.List.{drop-drop}
use Rattle.std.proofs.lemmas.Result.{err_from_is_err_and}
use Rattle.filter_asm.specs.Texts.{texts}
use Rattle.filter_asm.proofs.TokenLemmas.{slice_from}
use Rattle.filter_asm.proofs.DefineLemmas.{one_twice, one_defined}
use Rattle.filter_asm.proofs.define.define_labels.Goals as goal

pub loop-name-preserved : goal.loop-name-preserved
loop-name-preserved c =
    let tokens = c.args.tokens.now in
    let len = c.loop-name.len in
    let found = rw (slice_from tokens len, drop-drop) at c.in-Some.ensures.found in
    let bound = rw (slice_from tokens len) at c.in-Some.ensures.bound in
    let so_far = c.loop-name.invariant.1 in
    let name = c.in-Some.name.now in (
      omega (arith, length-drop len tokens, bound),
      (
        so_far.0 ++ name ∷ [],
        one_defined c.args.labels.now c.loop-name.labels c.args.place (texts tokens) (texts (drop len tokens)) (texts (drop (len + 2) tokens)) so_far.0 name so_far.1 found.0 found.1
            c.define.new.labels c.in_ok-define.ensures.ok c.in_ok-define.ensures.places,
      ),
    )

pub returns-in_err-define-clause-err : goal.returns-in_err-define-clause-err
returns-in_err-define-clause-err c =
    let tokens = c.args.tokens.now in
    let len = c.loop-name.len in
    let found = rw (slice_from tokens len, drop-drop) at c.in-Some.ensures.found in
    let so_far = c.loop-name.invariant.1 in
    let name = c.in-Some.name.now in
    let p = err_from_is_err_and c.from_residual.result c.from_residual.ensures.1 in
    rw (p.1, p.2) (elim c.in_err-define.ensures.err [
      | inl memory ↦ inl memory
      | inr twice ↦ inr (twice.0, one_twice c.args.labels.now c.loop-name.labels c.args.place (texts tokens) (texts (drop len tokens)) (texts (drop (len + 2) tokens)) so_far.0 name so_far.1 found.0 found.1 twice.1)
    ])
