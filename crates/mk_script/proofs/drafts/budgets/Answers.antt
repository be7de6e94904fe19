use Rattle.std.proofs.Common.{◌+◌, [], Ok, List, ℕ, drop, get_or, is_ok, ap, ◌∙◌, inr, arith}
use Rattle.std.proofs.ResultArms.{chosen}
use Rattle.std.proofs.lemmas.Result.{err_from_is_err_and}
use Rattle.std.proofs.lemmas.List.{drop_more, append-nil, drop_all}
use denote.Ref.{Bor}
use Rattle.mk_script.specs.Drafts.{numbers_below}
use Rattle.line_words.specs.Words.{texts}
use Rattle.mk_script.proofs.NumbersLemmas.{behind, numbers-more, numbers-stop}
use Rattle.mk_script.proofs.drafts.budgets.Goals as goal

pub loop-word-preserved : goal.loop-word-preserved
loop-word-preserved c =
    let words = c.args.words.now in
    let i = c.loop-word.word-index in
    let done = c.loop-word.budgets.items in
    let empty : Bor (List ℕ) = record { ref_ptr = (0, 0); now = [] } in
    let pushed = chosen _ _ _ _ c.push.ensures.items (ap is_ok c.in_ok-push.was) in
    record {
      numbers = rw pushed (c.loop-word.invariant.numbers ∙ ap (λ ws. behind done (numbers_below 4294967296 (texts ws))) (drop_more words i empty c.loop-word-test.true)
          ∙ numbers-more 4294967296 (get_or words i empty).now (texts (drop (i + 1) words)) done c.in_ok-number32.field-0 c.in_ok-number32.ensures);
      len = omega (arith, c.in_ok-push.ensures.len, c.loop-word.invariant.len);
    }

pub returns-in_err-number32-clause-numbers : goal.returns-in_err-number32-clause-numbers
returns-in_err-number32-clause-numbers c =
    let words = c.args.words.now in
    let i = c.loop-word.word-index in
    let done = c.loop-word.budgets.items in
    let empty : Bor (List ℕ) = record { ref_ptr = (0, 0); now = [] } in
    let p = err_from_is_err_and c.from_residual.result c.from_residual.ensures.1 in
    rw (p.1, p.2) (inr (c.loop-word.invariant.numbers ∙ ap (λ ws. behind done (numbers_below 4294967296 (texts ws))) (drop_more words i empty c.loop-word-test.true)
    ∙ numbers-stop 4294967296 (get_or words i empty).now (texts (drop (i + 1) words)) done _ c.in_err-number32.ensures))

pub returns-clause-numbers : goal.returns-clause-numbers
returns-clause-numbers c = c.loop-word.invariant.numbers ∙ ap (λ ws. behind c.loop-word.budgets.items (numbers_below 4294967296 (texts ws))) (drop_all c.loop-word.word-index c.args.words.now c.loop-word-test.false) ∙ ap (λ l. Ok l) (append-nil c.loop-word.budgets.items)
