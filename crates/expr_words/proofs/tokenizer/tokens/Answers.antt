use Rattle.std.proofs.Common.{◌≡◌, ◌+◌, length, is_ok, ap, sym, refl, subst, inl, inr, length-append, length-drop, arith}
use Rattle.std.proofs.ResultArms.{chosen}
use Rattle.std.proofs.lemmas.List.{take_rest}
use Rattle.expr_words.specs.declared.token.Token.{Token}
use Rattle.expr_words.proofs.TokenLemmas.{Onward, one_token_more, whole_text, refused}
use Rattle.expr_words.proofs.tokenizer.tokens.Goals as goal

pub returns-then-place-text-clause-spelled : goal.returns-then-place-text-clause-spelled
returns-then-place-text-clause-spelled c =
    whole_text c.args.text.now c.tokens.tokens.items c.tokens.place c.blanks-place.result c.tokens.invariant.onward
    (rw (take_rest c.args.text.now c.tokens.place) at c.blanks-place.ensures.count) c.if-place-text.true

pub returns-in-Err-clause-fault : goal.returns-in-Err-clause-fault
returns-in-Err-clause-fault c =
    let text = c.args.text.now in
    let begins = rw (take_rest text (c.tokens.place + c.blanks-place.result), c.in-Err.is) at c.token_at-found.ensures.begins in
    inr (refused text c.tokens.tokens.items c.tokens.place c.blanks-place.result _ c.tokens.invariant.onward
    (rw (take_rest text c.tokens.place) at c.blanks-place.ensures.count) (omega arith) c.tokens.invariant.few refl (inl begins))

pub returns-then-len-eq-MAX_TOKENS-clause-fault : goal.returns-then-len-eq-MAX_TOKENS-clause-fault
returns-then-len-eq-MAX_TOKENS-clause-fault c =
    let text = c.args.text.now in
    let begins = rw (take_rest text (c.tokens.place + c.blanks-place.result), c.in-Ok.is) at c.token_at-found.ensures.begins in
    let full : length c.tokens.tokens.items ≡ 8192 = omega (arith, c.tokens.tokens.ok.0) in
    inr (refused text c.tokens.tokens.items c.tokens.place c.blanks-place.result _ c.tokens.invariant.onward
    (rw (take_rest text c.tokens.place) at c.blanks-place.ensures.count) (omega arith) c.tokens.invariant.few refl (inr (full, refl, (c.in-Ok.word, begins))))

pub tokens-preserved : goal.tokens-preserved
tokens-preserved c =
    let text = c.args.text.now in
    let begins = rw (take_rest text (c.tokens.place + c.blanks-place.result), c.in-Ok.is) at c.token_at-found.ensures.begins in
    let items = c.tokens.tokens.items in
    let place = c.tokens.place in
    let blanks = c.blanks-place.result in
    let width = c.token_at-found.result.width in
    let bound = rw (take_rest text (place + blanks)) at c.token_at-found.ensures.bound in
    let more = one_token_more text items place blanks width c.in-Ok.word c.tokens.invariant.onward (rw (take_rest text place) at c.blanks-place.ensures.count) (omega arith) begins in
    let pushed = chosen _ _ _ _ c.push.ensures.items (ap is_ok c.in_ok-push.was) in
    let count = ap length pushed in
    record {
      inside = omega (arith, bound, length-drop (place + blanks) text);
      few = rw pushed (omega (arith, length-append {A = Token}, c.tokens.tokens.ok.0));
      onward = subst (λ all. Onward text all (place + blanks + width)) (sym pushed) more;
    }
