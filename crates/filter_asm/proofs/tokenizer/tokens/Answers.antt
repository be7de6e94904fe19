use Rattle.std.proofs.Common.{◌∷◌, [], is_ok, ap, ◌∙◌}
use Rattle.std.proofs.ResultArms.{chosen}
use Rattle.std.proofs.lemmas.List.{map-append, append-nil}
use Rattle.filter_asm.specs.Texts.{texts}
use Rattle.filter_asm.proofs.TokenLemmas.{one_more_token}
use Rattle.filter_asm.proofs.tokenizer.tokens.Goals as goal

pub loop-token-preserved : goal.loop-token-preserved
loop-token-preserved c =
    let token = c.in-Some.token in
    let pushed = ap texts (chosen _ _ _ _ c.push.ensures.items (ap is_ok c.in_ok-push.was)) ∙ map-append (λ t. t.text.now) c.loop-token.tokens.items (token ∷ []) in
    λ more tokens. rw pushed (one_more_token (texts c.loop-token.tokens.items) token.text.now c.args.bytes.now c.loop-token.rest.now c.in-Some.after.now c.loop-token.invariant c.in-Some.ensures more tokens)

pub returns : goal.returns
returns c = rw append-nil at (c.loop-token.invariant [] c.in_default.ensures)
