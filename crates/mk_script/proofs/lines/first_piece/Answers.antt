use Rattle.std.proofs.Common.{Some, None, Option, List, ℕ, refl, ap, sym, subst, ◌∙◌}
use Rattle.mk_script.specs.declared.lines.Block.{Block}
use Rattle.mk_script.specs.Statements.{opens_block}
use Rattle.line_words.specs.Words.{texts}
use Rattle.mk_script.specs.Pieces.{BlockIs}
use Rattle.mk_script.proofs.PieceLemmas.{plain_piece, asm_piece, open_piece}
use Rattle.mk_script.proofs.lines.first_piece.Goals as goal

pub returns-then-not-opens_block : goal.returns-then-not-opens_block
returns-then-not-opens_block c =
    plain_piece c.args.text.now _ c.requires.some c.in_ok-words.ensures c.split_line.ensures.line (ap (λ ws. opens_block (texts ws)) (sym c.deref.ensures.value) ∙ sym c.if-not-opens_block.ensures) c.split_line.ensures.rest refl refl

pub returns-in-Some : goal.returns-in-Some
returns-in-Some c =
    let b = c.in-Some.block in
    let found = subst (λ (o : Option Block). BlockIs c.split_line.result.1.now o) c.in-Some.is c.block_at.ensures in
    let found' = subst (λ (t : List ℕ). BlockIs t (Some b)) c.split_line.ensures.rest found in
    asm_piece c.args.text.now _ c.requires.some c.in_ok-words.ensures c.split_line.ensures.line b found' (ap (λ ws. opens_block (texts ws)) (sym c.deref.ensures.value) ∙ sym c.if-not-opens_block.ensures) refl refl refl

pub returns-in-None : goal.returns-in-None
returns-in-None c =
    let found = subst (λ (o : Option Block). BlockIs c.split_line.result.1.now o) c.in-None.is c.block_at.ensures in
    let found' = subst (λ (t : List ℕ). BlockIs t None) c.split_line.ensures.rest found in
    open_piece c.args.text.now _ c.requires.some c.in_ok-words.ensures c.split_line.ensures.line found' (ap (λ ws. opens_block (texts ws)) (sym c.deref.ensures.value) ∙ sym c.if-not-opens_block.ensures) refl refl refl
