use Rattle.std.proofs.Common.{◌≡◌, true, false, Some, None, length, option_and_then, ap, ◌∙◌, arith, length-drop}
use Rattle.std.proofs.lemmas.Result.{err_from_is_err_and}
use Rattle.expr_words.specs.declared.word.Sign.TheVariants as signs
use Rattle.expr_words.specs.declared.word.Keyword.TheVariants as keywords
use Rattle.expr_tree.specs.Expr.{expr_at, value_at, expr_by}
use Rattle.expr_parse.specs.Words.{sees, sees_word}
use Rattle.expr_parse.specs.Operators.{join_at}
use Rattle.expr_parse.specs.Readers.{expect, ◌>>=◌, pure}
use Rattle.expr_parse.specs.Grammar.{item, joined}
use Rattle.expr_parse.proofs.LevelLemmas.{item_at_not, item_at_list, item_at_single}
use Rattle.expr_parse.proofs.ChainLemmas.{grows_on, chain_end, chain_none, chain_turn, join_some, join_expr}
use Rattle.expr_parse.proofs.parser.Parser.+item.Goals as goal

pub item-returns-then-sees_word-clause-reads : goal.item-returns-then-sees_word-clause-reads
item-returns-then-sees_word-clause-reads t c =
    let h : sees_word keywords.Not c.args.self.now.cursor ≡ true = cc in
    rw (item_at_not c.args.level c.args.quals c.args.self.now.cursor (omega arith) h) c.item_not.ensures.reads

pub item-returns-then-sees-clause-reads : goal.item-returns-then-sees-clause-reads
item-returns-then-sees-clause-reads t c =
    let h : sees_word keywords.Not c.args.self.now.cursor ≡ false = cc in
    let o : sees signs.Open c.args.self.now.cursor ≡ true = cc in
    rw (item_at_list c.args.level c.args.quals c.args.self.now.cursor (omega arith) h o) c.item_list.ensures.reads

pub item-returns-clause-reads : goal.item-returns-clause-reads
item-returns-clause-reads t c =
    let h : sees_word keywords.Not c.args.self.now.cursor ≡ false = cc in
    let o : sees signs.Open c.args.self.now.cursor ≡ false = cc in
    rw (item_at_single c.args.level c.args.quals c.args.self.now.cursor (omega arith) h o) c.single.ensures.reads

pub item_list-items-smaller : goal.item_list-items-smaller
item_list-items-smaller t c =
    let j : join_at c.items.self.cursor ≡ Some c.in-Some.join = cc in
    let some = join_some c.items.self.cursor c.in-Some.join j in
    let shorter = c.in_ok-right.ensures.shorter in
    omega (arith, length-drop 1 c.items.self.cursor, ap length c.skip-in-Some.ensures, ap length c.in_ok-left-2.ensures.cursor)

pub item_list-returns-in_err-right-clause-reads : goal.item_list-returns-in_err-right-clause-reads
item_list-returns-in_err-right-clause-reads t c =
    let p = err_from_is_err_and c.from_residual-in_err-right.result c.from_residual-in_err-right.ensures.1 in
    let j : join_at c.items.self.cursor ≡ Some c.in-Some.join = cc in
    let known = c.items.invariant.reads in
    let left = expr_at c.items.self.tree.nodes.items c.items.left in
    rw (p.1, p.2) (λ h.
    let none = rw c.skip-in-Some.ensures at (c.in_err-right.ensures.reads h) in
    known.2 ∙ ap (option_and_then (λ r. (expect signs.Close >>= (λ taken. pure r.0)) r.1)) (chain_none join_at (λ left. item c.args.level c.args.quals) joined known.0 left c.items.self.cursor c.in-Some.join known.1 j none))

pub item_list-items-preserved : goal.item_list-items-preserved
item_list-items-preserved t c =
    let j : join_at c.items.self.cursor ≡ Some c.in-Some.join = cc in
    let some = join_some c.items.self.cursor c.in-Some.join j in
    let shorter = c.in_ok-right.ensures.shorter in
    let before = c.items.invariant.shorter in
    let last = c.items.invariant.last in
    let known = c.items.invariant.reads in
    let nodes = c.item-in-Some.new.self.tree.nodes.items in
    let left = expr_at c.items.self.tree.nodes.items c.items.left in
    let right = expr_at nodes c.in_ok-right.right in
    let read = rw c.skip-in-Some.ensures at c.in_ok-right.ensures.reads.0 in
    let turn = chain_turn join_at (λ left. item c.args.level c.args.quals) joined known.0 left c.items.self.cursor c.in-Some.join right c.item-in-Some.new.self.cursor known.1 some (omega (arith, ap length c.skip-in-Some.ensures)) j read in
    let same : expr_at c.push.new.self.tree.nodes.items c.in_ok-left-2.left ≡ joined c.in-Some.join left right =
    c.in_ok-left-2.ensures.expr ∙ ap (expr_by (value_at nodes) (expr_at nodes)) c.joined.ensures ∙ join_expr c.in-Some.join nodes c.items.left c.in_ok-right.right
    ∙ ap (λ x. joined c.in-Some.join x right) (c.in_ok-right.ensures.grows.exprs c.items.left (omega arith)) in
    let fits = turn.1 in
    record {
      reads = rw (same, c.in_ok-left-2.ensures.cursor) (turn.0, fits, known.2 ∙ ap (option_and_then (λ r. (expect signs.Close >>= (λ taken. pure r.0)) r.1)) turn.2);
      last = c.in_ok-left-2.ensures.placed;
      grows = grows_on _ _ _ c.items.invariant.grows (grows_on _ _ _ c.in_ok-right.ensures.grows c.in_ok-left-2.ensures.grows);
      shorter = omega (arith, length-drop 1 c.items.self.cursor, ap length c.skip-in-Some.ensures, ap length c.in_ok-left-2.ensures.cursor);
    }

pub item_list-returns-in_err-expect-clause-reads : goal.item_list-returns-in_err-expect-clause-reads
item_list-returns-in_err-expect-clause-reads t c =
    let p = err_from_is_err_and c.from_residual-in_err-expect.result c.from_residual-in_err-expect.ensures.1 in
    let j : join_at c.items.self.cursor ≡ None = cc in
    let known = c.items.invariant.reads in
    let left = expr_at c.items.self.tree.nodes.items c.items.left in
    rw (p.1, p.2) (λ h.
    let none = c.in_err-expect.ensures.reads h in
    known.2 ∙ ap (option_and_then (λ r. (expect signs.Close >>= (λ taken. pure r.0)) r.1)) (chain_end join_at (λ left. item c.args.level c.args.quals) joined known.0 left c.items.self.cursor j)
    ∙ ap (option_and_then (λ r. pure left r.1)) none)

pub item_list-returns-clause-reads : goal.item_list-returns-clause-reads
item_list-returns-clause-reads t c =
    let j : join_at c.items.self.cursor ≡ None = cc in
    let known = c.items.invariant.reads in
    let left = expr_at c.items.self.tree.nodes.items c.items.left in
    let closed = c.in_ok-expect.ensures.reads in
    rw c.in_ok-expect.ensures.tree (
      known.2 ∙ ap (option_and_then (λ r. (expect signs.Close >>= (λ taken. pure r.0)) r.1)) (chain_end join_at (λ left. item c.args.level c.args.quals) joined known.0 left c.items.self.cursor j)
          ∙ ap (option_and_then (λ r. pure left r.1)) closed,
      c.items.invariant.last,
    )
