use Rattle.std.proofs.Common.{◌≡◌, true, false, ◌&&◌, Some, None, length, ap, ◌∙◌, arith, length-drop}
use Rattle.std.proofs.lemmas.Result.{err_from_is_err_and}
use Rattle.expr_words.specs.declared.word.Keyword.TheVariants as keywords
use Rattle.expr_tree.specs.Expr.{expr_at, value_at, expr_by}
use Rattle.expr_parse.specs.Words.{sees_word}
use Rattle.expr_parse.specs.Operators.{join_at}
use Rattle.expr_parse.specs.Brackets.{begins_item, begins_group}
use Rattle.expr_parse.specs.Grammar as spec
use Rattle.expr_parse.specs.Grammar.{joined, joined_reads}
use Rattle.expr_parse.proofs.LevelLemmas.{term_at_not, term_at_item, term_at_group, term_at_test}
use Rattle.expr_parse.proofs.ChainLemmas.{grows_on, chain_end, chain_none, chain_turn, join_some, join_expr}
use Rattle.expr_parse.proofs.parser.Parser.+parser.Goals as goal

pub term-returns-then-sees_word-clause-reads : goal.term-returns-then-sees_word-clause-reads
term-returns-then-sees_word-clause-reads t c =
    let h : sees_word keywords.Not c.args.self.now.cursor ≡ true = cc in
    rw (term_at_not c.args.level c.args.quals c.args.items c.args.self.now.cursor (omega arith) h) c.term_not.ensures.reads

pub term-returns-then-takes_item-clause-reads : goal.term-returns-then-takes_item-clause-reads
term-returns-then-takes_item-clause-reads t c =
    let h : sees_word keywords.Not c.args.self.now.cursor ≡ false = cc in
    let i : (c.args.items && begins_item c.args.self.now.cursor) ≡ true = cc in
    rw (term_at_item c.args.level c.args.quals c.args.items c.args.self.now.cursor (omega arith) h i) c.values.ensures.reads

pub term-returns-then-begins_group-clause-reads : goal.term-returns-then-begins_group-clause-reads
term-returns-then-begins_group-clause-reads t c =
    let h : sees_word keywords.Not c.args.self.now.cursor ≡ false = cc in
    let i : (c.args.items && begins_item c.args.self.now.cursor) ≡ false = cc in
    let g : begins_group c.args.self.now.cursor ≡ true = cc in
    rw (term_at_group c.args.level c.args.quals c.args.items c.args.self.now.cursor (omega arith) h i g) c.group.ensures.reads

pub term-returns-clause-reads : goal.term-returns-clause-reads
term-returns-clause-reads t c =
    let h : sees_word keywords.Not c.args.self.now.cursor ≡ false = cc in
    let i : (c.args.items && begins_item c.args.self.now.cursor) ≡ false = cc in
    let g : begins_group c.args.self.now.cursor ≡ false = cc in
    rw (term_at_test c.args.level c.args.quals c.args.items c.args.self.now.cursor (omega arith) h i g) c.any_test.ensures.reads

pub expr-terms-smaller : goal.expr-terms-smaller
expr-terms-smaller t c =
    let j : join_at c.terms.self.cursor ≡ Some c.in-Some.join = cc in
    let some = join_some c.terms.self.cursor c.in-Some.join j in
    let shorter = c.in_ok-right.ensures.shorter in
    omega (arith, length-drop 1 c.terms.self.cursor, ap length c.skip.ensures, ap length c.in_ok-node.ensures.cursor)

pub expr-returns-in_err-right-clause-reads : goal.expr-returns-in_err-right-clause-reads
expr-returns-in_err-right-clause-reads t c =
    let p = err_from_is_err_and c.from_residual-in_err-right.result c.from_residual-in_err-right.ensures.1 in
    let j : join_at c.terms.self.cursor ≡ Some c.in-Some.join = cc in
    let known = c.terms.invariant.reads in
    rw (p.1, p.2) (λ h.
    let none = rw c.skip.ensures at (c.in_err-right.ensures.reads h) in
    known.2 ∙ chain_none join_at (λ left. spec.term c.args.level left.1 true) joined_reads known.0 (expr_at c.terms.self.tree.nodes.items c.terms.left.node, c.terms.left.quals) c.terms.self.cursor c.in-Some.join known.1 j none)

pub expr-terms-preserved : goal.expr-terms-preserved
expr-terms-preserved t c =
    let j : join_at c.terms.self.cursor ≡ Some c.in-Some.join = cc in
    let some = join_some c.terms.self.cursor c.in-Some.join j in
    let shorter = c.in_ok-right.ensures.shorter in
    let before = c.terms.invariant.shorter in
    let last = c.terms.invariant.last in
    let known = c.terms.invariant.reads in
    let nodes = c.term-in-Some.new.self.tree.nodes.items in
    let left = expr_at c.terms.self.tree.nodes.items c.terms.left.node in
    let right = expr_at nodes c.in_ok-right.right.node in
    let read = rw c.skip.ensures at c.in_ok-right.ensures.reads.0 in
    let turn = chain_turn join_at (λ left. spec.term c.args.level left.1 true) joined_reads known.0 (left, c.terms.left.quals) c.terms.self.cursor c.in-Some.join (right, c.in_ok-right.right.quals) c.term-in-Some.new.self.cursor known.1 some (omega (arith, ap length c.skip.ensures)) j read in
    let same : expr_at c.push.new.self.tree.nodes.items c.in_ok-node.node ≡ joined c.in-Some.join left right =
    c.in_ok-node.ensures.expr ∙ ap (expr_by (value_at nodes) (expr_at nodes)) c.joined.ensures ∙ join_expr c.in-Some.join nodes c.terms.left.node c.in_ok-right.right.node
    ∙ ap (λ x. joined c.in-Some.join x right) (c.in_ok-right.ensures.grows.exprs c.terms.left.node (omega arith)) in
    let fits = turn.1 in
    record {
      reads = rw (same, c.in_ok-node.ensures.cursor) (turn.0, fits, known.2 ∙ turn.2);
      last = c.in_ok-node.ensures.placed;
      grows = grows_on _ _ _ c.terms.invariant.grows (grows_on _ _ _ c.in_ok-right.ensures.grows c.in_ok-node.ensures.grows);
      shorter = omega (arith, length-drop 1 c.terms.self.cursor, ap length c.skip.ensures, ap length c.in_ok-node.ensures.cursor);
    }

pub expr-returns-clause-reads : goal.expr-returns-clause-reads
expr-returns-clause-reads t c =
    let j : join_at c.terms.self.cursor ≡ None = cc in
    let known = c.terms.invariant.reads in
    (known.2 ∙ chain_end join_at (λ left. spec.term c.args.level left.1 true) joined_reads known.0 (expr_at c.terms.self.tree.nodes.items c.terms.left.node, c.terms.left.quals) c.terms.self.cursor j, c.terms.invariant.last)
