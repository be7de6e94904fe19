use Rattle.std.proofs.Common.{◌≡◌, ◌+◌, ◌-◌, true, false, Some, None, length, ap, ◌∙◌, arith, length-drop}
use Rattle.std.proofs.lemmas.Result.{err_from_is_err_and}
use Rattle.expr_words.specs.declared.word.Sign.TheVariants as signs
use Rattle.expr_words.specs.declared.word.Keyword.TheVariants as keywords
use Rattle.expr_tree.specs.Expr.{Operation, value_at}
use Rattle.expr_parse.specs.Words.{number, sees, sees_word}
use Rattle.expr_parse.specs.Operators.{operator_in}
use Rattle.expr_parse.specs.Calculations.{factor, layers, operand}
use Rattle.expr_parse.proofs.LevelLemmas.{factor_at, factor_negative, factor_parenthesized, factor_len, factor_number, factor_bytes, layers_begin}
use Rattle.expr_parse.proofs.ChainLemmas.{grows_on, chain_end, chain_none, chain_turn, operator_some}
use Rattle.expr_parse.proofs.parser.Parser.+calc.Goals as goal

pub factor-returns-then-sees-clause-reads : goal.factor-returns-then-sees-clause-reads
factor-returns-then-sees-clause-reads t c =
    let m : sees signs.Minus c.args.self.now.cursor ≡ true = cc in
    rw (factor_at c.args.level c.args.self.now.cursor (omega arith), factor_negative (factor (c.args.level - 1)) c.args.self.now.cursor m) c.negative.ensures.reads

pub factor-returns-then-sees-2-clause-reads : goal.factor-returns-then-sees-2-clause-reads
factor-returns-then-sees-2-clause-reads t c =
    let m : sees signs.Minus c.args.self.now.cursor ≡ false = cc in
    let o : sees signs.Open c.args.self.now.cursor ≡ true = cc in
    rw (factor_at c.args.level c.args.self.now.cursor (omega arith), factor_parenthesized (factor (c.args.level - 1)) c.args.self.now.cursor m o) c.parenthesized.ensures.reads

pub factor-returns-then-sees_word-clause-reads : goal.factor-returns-then-sees_word-clause-reads
factor-returns-then-sees_word-clause-reads t c =
    let m : sees signs.Minus c.args.self.now.cursor ≡ false = cc in
    let o : sees signs.Open c.args.self.now.cursor ≡ false = cc in
    let l : sees_word keywords.Len c.args.self.now.cursor ≡ true = cc in
    rw (factor_at c.args.level c.args.self.now.cursor (omega arith), factor_len (factor (c.args.level - 1)) c.args.self.now.cursor m o l) c.constant.ensures.reads

pub factor-returns-in-Some-clause-reads : goal.factor-returns-in-Some-clause-reads
factor-returns-in-Some-clause-reads t c =
    let m : sees signs.Minus c.args.self.now.cursor ≡ false = cc in
    let o : sees signs.Open c.args.self.now.cursor ≡ false = cc in
    let l : sees_word keywords.Len c.args.self.now.cursor ≡ false = cc in
    let e : number c.args.self.now.cursor ≡ Some c.in-Some.number = cc in
    rw (factor_at c.args.level c.args.self.now.cursor (omega arith), factor_number (factor (c.args.level - 1)) c.args.self.now.cursor c.in-Some.number m o l e) c.constant-in-Some.ensures.reads

pub factor-returns-clause-reads : goal.factor-returns-clause-reads
factor-returns-clause-reads t c =
    let m : sees signs.Minus c.args.self.now.cursor ≡ false = cc in
    let o : sees signs.Open c.args.self.now.cursor ≡ false = cc in
    let l : sees_word keywords.Len c.args.self.now.cursor ≡ false = cc in
    let e : number c.args.self.now.cursor ≡ None = cc in
    rw (factor_at c.args.level c.args.self.now.cursor (omega arith), factor_bytes (factor (c.args.level - 1)) c.args.self.now.cursor m o l e) c.bytes.ensures.reads

pub layers-operands-init : goal.layers-operands-init
layers-operands-init t c = record {
  reads = (length c.layers.new.self.cursor + 1, omega arith, layers_begin (factor c.args.level) c.args.layers (value_at c.args.self.now.tree.nodes.items c.args.operand) (value_at c.layers.new.self.tree.nodes.items c.in_ok-left.left) c.args.self.now.cursor c.layers.new.self.cursor (omega arith) c.in_ok-left.ensures.reads.0);
  last = c.in_ok-left.ensures.reads.1;
  grows = c.in_ok-left.ensures.grows;
  shorter = c.in_ok-left.ensures.shorter;
}

pub layers-returns-in_err-right-clause-reads : goal.layers-returns-in_err-right-clause-reads
layers-returns-in_err-right-clause-reads t c =
    let p = err_from_is_err_and c.from_residual-in_err-right.result c.from_residual-in_err-right.ensures.1 in
    let j : operator_in c.args.layers c.operands.self.cursor ≡ Some c.in-Some.operator = cc in
    let known = c.operands.invariant.reads in
    rw (p.1, p.2) (λ h.
    let none = rw c.skip.ensures at (c.in_err-right.ensures.reads h) in
    known.2 ∙ chain_none (operator_in c.args.layers) (λ so_far. operand (factor c.args.level) (layers (factor c.args.level) (c.args.layers - 1))) Operation known.0 (value_at c.operands.self.tree.nodes.items c.operands.left) c.operands.self.cursor c.in-Some.operator known.1 j none)

pub layers-operands-smaller : goal.layers-operands-smaller
layers-operands-smaller t c =
    let j : operator_in c.args.layers c.operands.self.cursor ≡ Some c.in-Some.operator = cc in
    let some = operator_some c.operands.self.cursor c.args.layers c.in-Some.operator j in
    let shorter = c.in_ok-right.ensures.shorter in
    omega (arith, length-drop 1 c.operands.self.cursor, ap length c.skip.ensures, ap length c.in_ok-left-2.ensures.cursor)

pub layers-operands-preserved : goal.layers-operands-preserved
layers-operands-preserved t c =
    let j : operator_in c.args.layers c.operands.self.cursor ≡ Some c.in-Some.operator = cc in
    let some = operator_some c.operands.self.cursor c.args.layers c.in-Some.operator j in
    let shorter = c.in_ok-right.ensures.shorter in
    let before = c.operands.invariant.shorter in
    let last = c.operands.invariant.last in
    let known = c.operands.invariant.reads in
    let nodes = c.operand.new.self.tree.nodes.items in
    let left = value_at c.operands.self.tree.nodes.items c.operands.left in
    let right = value_at nodes c.in_ok-right.right in
    let read = rw c.skip.ensures at c.in_ok-right.ensures.reads.0 in
    let turn = chain_turn (operator_in c.args.layers) (λ so_far. operand (factor c.args.level) (layers (factor c.args.level) (c.args.layers - 1))) Operation known.0 left c.operands.self.cursor c.in-Some.operator right c.operand.new.self.cursor known.1 some (omega (arith, ap length c.skip.ensures)) j read in
    let same : value_at c.push.new.self.tree.nodes.items c.in_ok-left-2.left ≡ Operation c.in-Some.operator left right =
    c.in_ok-left-2.ensures.value ∙ ap (λ x. Operation c.in-Some.operator x right) (c.in_ok-right.ensures.grows.values c.operands.left (omega arith)) in
    let fits = turn.1 in
    record {
      reads = rw (same, c.in_ok-left-2.ensures.cursor) (turn.0, fits, known.2 ∙ turn.2);
      last = c.in_ok-left-2.ensures.placed;
      grows = grows_on _ _ _ c.operands.invariant.grows (grows_on _ _ _ c.in_ok-right.ensures.grows c.in_ok-left-2.ensures.grows);
      shorter = omega (arith, length-drop 1 c.operands.self.cursor, ap length c.skip.ensures, ap length c.in_ok-left-2.ensures.cursor);
    }

pub layers-returns-clause-reads : goal.layers-returns-clause-reads
layers-returns-clause-reads t c =
    let j : operator_in c.args.layers c.operands.self.cursor ≡ None = cc in
    let known = c.operands.invariant.reads in
    (known.2 ∙ chain_end (operator_in c.args.layers) (λ so_far. operand (factor c.args.level) (layers (factor c.args.level) (c.args.layers - 1))) Operation known.0 (value_at c.operands.self.tree.nodes.items c.operands.left) c.operands.self.cursor j, c.operands.invariant.last)
