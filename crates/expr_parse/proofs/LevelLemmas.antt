-- What is one level deeper.
use Rattle.std.proofs.Common.{◌≡◌, ℕ, zero, suc, ◌+◌, ◌-◌, ◌<◌, Bool, true, false, ◌&&◌, List, length, drop, Option, Some, None, refl, sub-one, arith}
use Rattle.expr_words.specs.declared.token.Token.{Token}
use Rattle.expr_words.specs.declared.word.Sign.TheVariants as signs
use Rattle.expr_words.specs.declared.word.Keyword.TheVariants as keywords
use Rattle.expr_tree.specs.Expr.{Value, Number, Len, Operation}
use Rattle.expr_values.specs.declared.kinds.Quals.{Quals}
use Rattle.expr_parse.specs.Words.{number, sees, sees_word}
use Rattle.expr_parse.specs.Operators.{operator_in}
use Rattle.expr_parse.specs.Brackets.{begins_item, begins_group}
use Rattle.expr_parse.specs.Readers.{Reader, chain}
use Rattle.expr_parse.specs.Calculations as calculation
use Rattle.expr_parse.specs.Calculations.{factor, factor_by, layers, operand}
use Rattle.expr_parse.specs.Grammar.{item, item_not, item_list, single, term, term_not, group, values_by, any_test}

pub item_at_not : (level : ℕ) (q : Quals) (ts : List Token) → 0 < level → sees_word keywords.Not ts ≡ true → item level q ts ≡ item_not (item (level - 1) q) ts
unfolding item
item_at_not zero q ts some h = absurd (omega arith)
item_at_not (suc level) q ts some h = rw (sub-one, h) refl

pub item_at_list : (level : ℕ) (q : Quals) (ts : List Token) → 0 < level → sees_word keywords.Not ts ≡ false → sees signs.Open ts ≡ true → item level q ts ≡ item_list (item (level - 1) q) ts
unfolding item
item_at_list zero q ts some h o = absurd (omega arith)
item_at_list (suc level) q ts some h o = rw (sub-one, h, o) refl

pub item_at_single : (level : ℕ) (q : Quals) (ts : List Token) → 0 < level → sees_word keywords.Not ts ≡ false → sees signs.Open ts ≡ false → item level q ts ≡ single q ts
unfolding item
item_at_single zero q ts some h o = absurd (omega arith)
item_at_single (suc level) q ts some h o = rw (h, o) refl

pub term_at_not : (level : ℕ) (q : Option Quals) (items : Bool) (ts : List Token) → 0 < level → sees_word keywords.Not ts ≡ true → term level q items ts ≡ term_not (term (level - 1)) q items ts
unfolding term
term_at_not zero q items ts some h = absurd (omega arith)
term_at_not (suc level) q items ts some h = rw (sub-one, h) refl

pub term_at_item : (level : ℕ) (q : Option Quals) (items : Bool) (ts : List Token) → 0 < level → sees_word keywords.Not ts ≡ false → (items && begins_item ts) ≡ true → term level q items ts ≡ values_by level q ts
unfolding term
term_at_item zero q items ts some h i = absurd (omega arith)
term_at_item (suc level) q items ts some h i = rw (h, i) refl

pub term_at_group : (level : ℕ) (q : Option Quals) (items : Bool) (ts : List Token) → 0 < level → sees_word keywords.Not ts ≡ false → (items && begins_item ts) ≡ false → begins_group ts ≡ true → term level q items ts ≡ group (term (level - 1)) q ts
unfolding term
term_at_group zero q items ts some h i g = absurd (omega arith)
term_at_group (suc level) q items ts some h i g = rw (sub-one, h, i, g) refl

pub term_at_test : (level : ℕ) (q : Option Quals) (items : Bool) (ts : List Token) → 0 < level → sees_word keywords.Not ts ≡ false → (items && begins_item ts) ≡ false → begins_group ts ≡ false → term level q items ts ≡ any_test level ts
unfolding term
term_at_test zero q items ts some h i g = absurd (omega arith)
term_at_test (suc level) q items ts some h i g = rw (h, i, g) refl

pub factor_at : (level : ℕ) (ts : List Token) → 0 < level → factor level ts ≡ factor_by (factor (level - 1)) ts
unfolding factor
factor_at zero ts some = absurd (omega arith)
factor_at (suc level) ts some = rw sub-one refl

pub factor_negative : (below : Reader Value) (ts : List Token) → sees signs.Minus ts ≡ true → factor_by below ts ≡ calculation.negative below ts
unfolding factor_by
factor_negative below ts m = rw m refl

pub factor_parenthesized : (below : Reader Value) (ts : List Token) → sees signs.Minus ts ≡ false → sees signs.Open ts ≡ true → factor_by below ts ≡ calculation.parenthesized below ts
unfolding factor_by
factor_parenthesized below ts m o = rw (m, o) refl

pub factor_len : (below : Reader Value) (ts : List Token) → sees signs.Minus ts ≡ false → sees signs.Open ts ≡ false → sees_word keywords.Len ts ≡ true → factor_by below ts ≡ Some (Len, drop 1 ts)
unfolding factor_by
factor_len below ts m o l = rw (m, o, l) refl

pub factor_number : (below : Reader Value) (ts : List Token) (n : ℕ) → sees signs.Minus ts ≡ false → sees signs.Open ts ≡ false → sees_word keywords.Len ts ≡ false → number ts ≡ Some n → factor_by below ts ≡ Some (Number n, drop 1 ts)
unfolding factor_by
factor_number below ts n m o l e = rw (m, o, l, e) refl

pub factor_bytes : (below : Reader Value) (ts : List Token) → sees signs.Minus ts ≡ false → sees signs.Open ts ≡ false → sees_word keywords.Len ts ≡ false → number ts ≡ None → factor_by below ts ≡ calculation.bytes below ts
unfolding factor_by
factor_bytes below ts m o l e = rw (m, o, l, e) refl

-- the operations of a layer after those of the layers below
pub layers_begin : (f : Reader Value) (layer : ℕ) (left first : Value) (ts rest : List Token) → 0 < layer → layers f (layer - 1) left ts ≡ Some (first, rest) → layers f layer left ts ≡ chain (operator_in layer) (λ so_far. operand f (layers f (layer - 1))) Operation (length rest + 1) first rest
unfolding layers
layers_begin f zero left first ts rest some h = absurd (omega arith)
layers_begin f (suc layer) left first ts rest some h = let below : layers f layer left ts ≡ Some (first, rest) = rw sub-one at h in rw (sub-one, below) refl

pub layers_none : (f : Reader Value) (layer : ℕ) (left : Value) (ts : List Token) → 0 < layer → layers f (layer - 1) left ts ≡ None → layers f layer left ts ≡ None
unfolding layers
layers_none f zero left ts some h = absurd (omega arith)
layers_none f (suc layer) left ts some h = let below : layers f layer left ts ≡ None = rw sub-one at h in rw below refl
