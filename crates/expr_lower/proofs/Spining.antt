-- Expressions along their first operands.
use Rattle.std.proofs.Common.{◌≡◌, ℕ, zero, suc, ◌+◌, ◌<◌, ◌≤◌, true, false, List, [], ◌∷◌, ◌++◌, length, take, drop, get_or, Option, Some, None, refl, sym, ap, ◌∙◌, subst, arith, append_assoc, length-append, length-take}
use Rattle.std.specs.Prelude.{reverse, slice_get, ◌==◌}
use Rattle.std.proofs.lemmas.List.{reverse-append, length-reverse, take_more}
use Rattle.std.proofs.lemmas.Option.{slice_get_within, get_or_from_slice_get, slice_get-get_or}
use Rattle.std.proofs.lemmas.Bool.Decides.{nat_tests}
use Rattle.std.proofs.lemmas.Grind.{common_steps}
use Rattle.expr_tree.specs.declared.calc.Calc.{Calc}
use Rattle.expr_tree.specs.declared.tree.Kind.{Kind}
use Rattle.expr_tree.specs.declared.tree.Kind.TheVariants as kind
use Rattle.expr_tree.specs.declared.tree.Node.{Node}
use Rattle.expr_lower.specs.Spines.{leaf_expr, leaf_by, leaf_of, first_of, test_of, joined_by, joined_at, joined}
use Rattle.expr_tree.specs.declared.test.Test.{Test}
use Rattle.expr_lower.specs.Walks.{IsTest}
use Rattle.expr_tree.specs.Expr.{Expr, Value, Number, Every, Not, And, Or, calc_by, value_by, expr_by, value_in, expr_in, value_at, expr_at}

same : (n : ℕ) → (n == n) ≡ true
same n = grind (arith, nat_tests)

apart : (p n : ℕ) → p < n → (p == n) ≡ false
apart p n h = grind (arith, nat_tests)

skip : (front back : List Node) (p : ℕ) → p < length back → expr_in (front ++ back) p ≡ expr_in back p
skip [] back p h = refl
skip (x ∷ front) back p h = rw (apart p (length (front ++ back)) (omega (arith, length-append front back))) (skip front back p h)

skip_value : (front back : List Node) (p : ℕ) → p < length back → value_in (front ++ back) p ≡ value_in back p
skip_value [] back p h = refl
skip_value (x ∷ front) back p h = rw (apart p (length (front ++ back)) (omega (arith, length-append front back))) (skip_value front back p h)

-- a place that isn't there
beyond : (nodes : List Node) (p : ℕ) → length nodes ≤ p → expr_in nodes p ≡ Every
beyond [] p h = refl
beyond (x ∷ nodes) p h = let e : (p == length nodes) ≡ false = grind (arith, nat_tests) in rw e (beyond nodes p (omega arith))

pub expr_beyond : (nodes : List Node) (p : ℕ) → length nodes ≤ p → expr_at nodes p ≡ Every
unfolding expr_at
expr_beyond nodes p h = beyond (reverse nodes) p (omega (arith, length-reverse nodes))

-- a node, by those before it
split : (nodes : List Node) (p : ℕ) (node : Node) → slice_get nodes p ≡ Some node → (nodes ≡ take p nodes ++ node ∷ drop (suc p) nodes) × (length (take p nodes) ≡ p)
split [] p node e = absurd (cc)
split (x ∷ nodes) zero node e = let s : x ≡ node = cc in (ap (λ n. n ∷ nodes) s, refl)
split (x ∷ nodes) (suc p) node e = let s = split nodes p node e in (ap (λ l. x ∷ l) s.0, ap suc s.1)

backward : (front back : List Node) (node : Node) → reverse (front ++ node ∷ back) ≡ reverse back ++ node ∷ reverse front
backward front back node =
    reverse-append front (node ∷ back)
    ∙ ap (λ l. l ++ reverse front) (reverse-append (node ∷ []) back)
    ∙ append_assoc (reverse back) (node ∷ []) (reverse front)

here : (front : List Node) (p : ℕ) (node : Node) → length front ≡ p → expr_in (node ∷ reverse front) p ≡ expr_by (value_in (reverse front)) (expr_in (reverse front)) node.kind
here front p node e = let n : length (reverse front) ≡ p = length-reverse front ∙ e in rw (n, same p) refl

pub expr_at_node : (nodes : List Node) (p : ℕ) (node : Node) → slice_get nodes p ≡ Some node → expr_at nodes p ≡ expr_by (value_at (take p nodes)) (expr_at (take p nodes)) node.kind
unfolding expr_at value_at
expr_at_node nodes p node e =
    let s = split nodes p node e in
    ap (λ l. expr_in (reverse l) p) s.0
    ∙ ap (λ l. expr_in l p) (backward (take p nodes) (drop (suc p) nodes) node)
    ∙ skip (reverse (drop (suc p) nodes)) (node ∷ reverse (take p nodes)) p (omega (arith, length-reverse (take p nodes), s.1))
    ∙ here (take p nodes) p node s.1

-- a node that joins, by its first operand, and one that doesn't
by_first : (values : ℕ → Value) (exprs : ℕ → Expr) (kind : Kind) (first : ℕ) → first_of kind ≡ Some first → expr_by values exprs kind ≡ joined_by exprs kind (exprs first)
by_first values exprs (kind.Not of) first e = let s : of ≡ first = cc in ap (λ p. Not (exprs p)) s
by_first values exprs (kind.And one second) first e = let s : one ≡ first = cc in ap (λ p. And (exprs p) (exprs second)) s
by_first values exprs (kind.Or one second) first e = let s : one ≡ first = cc in ap (λ p. Or (exprs p) (exprs second)) s
by_first values exprs kind.Every first e = absurd (cc)
by_first values exprs (kind.Test test) first e = absurd (cc)
by_first values exprs (kind.Compare relation left right) first e = absurd (cc)
by_first values exprs (kind.Calc calc) first e = absurd (cc)

by_none : (values : ℕ → Value) (exprs : ℕ → Expr) (column : ℕ) (kind : Kind) → first_of kind ≡ None → expr_by values exprs kind ≡ leaf_expr values (leaf_by column kind)
by_none values exprs column (kind.Not of) e = absurd (cc)
by_none values exprs column (kind.And one second) e = absurd (cc)
by_none values exprs column (kind.Or one second) e = absurd (cc)
by_none values exprs column kind.Every e = refl
by_none values exprs column (kind.Test test) e = refl
by_none values exprs column (kind.Compare relation left right) e = refl
by_none values exprs column (kind.Calc calc) e = refl

-- a node among the first ones
among : (nodes : List Node) (limit at : ℕ) (node : Node) → at < limit → slice_get nodes at ≡ Some node → slice_get (take limit nodes) at ≡ Some node
among [] limit at node h e = absurd (cc)
among (x ∷ nodes) zero at node h e = absurd (omega arith)
among (x ∷ nodes) (suc limit) zero node h e = e
among (x ∷ nodes) (suc limit) (suc at) node h e = among nodes limit at node (omega arith) e

fewer : (nodes : List Node) (limit at : ℕ) → at < limit → take at (take limit nodes) ≡ take at nodes
fewer [] limit zero h = refl
fewer [] zero (suc at) h = refl
fewer [] (suc limit) (suc at) h = refl
fewer (x ∷ nodes) zero at h = absurd (omega arith)
fewer (x ∷ nodes) (suc limit) zero h = refl
fewer (x ∷ nodes) (suc limit) (suc at) h = ap (λ l. x ∷ l) (fewer nodes limit at (omega arith))

node_among : (nodes : List Node) (limit at : ℕ) (node : Node) → at < limit → slice_get nodes at ≡ Some node → expr_at (take limit nodes) at ≡ expr_by (value_at (take at nodes)) (expr_at (take at nodes)) node.kind
node_among nodes limit at node h e =
    expr_at_node (take limit nodes) at node (among nodes limit at node h e)
    ∙ ap (λ l. expr_by (value_at l) (expr_at l) node.kind) (fewer nodes limit at h)

pub spine_start : (nodes : List Node) (n place : ℕ) → n ≡ length nodes → expr_at nodes place ≡ joined nodes (reverse []) (expr_at (take n nodes) place)
spine_start nodes n place e = let all : take n nodes ≡ nodes = grind (arith, common_steps) in ap (λ l. expr_at l place) (sym all)

pub spine_step : (nodes : List Node) (root : Expr) (joins longer : List ℕ) (limit at first : ℕ) (node : Node) → at < limit → slice_get nodes at ≡ Some node → first_of node.kind ≡ Some first → longer ≡ joins ++ at ∷ [] → root ≡ joined nodes (reverse joins) (expr_at (take limit nodes) at) → root ≡ joined nodes (reverse longer) (expr_at (take at nodes) first)
spine_step nodes root joins longer limit at first node h e f l was =
    was
    ∙ ap (joined nodes (reverse joins)) (node_among nodes limit at node h e ∙ by_first (value_at (take at nodes)) (expr_at (take at nodes)) node.kind first f)
    ∙ ap (λ o. joined nodes (reverse joins) (joined_at nodes at o (expr_at (take at nodes) first))) (sym e)
    ∙ ap (λ r. joined nodes r (expr_at (take at nodes) first)) (sym (ap reverse l ∙ reverse-append joins (at ∷ [])))

pub spine_leaf : (nodes : List Node) (root : Expr) (joins : List ℕ) (limit at : ℕ) (node : Node) → at < limit → slice_get nodes at ≡ Some node → first_of node.kind ≡ None → root ≡ joined nodes (reverse joins) (expr_at (take limit nodes) at) → root ≡ joined nodes (reverse joins) (leaf_expr (value_at (take at nodes)) (leaf_of node))
spine_leaf nodes root joins limit at node h e f was =
    was
    ∙ ap (joined nodes (reverse joins)) (node_among nodes limit at node h e ∙ by_none (value_at (take at nodes)) (expr_at (take at nodes)) node.column node.kind f)

pub spine_end : (nodes : List Node) (root : Expr) (joins : List ℕ) (limit at : ℕ) → limit ≤ at → root ≡ joined nodes (reverse joins) (expr_at (take limit nodes) at) → root ≡ joined nodes (reverse joins) Every
spine_end nodes root joins limit at h was =
    was ∙ ap (joined nodes (reverse joins)) (expr_beyond (take limit nodes) at (omega (arith, length-take limit nodes)))

-- up again
pub rise_start : (nodes : List Node) (joins : List ℕ) (n : ℕ) (e : Expr) → n ≡ length joins → joined nodes (reverse joins) e ≡ joined nodes (reverse (take n joins)) e
rise_start nodes joins n e h = let all : take n joins ≡ joins = grind (arith, common_steps) in ap (λ l. joined nodes (reverse l) e) (sym all)

taken : (joins : List ℕ) (count join : ℕ) → slice_get joins count ≡ Some join → take (count + 1) joins ≡ take count joins ++ join ∷ []
taken joins count join e =
    take_more joins count join (slice_get_within joins count join e)
    ∙ ap (λ j. take count joins ++ j ∷ []) (get_or_from_slice_get joins count join join e)

pub rise_step : (nodes : List Node) (root : Expr) (joins : List ℕ) (count join : ℕ) (node : Node) (e : Expr) → slice_get joins count ≡ Some join → slice_get nodes join ≡ Some node → root ≡ joined nodes (reverse (take (count + 1) joins)) e → root ≡ joined nodes (reverse (take count joins)) (joined_by (expr_at (take join nodes)) node.kind e)
rise_step nodes root joins count join node e j n was =
    was
    ∙ ap (λ l. joined nodes l e) (ap reverse (taken joins count join j) ∙ reverse-append (take count joins) (join ∷ []))
    ∙ ap (λ o. joined nodes (reverse (take count joins)) (joined_at nodes join o e)) n

-- calculations
here_value : (front : List Node) (p : ℕ) (node : Node) → length front ≡ p → value_in (node ∷ reverse front) p ≡ value_by (value_in (reverse front)) node.kind
here_value front p node e = let n : length (reverse front) ≡ p = length-reverse front ∙ e in rw (n, same p) refl

pub value_at_node : (nodes : List Node) (p : ℕ) (node : Node) → slice_get nodes p ≡ Some node → value_at nodes p ≡ value_by (value_at (take p nodes)) node.kind
unfolding value_at
value_at_node nodes p node e =
    let s = split nodes p node e in
    ap (λ l. value_in (reverse l) p) s.0
    ∙ ap (λ l. value_in l p) (backward (take p nodes) (drop (suc p) nodes) node)
    ∙ skip_value (reverse (drop (suc p) nodes)) (node ∷ reverse (take p nodes)) p (omega (arith, length-reverse (take p nodes), s.1))
    ∙ here_value (take p nodes) p node s.1

no_value : (nodes : List Node) (p : ℕ) → length nodes ≤ p → value_in nodes p ≡ Number 0
no_value [] p h = refl
no_value (x ∷ nodes) p h = let e : (p == length nodes) ≡ false = grind (arith, nat_tests) in rw e (no_value nodes p (omega arith))

pub value_beyond : (nodes : List Node) (p : ℕ) → length nodes ≤ p → value_at nodes p ≡ Number 0
unfolding value_at
value_beyond nodes p h = no_value (reverse nodes) p (omega (arith, length-reverse nodes))

pub value_is : (nodes : List Node) (p : ℕ) (d : Node) (calc : Calc) → p < length nodes → ((at : ℕ → Value) → value_by at (get_or nodes p d).kind ≡ calc_by at calc) → value_at nodes p ≡ calc_by (value_at (take p nodes)) calc
value_is nodes p d calc h e = value_at_node nodes p (get_or nodes p d) (slice_get-get_or nodes p d h) ∙ e (value_at (take p nodes))

-- tests
test_by : (values : ℕ → Value) (exprs : ℕ → Expr) (k : Kind) → IsTest (test_of k) (expr_by values exprs k)
test_by values exprs (kind.Test test) = refl
test_by values exprs kind.Every = λ test e. absurd (cc)
test_by values exprs (kind.Compare relation first second) = λ test e. absurd (cc)
test_by values exprs (kind.Not of) = λ test e. absurd (cc)
test_by values exprs (kind.And first second) = λ test e. absurd (cc)
test_by values exprs (kind.Or first second) = λ test e. absurd (cc)
test_by values exprs (kind.Calc calc) = λ test e. absurd (cc)

pub test_is : (nodes : List Node) (p : ℕ) (d : Node) (found : Option Test) → p < length nodes → found ≡ test_of (get_or nodes p d).kind → IsTest found (expr_at nodes p)
test_is nodes p d found h e =
    subst (λ o. IsTest o (expr_at nodes p)) (sym e)
    (subst (IsTest (test_of (get_or nodes p d).kind)) (sym (expr_at_node nodes p (get_or nodes p d) (slice_get-get_or nodes p d h)))
    (test_by (value_at (take p nodes)) (expr_at (take p nodes)) (get_or nodes p d).kind))

pub test_beyond : (nodes : List Node) (p : ℕ) → length nodes ≤ p → IsTest None (expr_at nodes p)
test_beyond nodes p h = subst (IsTest None) (sym (expr_beyond nodes p h)) (λ test e. absurd (cc))
