-- What nodes are doesn't depend on their columns.
use Rattle.std.proofs.Common.{◌≡◌, ℕ, suc, ◌+◌, ◌-◌, ◌==◌, ◌<◌, ◌≤◌, Bool, true, false, cond, List, [], ◌∷◌, ◌++◌, length, get_or, take, map, reverse, refl, sym, ap, ◌∙◌, arith}
use Rattle.std.proofs.lemmas.List.{length-map, reverse-append, length-reverse}
use Rattle.expr_tree.specs.declared.calc.Calc.{Calc}
use Rattle.expr_tree.specs.declared.calc.Calc.TheVariants as calcs
use Rattle.expr_tree.specs.declared.tree.Kind.{Kind}
use Rattle.expr_tree.specs.declared.tree.Kind.TheVariants as kind
use Rattle.expr_tree.specs.declared.tree.Node.{Node}
use Rattle.expr_tree.specs.Expr.{Value, Expr, Bytes, Operation, Negate, Compare, Not, And, Or, calc_by, value_by, expr_by, value_in, expr_in, value_at, expr_at}
use Rattle.expr_print.specs.Nodes.{kinds}

-- nodes of the same kinds
data Alike : List Node → List Node → Type 0 where
  none : Alike [] []
  one : {a b : Node} {xs ys : List Node} → a.kind ≡ b.kind → Alike xs ys → Alike (a ∷ xs) (b ∷ ys)

alike : (xs ys : List Node) → kinds xs ≡ kinds ys → Alike xs ys
alike [] [] h = none
alike [] (b ∷ ys) h = absurd (cc)
alike (a ∷ xs) [] h = absurd (cc)
alike (a ∷ xs) (b ∷ ys) h = let first : a.kind ≡ b.kind = cc in let rest : kinds xs ≡ kinds ys = cc in one first (alike xs ys rest)

alike_append : {xs ys : List Node} (x y : Node) → Alike xs ys → x.kind ≡ y.kind → Alike (xs ++ x ∷ []) (ys ++ y ∷ [])
alike_append x y none h = one h none
alike_append x y (one e r) h = one e (alike_append x y r h)

alike_reverse : {xs ys : List Node} → Alike xs ys → Alike (reverse xs) (reverse ys)
alike_reverse none = none
alike_reverse (one {a} {b} {xs} {ys} e r) = rw (reverse-append (a ∷ []) xs, reverse-append (b ∷ []) ys) (alike_append a b (alike_reverse r) e)

alike_length : {xs ys : List Node} → Alike xs ys → length xs ≡ length ys
alike_length none = refl
alike_length (one e r) = ap suc (alike_length r)

calc_same : (f g : ℕ → Value) → ((p : ℕ) → f p ≡ g p) → (c : Calc) → calc_by f c ≡ calc_by g c
calc_same f g h (calcs.Number n) = refl
calc_same f g h calcs.Len = refl
calc_same f g h (calcs.Bytes p at size) = ap (λ v. Bytes p v size) (h at)
calc_same f g h (calcs.Operation o a b) = ap (λ v. Operation o v (f b)) (h a) ∙ ap (Operation o (g a)) (h b)
calc_same f g h (calcs.Negate of) = ap Negate (h of)

value_same : (f g : ℕ → Value) → ((p : ℕ) → f p ≡ g p) → (k : Kind) → value_by f k ≡ value_by g k
value_same f g h (kind.Calc c) = calc_same f g h c
value_same f g h kind.Every = refl
value_same f g h (kind.Test t) = refl
value_same f g h (kind.Compare r a b) = refl
value_same f g h (kind.Not of) = refl
value_same f g h (kind.And a b) = refl
value_same f g h (kind.Or a b) = refl

expr_same : (v w : ℕ → Value) (f g : ℕ → Expr) → ((p : ℕ) → v p ≡ w p) → ((p : ℕ) → f p ≡ g p) → (k : Kind) → expr_by v f k ≡ expr_by w g k
expr_same v w f g e h (kind.Calc c) = refl
expr_same v w f g e h kind.Every = refl
expr_same v w f g e h (kind.Test t) = refl
expr_same v w f g e h (kind.Compare r a b) = ap (λ x. Compare r x (v b)) (e a) ∙ ap (Compare r (w a)) (e b)
expr_same v w f g e h (kind.Not of) = ap Not (h of)
expr_same v w f g e h (kind.And a b) = ap (λ x. And x (f b)) (h a) ∙ ap (And (g a)) (h b)
expr_same v w f g e h (kind.Or a b) = ap (λ x. Or x (f b)) (h a) ∙ ap (Or (g a)) (h b)

values_same : {xs ys : List Node} → Alike xs ys → (p : ℕ) → value_in xs p ≡ value_in ys p
values_same none p = refl
values_same (one {a} {b} {xs} {ys} e r) p =
    rw (alike_length r, e, values_same r p, value_same (value_in xs) (value_in ys) (values_same r) b.kind) refl

exprs_same : {xs ys : List Node} → Alike xs ys → (p : ℕ) → expr_in xs p ≡ expr_in ys p
exprs_same none p = refl
exprs_same (one {a} {b} {xs} {ys} e r) p =
    rw (alike_length r, e, exprs_same r p, expr_same (value_in xs) (value_in ys) (expr_in xs) (expr_in ys) (values_same r) (exprs_same r) b.kind) refl

pub last_same : (xs ys : List Node) → kinds xs ≡ kinds ys → expr_at xs (length xs - 1) ≡ expr_at ys (length ys - 1)
unfolding expr_at
last_same xs ys h =
    let like = alike xs ys h in
    rw (alike_length like) (exprs_same (alike_reverse like) (length ys - 1))
