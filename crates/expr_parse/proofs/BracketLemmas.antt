-- Where what is open is closed.
use Rattle.std.proofs.Common.{◌≡◌, ℕ, zero, suc, ◌+◌, ◌<◌, Bool, true, false, cond, ◌&&◌, List, [], ◌∷◌, length, drop, refl, sym, ◌∙◌, subst, add-one, arith, length-drop}
use Rattle.std.proofs.lemmas.List.{drop-drop}
use Rattle.std.proofs.lemmas.Bool.{false≢true}
use Rattle.expr_words.specs.declared.token.Token.{Token}
use Rattle.expr_words.specs.declared.word.Sign.{Sign}
use Rattle.expr_words.specs.declared.word.Sign.TheVariants as signs
use Rattle.expr_parse.specs.Words.{sign, sees}
use Rattle.expr_parse.specs.Operators.{continues_calc}
use Rattle.expr_parse.specs.Brackets.{opens, closes, after_close, begins_calc, past_opens}

-- what is closed once more, behind where it is closed first
again : (p q : Bool) (a b c x y z : List Token) → a ≡ x → b ≡ y → c ≡ z → cond p a (cond q b c) ≡ cond p x (cond q y z)
again p q a b c x y z e f g = cc

over : (p q : Bool) (a b c : List Token) → after_close 0 (cond p a (cond q b c)) ≡ cond p (after_close 0 a) (cond q (after_close 0 b) (after_close 0 c))
over true q a b c = refl
over false true a b c = refl
over false false a b c = refl

pub once_more : (n : ℕ) (ts : List Token) → after_close (suc n) ts ≡ after_close 0 (after_close n ts)
once_more n [] = refl
once_more zero (t ∷ ts) =
    again (opens (t ∷ ts)) (closes (t ∷ ts)) _ _ _ _ _ _ (once_more 1 ts) refl (once_more 0 ts)
    ∙ sym (over (opens (t ∷ ts)) (closes (t ∷ ts)) (after_close 1 ts) ts (after_close zero ts))
once_more (suc n) (t ∷ ts) =
    again (opens (t ∷ ts)) (closes (t ∷ ts)) _ _ _ _ _ _ (once_more (suc (suc n)) ts) (once_more n ts) (once_more (suc n) ts)
    ∙ sym (over (opens (t ∷ ts)) (closes (t ∷ ts)) (after_close (suc (suc n)) ts) (after_close n ts) (after_close (suc n) ts))

-- tokens of which the first is a sign are some
sees_none : (s : Sign) → sees s [] ≡ false
unfolding sees sign
sees_none s = refl

pub seen_some : (s : Sign) (ts : List Token) → sees s ts ≡ true → 0 < length ts
seen_some s [] h = absurd (false≢true (sym (sees_none s) ∙ h))
seen_some s (t ∷ ts) h = omega arith

pub seen_inside : (s : Sign) (ts : List Token) (k : ℕ) → sees s (drop k ts) ≡ true → k < length ts
seen_inside s ts k h = let some = seen_some s (drop k ts) h in omega (arith, length-drop k ts)

-- one token further
further : (ts : List Token) (k : ℕ) → k < length ts → (t : Token) × (drop k ts ≡ t ∷ drop (suc k) ts)
further [] k h = absurd (omega arith)
further (t ∷ ts) zero h = (t, refl)
further (t ∷ ts) (suc k) h = further ts k (omega arith)

pub step : (ts : List Token) (k : ℕ) → k < length ts → after_close 0 (drop k ts) ≡ cond (opens (drop k ts)) (after_close 1 (drop (k + 1) ts)) (cond (closes (drop k ts)) (drop (k + 1) ts) (after_close 0 (drop (k + 1) ts)))
step ts k h = let (t, e) = further ts k h in rw (add-one, e) refl

pub at_open : (ts : List Token) (k : ℕ) → k < length ts → opens (drop k ts) ≡ true → after_close 0 (drop k ts) ≡ after_close 0 (after_close 0 (drop (k + 1) ts))
at_open ts k h o = step ts k h ∙ rw o (once_more 0 (drop (k + 1) ts))

pub at_close : (ts : List Token) (k : ℕ) → k < length ts → opens (drop k ts) ≡ false → closes (drop k ts) ≡ true → after_close 0 (drop k ts) ≡ drop (k + 1) ts
at_close ts k h o c = step ts k h ∙ rw (o, c) refl

pub at_other : (ts : List Token) (k : ℕ) → k < length ts → opens (drop k ts) ≡ false → closes (drop k ts) ≡ false → after_close 0 (drop k ts) ≡ after_close 0 (drop (k + 1) ts)
at_other ts k h o c = step ts k h ∙ rw (o, c) refl

pub behind_next : (ts : List Token) (k : ℕ) → drop 1 (drop k ts) ≡ drop (k + 1) ts
behind_next ts k = drop-drop 1 k ts

-- past a `(`
pub past_one : (ts : List Token) (k : ℕ) → sees signs.Open (drop k ts) ≡ true → begins_calc (drop k ts) ≡ false → past_opens (drop k ts) ≡ past_opens (drop (k + 1) ts)
unfolding past_opens
past_one ts k o b = let (t, e) = further ts k (seen_inside signs.Open ts k o) in rw (add-one, e) (let o1 = subst (λ x. sees signs.Open x ≡ true) e o in let b1 = subst (λ x. begins_calc x ≡ false) e b in rw (o1, b1) refl)

pub past_none : (ts : List Token) → sees signs.Open ts ≡ false → past_opens ts ≡ ts
unfolding past_opens
past_none [] o = refl
past_none (t ∷ ts) o = rw o refl

not_both : (p : Bool) (a b : List Token) → cond (p && false) a b ≡ b
not_both true a b = refl
not_both false a b = refl

pub past_calc : (ts : List Token) → begins_calc ts ≡ true → past_opens ts ≡ ts
unfolding past_opens
past_calc [] b = refl
past_calc (t ∷ ts) b = rw b (not_both (sees signs.Open (t ∷ ts)) (past_opens ts) (t ∷ ts))

pub calc_open : (ts : List Token) (k : ℕ) → sees signs.Open (drop k ts) ≡ true → begins_calc (drop k ts) ≡ continues_calc (after_close 0 (drop (k + 1) ts))
unfolding begins_calc
calc_open ts k o = rw (o, behind_next ts k) refl

pub calc_shut : (ts : List Token) → sees signs.Open ts ≡ false → begins_calc ts ≡ false
unfolding begins_calc
calc_shut ts o = rw o refl
