-- Lists of what endpoints keep, in which one endpoint is raised.
use Rattle.std.proofs.Common.{◌≡◌, ◌≢◌, ◌<◌, ◌≤◌, ◌-◌, ◌==◌, ◌⊎◌, ◌↔◌, inl, inr, ℕ, zero, suc, true, false, ltb, Some, List, [], ◌∷◌, ◌++◌, length, max, min, refl, ap, sym, ◌∙◌, subst, arith, Contains, get_or, set, slice_get}
use Rattle.std.specs.List.{insert}
use Rattle.std.proofs.lemmas.Bool.Decides.{nat_tests}
use Rattle.filter_table.specs.declared.delivery.Kept.{Kept}
use Rattle.filter_table.specs.Tables.{IsIncreasing}
use Rattle.filter_table.proofs.Lists.{never, in_head, in_tail, first_or_later, three}
use Rattle.filter_table.specs.Raising.{at_endpoint, raised}

-- One endpoint raised

below_is : (e : ℕ) (k : Kept) → e < k.endpoint → ltb e k.endpoint ≡ true
below_is e k lt = grind (arith, nat_tests)

not_below : (e : ℕ) (k : Kept) → k.endpoint ≤ e → ltb e k.endpoint ≡ false
not_below e k le = grind (arith, nat_tests)

same_is : (e : ℕ) (k : Kept) → k.endpoint ≡ e → (k.endpoint == e) ≡ true
same_is e k same = grind (arith, nat_tests)

not_same : (e : ℕ) (k : Kept) → k.endpoint < e → (k.endpoint == e) ≡ false
not_same e k lt = grind (arith, nat_tests)

pub raised-before : (k : Kept) (ks : List Kept) (e b : ℕ) → e < k.endpoint → raised (k ∷ ks) e b ≡ at_endpoint e b ∷ k ∷ ks
raised-before k ks e b lt = rw (below_is e k lt) refl

raised-here : (k : Kept) (ks : List Kept) (e b : ℕ) → k.endpoint ≡ e → raised (k ∷ ks) e b ≡ at_endpoint e (max k.kept b) ∷ ks
raised-here k ks e b same = rw (not_below e k (omega (arith, same)), same_is e k same) refl

pub raised-after : (k : Kept) (ks : List Kept) (e b : ℕ) → k.endpoint < e → raised (k ∷ ks) e b ≡ k ∷ raised ks e b
raised-after k ks e b lt = rw (not_below e k (omega arith), not_same e k lt) refl

-- the order

abbrev IsAbove : ℕ → List Kept → Type 0
IsAbove a [] = Unit {0}
IsAbove a (k ∷ ks) = a < k.endpoint

head_above : (k : Kept) (ks : List Kept) → IsIncreasing (k ∷ ks) → IsAbove k.endpoint ks
head_above k [] h = tt
head_above k (m ∷ ks) h = h.0

pub tail_increases : (k : Kept) (ks : List Kept) → IsIncreasing (k ∷ ks) → IsIncreasing ks
tail_increases k [] h = tt
tail_increases k (m ∷ ks) h = h.1

increases : (k : Kept) (ks : List Kept) → IsAbove k.endpoint ks → IsIncreasing ks → IsIncreasing (k ∷ ks)
increases k [] above h = tt
increases k (m ∷ ks) above h = (above, h)

raised_above : (a : ℕ) (ks : List Kept) (e b : ℕ) → IsAbove a ks → a < e → IsAbove a (raised ks e b)
raised_above a [] e b above lt = lt
raised_above a (k ∷ ks) e b above lt = by_order (three e k.endpoint)
  where
    by_order : (e < k.endpoint) ⊎ ((e ≡ k.endpoint) ⊎ (k.endpoint < e)) → IsAbove a (raised (k ∷ ks) e b)
    by_order (inl before) = rw (raised-before k ks e b before) lt
    by_order (inr (inl same)) = rw (raised-here k ks e b (sym same)) lt
    by_order (inr (inr after)) = rw (raised-after k ks e b after) above

pub raised_increases : (ks : List Kept) (e b : ℕ) → IsIncreasing ks → IsIncreasing (raised ks e b)
raised_increases [] e b h = tt
raised_increases (k ∷ ks) e b h = by_order (three e k.endpoint) (raised_increases ks e b (tail_increases k ks h))
  where
    by_order : (e < k.endpoint) ⊎ ((e ≡ k.endpoint) ⊎ (k.endpoint < e)) → IsIncreasing (raised ks e b) → IsIncreasing (raised (k ∷ ks) e b)
    by_order (inl before) rest = rw (raised-before k ks e b before) (before, h)
    by_order (inr (inl same)) rest =
        rw (raised-here k ks e b (sym same)) (increases (at_endpoint e (max k.kept b)) ks (subst (λ (a : ℕ). IsAbove a ks) (sym same) (head_above k ks h)) (tail_increases k ks h))
    by_order (inr (inr after)) rest = rw (raised-after k ks e b after) (increases k (raised ks e b) (raised_above k.endpoint ks e b (head_above k ks h) after) rest)

-- the elements

other_endpoint : (e b e' b' : ℕ) → e' ≢ e → at_endpoint e b ≡ at_endpoint e' b' → ⊥
other_endpoint e b e' b' differs same = differs (sym (ap (λ (k : Kept). k.endpoint) same))

pub raised_others : (ks : List Kept) (e b e' b' : ℕ) → e' ≢ e → Contains (raised ks e b) (at_endpoint e' b') ↔ Contains ks (at_endpoint e' b')
raised_others [] e b e' b' differs = (λ h. by_first (first_or_later _ [] _ h), λ h. absurd (never _ h))
  where
    by_first : (at_endpoint e b ≡ at_endpoint e' b') ⊎ Contains [] (at_endpoint e' b') → Contains [] (at_endpoint e' b')
    by_first (inl same) = absurd (other_endpoint e b e' b' differs same)
    by_first (inr later) = later
raised_others (k ∷ ks) e b e' b' differs = by_order (three e k.endpoint) (raised_others ks e b e' b' differs)
  where
    drop_first : (kept : ℕ) (rest : List Kept) → (at_endpoint e kept ≡ at_endpoint e' b') ⊎ Contains rest (at_endpoint e' b') → Contains rest (at_endpoint e' b')
    drop_first kept rest (inl same) = absurd (other_endpoint e kept e' b' differs same)
    drop_first kept rest (inr later) = later

    past : k.endpoint ≡ e → (k ≡ at_endpoint e' b') ⊎ Contains ks (at_endpoint e' b') → Contains ks (at_endpoint e' b')
    past here (inl same) = absurd (differs (sym (ap (λ (m : Kept). m.endpoint) same) ∙ here))
    past here (inr later) = later

    onto : (rest rest' : List Kept) → (Contains rest (at_endpoint e' b') → Contains rest' (at_endpoint e' b')) → (k ≡ at_endpoint e' b') ⊎ Contains rest (at_endpoint e' b') → Contains (k ∷ rest') (at_endpoint e' b')
    onto rest rest' f (inl same) = subst (λ (m : Kept). Contains (k ∷ rest') m) same (in_head k rest')
    onto rest rest' f (inr later) = in_tail k rest' _ (f later)

    by_order : (e < k.endpoint) ⊎ ((e ≡ k.endpoint) ⊎ (k.endpoint < e)) → Contains (raised ks e b) (at_endpoint e' b') ↔ Contains ks (at_endpoint e' b')
        → Contains (raised (k ∷ ks) e b) (at_endpoint e' b') ↔ Contains (k ∷ ks) (at_endpoint e' b')
    by_order (inl before) rest = rw (raised-before k ks e b before) (λ h. drop_first b (k ∷ ks) (first_or_later _ (k ∷ ks) _ h), λ h. in_tail _ (k ∷ ks) _ h)
    by_order (inr (inl same)) rest = rw (raised-here k ks e b (sym same))
        (λ h. in_tail k ks _ (drop_first (max k.kept b) ks (first_or_later _ ks _ h)), λ h. in_tail _ ks _ (past (sym same) (first_or_later k ks _ h)))
    by_order (inr (inr after)) rest = rw (raised-after k ks e b after)
        (λ h. onto (raised ks e b) ks rest.0 (first_or_later k (raised ks e b) _ h), λ h. onto ks (raised ks e b) rest.1 (first_or_later k ks _ h))

-- the endpoint was listed with some bytes, or it was not listed
pub data Raise (ks : List Kept) (e b : ℕ) : Type 0 where
  more : (old : ℕ) → Contains ks (at_endpoint e old) → Contains (raised ks e b) (at_endpoint e (max old b))
      → ((b' : ℕ) → Contains (raised ks e b) (at_endpoint e b') → b' ≡ max old b) → Raise ks e b
  new : ((old : ℕ) → Contains ks (at_endpoint e old) → ⊥) → Contains (raised ks e b) (at_endpoint e b)
      → ((b' : ℕ) → Contains (raised ks e b) (at_endpoint e b') → b' ≡ b) → Raise ks e b

all_above : (a : ℕ) (ks : List Kept) (e b : ℕ) → IsAbove a ks → IsIncreasing ks → Contains ks (at_endpoint e b) → a < e
all_above a [] e b above h at = absurd (never _ at)
all_above a (k ∷ ks) e b above h at = by_first (first_or_later k ks _ at) (all_above k.endpoint ks e b (head_above k ks h) (tail_increases k ks h))
  where
    by_first : (k ≡ at_endpoint e b) ⊎ Contains ks (at_endpoint e b) → (Contains ks (at_endpoint e b) → k.endpoint < e) → a < e
    by_first (inl same) rest = let here = ap (λ (m : Kept). m.endpoint) same in omega (arith, here, above)
    by_first (inr later) rest = let up = rest later in omega (arith, up, above)

-- where an endpoint leads the rest, it is listed once
once : (e kept b' : ℕ) (ks : List Kept) → IsAbove e ks → IsIncreasing ks → Contains (at_endpoint e kept ∷ ks) (at_endpoint e b') → b' ≡ kept
once e kept b' ks above h at = by_first (first_or_later _ ks _ at)
  where
    by_first : (at_endpoint e kept ≡ at_endpoint e b') ⊎ Contains ks (at_endpoint e b') → b' ≡ kept
    by_first (inl same) = sym (ap (λ (m : Kept). m.kept) same)
    by_first (inr later) = absurd (omega (arith, all_above e ks e b' above h later))

pub raise_cases : (ks : List Kept) (e b : ℕ) → IsIncreasing ks → Raise ks e b
raise_cases [] e b h = new (λ old at. never _ at) (in_head _ []) (λ b' at. once e b b' [] tt tt at)
raise_cases (k ∷ ks) e b h = by_order (three e k.endpoint) (raise_cases ks e b (tail_increases k ks h))
  where
    by_order : (e < k.endpoint) ⊎ ((e ≡ k.endpoint) ⊎ (k.endpoint < e)) → Raise ks e b → Raise (k ∷ ks) e b
    by_order (inl before) rest = new
        (λ old at. absurd (omega (arith, all_above e (k ∷ ks) e old before h at)))
        (rw (raised-before k ks e b before) (in_head _ (k ∷ ks)))
        (λ b' at. once e b b' (k ∷ ks) before h (rw (raised-before k ks e b before) at at))
    by_order (inr (inl same)) rest = more k.kept
        (subst (λ (m : Kept). Contains (k ∷ ks) m) (ap (λ (n : ℕ). at_endpoint n k.kept) (sym same)) (in_head k ks))
        (rw (raised-here k ks e b (sym same)) (in_head _ ks))
        (λ b' at. once e (max k.kept b) b' ks (subst (λ (a : ℕ). IsAbove a ks) (sym same) (head_above k ks h)) (tail_increases k ks h) (rw (raised-here k ks e b (sym same)) at at))
    by_order (inr (inr after)) (more old at there one) = more old (in_tail k ks _ at)
        (rw (raised-after k ks e b after) (in_tail k (raised ks e b) _ there))
        (λ b' at'. one b' (skip b' (rw (raised-after k ks e b after) at at')))
      where
        skip : (b' : ℕ) → Contains (k ∷ raised ks e b) (at_endpoint e b') → Contains (raised ks e b) (at_endpoint e b')
        skip b' at' = by_first (first_or_later k (raised ks e b) _ at')
          where
            by_first : (k ≡ at_endpoint e b') ⊎ Contains (raised ks e b) (at_endpoint e b') → Contains (raised ks e b) (at_endpoint e b')
            by_first (inl here) = absurd (let same = ap (λ (m : Kept). m.endpoint) here in omega (arith, same, after))
            by_first (inr later) = later
    by_order (inr (inr after)) (new none there one) = new
        (λ old at. none old (skip ks old at))
        (rw (raised-after k ks e b after) (in_tail k (raised ks e b) _ there))
        (λ b' at'. one b' (skip (raised ks e b) b' (rw (raised-after k ks e b after) at at')))
      where
        skip : (rest : List Kept) (b' : ℕ) → Contains (k ∷ rest) (at_endpoint e b') → Contains rest (at_endpoint e b')
        skip rest b' at' = by_first (first_or_later k rest _ at')
          where
            by_first : (k ≡ at_endpoint e b') ⊎ Contains rest (at_endpoint e b') → Contains rest (at_endpoint e b')
            by_first (inl here) = absurd (let same = ap (λ (m : Kept). m.endpoint) here in omega (arith, same, after))
            by_first (inr later) = later

-- The last one raised, or one more

rises : (ks : List Kept) (d : Kept) → IsIncreasing ks → (i j : ℕ) → i < j → j < length ks → (get_or ks i d).endpoint < (get_or ks j d).endpoint
rises [] d h i j lt inside = absurd (omega arith)
rises (k ∷ ks) d h i zero lt inside = absurd (omega arith)
rises (k ∷ ks) d h zero (suc j) lt inside = first_rises j (omega arith) (λ i' j' lt' in'. rises ks d (tail_increases k ks h) i' j' lt' in') (head_above k ks h)
  where
    first_rises : (j : ℕ) → j < length ks → ((i j : ℕ) → i < j → j < length ks → (get_or ks i d).endpoint < (get_or ks j d).endpoint) → IsAbove k.endpoint ks → k.endpoint < (get_or ks j d).endpoint
    first_rises j inside rest above = by_list ks j inside rest above
      where
        by_list : (ms : List Kept) (j : ℕ) → j < length ms → ((i j : ℕ) → i < j → j < length ms → (get_or ms i d).endpoint < (get_or ms j d).endpoint) → IsAbove k.endpoint ms → k.endpoint < (get_or ms j d).endpoint
        by_list [] j inside rest above = absurd (omega arith)
        by_list (m ∷ ms) zero inside rest above = above
        by_list (m ∷ ms) (suc j) inside rest above = let more = rest 0 (suc j) (omega arith) inside in omega (arith, more, above)
rises (k ∷ ks) d h (suc i) (suc j) lt inside = rises ks d (tail_increases k ks h) i j (omega arith) (omega arith)

pub raised_found : (ks : List Kept) (d : Kept) (at e b : ℕ) → IsIncreasing ks → at < length ks → (get_or ks at d).endpoint ≡ e
    → set ks at (at_endpoint e (max (get_or ks at d).kept b)) ≡ raised ks e b
raised_found [] d at e b h inside is = absurd (omega arith)
raised_found (k ∷ ks) d zero e b h inside is = sym (raised-here k ks e b is)
raised_found (k ∷ ks) d (suc at) e b h inside is =
    let lower = rises (k ∷ ks) d h 0 (suc at) (omega arith) inside in
    ap (λ (l : List Kept). k ∷ l) (raised_found ks d at e b (tail_increases k ks h) (omega arith) is) ∙ sym (raised-after k ks e b (omega (arith, lower, is)))

-- the last one is of the endpoint: it is raised
pub raised_last : (ks : List Kept) (n : ℕ) (d : Kept) (e b : ℕ) → IsIncreasing ks → n ≡ length ks → 0 < n → (get_or ks (n - 1) d).endpoint ≡ e
    → set ks (n - 1) (at_endpoint e (max (get_or ks (n - 1) d).kept b)) ≡ raised ks e b
raised_last ks n d e b h long inside is = raised_found ks d (n - 1) e b h (omega arith) is

-- all are of earlier endpoints: it goes last
pub raised_next : (ks : List Kept) (e b : ℕ) → ((d : Kept) (j : ℕ) → j < length ks → (get_or ks j d).endpoint < e) → ks ++ at_endpoint e b ∷ [] ≡ raised ks e b
raised_next [] e b earlier = refl
raised_next (k ∷ ks) e b earlier =
    ap (λ (l : List Kept). k ∷ l) (raised_next ks e b (λ d j lt. earlier d (suc j) (omega arith))) ∙ sym (raised-after k ks e b (earlier k 0 (omega arith)))

-- where the last one is of an earlier endpoint, all are
pub earlier_all : (ks : List Kept) (n e : ℕ) → IsIncreasing ks → n ≡ length ks → ((d : Kept) → (get_or ks (n - 1) d).endpoint < e) → (d : Kept) (j : ℕ) → j < length ks → (get_or ks j d).endpoint < e
earlier_all ks n e h long last d j lt = by_place (three j (n - 1))
  where
    by_place : (j < n - 1) ⊎ ((j ≡ n - 1) ⊎ (n - 1 < j)) → (get_or ks j d).endpoint < e
    by_place (inl before) = let up = rises ks d h j (n - 1) before (omega arith) in omega (arith, up, last d)
    by_place (inr (inl is)) = rw is (last d)
    by_place (inr (inr after)) = absurd (omega arith)

-- an endpoint raised wherever it belongs

abbrev AllBelow : List Kept → ℕ → ℕ → Type 0
AllBelow ks place e = (i : ℕ) (k : Kept) → i < place → slice_get ks i ≡ Some k → k.endpoint < e

pub raised_inserted : (ks : List Kept) (place e b : ℕ) → IsIncreasing ks → place ≤ length ks → AllBelow ks place e → ((k : Kept) → slice_get ks place ≡ Some k → e < k.endpoint)
    → insert ks place (at_endpoint e b) ≡ raised ks e b
raised_inserted [] zero e b rises low below above = refl
raised_inserted [] (suc place) e b rises low below above = absurd (omega arith)
raised_inserted (k ∷ ks) zero e b rises low below above = sym (raised-before k ks e b (above k refl))
raised_inserted (k ∷ ks) (suc place) e b rises low below above =
    ap (λ (l : List Kept). k ∷ l) (raised_inserted ks place e b (tail_increases k ks rises) (omega arith) (λ i m lt at. below (suc i) m (omega arith) at) above)
    ∙ sym (raised-after k ks e b (below 0 k (omega arith) refl))
