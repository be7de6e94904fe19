-- What keeps the indices of a table that is changed in place, as one capability comes.
use Rattle.std.proofs.Common.{◌≡◌, ◌⊎◌, inl, inr, ◌<◌, ◌+◌, ◌/◌, ◌%◌, ◌==◌, ◌||◌, ◌&&◌, not, ℕ, Bool, true, false, cond, Option, Some, None, is_none, is_some, List, [], ◌∷◌, ◌++◌, length, refl, ap, sym, ◌∙◌, subst, arith, Greater}
use Rattle.std.proofs.lemmas.Bool.Decides.{nat_tests, Decides-eqb}
use Rattle.std.proofs.lemmas.List.Folds.{list_any-append}
use Rattle.std.proofs.lemmas.Nat.{div-mul-add, mod-mul-add, div-add-mod'}
use Rattle.std.specs.BTreeMap.{insert_entry}
use Rattle.std.specs.Ordering.{nat_cmp}
use Rattle.std.specs.List.{list_any}
use Rattle.std.specs.Option.{ForSome}
use Rattle.std.specs.Prelude.{if◌then◌else◌, leb}
use Rattle.chunked.specs.Maps.{value_at}
use Rattle.endpoint_caps.specs.declared.Cap.{Cap}
use Rattle.endpoint_caps.specs.Capabilities.{CapBounds, CapTable, cap_at, parent_at, is_some_and, has_right, is_within, count_for, first, holder_tests, create_tests, mint_tests, room_tests, minted_from, child_of}
use Rattle.endpoint_caps.specs.declared.Rights.{Rights}
use Rattle.endpoint_caps.specs.declared.CapFault.TheVariants.{NoRight, RightsExceed, EndpointTaken, CapsFull, DomainFull, IdsSpent}
use Rattle.endpoint_caps.specs.declared.Right.TheVariants.{Mint}
use Rattle.endpoint_caps.specs.Capabilities.{IdsBetween, ParentsHeld}
use Rattle.endpoint_caps.specs.Keeping.{entries_of, caps_of, IsKept}
use Rattle.endpoint_caps.specs.Holding.{Holding, ids, child_key, is_child_key, EndpointsPassOn, IsHeld}
use Rattle.endpoint_caps.proofs.Keeping.{eq_sym, lookup-entries, from_to, none-before, none-after, kept-push}

-- a new capability goes last
push_caps : (from : ℕ) (caps : List Cap) (to : ℕ) (c : Cap) → IdsBetween from caps to → insert_entry nat_cmp (entries_of caps) to c ≡ entries_of caps ++ (to, c) ∷ []
push_caps from [] to c h = refl
push_caps from (x ∷ caps) to c h =
    let below = from_to (x.id + 1) caps to h.1 in
    let after : nat_cmp to x.id ≡ Greater = grind (arith, nat_tests) in
    rw after (ap (λ es. (x.id, x) ∷ es) (push_caps (x.id + 1) caps to c h.1))

pub push_entry : (entries : List (ℕ × Cap)) (next : ℕ) (c : Cap) → IsKept entries next → insert_entry nat_cmp entries next c ≡ entries ++ (next, c) ∷ []
push_entry entries next c kept =
    ap (λ es. insert_entry nat_cmp es next c) kept.by_id ∙ (push_caps 0 (caps_of entries) next c kept.in_order ∙ ap (λ (es : List (ℕ × Cap)). es ++ (next, c) ∷ []) (sym kept.by_id))

pub free_key : (entries : List (ℕ × Cap)) (next : ℕ) → IsKept entries next → value_at entries next ≡ None
free_key entries next kept = ap (λ es. value_at es next) kept.by_id ∙ (lookup-entries next (caps_of entries) ∙ none-after next 0 (caps_of entries) next (omega arith) kept.in_order)

pub caps_pushed : (entries : List (ℕ × Cap)) (next : ℕ) (c : Cap) → caps_of (entries ++ (next, c) ∷ []) ≡ caps_of entries ++ c ∷ []
caps_pushed [] next c = refl
caps_pushed (e ∷ entries) next c = ap (λ cs. e.1 ∷ cs) (caps_pushed entries next c)

pub at-push : (from : ℕ) (caps : List Cap) (c : Cap) (id : ℕ) → IdsBetween from caps c.id → cap_at (caps ++ c ∷ []) id ≡ cond (c.id == id) (Some c) (cap_at caps id)
at-push from [] c id h = refl
at-push from (x ∷ caps) c id h = by_test (x.id == id) refl (at-push (x.id + 1) caps c id h.1)
  where
    by_test : (b : Bool) → (x.id == id) ≡ b → cap_at (caps ++ c ∷ []) id ≡ cond (c.id == id) (Some c) (cap_at caps id)
        → cap_at ((x ∷ caps) ++ c ∷ []) id ≡ cond (c.id == id) (Some c) (cap_at (x ∷ caps) id)
    by_test true e rest =
        let below = from_to (x.id + 1) caps c.id h.1 in
        let other : (c.id == id) ≡ false = grind (arith, nat_tests) in
        rw (e, other) refl
    by_test false e rest = rw e rest

-- Keys of children

-- whether two numbers are the same
pub eq_yes : (a b : ℕ) → a ≡ b → (a == b) ≡ true
eq_yes a b same = (Decides-eqb a b).1 same

pub yes_eq : (a b : ℕ) → (a == b) ≡ true → a ≡ b
yes_eq a b e = (Decides-eqb a b).0 e

pub eq_no : (a b : ℕ) → (a ≡ b → ⊥) → (a == b) ≡ false
eq_no a b other = by_test (a == b) refl
  where
    by_test : (t : Bool) → (a == b) ≡ t → (a == b) ≡ false
    by_test true e = absurd (other (yes_eq a b e))
    by_test false e = e

pub key_parent : (parent id : ℕ) → id < ids → child_key parent id / ids ≡ parent
key_parent parent id lt = div-mul-add parent ids id lt

pub key_id : (parent id : ℕ) → id < ids → child_key parent id % ids ≡ id
key_id parent id lt = mod-mul-add parent ids id lt

pub key_of : (key : ℕ) → child_key (key / ids) (key % ids) ≡ key
key_of key = div-add-mod' key ids

-- a key is one of two numbers where they are its parts
pub key_is : (parent id key : ℕ) → key % ids ≡ id → parent ≡ key / ids → key ≡ child_key parent id
key_is parent id key low high = sym (ap (λ (p : ℕ). child_key p id) high ∙ (ap (λ (n : ℕ). child_key (key / ids) n) (sym low) ∙ key_of key))

-- whether an optional parent is the one of a key
abbrev pub names : ℕ → Option ℕ → Bool
names key parent = is_some_and (λ (p : ℕ). p == key / ids) parent

-- the parent of a new capability, and those of the others
pub parent-push : (caps : List Cap) (c : Cap) (id : ℕ) → IdsBetween 0 caps c.id → parent_at (caps ++ c ∷ []) id ≡ cond (c.id == id) c.parent (parent_at caps id)
parent-push caps c id order = by_test (c.id == id) (at-push 0 caps c id order)
  where
    by_test : (b : Bool) → cap_at (caps ++ c ∷ []) id ≡ cond b (Some c) (cap_at caps id) → parent_at (caps ++ c ∷ []) id ≡ cond b c.parent (parent_at caps id)
    by_test true e = rw e refl
    by_test false e = rw e refl

no-parent : (caps : List Cap) (next : ℕ) → IdsBetween 0 caps next → parent_at caps next ≡ None
no-parent caps next order = rw (none-after next 0 caps next (omega arith) order) refl

pub keys-created : (caps : List Cap) (c : Cap) (key : ℕ) → IdsBetween 0 caps c.id → c.parent ≡ None → is_child_key (caps ++ c ∷ []) key ≡ is_child_key caps key
keys-created caps c key order none = by_test (c.id == key % ids) refl (parent-push caps c (key % ids) order)
  where
    by_test : (b : Bool) → (c.id == key % ids) ≡ b → parent_at (caps ++ c ∷ []) (key % ids) ≡ cond b c.parent (parent_at caps (key % ids)) → is_child_key (caps ++ c ∷ []) key ≡ is_child_key caps key
    by_test true e is = ap (names key) (is ∙ none) ∙ sym (ap (names key) (ap (parent_at caps) (sym (yes_eq c.id (key % ids) e)) ∙ no-parent caps c.id order))
    by_test false e is = ap (names key) is

pub keys-minted : (caps : List Cap) (c : Cap) (parent key : ℕ) → IdsBetween 0 caps c.id → c.id < ids → c.parent ≡ Some parent
    → is_child_key (caps ++ c ∷ []) key ≡ cond (key == child_key parent c.id) true (is_child_key caps key)
keys-minted caps c parent key order fits is = by_low (c.id == key % ids) refl (parent-push caps c (key % ids) order)
  where
    by_high : (h : Bool) → (parent == key / ids) ≡ h → key % ids ≡ c.id → is_child_key caps key ≡ false → (parent == key / ids) ≡ cond (key == child_key parent c.id) true (is_child_key caps key)
    by_high true h low gone = rw (h, eq_yes key (child_key parent c.id) (key_is parent c.id key low (yes_eq parent (key / ids) h))) refl
    by_high false h low gone =
        let other : (key == child_key parent c.id) ≡ false = eq_no key (child_key parent c.id) (λ same.
        let clash = eq_yes parent (key / ids) (sym (ap (λ (k : ℕ). k / ids) same ∙ key_parent parent c.id fits)) in absurd cc) in
        rw (h, other) (sym gone)

    by_low : (b : Bool) → (c.id == key % ids) ≡ b → parent_at (caps ++ c ∷ []) (key % ids) ≡ cond b c.parent (parent_at caps (key % ids))
        → is_child_key (caps ++ c ∷ []) key ≡ cond (key == child_key parent c.id) true (is_child_key caps key)
    by_low true e at =
        let low : key % ids ≡ c.id = sym (yes_eq c.id (key % ids) e) in
        let gone : is_child_key caps key ≡ false = ap (names key) (ap (parent_at caps) low ∙ no-parent caps c.id order) in
        ap (names key) (at ∙ is) ∙ by_high (parent == key / ids) refl low gone
    by_low false e at =
        let other : (key == child_key parent c.id) ≡ false = eq_no key (child_key parent c.id) (λ same.
        let clash = eq_yes c.id (key % ids) (sym (ap (λ (k : ℕ). k % ids) same ∙ key_id parent c.id fits)) in absurd cc) in
        ap (names key) at ∙ rw other refl

-- Endpoints

pub any_at : (caps : List Cap) (id endpoint : ℕ) (c : Cap) → cap_at caps id ≡ Some c → c.endpoint ≡ endpoint → list_any (λ (x : Cap). x.endpoint == endpoint) caps ≡ true
any_at [] id endpoint c at is = absurd cc
any_at (x ∷ caps) id endpoint c at is = by_test (x.id == id) refl (any_at caps id endpoint c)
  where
    either : (b : Bool) → (b || true) ≡ true
    either true = refl
    either false = refl

    by_test : (b : Bool) → (x.id == id) ≡ b → (cap_at caps id ≡ Some c → c.endpoint ≡ endpoint → list_any (λ (x : Cap). x.endpoint == endpoint) caps ≡ true)
        → ((x.endpoint == endpoint) || list_any (λ (x : Cap). x.endpoint == endpoint) caps) ≡ true
    by_test true e rest = let same : x ≡ c = let here = rw e at at in cc in rw (eq_yes x.endpoint endpoint (ap (λ (y : Cap). y.endpoint) same ∙ is)) refl
    by_test false e rest = rw (rest (rw e at at) is) (either (x.endpoint == endpoint))

-- a capability of an endpoint is found
pub record HasEndpoint (caps : List Cap) (endpoint : ℕ) : Type 0 where
  pub cap : Cap
  pub at : cap_at caps cap.id ≡ Some cap
  pub is : cap.endpoint ≡ endpoint

pub any_found : (from : ℕ) (caps : List Cap) (to endpoint : ℕ) → IdsBetween from caps to → list_any (λ (x : Cap). x.endpoint == endpoint) caps ≡ true → HasEndpoint caps endpoint
any_found from [] to endpoint order h = absurd cc
any_found from (x ∷ caps) to endpoint order h = by_test (x.endpoint == endpoint) refl h (any_found (x.id + 1) caps to endpoint order.1)
  where
    further : HasEndpoint caps endpoint → HasEndpoint (x ∷ caps) endpoint
    further f = by_id (x.id == f.cap.id) refl
      where
        by_id : (b : Bool) → (x.id == f.cap.id) ≡ b → HasEndpoint (x ∷ caps) endpoint
        by_id false e = record { cap = f.cap; at = rw e f.at; is = f.is }
        by_id true e = absurd (let none = none-before f.cap.id (x.id + 1) caps to (let same = yes_eq x.id f.cap.id e in omega arith) order.1 in let there = f.at in cc)

    by_test : (b : Bool) → (x.endpoint == endpoint) ≡ b → (b || list_any (λ (x : Cap). x.endpoint == endpoint) caps) ≡ true
        → (list_any (λ (x : Cap). x.endpoint == endpoint) caps ≡ true → HasEndpoint caps endpoint) → HasEndpoint (x ∷ caps) endpoint
    by_test true e t rest = record { cap = x; at = rw (eq_yes x.id x.id refl) refl; is = yes_eq x.endpoint endpoint e }
    by_test false e t rest = further (rest t)

-- what is found after a new capability: an old one, or it
old_or_new : (caps : List Cap) (c x : Cap) (id : ℕ) → IdsBetween 0 caps c.id → cap_at (caps ++ c ∷ []) id ≡ Some x → (cap_at caps id ≡ Some x) ⊎ ((c.id ≡ id) × (c ≡ x))
old_or_new caps c x id order h = by_test (c.id == id) refl (sym (at-push 0 caps c id order) ∙ h)
  where
    by_test : (b : Bool) → (c.id == id) ≡ b → cond b (Some c) (cap_at caps id) ≡ Some x → (cap_at caps id ≡ Some x) ⊎ ((c.id ≡ id) × (c ≡ x))
    by_test true e at = inr (yes_eq c.id id e, cc)
    by_test false e at = inl at

-- a parent was held before its new child came
parent_before : (caps : List Cap) (c d : Cap) (p : ℕ) → IdsBetween 0 caps c.id → is_none (cap_at caps p) ≡ false → cap_at (caps ++ c ∷ []) p ≡ Some d → cap_at caps p ≡ Some d
parent_before caps c d p order there at = by_side (old_or_new caps c d p order at)
  where
    by_side : (cap_at caps p ≡ Some d) ⊎ ((c.id ≡ p) × (c ≡ d)) → cap_at caps p ≡ Some d
    by_side (inl old) = old
    by_side (inr new) = absurd (let none = none-after p 0 caps c.id (let same = new.0 in omega arith) order in let gone = ap is_none none in cc)

pub passed-push : (caps : List Cap) (c : Cap) → IdsBetween 0 caps c.id → ParentsHeld caps → EndpointsPassOn caps
    → ((p : ℕ) (d : Cap) → c.parent ≡ Some p → cap_at (caps ++ c ∷ []) p ≡ Some d → c.endpoint ≡ d.endpoint)
    → (c.parent ≡ None → list_any (λ (x : Cap). x.endpoint == c.endpoint) caps ≡ false) → EndpointsPassOn (caps ++ c ∷ [])
passed-push caps c order held on mine free = record { passed = passed; one = one }
  where
    passed : (id parent : ℕ) (x d : Cap) → cap_at (caps ++ c ∷ []) id ≡ Some x → x.parent ≡ Some parent → cap_at (caps ++ c ∷ []) parent ≡ Some d → x.endpoint ≡ d.endpoint
    passed id parent x d at is up = by_side (old_or_new caps c x id order at)
      where
        by_side : (cap_at caps id ≡ Some x) ⊎ ((c.id ≡ id) × (c ≡ x)) → x.endpoint ≡ d.endpoint
        by_side (inl old) = on.passed id parent x d old is (parent_before caps c d parent order (held.each id parent x old is).1 up)
        by_side (inr new) = ap (λ (y : Cap). y.endpoint) (sym new.1) ∙ mine parent d (ap (λ (y : Cap). y.parent) new.1 ∙ is) up

    clash : (b : ℕ) (d : Cap) → c.parent ≡ None → cap_at caps b ≡ Some d → c.endpoint ≡ d.endpoint → ⊥
    clash b d none at same = let there = any_at caps b c.endpoint d at (sym same) in let gone = free none in cc (there, gone)

    one : (a b : ℕ) (x d : Cap) → cap_at (caps ++ c ∷ []) a ≡ Some x → cap_at (caps ++ c ∷ []) b ≡ Some d → x.parent ≡ None → d.parent ≡ None → x.endpoint ≡ d.endpoint → a ≡ b
    one a b x d at bt xn dn same = by_sides (old_or_new caps c x a order at) (old_or_new caps c d b order bt)
      where
        by_sides : (cap_at caps a ≡ Some x) ⊎ ((c.id ≡ a) × (c ≡ x)) → (cap_at caps b ≡ Some d) ⊎ ((c.id ≡ b) × (c ≡ d)) → a ≡ b
        by_sides (inl p) (inl q) = on.one a b x d p q xn dn same
        by_sides (inr p) (inr q) = sym p.0 ∙ q.0
        by_sides (inr p) (inl q) = absurd (clash b d (ap (λ (y : Cap). y.parent) p.1 ∙ xn) q (ap (λ (y : Cap). y.endpoint) p.1 ∙ same))
        by_sides (inl p) (inr q) = absurd (clash a x (ap (λ (y : Cap). y.parent) q.1 ∙ dn) p (ap (λ (y : Cap). y.endpoint) q.1 ∙ sym same))

pub some_if : {V : Type 0} (b : Bool) (v : V) (o : Option V) → is_some (if b then Some v else o) ≡ cond b true (is_some o)
some_if true v o = refl
some_if false v o = refl

or_cond : (a b : Bool) → (a || b) ≡ cond b true a
or_cond true true = refl
or_cond true false = refl
or_cond false true = refl
or_cond false false = refl

-- A capability that is created, and one that is minted

pub held-created : {V : Type 0} (entries after : List (ℕ × Cap)) (children taken taken' : List (ℕ × V)) (next : ℕ) (c : Cap) (v : V) → IsHeld entries children taken next → c.id ≡ next → c.parent ≡ None
    → next + 1 < ids → list_any (λ (x : Cap). x.endpoint == c.endpoint) (caps_of entries) ≡ false → after ≡ entries ++ (c.id, c) ∷ []
    → ((q : ℕ) → value_at taken' q ≡ (if q == c.endpoint then Some v else value_at taken q)) → IsHeld after children taken' (next + 1)
held-created entries after children taken taken' next c v was at none fits free e puts = record {
  kept = kept-push entries after next c was.kept at (subst (λ o. ForSome o (λ p. is_none (cap_at (caps_of entries) p) ≡ false)) (sym none) (λ p s. absurd cc)) e;
  by_parent = λ key. was.by_parent key ∙ (sym (keys-created (caps_of entries) c key order none) ∙ ap (λ cs. is_child_key cs key) (sym is));
  in_use = λ endpoint. ap is_some (puts endpoint) ∙ (some_if (endpoint == c.endpoint) v (value_at taken endpoint) ∙ (in_use endpoint (endpoint == c.endpoint) refl ∙ ap (list_any (λ (x : Cap). x.endpoint == endpoint)) (sym is)));
  endpoints = subst EndpointsPassOn (sym is) (passed-push (caps_of entries) c order was.kept.parents was.endpoints (λ p d some _. absurd (let clash = none in cc)) (λ _. free));
  below = fits;
}
  where
    order : IdsBetween 0 (caps_of entries) c.id
    order = subst (IdsBetween 0 (caps_of entries)) (sym at) was.kept.in_order

    is : caps_of after ≡ caps_of entries ++ c ∷ []
    is = ap caps_of e ∙ caps_pushed entries c.id c

    in_use : (endpoint : ℕ) (b : Bool) → (endpoint == c.endpoint) ≡ b → cond (endpoint == c.endpoint) true (is_some (value_at taken endpoint)) ≡ list_any (λ (x : Cap). x.endpoint == endpoint) (caps_of entries ++ c ∷ [])
    in_use endpoint b e =
        ap (λ t. cond (endpoint == c.endpoint) true t) (was.in_use endpoint)
        ∙ (ap (λ t. cond t true (list_any (λ (x : Cap). x.endpoint == endpoint) (caps_of entries))) (eq_sym endpoint c.endpoint)
        ∙ (sym (or_cond (list_any (λ (x : Cap). x.endpoint == endpoint) (caps_of entries)) (c.endpoint == endpoint))
        ∙ (ap (λ t. list_any (λ (x : Cap). x.endpoint == endpoint) (caps_of entries) || t) (or_false (c.endpoint == endpoint))
        ∙ sym (list_any-append (λ (x : Cap). x.endpoint == endpoint) (caps_of entries) (c ∷ [])))))
      where
        or_false : (t : Bool) → t ≡ (t || false)
        or_false true = refl
        or_false false = refl

pub held-minted : {V : Type 0} (entries after : List (ℕ × Cap)) (children children' taken : List (ℕ × V)) (next : ℕ) (c from : Cap) (v : V) → IsHeld entries children taken next → c.id ≡ next → c.parent ≡ Some from.id
    → c.endpoint ≡ from.endpoint → cap_at (caps_of entries) from.id ≡ Some from → next + 1 < ids → after ≡ entries ++ (c.id, c) ∷ []
    → ((q : ℕ) → value_at children' q ≡ (if q == child_key from.id c.id then Some v else value_at children q)) → IsHeld after children' taken (next + 1)
held-minted entries after children children' taken next c from v was at some same there fits e puts = record {
  kept = kept-push entries after next c was.kept at (subst (λ o. ForSome o (λ p. is_none (cap_at (caps_of entries) p) ≡ false)) (sym some) (λ p s. let same_id : from.id ≡ p = cc in ap is_none (ap (cap_at (caps_of entries)) (sym same_id) ∙ there))) e;
  by_parent = λ key. ap is_some (puts key) ∙ (some_if (key == child_key from.id c.id) v (value_at children key)
      ∙ (ap (λ t. cond (key == child_key from.id c.id) true t) (was.by_parent key)
      ∙ (sym (keys-minted (caps_of entries) c from.id key order (omega (arith, fits, at)) some) ∙ ap (λ cs. is_child_key cs key) (sym is))));
  in_use = λ endpoint. was.in_use endpoint ∙ (in_use endpoint (c.endpoint == endpoint) refl ∙ ap (list_any (λ (x : Cap). x.endpoint == endpoint)) (sym is));
  endpoints = subst EndpointsPassOn (sym is) (passed-push (caps_of entries) c order was.kept.parents was.endpoints mine (λ none. absurd (let clash = some in cc)));
  below = fits;
}
  where
    order : IdsBetween 0 (caps_of entries) c.id
    order = subst (IdsBetween 0 (caps_of entries)) (sym at) was.kept.in_order

    is : caps_of after ≡ caps_of entries ++ c ∷ []
    is = ap caps_of e ∙ caps_pushed entries c.id c

    mine : (p : ℕ) (d : Cap) → c.parent ≡ Some p → cap_at (caps_of entries ++ c ∷ []) p ≡ Some d → c.endpoint ≡ d.endpoint
    mine p d is_p up =
        let parent : from.id ≡ p = let a = some in cc in
        let before : cap_at (caps_of entries) p ≡ Some d = parent_before (caps_of entries) c d p order (ap is_none (ap (cap_at (caps_of entries)) (sym parent) ∙ there)) up in
        let found : from ≡ d = let a = ap (cap_at (caps_of entries)) parent in cc (there, before) in
        same ∙ ap (λ (x : Cap). x.endpoint) found

    in_use : (endpoint : ℕ) (b : Bool) → (c.endpoint == endpoint) ≡ b → list_any (λ (x : Cap). x.endpoint == endpoint) (caps_of entries) ≡ list_any (λ (x : Cap). x.endpoint == endpoint) (caps_of entries ++ c ∷ [])
    in_use endpoint b t =
        by_test b t ∙ sym (list_any-append (λ (x : Cap). x.endpoint == endpoint) (caps_of entries) (c ∷ []))
      where
        or_false : (t : Bool) → t ≡ (t || false)
        or_false true = refl
        or_false false = refl

        by_test : (b : Bool) → (c.endpoint == endpoint) ≡ b → list_any (λ (x : Cap). x.endpoint == endpoint) (caps_of entries) ≡ (list_any (λ (x : Cap). x.endpoint == endpoint) (caps_of entries) || ((c.endpoint == endpoint) || false))
        by_test true y = let all = any_at (caps_of entries) from.id endpoint from there (sym same ∙ yes_eq c.endpoint endpoint y) in rw all refl
        by_test false y = rw y (or_false (list_any (λ (x : Cap). x.endpoint == endpoint) (caps_of entries)))

-- In the words of a call

first_none : {A : Type 0} (t : Bool) (fault : A) (tests : List (Bool × A)) → first ((t, fault) ∷ tests) ≡ None → (t ≡ false) × (first tests ≡ None)
first_none true fault tests h = absurd cc
first_none false fault tests h = (refl, h)

-- what is true where a creation isn't refused
pub record MayCreate (caps : List Cap) (next endpoint : ℕ) : Type 0 where
  pub free : list_any (λ (x : Cap). x.endpoint == endpoint) caps ≡ false
  pub more : (next == 4294967295) ≡ false

some_room : (limits : CapBounds) (table : CapTable) (domain : ℕ) → first (room_tests limits table domain) ≡ None → (table.next == 4294967295) ≡ false
some_room limits table domain h =
    let total = first_none (leb limits.total (length table.held)) CapsFull ((leb limits.share (count_for table.held domain), DomainFull) ∷ (table.next == 4294967295, IdsSpent) ∷ []) h in
    let share = first_none (leb limits.share (count_for table.held domain)) DomainFull ((table.next == 4294967295, IdsSpent) ∷ []) total.1 in
    (first_none (table.next == 4294967295) IdsSpent [] share.1).0

pub may_create : (limits : CapBounds) (table : CapTable) (domain endpoint : ℕ) → first (create_tests limits table domain endpoint) ≡ None → MayCreate table.held table.next endpoint
may_create limits table domain endpoint h =
    let free = first_none (list_any (λ (x : Cap). x.endpoint == endpoint) table.held) EndpointTaken (room_tests limits table domain) h in
    record { free = free.0; more = some_room limits table domain free.1 }

-- what is true where a mint isn't refused
pub record MayMint (caps : List Cap) (next domain cap : ℕ) : Type 0 where
  pub held : first (holder_tests caps domain cap) ≡ None
  pub more : (next == 4294967295) ≡ false

pub may_mint : (limits : CapBounds) (table : CapTable) (domain cap : ℕ) (rights : Rights) → first (mint_tests limits table domain cap rights) ≡ None → MayMint table.held table.next domain cap
may_mint limits table domain cap rights h =
    let held = first_append (holder_tests table.held domain cap) ((not (is_some_and (λ (c : Cap). has_right c.rights Mint) (cap_at table.held cap)), NoRight) ∷ (not (is_some_and (λ (c : Cap). is_within rights c.rights) (cap_at table.held cap)), RightsExceed) ∷ room_tests limits table domain) h in
    let right = first_none (not (is_some_and (λ (c : Cap). has_right c.rights Mint) (cap_at table.held cap))) NoRight ((not (is_some_and (λ (c : Cap). is_within rights c.rights) (cap_at table.held cap)), RightsExceed) ∷ room_tests limits table domain) held.1 in
    let within = first_none (not (is_some_and (λ (c : Cap). is_within rights c.rights) (cap_at table.held cap))) RightsExceed (room_tests limits table domain) right.1 in
    record { held = held.0; more = some_room limits table domain within.1 }
  where
    first_append : {A : Type 0} (ts us : List (Bool × A)) → first (ts ++ us) ≡ None → (first ts ≡ None) × (first us ≡ None)
    first_append [] us h = (refl, h)
    first_append ((true, fault) ∷ ts) us h = absurd cc
    first_append ((false, fault) ∷ ts) us h = first_append ts us h

pub more_ids : (next : ℕ) → next < ids → (next == 4294967295) ≡ false → next + 1 < ids
unfolding ids
more_ids next lt more = grind (arith, nat_tests)

pub more_below : (next : ℕ) → next < ids → (next == 4294967295) ≡ false → next < 4294967295
unfolding ids
more_below next lt more = grind (arith, nat_tests)

pub below_ids : (next : ℕ) → next < 4294967295 → next + 1 < ids
unfolding ids
below_ids next lt = omega arith

pub same_view : (t u : CapTable) (a b d e : Bool) → t ≡ u → a ≡ false → ◌≡◌ {A = Holding} (record { table = t; ready = a && b && d && e }) (record { table = u; ready = false })
same_view t u a b d e same spent = ap (λ (x : CapTable). record { table = x; ready = a && b && d && e }) same ∙ ap (λ (r : Bool). record { table = u; ready = r && b && d && e }) spent

pub put_last : (entries after : List (ℕ × Cap)) (next key : ℕ) (c : Cap) → IsKept entries next → key ≡ next → after ≡ insert_entry nat_cmp entries key c → after ≡ entries ++ (next, c) ∷ []
put_last entries after next key c kept same e = e ∙ (ap (λ (k : ℕ). insert_entry nat_cmp entries k c) same ∙ push_entry entries next c kept)

pub no_value : {V : Type 0} (o : Option V) → is_some o ≡ false → o ≡ None
no_value None h = refl
no_value (Some v) h = absurd cc

pub free_child : (caps : List Cap) (next parent : ℕ) → IdsBetween 0 caps next → next < ids → is_child_key caps (child_key parent next) ≡ false
free_child caps next parent order lt = ap (names (child_key parent next)) (ap (parent_at caps) (key_id parent next lt) ∙ no-parent caps next order)

-- what is found at an id has it
pub at_id : (caps : List Cap) (id : ℕ) (c : Cap) → cap_at caps id ≡ Some c → c.id ≡ id
at_id [] id c h = absurd cc
at_id (x ∷ caps) id c h = by_test (x.id == id) refl (at_id caps id c)
  where
    by_test : (b : Bool) → (x.id == id) ≡ b → (cap_at caps id ≡ Some c → c.id ≡ id) → c.id ≡ id
    by_test true e rest = let same : x ≡ c = let here = rw e at h in cc in sym (ap (λ (y : Cap). y.id) same) ∙ yes_eq x.id id e
    by_test false e rest = rest (rw e at h)

pub mint_made : (v : Holding) (t : CapTable) (cap to : ℕ) (rights : Rights) (from : Cap) → cap_at t.held cap ≡ Some from
    → v.table ≡ record { held = t.held ++ record { id = t.next; endpoint = from.endpoint; holder = to; rights = rights; parent = Some from.id } ∷ []; next = t.next + 1 } → v.ready ≡ false
    → v ≡ record { table = minted_from t cap to rights; ready = false }
mint_made v t cap to rights from at made used =
    ap (λ (x : CapTable). record { table = x; ready = v.ready }) (made
    ∙ (ap (λ (n : ℕ). record { held = t.held ++ record { id = t.next; endpoint = from.endpoint; holder = to; rights = rights; parent = Some n } ∷ []; next = t.next + 1 }) (at_id t.held cap from at)
    ∙ ap (λ (o : Option Cap). record { held = t.held ++ child_of t cap to rights o; next = t.next + 1 }) (sym at)))
    ∙ ap (λ (r : Bool). record { table = minted_from t cap to rights; ready = r }) used

-- A table of no capabilities

pub fits_ids : (next : ℕ) → next < 4294967296 → next < ids
unfolding ids
fits_ids next lt = lt

none-held : {V : Type 0} (next : ℕ) → next < ids → IsHeld {V = V} [] [] [] next
none-held next lt = record {
  kept = record { by_id = refl; in_order = omega arith; parents = record { each = λ id parent c at is. absurd cc } };
  by_parent = λ key. refl;
  in_use = λ endpoint. refl;
  endpoints = record { passed = λ id parent c d at is up. absurd cc; one = λ a b c d at bt cn dn same. absurd cc };
  below = lt;
}

pub held-none : {V : Type 0} (entries : List (ℕ × Cap)) (children taken : List (ℕ × V)) (next : ℕ) → entries ≡ [] → children ≡ [] → taken ≡ [] → next < ids → IsHeld entries children taken next
held-none {V} entries children taken next e f g lt =
    subst (λ (es : List (ℕ × Cap)). IsHeld es children taken next) (sym e)
    (subst (λ (cs : List (ℕ × V)). IsHeld [] cs taken next) (sym f)
    (subst (λ (ts : List (ℕ × V)). IsHeld [] [] ts next) (sym g) (none-held {V = V} next lt)))
