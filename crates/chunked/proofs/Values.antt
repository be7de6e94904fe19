-- The value at each key once an entry is put in, replaced or taken out.
use Rattle.std.proofs.Common.{◌≡◌, ◌<◌, ℕ, List, [], ◌∷◌, Bool, true, false, cond, nat_eq, Some, None, IsSome, refl, sym, ap, ◌∙◌, subst, arith}
use Rattle.std.specs.Map.{remove_entry, set_value}
use Rattle.std.specs.BTreeMap.{insert_entry}
use Rattle.std.specs.Ordering.{nat_cmp, match_ordering}
use Rattle.std.specs.declared.cmp.Ordering.{Ordering}
use Rattle.std.specs.declared.cmp.Ordering.TheVariants.{Less, Equal, Greater}
use Rattle.std.proofs.lemmas.Bool.{eqb-true, eqb-false}
use Rattle.std.proofs.lemmas.Cmp.{ranked}
use Rattle.std.proofs.lemmas.Map.Entries.{lookup_tail}
use Rattle.chunked.specs.Entries.{AreRising}
use Rattle.chunked.specs.Maps.{value_at}
use Rattle.chunked.proofs.Rising.{none_from}

cond_twice : {X : Type 0} (b : Bool) (x y z : X) → cond b x z ≡ cond b x (cond b y z)
cond_twice true x y z = refl
cond_twice false x y z = refl

cond_swap : {X : Type 0} (a b : Bool) (x y z : X) → (a ≡ true → b ≡ true → ⊥) → cond a x (cond b y z) ≡ cond b y (cond a x z)
cond_swap true true x y z apart = absurd (apart refl refl)
cond_swap true false x y z apart = refl
cond_swap false true x y z apart = refl
cond_swap false false x y z apart = refl

-- a key isn't two
not_both : (q key other : ℕ) → (key ≡ other → ⊥) → nat_eq q other ≡ true → nat_eq q key ≡ true → ⊥
not_both q key other differs one two = differs (sym (eqb-true q key two) ∙ eqb-true q other one)

module _ {V : Type 0} where
  pub value-insert_entry : (es : List (ℕ × V)) (key q : ℕ) (value : V) → value_at (insert_entry nat_cmp es key value) q ≡ cond (nat_eq q key) (Some value) (value_at es q)
  value-insert_entry [] key q value = refl
  value-insert_entry (e ∷ es) key q value = by_cmp (value-insert_entry es key q value) (nat_cmp key e.0) refl
    where
      by_cmp : value_at (insert_entry nat_cmp es key value) q ≡ cond (nat_eq q key) (Some value) (value_at es q) → (o : Ordering) → o ≡ nat_cmp key e.0
          → value_at (match_ordering o ((key, value) ∷ e ∷ es) ((e.0, value) ∷ es) (e ∷ insert_entry nat_cmp es key value)) q ≡ cond (nat_eq q key) (Some value) (value_at (e ∷ es) q)
      by_cmp rest Less is = refl
      by_cmp rest Equal is =
          let same : key ≡ e.0 = ranked key e.0 Equal is in
          cond_twice (nat_eq q e.0) (Some value) (Some e.1) (value_at es q) ∙ ap (λ k. cond (nat_eq q k) (Some value) (value_at (e ∷ es) q)) (sym same)
      by_cmp rest Greater is =
          let above : e.0 < key = ranked key e.0 Greater is in
          ap (cond (nat_eq q e.0) (Some e.1)) rest
          ∙ cond_swap (nat_eq q e.0) (nat_eq q key) (Some e.1) (Some value) (value_at es q) (not_both q key e.0 (λ same. absurd (omega arith)))

  pub value-set_value : (es : List (ℕ × V)) (key q : ℕ) (value : V) → IsSome (value_at es key) → value_at (set_value (nat_eq key) es value) q ≡ cond (nat_eq q key) (Some value) (value_at es q)
  value-set_value [] key q value there = absurd (grind arith)
  value-set_value (e ∷ es) key q value there = by_test (value-set_value es key q value) (nat_eq key e.0) refl
    where
      by_test : (IsSome (value_at es key) → value_at (set_value (nat_eq key) es value) q ≡ cond (nat_eq q key) (Some value) (value_at es q)) → (b : Bool) → b ≡ nat_eq key e.0
          → value_at (cond b ((e.0, value) ∷ es) (e ∷ set_value (nat_eq key) es value)) q ≡ cond (nat_eq q key) (Some value) (value_at (e ∷ es) q)
      by_test rest true is =
          let same : key ≡ e.0 = eqb-true key e.0 (sym is) in
          cond_twice (nat_eq q e.0) (Some value) (Some e.1) (value_at es q) ∙ ap (λ k. cond (nat_eq q k) (Some value) (value_at (e ∷ es) q)) (sym same)
      by_test rest false is =
          let tail = lookup_tail (nat_eq key) e es (sym is) in
          ap (cond (nat_eq q e.0) (Some e.1)) (rest (subst (λ o. IsSome o) tail there))
          ∙ cond_swap (nat_eq q e.0) (nat_eq q key) (Some e.1) (Some value) (value_at es q) (not_both q key e.0 (eqb-false key e.0 (sym is)))

  pub value-remove_entry : (es : List (ℕ × V)) (key q : ℕ) → AreRising es → value_at (remove_entry (nat_eq key) es) q ≡ cond (nat_eq q key) None (value_at es q)
  value-remove_entry [] key q rising = by_key (nat_eq q key)
    where
      by_key : (b : Bool) → value_at {V = V} [] q ≡ cond b None (value_at {V = V} [] q)
      by_key true = refl
      by_key false = refl
  value-remove_entry (e ∷ es) key q rising = by_test (value-remove_entry es key q rising.1) (nat_eq key e.0) refl
    where
      gone : (b : Bool) → b ≡ nat_eq q e.0 → value_at es q ≡ cond b None (cond b (Some e.1) (value_at es q))
      gone true is = ap (value_at es) (eqb-true q e.0 (sym is)) ∙ none_from es e.0 rising.0
      gone false is = refl

      by_test : value_at (remove_entry (nat_eq key) es) q ≡ cond (nat_eq q key) None (value_at es q) → (b : Bool) → b ≡ nat_eq key e.0
          → value_at (cond b es (e ∷ remove_entry (nat_eq key) es)) q ≡ cond (nat_eq q key) None (value_at (e ∷ es) q)
      by_test rest true is =
          let same : key ≡ e.0 = eqb-true key e.0 (sym is) in
          gone (nat_eq q e.0) refl ∙ ap (λ k. cond (nat_eq q k) None (value_at (e ∷ es) q)) (sym same)
      by_test rest false is =
          ap (cond (nat_eq q e.0) (Some e.1)) rest
          ∙ cond_swap (nat_eq q e.0) (nat_eq q key) (Some e.1) None (value_at es q) (not_both q key e.0 (eqb-false key e.0 (sym is)))
