-- Handles that cores are put into, one after another.
use Rattle.std.proofs.Common.{◌≡◌, ◌<◌, ◌+◌, ◌-◌, ℕ, true, false, List, [], ◌∷◌, ◌++◌, Option, None, Some, map, set, get_or, drop, length, refl, sym, ap, ◌∙◌, arith, length-append, append_assoc}
use Rattle.std.specs.Prelude.{IsSome}
use Rattle.std.proofs.lemmas.Bool.{false≢true}
use Rattle.std.proofs.lemmas.List.{append-nil, drop_more, drop_all, set_at, length-map, map-append, length_push, get_or-map, get_or-append_right, get_or-drop}

-- The first items went to the places of a list, and the others are as they were.
pub record Putting {A B : Type 0} (f : A → B) (all seen rest : List A) (old now : List B) (place : ℕ) : Type 0 where
  pub split : all ≡ seen ++ rest
  pub place_is : place ≡ length seen
  pub put : now ≡ map f seen ++ drop place old

module _ {A B : Type 0} (f : A → B) (all seen items rest : List A) (item : A) (old now : List B) (place : ℕ) (was : Putting f all seen items old now place) (next : items ≡ item ∷ rest) where
  pub place_inside : length all ≡ length old → place < length old
  place_inside count = omega (arith, was.place_is, count, ap length was.split, length-append seen items, ap length next)

  pub untouched : (d : B) → get_or now place d ≡ get_or old place d
  untouched d =
      ap (λ (l : List B). get_or l place d) was.put ∙ get_or-append_right (map f seen) (drop place old) (length seen) place d (length-map seen f) (omega (arith, was.place_is))
      ∙ get_or-drop place old (place - length seen) d ∙ ap (λ (n : ℕ). get_or old n d) (omega (arith, was.place_is))

  pub put_more : length all ≡ length old → (y : B) → y ≡ f item → Putting f all (seen ++ item ∷ []) rest old (set now place y) (place + 1)
  put_more count y is = record {
    split = was.split ∙ ap (λ (l : List A). seen ++ l) next ∙ sym (append_assoc seen (item ∷ []) rest);
    place_is = ap (λ (n : ℕ). n + 1) was.place_is ∙ sym (length_push seen item);
    put = (let others = drop (place + 1) old in let here : drop place old ≡ get_or old place y ∷ others = drop_more old place y (place_inside count) in
        ap (λ (l : List B). set l place y) (was.put ∙ ap (λ (l : List B). map f seen ++ l) here)
        ∙ set_at (map f seen) (get_or old place y) others y place (length-map seen f ∙ sym was.place_is)
        ∙ sym (append_assoc (map f seen) (y ∷ []) others)
        ∙ ap (λ (x : B). (map f seen ++ x ∷ []) ++ others) is
        ∙ ap (λ (l : List B). l ++ others) (sym (map-append f seen (item ∷ []))));
  }

pub put_last : {A B : Type 0} (f : A → B) (all seen rest : List A) (old now : List B) (place : ℕ) → Putting f all seen rest old now place → rest ≡ [] → length all ≡ length old → now ≡ map f all
put_last f all seen rest old now place was none count =
    let is : all ≡ seen = was.split ∙ ap (λ (l : List _). seen ++ l) none ∙ append-nil seen in
    was.put ∙ ap (λ (l : List _). map f seen ++ l) (drop_all place old (omega (arith, was.place_is, count, ap length is))) ∙ append-nil (map f seen) ∙ ap (λ (l : List _). map f l) (sym is)

-- what a list says of an item, another of which the same is said says of its own
pub same_at : {A B : Type 0} (f : A → B) (xs ys : List A) → map f xs ≡ map f ys → (k : ℕ) (d : A) → k < length ys → f (get_or xs k d) ≡ f (get_or ys k d)
same_at f xs ys same k d below =
    let long : length xs ≡ length ys = sym (length-map xs f) ∙ ap length same ∙ length-map ys f in
    sym (get_or-map f xs k d (f d) (omega (arith, long, below))) ∙ ap (λ (l : List _). get_or l k (f d)) same ∙ get_or-map f ys k d (f d) below

pub some_or_none : {T : Type 0} (o : Option T) → o ≡ None → IsSome o → ⊥
some_or_none (Some x) e some = absurd (cc)
some_or_none None e some = false≢true some

pub none_from : {T : Type 0} (o : Option T) → (IsSome o → false ≡ true) → o ≡ None
none_from (Some x) not_some = absurd (false≢true (not_some refl))
none_from None not_some = refl
