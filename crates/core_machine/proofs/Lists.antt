-- Lists by place.
use Rattle.std.proofs.Common.{◌≡◌, ◌<◌, ℕ, zero, suc, List, [], ◌∷◌, ◌++◌, length, map, None, Some, slice_get, slice_index_or, refl, sym, ap, subst, arith}

-- an element for each place makes a list of them
pub record Chosen {A B : Type 0} (P : ℕ → A → B → Type 0) (xs : List A) : Type 0 where
  pub ys : List B
  pub long : length ys ≡ length xs
  pub each : (k : ℕ) (x : A) (y : B) → slice_get xs k ≡ Some x → slice_get ys k ≡ Some y → P k x y

pub choose : {A B : Type 0} (P : ℕ → A → B → Type 0) (xs : List A) → ((k : ℕ) (x : A) → slice_get xs k ≡ Some x → (y : B) × P k x y) → Chosen P xs
choose P [] each = record { ys = []; long = refl; each = λ k x y at. absurd (cc) }
choose {A} {B} P (a ∷ xs) each =
    let first = each 0 a refl in
    let rest = choose (λ k. P (suc k)) xs (λ k x at. each (suc k) x at) in
    record { ys = first.0 ∷ rest.ys; long = ap suc rest.long; each = at_each first.0 rest.ys first.1 rest.each }
  where
    at_each : (y0 : B) (ys : List B) → P 0 a y0 → ((k : ℕ) (x : A) (y : B) → slice_get xs k ≡ Some x → slice_get ys k ≡ Some y → P (suc k) x y)
        → (k : ℕ) (x : A) (y : B) → slice_get (a ∷ xs) k ≡ Some x → slice_get (y0 ∷ ys) k ≡ Some y → P k x y
    at_each y0 ys p q zero x y e f = let ea : a ≡ x = cc in let fa : y0 ≡ y = cc in subst (λ (z : A). P 0 z y) ea (subst (λ (z : B). P 0 a z) fa p)
    at_each y0 ys p q (suc k) x y e f = q k x y e f

pub same_some : {A : Type 0} (x y : A) → Some x ≡ Some y → x ≡ y
same_some x y e = cc

pub first_same : {A : Type 0} (a b : A) (xs ys : List A) → a ∷ xs ≡ b ∷ ys → a ≡ b
first_same a b xs ys e = cc

pub rest_same : {A : Type 0} (a b : A) (xs ys : List A) → a ∷ xs ≡ b ∷ ys → xs ≡ ys
rest_same a b xs ys e = cc

-- an element that was indexed
pub get_indexed : {A : Type 0} (xs : List A) (k : ℕ) (x : A) → x ≡ slice_index_or xs k x → k < length xs → slice_get xs k ≡ Some x
get_indexed [] k x e lt = absurd (omega arith)
get_indexed (y ∷ ys) zero x e lt = ap (λ z. Some z) (sym e)
get_indexed (y ∷ ys) (suc k) x e lt = get_indexed ys k x e (omega arith)

-- the first element, or none
pub starts_with : {A : Type 0} (xs : List A) (x : A) → Some x ≡ slice_get xs 0 → (rest : List A) × (xs ≡ x ∷ rest)
starts_with [] x e = absurd (cc)
starts_with (y ∷ ys) x e = (ys, cc)

pub is_empty : {A : Type 0} (xs : List A) → None ≡ slice_get xs 0 → xs ≡ []
is_empty [] e = refl
is_empty (y ∷ ys) e = absurd (cc)

pub map_push : {A B : Type 0} (f : A → B) (xs : List A) (x : A) → map f (xs ++ x ∷ []) ≡ map f xs ++ f x ∷ []
map_push f [] x = refl
map_push {A} {B} f (y ∷ ys) x = ap (λ (zs : List B). f y ∷ zs) (map_push f ys x)
