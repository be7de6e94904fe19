-- Lists whose elements stand in pairs.
use Rattle.std.proofs.Common.{◌≡◌, ℕ, zero, suc, List, [], ◌∷◌, Some, slice_get, slice_set, rules}
use Rattle.std.specs.List.{AllZip}

module _ {A : Type 0} (R : A → A → Type 0) where
  pub pairs_itself : ((x : A) → R x x) → (xs : List A) → AllZip R xs xs
  pairs_itself itself [] = search rules
  pairs_itself itself (x ∷ xs) = (itself x, pairs_itself itself xs)

  pub pairs_along : ((x y z : A) → R x y → R y z → R x z) → (xs ys zs : List A) → AllZip R xs ys → AllZip R ys zs → AllZip R xs zs
  pairs_along along [] [] [] a b = search rules
  pairs_along along [] [] (z ∷ zs) a b = absurd b
  pairs_along along [] (y ∷ ys) zs a b = absurd a
  pairs_along along (x ∷ xs) [] zs a b = absurd a
  pairs_along along (x ∷ xs) (y ∷ ys) [] a b = absurd b
  pairs_along along (x ∷ xs) (y ∷ ys) (z ∷ zs) a b = (along x y z a.0 b.0, pairs_along along xs ys zs a.1 b.1)

-- an element moves along
pub pairs_set : {A B : Type 0} (R : A → B → Type 0) (xs : List A) (ys : List B) (i : ℕ) (y v : B)
    → AllZip R xs ys → slice_get ys i ≡ Some y → ((x : A) → R x y → R x v) → AllZip R xs (slice_set ys i v)
pairs_set R [] [] i y v along at moves = along
pairs_set R [] (b ∷ ys) i y v along at moves = absurd along
pairs_set R (a ∷ xs) [] i y v along at moves = absurd along
pairs_set R (a ∷ xs) (b ∷ ys) zero y v along at moves = (moves a (let e : b ≡ y = cc in rw e at along.0), along.1)
pairs_set R (a ∷ xs) (b ∷ ys) (suc i) y v along at moves = (along.0, pairs_set R xs ys i y v along.1 at moves)
