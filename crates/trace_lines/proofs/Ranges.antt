-- The numbers from one to another, one after the other.
use Rattle.std.proofs.Common.{◌≡◌, ℕ, suc, ◌+◌, ◌-◌, ◌<◌, ◌∷◌, refl, arith}
use Rattle.std.specs.List.{range_with_len}

pub range_next : (a n : ℕ) → a < n → range_with_len a (n - a) ≡ a ∷ range_with_len (a + 1) (n - (a + 1))
range_next a n low = let e : n - a ≡ suc (n - (a + 1)) = omega arith in rw e refl
