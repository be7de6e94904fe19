-- A window of a window.
use Rattle.std.proofs.Common.{◌≡◌, ◌+◌, ◌-◌, ◌≤◌, ℕ, List, take, drop, ap, ◌∙◌, arith}
use Rattle.std.proofs.lemmas.List.{take-take, drop-drop, drop-take}

pub window_of : {A : Type 0} (xs : List A) (start count at more : ℕ) → at + more ≤ count → take more (drop at (take count (drop start xs))) ≡ take more (drop (start + at) xs)
window_of xs start count at more fits = ap (take more) (cut ∙ drop-take at (count - at) (drop start xs)) ∙ (take-take more (count - at) (drop at (drop start xs)) (omega (arith, fits)) ∙ ap (take more) (drop-drop at start xs))
  where
    cut : drop at (take count (drop start xs)) ≡ drop at (take (at + (count - at)) (drop start xs))
    cut = ap (λ n. drop at (take n (drop start xs))) (omega (arith, fits))
