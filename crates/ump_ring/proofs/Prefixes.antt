-- Beginnings of lists.
use Rattle.std.proofs.Common.{◌≡◌, ◌∷◌, [], ◌++◌, List, ap, sym, ◌∙◌, append_assoc}
use Rattle.std.proofs.lemmas.List.{append-nil}
use mathlib.Core.List.{IsPrefix}

module _ {A : Type 0} where
  -- a list begins with itself
  pub prefix-itself : (xs : List A) → IsPrefix xs xs
  prefix-itself xs = ([], append-nil xs)

  -- and with what it began with before an element came
  pub prefix-more : (xs ys zs : List A) (z : A) → IsPrefix xs ys → zs ≡ ys ++ z ∷ [] → IsPrefix xs zs
  prefix-more xs ys zs z (rest, is) more = (rest ++ z ∷ [], sym (append_assoc xs rest (z ∷ [])) ∙ ap (λ t. t ++ z ∷ []) is ∙ sym more)
