-- Entries that are put in at the end.
use Rattle.std.proofs.Common.{◌≡◌, ◌+◌, ◌++◌, ◌∙◌, ℕ, List, [], ◌∷◌, None, nat_eq, ap, refl, arith}
use Rattle.std.specs.BTreeMap.{insert_entry}
use Rattle.std.specs.Ordering.{nat_cmp, match_ordering}
use Rattle.std.proofs.lemmas.Bool.{ne_eqb}
use Rattle.std.proofs.lemmas.Map.Entries.{lookup_tail}
use Rattle.chunked.specs.Entries.{AreBelow, AreFrom, AreRising}
use Rattle.chunked.specs.Maps.{value_at}
use Rattle.chunked.proofs.Rising.{cmp_greater, from_second}

module _ {V : Type 0} where
  pub below_last : (es rest : List (ℕ × V)) (e : ℕ × V) → AreRising (es ++ e ∷ rest) → AreBelow e.0 es
  below_last [] rest e rising = tt
  below_last (x ∷ es) rest e rising = (
    (let from : AreFrom (x.0 + 1) (e ∷ rest) = from_second (x.0 + 1) es (e ∷ rest) rising.0 in omega (arith, from.0)),
    below_last es rest e rising.1,
  )

  pub absent_last : (es : List (ℕ × V)) (key : ℕ) → AreBelow key es → value_at es key ≡ None
  absent_last [] key below = refl
  absent_last (x ∷ es) key below = lookup_tail (nat_eq key) x es (ne_eqb key x.0 (λ same. absurd (omega (arith, below.0)))) ∙ absent_last es key below.1

  pub insert_last : (es : List (ℕ × V)) (key : ℕ) (value : V) → AreBelow key es → insert_entry nat_cmp es key value ≡ es ++ (key, value) ∷ []
  insert_last [] key value below = refl
  insert_last (x ∷ es) key value below =
      ap (λ r. match_ordering r ((key, value) ∷ x ∷ es) ((x.0, value) ∷ es) (x ∷ insert_entry nat_cmp es key value)) (cmp_greater key x.0 below.0)
      ∙ ap (λ rest. x ∷ rest) (insert_last es key value below.1)
