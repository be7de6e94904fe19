-- Parts that are added one after another.
use Rattle.std.proofs.Common.{◌≡◌, List, [], ◌∷◌, ◌++◌, append_assoc}
use Rattle.filter_cond.specs.declared.cond.Part.{Part}

pub two : (old middle most new first second : List Part) (last : Part) → middle ≡ old ++ first → most ≡ middle ++ second → new ≡ most ++ last ∷ [] → new ≡ old ++ (first ++ (second ++ last ∷ []))
two old middle most new first second last a b c = rw (c, b, a) (simp append_assoc)
