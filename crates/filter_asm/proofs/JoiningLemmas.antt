-- What was found of operands once all parts are gone over.
use Rattle.std.proofs.Common.{◌≡◌, ◌<◌, ◌≤◌, ℕ, List, [], ◌∷◌, Option, Some, None, length, drop, length-drop, map, option_map, refl, ap, arith}
use Rattle.std.proofs.lemmas.List.{drop_all}
use Rattle.filter_asm.specs.Joining.{first_of, second_of, joined}
use Rattle.filter_asm.specs.Operands.{Part, Operands, no_operands, operands_at}

first_of_none : {T : Type 0} (one : Option T) → first_of one None ≡ one
first_of_none None = refl
first_of_none (Some one) = refl

second_of_none : (first second : Option (List ℕ)) → second_of first second no_operands ≡ second
second_of_none None None = refl
second_of_none (Some one) None = refl
second_of_none None (Some other) = refl
second_of_none (Some one) (Some other) = refl

pub joined_none : (found : Operands) → joined found no_operands ≡ found
joined_none found = rw (first_of_none found.number, first_of_none found.first, second_of_none found.first found.second) refl

module _ {P T : Type 0} (part : P → Part) (text : T → List ℕ) (found : Operands) (parts : List P) (tokens : List T) (n len : ℕ) (over : length parts ≤ n) where
  -- no token is left
  pub none_left : length tokens ≤ len → option_map (joined found) (operands_at (map part (drop n parts)) (map text (drop len tokens))) ≡ Some found
  unfolding operands_at
  none_left all = rw (drop_all n parts over, drop_all len tokens all) (ap Some (joined_none found))

  -- a token is left
  pub some_left : len < length tokens → option_map (joined found) (operands_at (map part (drop n parts)) (map text (drop len tokens))) ≡ None
  unfolding operands_at
  some_left more = rw (drop_all n parts over) (left_over (drop len tokens) (omega (arith, length-drop len tokens)))
    where
      left_over : (rest : List T) → 0 < length rest → option_map (joined found) (operands_at [] (map text rest)) ≡ None
      left_over [] some = absurd (omega (arith, some))
      left_over (token ∷ rest) some = refl
