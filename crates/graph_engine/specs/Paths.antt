-- The part of a path that is still ahead. No public clause cites these.
use Rattle.std.specs.Prelude.{◌≡◌, ℕ, ◌+◌, ◌≤◌, List, [], ◌∷◌}
use Rattle.graph_engine.specs.Graph.{is_on, next_on}

-- each place is after the one before it, and the first is not before this one
abbrev pub Ascends : ℕ → List ℕ → Type 0
Ascends least [] = Unit {0}
Ascends least (place ∷ path) = (least ≤ place) × Ascends (place + 1) path

-- from a place on, the rest of a path is all of it
pub record IsAhead (path rest : List ℕ) (place : ℕ) : Type 0 where
  pub ascends : Ascends place rest
  pub on : (pc : ℕ) → place ≤ pc → is_on rest pc ≡ is_on path pc
  pub next : (pc : ℕ) → place ≤ pc → next_on rest pc ≡ next_on path pc
