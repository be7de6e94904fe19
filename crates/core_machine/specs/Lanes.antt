-- Items with the numbers of their cores, and lanes of items, one for each core.
use Rattle.std.specs.Prelude.{◌≡◌, ◌==◌, ℕ, List, [], ◌∷◌, Some, slice_get, if◌then◌else◌}
use Rattle.std.specs.Global.{Global}
use Rattle.std.specs.declared.collections.VecDeque.{VecDeque}
use Rattle.std.specs.List.{flat_map}

-- the items of a core, in order
abbrev pub items_for : {T : Type 0} → ℕ → List (ℕ × T) → List T
items_for core items = flat_map (λ i. if i.0 == core then i.1 ∷ [] else []) items

-- each lane has the items of its core
abbrev pub AreLanes : {T : Type 0} → List (ℕ × T) → List (VecDeque T Global) → Type 0
AreLanes {T} items lanes = (core : ℕ) (lane : VecDeque T Global) → slice_get lanes core ≡ Some lane → lane.items ≡ items_for core items
