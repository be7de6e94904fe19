-- Lists that lie in blocks.
-- No public clause cites these.
use Rattle.std.specs.Prelude.{◌≡◌, ◌+◌, ◌*◌, ◌<◌, ◌≤◌, ◌++◌, ◌^◌, ℕ, List, [], ◌∷◌, Bool, true, length, take, drop, reverse, slice_index_or, vec_len, vec_capacity}
use Rattle.std.specs.List.{All, flat_map}
use Rattle.std.specs.Global.{Vec}

-- the items of a ring, from the one at its head on
abbrev pub from_head : {T : Type 0} → List T → ℕ → List T
from_head items head = drop head items ++ take head items

-- what is true of the items and the head of a block
pub record IsRing {T : Type 0} (items : Vec T) (head : ℕ) : Type 0 where
  pub most : length items.items ≤ 2048
  pub inside : head < 2048
  pub straight : 0 < head → length items.items ≡ 2048
  pub room : 2048 ≤ vec_capacity items

-- each block has 2,048 items
abbrev pub AreFull : {T : Type 0} → List (List T) → Type 0
AreFull blocks = All (λ b. length b ≡ 2048) blocks

-- the block at a place among the blocks
abbrev pub block_at : {T : Type 0} → List (List T) → ℕ → List T
block_at blocks i = slice_index_or blocks i []

-- all items, block after block
abbrev pub whole : {T : Type 0} → List (List T) → List T
whole blocks = flat_map (λ b. b) blocks

-- all items, and one more that stands before those of a block
abbrev pub with_before : {T : Type 0} → List (List T) → ℕ → T → List T
with_before blocks i item = whole (take i blocks) ++ item ∷ whole (drop i blocks)

-- all items of a list in tiers: those after blocks lie in reverse, so that the first of them is the last of their vector
abbrev pub all_of : {T : Type 0} → List (List T) → List T → List T
all_of [] last = last
all_of (b ∷ bs) last = whole (b ∷ bs) ++ reverse last

-- full blocks and the items after them: at most a block's, and in memory for so many where there are blocks
pub record AreTiers {T : Type 0} (blocks : List (List T)) (last : Vec T) : Type 0 where
  pub full : AreFull blocks
  pub most : length last.items ≤ 2048
  pub wide : 0 < length blocks → 2048 ≤ vec_capacity last

-- memory for one item more: in the vector of a short list, or else for one block more, with the spare memory for the items after it
pub record HasRoom {T : Type 0} (blocks : Vec (List T)) (last spare : Vec T) : Type 0 where
  pub short : length blocks.items ≡ 0 → length last.items < 2048 → vec_len last < vec_capacity last
  pub next : 2048 ≤ 2048 * length blocks.items + length last.items → vec_len blocks < vec_capacity blocks
  pub block : 2048 ≤ 2048 * length blocks.items + length last.items → 2048 ≤ vec_capacity spare

-- what is true of the vectors of a list in tiers: the items of one block alone don't lie in it
pub record AreKept {T : Type 0} (blocks : Vec (List T)) (last spare : Vec T) (total : ℕ) (ready : Bool) : Type 0 where
  pub tiers : AreTiers blocks.items last
  pub single : length blocks.items ≡ 1 → 0 < length last.items
  pub count : total ≡ length (all_of blocks.items last.items)
  pub few : total ≤ 2 ^ 62
  pub empty : spare.items ≡ []
  pub room : ready ≡ true → HasRoom blocks last spare
  pub more : ready ≡ true → total < 2 ^ 62
