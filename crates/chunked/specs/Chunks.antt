-- Lists that lie in chunks.
-- No public clause cites these.
use Rattle.std.specs.Prelude.{◌≡◌, ◌+◌, ◌<◌, ◌≤◌, ◌++◌, ◌⊎◌, ℕ, List, [], ◌∷◌, Bool, true, false, length, map, take, suc, slice_set, slice_index_or, vec_len, vec_capacity}
use Rattle.std.specs.List.{All, flat_map, insert, remove}
use Rattle.std.specs.Global.{Vec}
use Rattle.chunked.specs.declared.settling.Shape.{Shape}
use Rattle.chunked.specs.declared.settling.Shape.TheVariants.{Same, Gone, Joined}

-- all items, chunk after chunk
abbrev pub whole : {T : Type 0} → List (List T) → List T
whole chunks = flat_map (λ c. c) chunks

-- the chunk at a place among the chunks
abbrev pub chunk_at : {T : Type 0} → List (List T) → ℕ → List T
chunk_at chunks i = slice_index_or chunks i []

-- how many items lie before a chunk
abbrev pub before : {T : Type 0} → List (List T) → ℕ → ℕ
before chunks i = length (whole (take i chunks))

-- the items of each vector
abbrev pub lists : {T : Type 0} → List (Vec T) → List (List T)
lists chunks = map (λ c. c.items) chunks

-- how many items a vector has memory for
abbrev pub room_at : {T : Type 0} → List (Vec T) → ℕ → ℕ
room_at chunks i = slice_index_or (map (λ c. vec_capacity c) chunks) i 0

-- each vector has memory for so many items
abbrev pub AreWide : {T : Type 0} → ℕ → List (Vec T) → Type 0
AreWide n chunks = All (λ c. n ≤ vec_capacity c) chunks

-- a chunk has an item, and at most 128
pub record IsFilled {T : Type 0} (c : List T) : Type 0 where
  pub some : 0 < length c
  pub most : length c ≤ 128

-- a chunk and the next one have more than half a chunk together
abbrev pub IsApart : {T : Type 0} → List T → List (List T) → Type 0
IsApart c [] = Unit {0}
IsApart c (d ∷ ds) = 64 < length c + length d

-- so has each chunk
abbrev pub AreApart : {T : Type 0} → List (List T) → Type 0
AreApart [] = Unit {0}
AreApart (c ∷ cs) = IsApart c cs × AreApart cs

-- a full chunk is parted in two, of which one gets an item
pub record IsParted {T : Type 0} (old new : List (List T)) (i offset : ℕ) (item : T) : Type 0 where
  pub front : List T
  pub back : List T
  pub chunks : new ≡ insert (slice_set old i front) (suc i) back
  pub items : front ++ back ≡ insert (chunk_at old i) offset item
  pub front_filled : IsFilled front
  pub back_filled : IsFilled back
  pub front_half : 64 ≤ length front
  pub back_half : suc i < length old → 64 ≤ length back

-- a chunk that isn't empty has more than half a chunk together with each neighbour
pub record StandsApart {T : Type 0} (chunks : List (List T)) (i : ℕ) : Type 0 where
  pub some : 0 < length (chunk_at chunks i)
  pub next : suc i < length chunks → 64 < length (chunk_at chunks i) + length (chunk_at chunks (suc i))
  pub previous : (j : ℕ) → suc j ≡ i → 64 < length (chunk_at chunks j) + length (chunk_at chunks i)

-- two neighbours, one of which is this chunk, are joined, since they have at most half a chunk together
pub record AreJoined {T : Type 0} (old : List (List T)) (i j : ℕ) (new : List (List T)) : Type 0 where
  pub inside : suc j < length old
  pub near : (j ≡ i) ⊎ (suc j ≡ i)
  pub few : length (chunk_at old j) + length (chunk_at old (suc j)) ≤ 64
  pub some : 0 < length (chunk_at old i)
  pub chunks : new ≡ slice_set (remove old (suc j)) j (chunk_at old j ++ chunk_at old (suc j))

-- a chunk that may have too few items is joined with a neighbour, or left out where it has none
abbrev pub IsSettled : {T : Type 0} → List (List T) → ℕ → Shape → List (List T) → Type 0
IsSettled old i Same new = (new ≡ old) × StandsApart old i
IsSettled old i Gone new = (new ≡ remove old i) × (chunk_at old i ≡ [])
IsSettled old i (Joined j) new = AreJoined old i j new

-- a chunk that lost an item, or its neighbour, is joined with the next one
pub record IsJoined {T : Type 0} (old : List (List T)) (i j : ℕ) (new : List (List T)) : Type 0 where
  pub inside : suc j < length old
  pub near : (j ≡ i) ⊎ (suc j ≡ i)
  pub count : length (chunk_at new j) + 1 ≡ length (chunk_at old j) + length (chunk_at old (suc j))
  pub chunks : new ≡ slice_set (remove old (suc j)) j (chunk_at new j)

-- how the chunks changed as one of them lost an item
abbrev pub IsShrunk : {T : Type 0} → List (List T) → ℕ → Shape → List (List T) → Type 0
IsShrunk old i Same new = (new ≡ slice_set old i (chunk_at new i)) × (length (chunk_at new i) + 1 ≡ length (chunk_at old i))
IsShrunk old i Gone new = (new ≡ remove old i) × (length (chunk_at old i) ≡ 1)
IsShrunk old i (Joined j) new = IsJoined old i j new

-- a chunk got an item
pub record IsLonger {T : Type 0} (old : List (List T)) (i : ℕ) (new : List (List T)) : Type 0 where
  pub chunks : new ≡ slice_set old i (chunk_at new i)
  pub count : length (chunk_at new i) ≡ length (chunk_at old i) + 1

-- two chunks stand for one, and have an item more
pub record IsReplacedByTwo {T : Type 0} (old : List (List T)) (i : ℕ) (new : List (List T)) : Type 0 where
  pub chunks : new ≡ insert (slice_set old i (chunk_at new i)) (suc i) (chunk_at new (suc i))
  pub count : length (chunk_at new i) + length (chunk_at new (suc i)) ≡ length (chunk_at old i) + 1

-- how the chunks changed as one of them got an item, and perhaps was parted
abbrev pub IsGrown : {T : Type 0} → List (List T) → ℕ → Bool → List (List T) → Type 0
IsGrown old i false new = IsLonger old i new
IsGrown old i true new = IsReplacedByTwo old i new

-- memory for one more item at any place: for the chunk alone, or for a chunk more
pub record HasRoom {T : Type 0} (chunks : Vec (Vec T)) (spare : Vec T) : Type 0 where
  pub next : vec_len chunks < vec_capacity chunks
  pub first : length chunks.items ≡ 0 → 1 ≤ vec_capacity spare
  pub alone : length chunks.items ≡ 1 → length (chunk_at (lists chunks.items) 0) < 128 → length (chunk_at (lists chunks.items) 0) < room_at chunks.items 0
  pub full : length chunks.items ≡ 1 → 128 ≤ length (chunk_at (lists chunks.items) 0) → 128 ≤ vec_capacity spare
  pub more : 1 < length chunks.items → 128 ≤ vec_capacity spare

-- what is true of the vectors of a list in chunks
pub record AreKept {T : Type 0} (chunks : Vec (Vec T)) (spare : Vec T) (ready : Bool) : Type 0 where
  pub filled : All IsFilled (lists chunks.items)
  pub apart : AreApart (lists chunks.items)
  pub wide : 1 < length chunks.items → AreWide 128 chunks.items
  pub empty : spare.items ≡ []
  pub room : ready ≡ true → HasRoom chunks spare
