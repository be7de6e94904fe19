-- Entries in the order of their keys, as a list.
-- No public clause cites these.
use Rattle.std.specs.Prelude.{◌≡◌, ◌+◌, ◌<◌, ◌≤◌, ◌^◌, ℕ, List, [], ◌∷◌, true, Some, None, length, map, take, drop, slice_get, vec_len, vec_capacity}
use Rattle.std.specs.Global.{Vec}
use Rattle.chunked.specs.Chunks.{whole, before, chunk_at}
use Rattle.chunked.specs.Chunking.{Chunking}
use Rattle.chunked.specs.Maps.{value_at}

-- all keys are below one
abbrev pub AreBelow : {V : Type 0} → ℕ → List (ℕ × V) → Type 0
AreBelow key [] = Unit {0}
AreBelow key (e ∷ es) = (e.0 < key) × AreBelow key es

-- no key is below one
abbrev pub AreFrom : {V : Type 0} → ℕ → List (ℕ × V) → Type 0
AreFrom key [] = Unit {0}
AreFrom key (e ∷ es) = (key ≤ e.0) × AreFrom key es

-- each key is below all later ones
abbrev pub AreRising : {V : Type 0} → List (ℕ × V) → Type 0
AreRising [] = Unit {0}
AreRising (e ∷ es) = AreFrom (e.0 + 1) es × AreRising es

-- the place before which all keys are below one, and from which on none is
pub record IsCut {V : Type 0} (key : ℕ) (entries : List (ℕ × V)) (place : ℕ) : Type 0 where
  pub below : AreBelow key (take place entries)
  pub from : AreFrom key (drop place entries)

-- the first key of a chunk
abbrev pub first_key : {V : Type 0} → List (ℕ × V) → ℕ
first_key [] = 0
first_key (e ∷ es) = e.0

-- what is true of the first keys that a map keeps beside its chunks
pub record AreFirsts {V : Type 0} (chunks : Chunking (ℕ × V)) (firsts : Vec ℕ) (total : ℕ) : Type 0 where
  pub keys : firsts.items ≡ map first_key chunks.chunks
  pub rising : AreRising (whole chunks.chunks)
  pub count : total ≡ length (whole chunks.chunks)
  pub fits : total < 2 ^ 64
  pub room : chunks.ready ≡ true → vec_len firsts < vec_capacity firsts
  pub more : chunks.ready ≡ true → total + 1 < 2 ^ 64

-- where a key may be
pub record IsPlace {V : Type 0} (cs : List (List (ℕ × V))) (i off key : ℕ) : Type 0 where
  pub inside : i < length cs
  pub offset : off ≤ length (chunk_at cs i)
  pub cut : IsCut key (whole cs) (before cs i + off)
  pub past : off ≡ length (chunk_at cs i) → value_at (whole cs) key ≡ None

-- where a key is
pub record IsFound {V : Type 0} (cs : List (List (ℕ × V))) (i off key : ℕ) : Type 0 where
  pub place : IsPlace cs i off key
  pub inside : off < length (chunk_at cs i)
  pub entry : (e : ℕ × V) → slice_get (chunk_at cs i) off ≡ Some e → e.0 ≡ key
