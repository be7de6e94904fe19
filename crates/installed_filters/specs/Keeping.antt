-- How much of a packet which endpoints keep.
-- No public clause cites these.
use Rattle.std.specs.Prelude.{◌≡◌, ◌<◌, ◌≤◌, ◌↔◌, ◌%◌, ◌/◌, ◌++◌, ℕ, true, Some, is_some, min, map, List, [], ◌∷◌, slice_get, slice_index}
use Rattle.std.specs.List.{Contains}
use Rattle.chunked.specs.Maps.{SortedMap, value_at}
use Rattle.filter_group.specs.declared.lockstep.Hit.{Hit}
use Rattle.filter_table.specs.declared.delivery.Kept.{Kept}
use Rattle.filter_table.specs.Tables.{IsIncreasing}
use Rattle.filter_table.specs.Raising.{at_endpoint}
use Rattle.installed_filters.specs.Counts.{numbers, ends_at, reach_at}

-- the endpoint keeps so many bytes: as many as the greatest verdict by which it gets the packet says, at most the captured ones
pub record Keeps (gets : ℕ → ℕ → Type 0) (captured endpoint bytes : ℕ) : Type 0 where
  pub greatest : ℕ
  pub is_one : gets endpoint greatest
  pub above_all : (verdict : ℕ) → gets endpoint verdict → verdict ≤ greatest
  pub is_kept : bytes ≡ min greatest captured

-- the list has the endpoints that get the packet, and what each keeps
pub record AreKept (gets : ℕ → ℕ → Type 0) (captured : ℕ) (kept : List Kept) : Type 0 where
  pub increasing : IsIncreasing kept
  pub each : (endpoint bytes : ℕ) → Contains kept (at_endpoint endpoint bytes) ↔ Keeps gets captured endpoint bytes
  pub all : (endpoint verdict : ℕ) → gets endpoint verdict → (bytes : ℕ) × Contains kept (at_endpoint endpoint bytes)

-- a filter of the endpoint has a program that passes the packet with this verdict
abbrev pub GetsBy : List (SortedMap ℕ) → List Hit → ℕ → ℕ → Type 0
GetsBy ends hits endpoint verdict = (hit : Hit) × Contains hits hit × (is_some (reach_at ends hit.member endpoint) ≡ true) × (hit.verdict ≡ verdict)

-- each hit is of another program, and passes the packet
pub record AreApart (hits : List Hit) : Type 0 where
  pub once : (i j : ℕ) (a b : Hit) → slice_get hits i ≡ Some a → slice_get hits j ≡ Some b → a.member ≡ b.member → i ≡ j
  pub above : (i : ℕ) (hit : Hit) → slice_get hits i ≡ Some hit → 0 < hit.verdict

-- the verdicts of the first hits are noted; all others are 0
pub record AreNoted (hits : List Hit) (index : ℕ) (verdicts : List ℕ) : Type 0 where
  pub noted : (number verdict : ℕ) → 0 < verdict → slice_index verdicts number ≡ verdict → (i : ℕ) × (hit : Hit) × (i < index) × (slice_get hits i ≡ Some hit) × (hit.member ≡ number) × (hit.verdict ≡ verdict)
  pub all : (i : ℕ) (hit : Hit) → i < index → slice_get hits i ≡ Some hit → slice_index verdicts hit.member ≡ hit.verdict

-- the endpoint is one of a number with this verdict
abbrev pub GetsNoted : {V : Type 0} → List (ℕ × V) → List ℕ → ℕ → ℕ → Type 0
GetsNoted order verdicts endpoint verdict = (key : ℕ) × (is_some (value_at order key) ≡ true) × (key / numbers ≡ endpoint) × (slice_index verdicts (key % numbers) ≡ verdict) × (0 < verdict)

-- The raises of a packet, each an endpoint and a verdict by which it gets the packet

abbrev pub IsRaised : List Kept → ℕ → ℕ → Type 0
IsRaised raises endpoint verdict = Contains raises (at_endpoint endpoint verdict)

-- by one of the first raises
abbrev pub IsRaisedBefore : List Kept → ℕ → ℕ → ℕ → Type 0
IsRaisedBefore raises index endpoint verdict = (i : ℕ) × (i < index) × (slice_get raises i ≡ Some (at_endpoint endpoint verdict))

-- each endpoint of one program
abbrev pub raises_of : List (ℕ × ℕ) → ℕ → List Kept
raises_of entries verdict = map (λ e. at_endpoint e.0 verdict) entries

-- those of all hits
abbrev pub raises_by : List (SortedMap ℕ) → List Hit → List Kept
raises_by ends [] = []
raises_by ends (hit ∷ hits) = raises_of (ends_at ends hit.member).entries hit.verdict ++ raises_by ends hits
