-- How many filters with which program have which endpoint.
-- No public clause cites these.
use Rattle.std.specs.Prelude.{◌≡◌, ◌+◌, ◌*◌, ◌/◌, ◌%◌, ◌<◌, ◌≤◌, ℕ, zero, suc, Bool, true, false, IsTrue, Option, Some, None, is_some, List, [], ◌∷◌, length, slice_get, slice_index_or}
use Rattle.std.specs.Box.{box_value}
use Rattle.chunked.specs.Maps.{SortedMap, value_at}
use Rattle.filter_group.specs.declared.lockstep.Hit.{Hit}
use Rattle.installed_filters.specs.declared.endpoints.Held.{Held}
use Rattle.installed_filters.specs.declared.endpoints.Held.TheVariants.{Nothing, One, Many}

-- a count as the value of an entry; a count of 0 has no entry
abbrev pub counted : ℕ → Option ℕ
counted zero = None
counted (suc n) = Some (suc n)

abbrev pub number_of : Option ℕ → ℕ
number_of None = 0
number_of (Some n) = n

-- One program

-- no endpoint has a filter; there is room for one
abbrev pub no_counts : SortedMap ℕ
no_counts = record { entries = []; ready = true }

abbrev pub counts_in : Held → SortedMap ℕ
counts_in Nothing = no_counts
counts_in (One endpoint count) = record { entries = (endpoint, count) ∷ []; ready = false }
counts_in (Many all) = box_value all

-- the endpoints have 16 bits
abbrev pub AreSmall : List (ℕ × ℕ) → Type 0
AreSmall entries = (endpoint : ℕ) → is_some (value_at entries endpoint) ≡ true → endpoint < 65536

-- one filter more of the endpoint takes no memory
abbrev pub HasRoomFor : SortedMap ℕ → ℕ → Type 0
HasRoomFor counts endpoint = value_at counts.entries endpoint ≡ None → IsTrue counts.ready

-- All programs

-- of each number its program's endpoints, and whether one endpoint more takes no memory
pub record Reaching : Type 0 where
  pub ends : List (SortedMap ℕ)
  pub ready : Bool

abbrev pub ends_at : List (SortedMap ℕ) → ℕ → SortedMap ℕ
ends_at ends number = slice_index_or ends number no_counts

-- how many filters with the program have the endpoint, as the value of an entry
abbrev pub reach_at : List (SortedMap ℕ) → ℕ → ℕ → Option ℕ
reach_at ends number endpoint = value_at (ends_at ends number).entries endpoint

-- one filter more with the program and of the endpoint takes no memory
pub record HasRoom (reaching : Reaching) (number endpoint : ℕ) : Type 0 where
  pub own : HasRoomFor (ends_at reaching.ends number) endpoint
  pub order : reach_at reaching.ends number endpoint ≡ None → IsTrue reaching.ready

-- how many numbers there may be
unfoldable pub numbers : ℕ
numbers = 4294967296

-- an endpoint of a number, as one number
abbrev pub reach_key : ℕ → ℕ → ℕ
reach_key endpoint number = endpoint * numbers + number

-- such a number is that of an endpoint that has a filter
abbrev pub is_reach_key : List (SortedMap ℕ) → ℕ → Bool
is_reach_key ends key = is_some (reach_at ends (key % numbers) (key / numbers))

-- the endpoints of all numbers in one list
pub record AreIndexed {V : Type 0} (ends : List (SortedMap ℕ)) (order : List (ℕ × V)) : Type 0 where
  pub each : (key : ℕ) → is_some (value_at order key) ≡ is_reach_key ends key
  pub small : (number endpoint : ℕ) → is_some (reach_at ends number endpoint) ≡ true → endpoint < 65536
  pub few : length ends ≤ numbers

-- keys of endpoints and of so many numbers
abbrev pub AreReachKeys : {V : Type 0} → ℕ → List (ℕ × V) → Type 0
AreReachKeys count order = (key : ℕ) → is_some (value_at order key) ≡ true → (key % numbers < count) × (key / numbers < 65536)

-- the programs of the hits have numbers
abbrev pub AreWithin : List (SortedMap ℕ) → List Hit → Type 0
AreWithin ends hits = (i : ℕ) (hit : Hit) → slice_get hits i ≡ Some hit → hit.member < length ends
