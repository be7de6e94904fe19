-- Which filters were installed under which capability.
-- No public clause cites these.
use Rattle.std.specs.Prelude.{◌≡◌, ◌==◌, ◌&&◌, ◌+◌, ◌*◌, ◌/◌, ◌%◌, ◌<◌, ℕ, Bool, true, false, Option, Some, None, is_some, List, if◌then◌else◌}
use Rattle.chunked.specs.Maps.{value_at}
use Rattle.installed_filters.specs.declared.books.Row.{Row}

-- how many ids there may be, of filters and of capabilities
unfoldable pub ids : ℕ
ids = 4294967296

-- a filter under its capability, as one number
abbrev pub under_key : ℕ → ℕ → ℕ
under_key cap id = cap * ids + id

-- the filter is there, and under the capability
abbrev pub is_under : ℕ → Option Row → Bool
is_under cap None = false
is_under cap (Some row) = row.cap == cap

-- the filter is there, and its capability is held
abbrev pub is_held : Option Row → Bool
is_held None = false
is_held (Some row) = row.held

abbrev pub is_held_under : ℕ → Option Row → Bool
is_held_under cap row = is_held row && is_under cap row

-- such a number is that of a filter and its capability
abbrev pub is_under_key : List (ℕ × Row) → ℕ → Bool
is_under_key rows key = is_under (key / ids) (value_at rows (key % ids))

-- each filter under its capability in one list
pub record AreUnder {V : Type 0} (rows : List (ℕ × Row)) (under : List (ℕ × V)) : Type 0 where
  pub each : (key : ℕ) → is_some (value_at under key) ≡ is_under_key rows key
  pub small : (id : ℕ) (row : Row) → value_at rows id ≡ Some row → (id < ids) × (row.cap < ids)

-- the held filters under a capability have no entries
abbrev pub LacksHeld : ℕ → List (ℕ × Row) → List (ℕ × Row) → Type 0
LacksHeld cap rows entries = (id : ℕ) → is_held_under cap (value_at rows id) ≡ true → value_at entries id ≡ None

-- the held filters under a capability get entries, and no others do
abbrev pub AddsHeld : ℕ → List (ℕ × Row) → List (ℕ × Row) → List (ℕ × Row) → Type 0
AddsHeld cap rows old new = (id : ℕ) → value_at new id ≡ (if is_held_under cap (value_at rows id) then value_at rows id else value_at old id)
