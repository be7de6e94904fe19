-- The programs once a filter goes.
-- No public clause cites these.
use Rattle.std.specs.Prelude.{◌≡◌, ◌==◌, ◌+◌, ◌<◌, ◌≤◌, ℕ, Bool, true, false, not, Option, Some, None, List, if◌then◌else◌}
use Rattle.installed_filters.specs.declared.slots.Slot.{Slot}
use Rattle.installed_filters.specs.Slotting.{slot_at, one, one_less}
use Rattle.installed_filters.specs.declared.books.Row.{Row}

-- the slots without the filter
abbrev pub slots_without : List (Option Slot) → Row → ℕ → Option Slot
slots_without slots row m = (if m == row.number then one_less row.held (slot_at slots row.number) else slot_at slots m)

-- a filter whose capability is held, or isn't, is one of those that the slot counts
abbrev pub IsOneOf : Option Slot → Bool → Type 0
IsOneOf None held = ⊥
IsOneOf (Some s) held = (one held ≤ s.held) × (s.held + one (not held) ≤ s.filters) × (0 < s.filters)

-- the program goes to rest with a filter that goes: its capability is held, and no other filter with the program has that
abbrev pub GoesToRest : Bool → Option Slot → Type 0
GoesToRest held None = ⊥
GoesToRest held (Some s) = (held ≡ true) × (s.held ≡ 1) × (1 < s.filters)

-- the program stops with a filter that goes: it runs for this one alone
abbrev pub Stops : Bool → Option Slot → Type 0
Stops held None = ⊥
Stops held (Some s) = (held ≡ true) × (s.held ≡ 1)

-- the program rests, and goes with its only filter
abbrev pub Vanishes : Bool → Option Slot → Type 0
Vanishes held None = ⊥
Vanishes held (Some s) = (held ≡ false) × (s.filters ≡ 1)
