-- Filters whose capability isn't held any more.
-- No public clause cites these.
use Rattle.std.specs.Prelude.{◌≡◌, ◌&&◌, ◌-◌, ◌<◌, ◌≤◌, ◌⊎◌, ℕ, Bool, true, Option, Some, None, is_some, List}
use Rattle.std.specs.List.{Contains}
use Rattle.std.specs.List.Sorted.{IsStrictlyIncreasing}
use Rattle.std.specs.Map.{keys_of}
use Rattle.chunked.specs.Maps.{value_at}
use Rattle.installed_filters.specs.declared.slots.Slot.{Slot}
use Rattle.installed_filters.specs.Slotting.{slot_at}
use Rattle.installed_filters.specs.Counts.{number_of}
use Rattle.bpf_insn.specs.declared.insn.Insn.{Insn}
use Rattle.installed_filters.specs.declared.books.Row.{Row}
use Rattle.installed_filters.specs.Books.{tally, has_number}
use Rattle.installed_filters.specs.Homes.{program_in}
use Rattle.installed_filters.specs.Listing.{Rests}
use Rattle.installed_filters.specs.Numbering.{Numbering, Has}

-- the filter's capability is held, and goes with these
abbrev pub lapses : {V : Type 0} → List (ℕ × V) → Row → Bool
lapses gone row = row.held && is_some (value_at gone row.cap)

-- filters with their ids, in order, each of which is held
pub record AreHeldRows (rows lapsing : List (ℕ × Row)) : Type 0 where
  pub there : (e : ℕ × Row) → Contains lapsing e → value_at rows e.0 ≡ Some e.1
  pub held : (e : ℕ × Row) → Contains lapsing e → e.1.held ≡ true
  pub order : IsStrictlyIncreasing (keys_of lapsing)

-- a slot once so many of its filters aren't held any more
abbrev pub fewer_held : ℕ → Option Slot → Option Slot
fewer_held count None = None
fewer_held count (Some s) = Some (record s { held = s.held - count })

-- the slots once these filters lapsed
abbrev pub slots_lapsed : List (Option Slot) → List (ℕ × Row) → ℕ → Option Slot
slots_lapsed slots lapsing m = fewer_held (tally (has_number m) lapsing) (slot_at slots m)

-- the slots once of each number so many filters lapsed
abbrev pub slots_counted : List (Option Slot) → List (ℕ × ℕ) → ℕ → Option Slot
slots_counted slots counts m = fewer_held (number_of (value_at counts m)) (slot_at slots m)

-- more filters of a slot are held than so many
abbrev pub HoldsMore : Option Slot → ℕ → Type 0
HoldsMore slot count = (s : Slot) × (slot ≡ Some s) × (count < s.held)

-- each filter is one of those that its slot counts as held
abbrev pub AreCountedHeld : List (Option Slot) → List (ℕ × Row) → Type 0
AreCountedHeld slots lapsing = (e : ℕ × Row) → Contains lapsing e → (s : Slot) × (slot_at slots e.1.number ≡ Some s) × (tally (has_number e.1.number) lapsing ≤ s.held)

-- the program of a number that one of these filters has
abbrev pub IsOfOne : List (Option Slot) → List (ℕ × Row) → ℕ → List Insn → Type 0
IsOfOne slots lapsing number program = (e : ℕ × Row) × Contains lapsing e × (e.1.number ≡ number) × (program_in (slot_at slots number) ≡ program)

-- the programs that rest are listed, and maybe some that these filters have
pub record AreRestingOr (slots : List (Option Slot)) (lapsing : List (ℕ × Row)) (resting : Numbering) : Type 0 where
  pub all : (number : ℕ) (program : List Insn) → Rests (slot_at slots) number program → Has resting number program
  pub others : (number : ℕ) (program : List Insn) → Has resting number program → Rests (slot_at slots) number program ⊎ IsOfOne slots lapsing number program

-- the program of each of these filters runs
abbrev pub AreOfHeld : List (Option Slot) → List (ℕ × Row) → Type 0
AreOfHeld slots lapsing = (e : ℕ × Row) → Contains lapsing e → (s : Slot) × (slot_at slots e.1.number ≡ Some s) × (0 < s.held)

-- the slot's program has no filter whose capability is held
abbrev pub IsUnheld : Option Slot → Type 0
IsUnheld None = ⊥
IsUnheld (Some s) = s.held ≡ 0
