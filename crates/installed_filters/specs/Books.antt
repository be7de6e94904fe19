-- What is counted of filters.
-- No public clause cites these.
use Rattle.std.specs.Prelude.{◌≡◌, ◌==◌, ◌&&◌, ◌<◌, ℕ, suc, Bool, true, false, cond, Option, Some, None, List, [], ◌∷◌, length}
use Rattle.bpf_insn.specs.declared.insn.Insn.{Insn}
use Rattle.chunked.specs.Maps.{SortedMap}
use Rattle.installed_filters.specs.declared.slots.Slot.{Slot}
use Rattle.installed_filters.specs.Slotting.{Slotting, slot_at, new_slot, HasOne, MayGo}
use Rattle.installed_filters.specs.Counts.{Reaching, HasRoom, counted, number_of, reach_at}
use Rattle.installed_filters.specs.declared.books.Row.{Row}

-- how many of the filters pass a test
abbrev pub tally : (Row → Bool) → List (ℕ × Row) → ℕ
tally p [] = 0
tally p (e ∷ rows) = cond (p e.1) (suc (tally p rows)) (tally p rows)

-- the filters and one more, whatever their order
abbrev pub Adds : List (ℕ × Row) → Row → List (ℕ × Row) → Type 0
Adds rows row after = (p : Row → Bool) → tally p after ≡ cond (p row) (suc (tally p rows)) (tally p rows)

-- the filter has the program with a number
abbrev pub has_number : ℕ → Row → Bool
has_number number row = row.number == number

-- and its capability is held
abbrev pub holds_number : ℕ → Row → Bool
holds_number number row = row.held && (row.number == number)

-- and it is for the endpoint
abbrev pub reaches_by : ℕ → ℕ → Row → Bool
reaches_by number endpoint row = row.held && ((row.number == number) && (row.endpoint == endpoint))

-- the capability isn't held any more
abbrev pub lapsed_row : Row → Row
lapsed_row row = record row { held = false }

-- a slot has the counts of its filters
abbrev pub IsTally : Option Slot → ℕ → ℕ → Type 0
IsTally None filters held = filters ≡ 0
IsTally (Some s) filters held = (s.filters ≡ filters) × (s.held ≡ held) × (0 < filters)

-- all filters are counted
pub record AreBooked (rows : List (ℕ × Row)) (slots : List (Option Slot)) (ends : List (SortedMap ℕ)) : Type 0 where
  pub filters : (number : ℕ) → IsTally (slot_at slots number) (tally (has_number number) rows) (tally (holds_number number) rows)
  pub reaches : (number endpoint : ℕ) → reach_at ends number endpoint ≡ counted (tally (reaches_by number endpoint) rows)
  pub apart : (i j : ℕ) (s t : Slot) → slot_at slots i ≡ Some s → slot_at slots j ≡ Some t → s.program ≡ t.program → i ≡ j
  pub inside : (number : ℕ) (s : Slot) → slot_at slots number ≡ Some s → (number < length slots) × (number < length ends)

-- the slot that a filter comes to: that of its number, or that of a program which none had before
abbrev pub base_slot : List (Option Slot) → ℕ → Option (List Insn) → Option Slot
base_slot slots number None = slot_at slots number
base_slot slots number (Some program) = Some (new_slot program)

-- a filter has the program already, or it is a new one at a number that is free
abbrev pub Begins : List (Option Slot) → ℕ → Option (List Insn) → Type 0
Begins slots number None = (s : Slot) × (slot_at slots number ≡ Some s)
Begins slots number (Some program) = (slot_at slots number ≡ None) × ((i : ℕ) (s : Slot) → slot_at slots i ≡ Some s → s.program ≡ program → ⊥)

-- a filter that comes takes no memory among the reaches
pub record HasReachRoom (reaching : Reaching) (row : Row) : Type 0 where
  pub room : row.held ≡ true → HasRoom reaching row.number row.endpoint
  pub fits : row.held ≡ true → number_of (reach_at reaching.ends row.number row.endpoint) < 4294967295

-- a filter is there to go, and takes no memory to do so
pub record IsTaken (slots : Slotting) (row : Row) : Type 0 where
  pub one : HasOne row.held (slot_at slots.slots row.number)
  pub room : MayGo slots.ready (slot_at slots.slots row.number)
