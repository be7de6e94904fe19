-- How the filters are kept, and what is ready for a change that is planned.
-- No public clause cites these.
use Rattle.std.specs.Prelude.{◌≡◌, ◌==◌, ◌<◌, ◌++◌, ◌∷◌, [], ℕ, true, not, Option, Some, None, List, IsTrue, if◌then◌else◌, filter, length, map}
use Rattle.std.specs.List.{Contains}
use Rattle.bpf_insn.specs.declared.insn.Insn.{Insn}
use Rattle.chunked.specs.Maps.{SortedMap, value_at}
use Rattle.installed_filters.specs.declared.slots.Slot.{Slot}
use Rattle.installed_filters.specs.Slotting.{Slotting, slot_at, HasRoomIn, MayGo, one_less, one_more}
use Rattle.installed_filters.specs.Counts.{Reaching}
use Rattle.installed_filters.specs.declared.books.Row.{Row}
use Rattle.installed_filters.specs.declared.lists.Lists.{Lists}
use Rattle.installed_filters.specs.declared.changes.Change.{Change}
use Rattle.installed_filters.specs.declared.changes.Change.TheVariants.{Install, Remove, Replace, Lapse, Stay}
use Rattle.installed_filters.specs.Books.{AreBooked, Begins, HasReachRoom, base_slot}
use Rattle.installed_filters.specs.Listing.{AreListedFor}
use Rattle.installed_filters.specs.Homes.{program_in, slots_with}
use Rattle.installed_filters.specs.Leaving.{IsOneOf, slots_without}
use Rattle.installed_filters.specs.Lapsing.{AreHeldRows, AreOfHeld, slots_lapsed}
use Rattle.installed_filters.specs.Installed.{Installed, installed, lapsed_by, replaced_by, with_program}

-- the keys of rows are ids
abbrev pub AreIds : List (ℕ × Row) → Type 0
AreIds rows = (e : ℕ × Row) → Contains rows e → e.0 < 4294967296

-- the filters after a change
abbrev pub next_of : List (Option Slot) → List (ℕ × Row) → Option Change → Option (List Installed)
next_of slots rows None = None
next_of slots rows (Some (Install id row program)) = Some (installed slots rows ++ with_program (program_in (base_slot slots row.number program)) id row ∷ [])
next_of slots rows (Some (Remove id row)) = Some (filter (λ f. not (f.filter.id == id)) (installed slots rows))
next_of slots rows (Some (Replace id old row program)) = Some (map (replaced_by id (program_in (base_slot slots row.number program))) (installed slots rows))
next_of slots rows (Some (Lapse lapsing)) = Some (map (lapsed_by lapsing.items) (installed slots rows))
next_of slots rows (Some Stay) = Some (installed slots rows)

-- the slots once a filter got another program
abbrev pub slots_swapped : List (Option Slot) → Row → Row → Option (List Insn) → ℕ → Option Slot
slots_swapped slots old row program m =
    (if m == row.number then one_more row.held (base_slot slots row.number program) else (if m == old.number then one_less old.held (slot_at slots old.number) else slot_at slots m))

-- the slots after a change
abbrev pub slots_next : List (Option Slot) → Option Change → ℕ → Option Slot
slots_next slots None = slot_at slots
slots_next slots (Some (Install id row program)) = slots_with slots row.number program
slots_next slots (Some (Remove id row)) = slots_without slots row
slots_next slots (Some (Replace id old row program)) = slots_swapped slots old row program
slots_next slots (Some (Lapse lapsing)) = slots_lapsed slots lapsing.items
slots_next slots (Some Stay) = slot_at slots

-- all is counted, and the lists have what is needed now or after the change
pub record IsKept (rows : List (ℕ × Row)) (slots : List (Option Slot)) (ends : List (SortedMap ℕ)) (lists : Lists) (change : Option Change) : Type 0 where
  pub booked : AreBooked rows slots ends
  pub listed : AreListedFor (slot_at slots) (slots_next slots change) lists.running lists.resting
  pub ids : AreIds rows

-- a filter may get another program
pub record IsReadyToSwap (rows : SortedMap Row) (slots : Slotting) (reaching : Reaching) (id : ℕ) (old row : Row) (program : Option (List Insn)) : Type 0 where
  pub there : value_at rows.entries id ≡ Some old
  pub other : old.number ≡ row.number → ⊥
  pub held : old.held ≡ true
  pub same : row ≡ record old { number = row.number }
  pub begins : Begins slots.slots row.number program
  pub room : HasRoomIn (base_slot slots.slots row.number program)
  pub slot : row.number < length slots.slots
  pub number : row.number < length reaching.ends
  pub reach : HasReachRoom reaching row
  pub go : MayGo slots.ready (slot_at slots.slots old.number)

-- a filter may come
pub record IsReadyToCome (rows : SortedMap Row) (slots : Slotting) (reaching : Reaching) (id : ℕ) (row : Row) (program : Option (List Insn)) : Type 0 where
  pub ready : IsTrue rows.ready
  pub last : (e : ℕ × Row) → Contains rows.entries e → e.0 < id
  pub below : id < 4294967296
  pub held : row.held ≡ true
  pub begins : Begins slots.slots row.number program
  pub room : HasRoomIn (base_slot slots.slots row.number program)
  pub slot : row.number < length slots.slots
  pub number : row.number < length reaching.ends
  pub reach : HasReachRoom reaching row

-- a filter may go
pub record IsReadyToGo (rows : SortedMap Row) (slots : Slotting) (id : ℕ) (row : Row) : Type 0 where
  pub there : value_at rows.entries id ≡ Some row
  pub room : MayGo slots.ready (slot_at slots.slots row.number)

-- the slots are there that filters come to and leave
abbrev pub HasSlots : List (Option Slot) → Option Change → Type 0
HasSlots slots None = Unit {0}
HasSlots slots (Some (Install id row program)) = Begins slots row.number program
HasSlots slots (Some (Remove id row)) = IsOneOf (slot_at slots row.number) row.held
HasSlots slots (Some (Replace id old row program)) =
    Begins slots row.number program × IsOneOf (slot_at slots old.number) old.held × (old.number ≡ row.number → ⊥) × (row.held ≡ true) × (row.number < length slots)
HasSlots slots (Some (Lapse lapsing)) = AreOfHeld slots lapsing.items
HasSlots slots (Some Stay) = Unit {0}

-- what is planned is ready
abbrev pub IsPlanned : SortedMap Row → Slotting → Reaching → Option Change → Type 0
IsPlanned rows slots reaching None = Unit {0}
IsPlanned rows slots reaching (Some (Install id row program)) = IsReadyToCome rows slots reaching id row program
IsPlanned rows slots reaching (Some (Remove id row)) = IsReadyToGo rows slots id row
IsPlanned rows slots reaching (Some (Replace id old row program)) = IsReadyToSwap rows slots reaching id old row program
IsPlanned rows slots reaching (Some (Lapse lapsing)) = AreHeldRows rows.entries lapsing.items
IsPlanned rows slots reaching (Some Stay) = Unit {0}
