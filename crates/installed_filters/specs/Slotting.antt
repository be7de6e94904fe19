-- Of each number its program, and how many filters have it.
-- No public clause cites these.
use Rattle.std.specs.Prelude.{◌≡◌, ◌+◌, ◌-◌, ◌<◌, ◌≤◌, ℕ, Bool, true, false, IsTrue, Option, Some, None, is_some, List, length, ltb, slice_index_or, ◌==◌, if◌then◌else◌}
use Rattle.bpf_insn.specs.declared.insn.Insn.{Insn}
use Rattle.chunked.specs.Maps.{value_at}
use Rattle.installed_filters.specs.declared.slots.Slot.{Slot}

-- the program of each number, and whether one program may go without memory
pub record Slotting : Type 0 where
  pub slots : List (Option Slot)
  pub ready : Bool

abbrev pub slot_at : List (Option Slot) → ℕ → Option Slot
slot_at slots number = slice_index_or slots number None

abbrev pub one : Bool → ℕ
one true = 1
one false = 0

-- a filter has the program whose capability is held
abbrev pub is_held : Option Slot → Bool
is_held None = false
is_held (Some s) = ltb 0 s.held

-- a program that no filter has yet
abbrev pub new_slot : List Insn → Slot
new_slot program = record { program = program; filters = 0; held = 0 }

-- one filter more has the program, and its capability is held or not
abbrev pub one_more : Bool → Option Slot → Option Slot
one_more held None = None
one_more held (Some s) = Some (record s { filters = s.filters + 1; held = s.held + one held })

-- one filter less; the last takes the program with it
abbrev pub one_less : Bool → Option Slot → Option Slot
one_less held None = None
one_less held (Some s) = (if s.filters == 1 then None else Some (record s { filters = s.filters - 1; held = s.held - one held }))

-- the capability of one of its filters isn't held any more
abbrev pub one_lapsed : Option Slot → Option Slot
one_lapsed None = None
one_lapsed (Some s) = Some (record s { held = s.held - 1 })

-- there is room for one more in the counts
abbrev pub HasRoomIn : Option Slot → Type 0
HasRoomIn None = Unit {0}
HasRoomIn (Some s) = (s.filters < 4294967295) × (s.held ≤ s.filters)

-- a filter has the program, and one whose capability is held, if so
abbrev pub HasOne : Bool → Option Slot → Type 0
HasOne held None = Unit {0}
HasOne held (Some s) = (0 < s.filters) × (one held ≤ s.held)

-- the last filter with the program takes no memory to go
abbrev pub MayGo : Bool → Option Slot → Type 0
MayGo ready None = Unit {0}
MayGo ready (Some s) = s.filters ≡ 1 → IsTrue ready

-- one filter alone has the program
abbrev pub IsLast : Option Slot → Type 0
IsLast None = ⊥
IsLast (Some s) = s.filters ≡ 1

-- free numbers have no program
pub record AreFree {V : Type 0} (slots : List (Option Slot)) (free : List (ℕ × V)) : Type 0 where
  pub none : (number : ℕ) → is_some (value_at free number) ≡ true → slot_at slots number ≡ None
  pub inside : (number : ℕ) → is_some (value_at free number) ≡ true → number < length slots
  pub few : length slots ≤ 4294967296
