-- Where the program of a filter that comes is kept.
-- No public clause cites these.
use Rattle.std.specs.Prelude.{◌≡◌, ◌==◌, ◌<◌, ◌≤◌, ℕ, true, Option, Some, None, List, [], length, if◌then◌else◌}
use Rattle.bpf_insn.specs.declared.insn.Insn.{Insn}
use Rattle.chunked.specs.Maps.{SortedMap}
use Rattle.installed_filters.specs.declared.slots.Slot.{Slot}
use Rattle.installed_filters.specs.Slotting.{slot_at, one_more}
use Rattle.installed_filters.specs.declared.homes.Home.{Home}
use Rattle.installed_filters.specs.declared.lists.Lists.{Lists}
use Rattle.installed_filters.specs.Counts.{reach_at}
use Rattle.installed_filters.specs.Books.{Begins, base_slot}
use Rattle.installed_filters.specs.Listing.{AreListed}

-- no two numbers have one program
abbrev pub AreProgramsApart : List (Option Slot) → Type 0
AreProgramsApart slots = (i j : ℕ) (s t : Slot) → slot_at slots i ≡ Some s → slot_at slots j ≡ Some t → s.program ≡ t.program → i ≡ j

abbrev pub program_in : Option Slot → List Insn
program_in None = []
program_in (Some s) = s.program

abbrev pub held_in : Option Slot → ℕ
held_in None = 0
held_in (Some s) = s.held

-- the slots once a filter came whose capability is held
abbrev pub slots_with : List (Option Slot) → ℕ → Option (List Insn) → ℕ → Option Slot
slots_with slots number program m = (if m == number then one_more true (base_slot slots number program) else slot_at slots m)

-- each program is at one number, of which there are reaches too, and is listed there
pub record AreHoused (slots : List (Option Slot)) (ends : List (SortedMap ℕ)) (lists : Lists) : Type 0 where
  pub listed : AreListed (slot_at slots) lists.running lists.resting
  pub apart : AreProgramsApart slots
  pub numbers : (m : ℕ) (s : Slot) → slot_at slots m ≡ Some s → m < length ends

-- there may be more numbers; no program changes, and no count
pub record HaveGrown (slots slots' : List (Option Slot)) (ends ends' : List (SortedMap ℕ)) : Type 0 where
  pub programs : (m : ℕ) → slot_at slots' m ≡ slot_at slots m
  pub counts : (m q : ℕ) → reach_at ends' m q ≡ reach_at ends m q
  pub more : length ends ≤ length ends'

-- the program is kept there, or will be
pub record IsHome (slots : List (Option Slot)) (ends : ℕ) (program : List Insn) (home : Home) : Type 0 where
  pub begins : Begins slots home.number home.program
  pub own : program_in (base_slot slots home.number home.program) ≡ program
  pub inside : home.number < length slots
  pub number : home.number < ends
