-- What is lent of the filters, and how many different programs they have.
use Rattle.std.specs.Prelude.{◌≡◌, ◌↔◌, ℕ, Option, Some, List, filter, map, length, slice_get}
use Rattle.std.specs.List.{Contains}
use Rattle.bpf_insn.specs.declared.insn.Insn.{Insn}
use Rattle.filter_table.specs.Listed.{ListedFilter}
use Rattle.installed_filters.specs.declared.queries.Filter.{Filter}
use Rattle.installed_filters.specs.declared.books.Row.{Row}
use Rattle.installed_filters.specs.declared.slots.Slot.{Slot}
use Rattle.installed_filters.specs.Slotting.{slot_at}
use Rattle.installed_filters.specs.Installed.{Installed, installed_row}
use Rattle.installed_filters.specs.Planning.{AreIds}

-- what a lent filter shows
abbrev pub shown_filter : Filter → ListedFilter
shown_filter f = record { id = f.id; owner = f.owner; cap = f.cap; endpoint = f.endpoint; program = f.program.now }

-- the filters as a table lists them
abbrev pub listed : List Installed → List ListedFilter
listed filters = map (λ f. f.filter) filters

-- those whose capability is held
abbrev pub held_listed : List Installed → List ListedFilter
held_listed filters = listed (filter (λ f. f.held) filters)

-- the program is among these
abbrev pub IsIn : List (List Insn) → List Insn → Type 0
IsIn programs program = (k : ℕ) × (slice_get programs k ≡ Some program)

-- so many different programs are among the filters': a list without repetition has just these
pub record AreDifferent (filters : List ListedFilter) (count : ℕ) : Type 0 where
  pub programs : List (List Insn)
  pub distinct : (i j : ℕ) (program : List Insn) → slice_get programs i ≡ Some program → slice_get programs j ≡ Some program → i ≡ j
  pub each : (program : List Insn) → IsIn programs program ↔ ((k : ℕ) × (f : ListedFilter) × (slice_get filters k ≡ Some f) × (f.program ≡ program))
  pub counted : count ≡ length programs

-- a row as it is listed
abbrev pub listed_row : List (Option Slot) → ℕ × Row → ListedFilter
listed_row slots e = (installed_row slots e).filter

-- each row has a program, and a number that is an id
pub record AreLendable (slots : List (Option Slot)) (rows : List (ℕ × Row)) : Type 0 where
  pub programs : (e : ℕ × Row) → Contains rows e → (s : Slot) × (slot_at slots e.1.number ≡ Some s)
  pub ids : AreIds rows
