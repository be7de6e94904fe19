-- The filters, as contracts see them.
use Rattle.std.specs.Prelude.{◌≡◌, ◌==◌, ◌&&◌, cond, ℕ, Bool, not, Option, is_none, is_some, List, map}
use Rattle.std.specs.List.{Contains}
use Rattle.chunked.specs.Maps.{value_at}
use Rattle.endpoint_caps.specs.declared.Cap.{Cap}
use Rattle.endpoint_caps.specs.Capabilities.{cap_at}
use Rattle.filter_table.specs.Listed.{ListedFilter}
use Rattle.bpf_insn.specs.declared.insn.Insn.{Insn}
use Rattle.installed_filters.specs.declared.slots.Slot.{Slot}
use Rattle.installed_filters.specs.Slotting.{slot_at}
use Rattle.installed_filters.specs.declared.books.Row.{Row}
use Rattle.installed_filters.specs.Homes.{program_in}

-- a filter, and whether its capability is held
pub record Installed : Type 0 where
  pub filter : ListedFilter
  pub held : Bool

-- the filters in order of installation, and those that are planned
pub record Standing : Type 0 where
  pub now : List Installed
  pub next : Option (List Installed)

-- a row with its program
abbrev pub with_program : List Insn → ℕ → Row → Installed
with_program program id row = record {
  filter = record { id = id; owner = row.owner; cap = row.cap; endpoint = row.endpoint; program = program };
  held = row.held;
}

abbrev pub installed_row : List (Option Slot) → ℕ × Row → Installed
installed_row slots e = with_program (program_in (slot_at slots e.1.number)) e.0 e.1

abbrev pub installed : List (Option Slot) → List (ℕ × Row) → List Installed
installed slots rows = map (installed_row slots) rows

-- a filter's capability is held just where these capabilities have it
abbrev pub AreHeldBy : List Cap → List Installed → Type 0
AreHeldBy caps filters = (f : Installed) → Contains filters f → is_none (cap_at caps f.filter.cap) ≡ not f.held

-- the program of the filter with this id is replaced
abbrev pub replaced_by : ℕ → List Insn → Installed → Installed
replaced_by id program f = cond (f.filter.id == id) (record { filter = record { id = f.filter.id; owner = f.filter.owner; cap = f.filter.cap; endpoint = f.filter.endpoint; program = program }; held = f.held }) f

-- filters under the capabilities with these ids aren't held any more
abbrev pub lapsed_under : {V : Type 0} → List (ℕ × V) → Installed → Installed
lapsed_under gone f = record f { held = f.held && not (is_some (value_at gone f.filter.cap)) }

-- nor are the filters with these ids
abbrev pub lapsed_by : {V : Type 0} → List (ℕ × V) → Installed → Installed
lapsed_by lapsing f = record f { held = f.held && not (is_some (value_at lapsing f.filter.id)) }
