-- The rows that a caller's room takes of a table.
use Rattle.std.specs.Prelude.{◌≡◌, ◌++◌, ℕ, leb, Option, None, Some, List, filter, map, length, take, drop}
use Rattle.bpf_insn.specs.declared.insn.Insn.{Insn}
use Rattle.endpoint_caps.specs.declared.Cap.{Cap}
use Rattle.endpoint_caps.specs.declared.Rights.{Rights}
use Rattle.endpoint_caps.specs.declared.Rights.TheVariants.{R, M, Rm}
use Rattle.filter_table.specs.Listed.{ListedFilter}
use Rattle.mkdemux_cores.specs.declared.caps.CapRow.{CapRow}
use Rattle.mkdemux_cores.specs.declared.filters.FilterRow.{FilterRow}

abbrev pub filter_row : ListedFilter → FilterRow
filter_row f = record { id = f.id; cap = f.cap; count = length f.program; owner = f.owner; endpoint = f.endpoint }

-- the rows of the filters with an id of at least `from`, in order
abbrev pub filter_rows : ℕ → List ListedFilter → List FilterRow
filter_rows from filters = map filter_row (filter (λ f. leb from f.id) filters)

-- no capability has the id 0
abbrev pub parent_number : Option ℕ → ℕ
parent_number None = 0
parent_number (Some id) = id

abbrev pub rights_number : Rights → ℕ
rights_number R = 1
rights_number M = 2
rights_number Rm = 3

abbrev pub cap_row : Cap → CapRow
cap_row c = record { id = c.id; parent = parent_number c.parent; endpoint = c.endpoint; holder = c.holder; rights = rights_number c.rights }

-- the rows of the capabilities with an id of at least `from`, in order
abbrev pub cap_rows : ℕ → List Cap → List CapRow
cap_rows from caps = map cap_row (filter (λ c. leb from c.id) caps)

-- the room with the rows at its front, as many as it has room for: after them it is as it was
abbrev pub laid : {A : Type 0} → List A → List A → List A
laid rows room = take (length room) rows ++ drop (length rows) room

-- the filter is there, with this program
abbrev pub HasCode : Option ListedFilter → List Insn → Type 0
HasCode found code = (f : ListedFilter) × (found ≡ Some f) × (f.program ≡ code)
