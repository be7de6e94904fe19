-- What an operation does to the filters.
-- No public clause cites these.
use Rattle.std.specs.Prelude.{◌≡◌, ◌==◌, ◌<◌, ◌++◌, ◌∷◌, [], ℕ, true, not, Option, Some, None, List, filter, map}
use Rattle.std.specs.List.{Contains}
use Rattle.endpoint_caps.specs.declared.Cap.{Cap}
use Rattle.endpoint_caps.specs.Capabilities.{CapTable, cap_at, revoked, dropped}
use Rattle.bpf_insn.specs.declared.insn.Insn.{Insn}
use Rattle.filter_table.specs.Listed.{ListedFilter}
use Rattle.filter_table.specs.Tables.{endpoint_of, filter_at}
use Rattle.filter_table.specs.declared.operation.Op.{Op}
use Rattle.filter_table.specs.declared.operation.Op.TheVariants.{Create, Mint, Revoke, DropCap, Install, Remove, Replace}
use Rattle.installed_filters.specs.Installed.{Installed, AreHeldBy, replaced_by}
use Rattle.installed_filters.specs.Lent.{listed}

-- a filter with this id is there
abbrev pub IsThere : List Installed → ℕ → Type 0
IsThere now id = (f : Installed) × Contains now f × (f.filter.id ≡ id)

-- an operation may be planned of the filters, where the next one gets the id
abbrev pub MayChange : ℕ → List Installed → Op → Type 0
MayChange id now (Install domain cap program) = ((f : Installed) → Contains now f → f.filter.id < id) × (id < 4294967295)
MayChange id now (Remove domain filter) = IsThere now filter
MayChange id now (Replace domain filter program) = IsThere now filter × ((f : Installed) → Contains now f → f.filter.id ≡ filter → f.held ≡ true)
MayChange id now op = Unit {0}

-- the same filters are listed, and stand under these capabilities; they may stay only if there are none
abbrev pub StandUnder : List Cap → List Installed → Option (List Installed) → Type 0
StandUnder caps now None = now ≡ []
StandUnder caps now (Some next) = (listed next ≡ listed now) × AreHeldBy caps next

-- the filters after the operation, or none where they stay
abbrev pub IsNext : CapTable → ℕ → List Installed → Op → Option (List Installed) → Type 0
IsNext caps id now (Install domain cap program) next =
    next ≡ Some (now ++ record { filter = record { id = id; owner = domain; cap = cap; endpoint = endpoint_of (cap_at caps.held cap); program = program }; held = true } ∷ [])
IsNext caps id now (Remove domain old) next = next ≡ Some (filter (λ f. not (f.filter.id == old)) now)
IsNext caps id now (Replace domain old program) next = next ≡ Some (map (replaced_by old program) now)
IsNext caps id now (Revoke domain cap) next = StandUnder (revoked caps cap).held now next
IsNext caps id now (DropCap domain cap) next = StandUnder (dropped caps cap).held now next
IsNext caps id now op next = next ≡ None

abbrev pub program_in : Option ListedFilter → List Insn
program_in None = []
program_in (Some f) = f.program

-- the program of the filter with this id
abbrev pub program_at : List ListedFilter → ℕ → List Insn
program_at filters id = program_in (filter_at filters id)
