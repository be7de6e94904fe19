-- Logs of operations.
use Rattle.std.specs.Prelude.{ℕ, List, [], ◌∷◌, ◌++◌, map, replicate, None}
use Rattle.endpoint_caps.specs.declared.Cap.{Cap}
use Rattle.endpoint_caps.specs.declared.Rights.TheVariants.{R, M, Rm}
use Rattle.endpoint_caps.specs.Capabilities.{CapTable, no_caps, created, minted_from}
use Rattle.filter_table.specs.Limits.{TableLimits, default_limits}
use Rattle.filter_table.specs.declared.operation.Op.{Op}
use Rattle.filter_table.specs.declared.operation.Op.TheVariants.{Create, Mint, Install, Remove, DropCap}
use Rattle.filter_table.specs.declared.delivery.Kept.{Kept}
use Rattle.filter_table.specs.Listed.{ListedFilter}
use Rattle.filter_table.specs.Tables.{TableState, table}
use Rattle.definitions_tried.specs.Filters.{arp}

-- domain 1 creates endpoint 7 and installs the filter for ARP there; then it drops its capability
abbrev pub log : List Op
log = Create 1 7 ∷ Install 1 1 arp ∷ DropCap 1 1 ∷ []

-- domain 1 installs two filters and removes the first
abbrev pub removal : List Op
removal = Create 1 7 ∷ Install 1 1 arp ∷ Install 1 1 arp ∷ Remove 1 1 ∷ []

abbrev pub filter_ids : TableState → List ℕ
filter_ids s = map (λ (f : ListedFilter). f.id) s.filters

-- a table at a version, in which domain 1 has endpoint 7 and so many filters
abbrev pub with_filters : ℕ → ℕ → TableState
with_filters version count = record {
  version = version;
  limits = default_limits;
  caps = created no_caps 1 7;
  filters = replicate count (record { id = 1; owner = 1; cap = 1; endpoint = 7; program = arp });
  next_filter = 1025;
}

-- Limits: of four capabilities a domain may make two, and of three filters it may own two

abbrev pub small : TableLimits
small = record { caps = record { total = 4; share = 2 }; filters = 3; domain_filters = 2; domain_insns = 100 }

-- and these may have seven instructions: one filter for ARP has four
abbrev pub few_insns : TableLimits
few_insns = record small { domain_insns = 7 }

abbrev pub two_endpoints : List Op
two_endpoints = Create 1 7 ∷ Create 1 8 ∷ []

abbrev pub one_dropped : List Op
one_dropped = two_endpoints ++ DropCap 1 2 ∷ []

abbrev pub four_endpoints : List Op
four_endpoints = two_endpoints ++ Create 2 9 ∷ Create 2 10 ∷ []

-- domain 1 creates endpoint 7 and mints a capability of it for domain 2; then domain 2 creates endpoint 8
abbrev pub minted_for_2 : List Op
minted_for_2 = Create 1 7 ∷ Mint 1 1 2 Rm ∷ []

abbrev pub held_by_2 : List Op
held_by_2 = minted_for_2 ++ Create 2 8 ∷ []

-- domain 1 has the filter, and domain 2 creates endpoint 8
abbrev pub of_two_domains : List Op
of_two_domains = Create 1 7 ∷ Install 1 1 arp ∷ Create 2 8 ∷ []

-- this endpoint keeps so many bytes
abbrev pub keeps : ℕ → ℕ → Kept
keeps endpoint bytes = record { endpoint = endpoint; kept = bytes }

-- Capabilities: domain 1 has 1, from which 2 and 3 were minted for domain 2, and 4 from 3

abbrev pub minted_once : CapTable
minted_once = minted_from (created no_caps 1 7) 1 2 R

abbrev pub minted_twice : CapTable
minted_twice = minted_from (minted_from minted_once 1 2 M) 3 4 M

abbrev pub ids : CapTable → List ℕ
ids table = map (λ (c : Cap). c.id) table.held

-- and so many others
abbrev pub with_others : ℕ → CapTable
with_others count = record { held = minted_twice.held ++ replicate count (record { id = 9; endpoint = 9; holder = 9; rights = Rm; parent = None }); next = 2000 }

-- no capability is held, and the next one has this id; a table with capability 1, where the next filter has it
abbrev pub next_cap : ℕ → CapTable
next_cap id = record no_caps { next = id }

abbrev pub next_filter : ℕ → TableState
next_filter id = record (table default_limits log 1) { next_filter = id }
