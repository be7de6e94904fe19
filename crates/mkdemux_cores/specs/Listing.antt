-- The table that a core lists.
use Rattle.std.specs.Prelude.{◌≡◌, ◌≤◌, ◌<◌, ℕ, List, Option, None, Some, length}
use Rattle.bpf_insn.specs.declared.insn.Insn.{Insn}
use Rattle.filter_table.specs.Listed.{ListedFilter}
use Rattle.filter_table.specs.Tables.{TableState}
use Rattle.core_loop.specs.Keeping.{replica_of}
use Rattle.core_machine.specs.Machines.{RingCore}
use Rattle.mkdemux_cores.specs.Rows.{laid}
use Rattle.mkdemux_cores.specs.declared.answers.TheConstants.{DONE, NO_FILTER, NO_ROOM}

-- the table of a core's version
abbrev pub table_now : RingCore → TableState
table_now c = (replica_of c.part).shown

-- The answer, the count and the room once the program of a filter was asked for: none is listed; or its program lies at the front of the room, where
-- it has room for it.
abbrev pub IsGiven : Option ListedFilter → List Insn → ℕ → ℕ → List Insn → Type 0
IsGiven None room answer count after = (answer ≡ NO_FILTER) × (count ≡ 0) × (after ≡ room)
IsGiven (Some f) room answer count after =
    (count ≡ length f.program)
    × (length f.program ≤ length room → (answer ≡ DONE) × (after ≡ laid f.program room))
    × (length room < length f.program → (answer ≡ NO_ROOM) × (after ≡ room))
