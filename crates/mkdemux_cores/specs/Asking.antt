-- Requests of a core.
use Rattle.std.specs.Prelude.{◌≡◌, ◌<◌, ◌+◌, ◌-◌, ◌^◌, ◌++◌, ◌∷◌, [], ℕ, List, Option, Some, length, min}
use Rattle.bpf_insn.specs.declared.insn.Insn.{Insn}
use Rattle.endpoint_caps.specs.declared.Rights.{Rights}
use Rattle.endpoint_caps.specs.declared.Rights.TheVariants.{R, M, Rm}
use Rattle.filter_table.specs.declared.operation.Op.{Op}
use Rattle.core_loop.specs.Answering.{decisions}
use Rattle.core_loop.specs.Cores.{begun}
use Rattle.core_machine.specs.Machines.{RingCore}

-- one request more, after those that the core has, and nothing else is new
abbrev pub HasAsked : Op → RingCore → RingCore → Type 0
HasAsked op old new = new ≡ record old { pending = old.pending ++ op ∷ [] }

-- a program that a core other than 0 can't send
abbrev pub IsTooLong : List Insn → Option RingCore → Type 0
IsTooLong code core = (c : RingCore) × (core ≡ Some c) × (0 < c.number) × (4096 < length code)

-- a core other than 0
abbrev pub IsOther : Option RingCore → Type 0
IsOther core = (c : RingCore) × (core ≡ Some c) × (0 < c.number)

abbrev pub rights_number : Rights → ℕ
rights_number R = 1
rights_number M = 2
rights_number Rm = 3

-- so many requests of all that the core was asked have no decision yet; no count is above 2^64 - 1
abbrev pub AreUnanswered : ℕ → RingCore → Type 0
AreUnanswered answer core =
    (count : ℕ) × (length (begun core.history ++ core.pending) ≡ length (decisions core.history) + count) × (answer ≡ min count (2 ^ 64 - 1))
