-- What a replica keeps of what is staged, and why a program is refused.
-- No public clause cites these.
use Rattle.std.specs.Prelude.{◌≡◌, ℕ, Option, Some, None, List}
use Rattle.bpf_insn.specs.declared.insn.Insn.{Insn}
use Rattle.filter_table.specs.declared.operation.Op.{Op}
use Rattle.filter_table.specs.declared.operation.StageFault.{StageFault}
use Rattle.filter_table.specs.declared.operation.StageFault.TheVariants.{NoMemory}
use Rattle.filter_table.specs.Tables.{TableState, Allowed, Verifies}
use Rattle.filter_table.specs.Staging.{VerifierAsks}

-- the operation that is staged is allowed
abbrev pub AllowsStaged : ℕ → TableState → Option Op → Type 0
AllowsStaged budget shown staged = (op : Op) → staged ≡ Some op → Allowed shown budget op None

-- why a program is not verified: the verifier's refusal, or it asked for memory and got none
abbrev pub RefusesAs : Option (List Insn) → StageFault → Type 0
RefusesAs program NoMemory = VerifierAsks program
RefusesAs program fault = Verifies program (Some fault)
