-- What the runs of a program give that stand at one of its last instructions.
-- No public clause cites these.
use Rattle.std.specs.Prelude.{◌≡◌, ℕ, ◌+◌, List, ◌++◌, length}
use Rattle.bpf_insn.specs.declared.insn.Insn.{Insn}
use Rattle.bpf_insn.specs.Machine.{Packet, State, Chain, Last}

-- a run that stands at this state ends with this verdict
pub record Finishes (program : List Insn) (packet : Packet) (s : State) (verdict : ℕ) : Type 0 where
  pub steps : ℕ
  pub state : State
  pub chain : Chain program packet steps s state
  pub last : Last program packet state verdict

-- in each program that ends in this code, a run ends with this verdict that stands with these registers where so many instructions come after
pub record Reaches (packet : Packet) (code : List Insn) (place a x verdict : ℕ) : Type 0 where
  pub from : (front : List Insn) (s : State) → s.a ≡ a → s.x ≡ x → s.pc + place + 1 ≡ length (front ++ code) → Finishes (front ++ code) packet s verdict
