-- How many bytes a message has.
use Rattle.std.proofs.Common.{◌≡◌, ℕ, ◌*◌, ◌<◌, ◌≤◌, List, [], ◌∷◌, length, refl, arith}
use Rattle.std.specs.List.{flat_map}
use Rattle.bpf_insn.specs.declared.insn.Insn.{Insn}
use Rattle.bpf_insn.specs.Table.{bytes_of}
use Rattle.filter_table.specs.declared.operation.Op.{Op}
use Rattle.filter_table.specs.declared.operation.Op.TheVariants.{Create, Mint, Revoke, DropCap, Install, Remove, Replace}
use Rattle.filter_table.specs.declared.operation.OpFault.{OpFault}
use Rattle.filter_table.specs.declared.operation.OpFault.TheVariants.{NoCap, NotHolder, NoRight, RightsExceed, EndpointTaken, CapsFull, IdsSpent, NoFilter, NotOwner, TableFull, FilterIdsSpent, BadProgram, VersionsSpent, DomainFull}
use Rattle.filter_table.specs.declared.operation.Made.{Made}
use Rattle.filter_table.specs.declared.operation.Made.TheVariants as made_variants
use Rattle.filter_table.specs.declared.decision.Veto.{Veto}
use Rattle.filter_table.specs.declared.decision.Veto.TheVariants as veto
use Rattle.filter_table.specs.declared.decision.Decision.{Decision}
use Rattle.filter_table.specs.declared.decision.Decision.TheVariants.{Committed, Refused}
use Rattle.monitor_messages.specs.declared.message.Message.{Message}
use Rattle.monitor_messages.specs.declared.message.Message.TheVariants as message
use Rattle.filter_table.specs.Tables.{HasShortProgram}
use Rattle.monitor_messages.specs.Coding.{op_bytes, fault_bytes, veto_bytes, made_bytes, decision_bytes, coded, IsShort}

insns_length : (program : List Insn) → length (flat_map bytes_of program) ≡ 8 * length program
insns_length [] = refl
insns_length (insn ∷ program) = omega (arith, insns_length program)

op_length : (op : Op) → HasShortProgram op → length (op_bytes op) ≤ 32777
op_length (Create domain endpoint) short = omega arith
op_length (Mint domain cap to rights) short = omega arith
op_length (Revoke domain cap) short = omega arith
op_length (DropCap domain cap) short = omega arith
op_length (Install domain cap program) short = omega (arith, insns_length program)
op_length (Remove domain filter) short = omega arith
op_length (Replace domain filter program) short = omega (arith, insns_length program)

fault_length : (fault : OpFault) → length (fault_bytes fault) ≤ 4
fault_length NoCap = omega arith
fault_length NotHolder = omega arith
fault_length NoRight = omega arith
fault_length RightsExceed = omega arith
fault_length EndpointTaken = omega arith
fault_length CapsFull = omega arith
fault_length IdsSpent = omega arith
fault_length NoFilter = omega arith
fault_length NotOwner = omega arith
fault_length TableFull = omega arith
fault_length FilterIdsSpent = omega arith
fault_length (BadProgram rule pc) = omega arith
fault_length VersionsSpent = omega arith
fault_length DomainFull = omega arith

veto_length : (why : Veto) → length (veto_bytes why) ≤ 5
veto_length veto.Budget = omega arith
veto_length veto.NoMemory = omega arith
veto_length (veto.Rule fault) = omega (arith, fault_length fault)

made_length : (made : Made) → length (made_bytes made) ≤ 5
made_length made_variants.Nothing = omega arith
made_length (made_variants.Cap id) = omega arith
made_length (made_variants.Filter id) = omega arith

decision_length : (decision : Decision) → length (decision_bytes decision) ≤ 14
decision_length (Committed version made) = omega (arith, made_length made)
decision_length (Refused core why) = omega (arith, veto_length why)

pub message_length : (stamp : ℕ) (m : Message) → IsShort m → (0 < length (coded stamp m)) × (length (coded stamp m) ≤ 32832)
message_length stamp (message.Prepare txn op) short = (omega arith, omega (arith, op_length op short))
message_length stamp (message.Vote txn v) short = (omega arith, omega arith)
message_length stamp (message.Commit txn) short = (omega arith, omega arith)
message_length stamp (message.Abort txn) short = (omega arith, omega arith)
message_length stamp (message.Ack txn) short = (omega arith, omega arith)
message_length stamp (message.Submit op) short = (omega arith, omega (arith, op_length op short))
message_length stamp (message.Reply decision) short = (omega arith, omega (arith, decision_length decision))

pub encoded_length : (bytes : List ℕ) (stamp : ℕ) (m : Message) → IsShort m → bytes ≡ coded stamp m → (0 < length bytes) × (length bytes ≤ 32832)
encoded_length bytes stamp m short e = rw e (message_length stamp m short)
