-- Messages between monitors as bytes, one string of bytes for each stamp and message: the table at the head of the crate.
-- Numbers stand low byte first.
use Rattle.std.specs.Prelude.{◌≡◌, ◌<◌, ◌≤◌, ◌^◌, ℕ, List, [], ◌∷◌, ◌++◌, length, All, ⊤}
use Rattle.std.specs.List.{flat_map}
use Rattle.std.specs.Int.{w16, w32, w64, to_le_bytes}
use Rattle.bpf_insn.specs.declared.insn.Insn.{Insn}
use Rattle.bpf_insn.specs.Table.{bytes_of, InRange}
use Rattle.endpoint_caps.specs.declared.Rights.{Rights}
use Rattle.endpoint_caps.specs.declared.Rights.TheVariants.{R, M, Rm}
use Rattle.filter_table.specs.Tables.{HasShortProgram}
use Rattle.filter_table.specs.declared.operation.Op.{Op}
use Rattle.filter_table.specs.declared.operation.Op.TheVariants.{Create, Mint, Revoke, DropCap, Install, Remove, Replace}
use Rattle.filter_table.specs.declared.operation.OpFault.{OpFault}
use Rattle.filter_table.specs.declared.operation.OpFault.TheVariants.{NoCap, NotHolder, NoRight, RightsExceed, EndpointTaken, CapsFull, IdsSpent, NoFilter, NotOwner, TableFull, FilterIdsSpent, BadProgram, VersionsSpent, DomainFull}
use Rattle.filter_table.specs.declared.operation.Made.{Made}
use Rattle.filter_table.specs.declared.operation.Made.TheVariants as made_variants
use Rattle.filter_table.specs.declared.decision.Vote.{Vote}
use Rattle.filter_table.specs.declared.decision.Vote.TheVariants as vote
use Rattle.filter_table.specs.declared.decision.Veto.{Veto}
use Rattle.filter_table.specs.declared.decision.Veto.TheVariants as veto
use Rattle.filter_table.specs.declared.decision.Decision.{Decision}
use Rattle.filter_table.specs.declared.decision.Decision.TheVariants.{Committed, Refused}
use Rattle.monitor_messages.specs.declared.message.Message.{Message}
use Rattle.monitor_messages.specs.declared.message.Message.TheVariants as message

-- Operations

abbrev pub rights_number : Rights → ℕ
rights_number R = 1
rights_number M = 2
rights_number Rm = 3

-- a count, and the bytes of each instruction
abbrev pub program_bytes : List Insn → List ℕ
program_bytes program = to_le_bytes w16 (length program) ++ flat_map bytes_of program

abbrev pub op_bytes : Op → List ℕ
op_bytes (Create domain endpoint) = 1 ∷ to_le_bytes w16 domain ++ to_le_bytes w16 endpoint
op_bytes (Mint domain cap to rights) = 2 ∷ to_le_bytes w16 domain ++ (to_le_bytes w32 cap ++ (to_le_bytes w16 to ++ rights_number rights ∷ []))
op_bytes (Revoke domain cap) = 3 ∷ to_le_bytes w16 domain ++ to_le_bytes w32 cap
op_bytes (DropCap domain cap) = 4 ∷ to_le_bytes w16 domain ++ to_le_bytes w32 cap
op_bytes (Install domain cap program) = 5 ∷ to_le_bytes w16 domain ++ (to_le_bytes w32 cap ++ program_bytes program)
op_bytes (Remove domain filter) = 6 ∷ to_le_bytes w16 domain ++ to_le_bytes w32 filter
op_bytes (Replace domain filter program) = 7 ∷ to_le_bytes w16 domain ++ (to_le_bytes w32 filter ++ program_bytes program)

-- Decisions

-- the number of a rule
abbrev pub fault_number : OpFault → ℕ
fault_number NoCap = 1
fault_number NotHolder = 2
fault_number NoRight = 3
fault_number RightsExceed = 4
fault_number EndpointTaken = 5
fault_number CapsFull = 6
fault_number IdsSpent = 7
fault_number NoFilter = 11
fault_number NotOwner = 12
fault_number TableFull = 13
fault_number FilterIdsSpent = 14
fault_number (BadProgram rule pc) = 17
fault_number VersionsSpent = 18
fault_number DomainFull = 19

-- what follows it: of a program that is refused, the verifier's number and place
abbrev pub fault_detail : OpFault → List ℕ
fault_detail (BadProgram rule pc) = rule ∷ to_le_bytes w16 pc
fault_detail fault = []

abbrev pub fault_bytes : OpFault → List ℕ
fault_bytes fault = fault_number fault ∷ fault_detail fault

abbrev pub veto_bytes : Veto → List ℕ
veto_bytes veto.Budget = 0 ∷ []
veto_bytes veto.NoMemory = 1 ∷ []
veto_bytes (veto.Rule fault) = 2 ∷ fault_bytes fault

abbrev pub made_bytes : Made → List ℕ
made_bytes made_variants.Nothing = 0 ∷ []
made_bytes (made_variants.Cap id) = 1 ∷ to_le_bytes w32 id
made_bytes (made_variants.Filter id) = 2 ∷ to_le_bytes w32 id

abbrev pub decision_bytes : Decision → List ℕ
decision_bytes (Committed version made) = 0 ∷ to_le_bytes w64 version ++ made_bytes made
decision_bytes (Refused core why) = 1 ∷ to_le_bytes w16 core ++ veto_bytes why

-- Messages

abbrev pub vote_number : Vote → ℕ
vote_number vote.Yes = 0
vote_number vote.Budget = 1
vote_number vote.NoMemory = 2

abbrev pub coded : ℕ → Message → List ℕ
coded stamp (message.Prepare txn op) = 1 ∷ to_le_bytes w64 stamp ++ (to_le_bytes w64 txn ++ op_bytes op)
coded stamp (message.Vote txn v) = 2 ∷ to_le_bytes w64 stamp ++ (to_le_bytes w64 txn ++ vote_number v ∷ [])
coded stamp (message.Commit txn) = 3 ∷ to_le_bytes w64 stamp ++ to_le_bytes w64 txn
coded stamp (message.Abort txn) = 4 ∷ to_le_bytes w64 stamp ++ to_le_bytes w64 txn
coded stamp (message.Ack txn) = 5 ∷ to_le_bytes w64 stamp ++ to_le_bytes w64 txn
coded stamp (message.Submit op) = 6 ∷ to_le_bytes w64 stamp ++ op_bytes op
coded stamp (message.Reply decision) = 7 ∷ to_le_bytes w64 stamp ++ decision_bytes decision

-- What has bytes

abbrev pub IsShort : Message → Type 0
IsShort (message.Prepare txn op) = HasShortProgram op
IsShort (message.Submit op) = HasShortProgram op
IsShort m = ⊤

-- the fields are within the ranges of their types
abbrev pub IsOp : Op → Type 0
IsOp (Create domain endpoint) = (domain < 2 ^ 16) × (endpoint < 2 ^ 16)
IsOp (Mint domain cap to rights) = (domain < 2 ^ 16) × (cap < 2 ^ 32) × (to < 2 ^ 16)
IsOp (Revoke domain cap) = (domain < 2 ^ 16) × (cap < 2 ^ 32)
IsOp (DropCap domain cap) = (domain < 2 ^ 16) × (cap < 2 ^ 32)
IsOp (Install domain cap program) = (domain < 2 ^ 16) × (cap < 2 ^ 32) × All InRange program
IsOp (Remove domain filter) = (domain < 2 ^ 16) × (filter < 2 ^ 32)
IsOp (Replace domain filter program) = (domain < 2 ^ 16) × (filter < 2 ^ 32) × All InRange program

abbrev pub IsMade : Made → Type 0
IsMade made_variants.Nothing = ⊤
IsMade (made_variants.Cap id) = id < 2 ^ 32
IsMade (made_variants.Filter id) = id < 2 ^ 32

abbrev pub IsFault : OpFault → Type 0
IsFault (BadProgram rule pc) = (rule < 2 ^ 8) × (pc < 2 ^ 16)
IsFault fault = ⊤

abbrev pub IsVeto : Veto → Type 0
IsVeto (veto.Rule fault) = IsFault fault
IsVeto why = ⊤

abbrev pub IsDecision : Decision → Type 0
IsDecision (Committed version made) = (version < 2 ^ 64) × IsMade made
IsDecision (Refused core why) = (core < 2 ^ 16) × IsVeto why

abbrev pub IsMessage : Message → Type 0
IsMessage (message.Prepare txn op) = (txn < 2 ^ 64) × IsOp op
IsMessage (message.Vote txn v) = txn < 2 ^ 64
IsMessage (message.Commit txn) = txn < 2 ^ 64
IsMessage (message.Abort txn) = txn < 2 ^ 64
IsMessage (message.Ack txn) = txn < 2 ^ 64
IsMessage (message.Submit op) = IsOp op
IsMessage (message.Reply decision) = IsDecision decision

-- a rule that the verifier has, where the message tells one
abbrev pub IsNumbered : Message → Type 0
IsNumbered (message.Reply (Refused core (veto.Rule (BadProgram rule pc)))) = (1 ≤ rule) × (rule ≤ 10)
IsNumbered m = ⊤

-- these are the bytes of the message under the stamp
pub record Coded (bytes : List ℕ) (stamp : ℕ) (m : Message) : Type 0 where
  pub spelled : bytes ≡ coded stamp m
  pub stamp_fits : stamp < 2 ^ 64
  pub fits : IsMessage m
  pub short : IsShort m
  pub numbered : IsNumbered m
