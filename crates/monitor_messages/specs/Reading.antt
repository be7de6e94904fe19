-- Reading a message from its bytes, from left to right.
-- No public clause cites these.
use Rattle.std.specs.Prelude.{◌≡◌, ◌==◌, ◌||◌, ℕ, zero, suc, leb, if◌then◌else◌, List, [], ◌∷◌, Option, Some, None, Result, Ok, Err}
use Rattle.std.specs.Int.{w16, w32, w64, from_le_bytes}
use Rattle.bpf_insn.specs.declared.insn.Insn.{Insn}
use Rattle.bpf_insn.specs.declared.insn.TheConstants.{MAX_INSNS}
use Rattle.endpoint_caps.specs.declared.Rights.{Rights}
use Rattle.endpoint_caps.specs.declared.Rights.TheVariants.{R, M, Rm}
use Rattle.filter_table.specs.declared.operation.Op.{Op}
use Rattle.filter_table.specs.declared.operation.Op.TheVariants.{Create, Mint, Revoke, DropCap, Install, Remove, Replace}
use Rattle.filter_table.specs.declared.operation.OpFault.{OpFault}
use Rattle.filter_table.specs.declared.operation.OpFault.TheVariants.{NoCap, NotHolder, NoRight, RightsExceed, EndpointTaken, CapsFull, IdsSpent, NoFilter, NotOwner, TableFull, FilterIdsSpent, BadProgram, VersionsSpent, DomainFull}
use Rattle.filter_table.specs.declared.operation.Made.{Made}
use Rattle.filter_table.specs.declared.operation.Made.TheVariants as made_variants
use Rattle.monitor_messages.specs.declared.fault.DecodeFault.{DecodeFault}
use Rattle.monitor_messages.specs.declared.fault.DecodeFault.TheVariants as faults
use Rattle.filter_table.specs.declared.decision.Vote.TheVariants as vote
use Rattle.filter_table.specs.declared.decision.Veto.{Veto}
use Rattle.filter_table.specs.declared.decision.Veto.TheVariants as veto
use Rattle.filter_table.specs.declared.decision.Decision.{Decision}
use Rattle.filter_table.specs.declared.decision.Decision.TheVariants.{Committed, Refused}
use Rattle.monitor_messages.specs.declared.message.Message.{Message}
use Rattle.monitor_messages.specs.declared.message.Message.TheVariants as message

infixl 10 ◌>>=◌
abbrev pub ◌>>=◌ : {A B : Type 0} → Option A → (A → Option B) → Option B
None >>= f = None
(Some x) >>= f = f x

-- What a function returned, seen by view, is what reading gives, unless memory ran out, which happens only where `asks` holds.
abbrev pub Fails : {Y : Type 0} → Type 0 → DecodeFault → Option Y → Type 0
Fails asks faults.NoMemory read = asks
Fails asks faults.BadMessage read = read ≡ None

abbrev pub Gives : {X Y : Type 0} → Type 0 → (X → Y) → Result X DecodeFault → Option Y → Type 0
Gives asks view (Ok x) read = read ≡ Some (view x)
Gives asks view (Err e) read = Fails asks e read

-- what stands beside a number, if it is one of the rows
abbrev pub choose : {A : Type 0} → ℕ → List (ℕ × Option A) → Option A
choose n [] = None
choose n (row ∷ rows) = if n == row.0 then row.1 else choose n rows

-- Numbers, with the bytes after them

unfoldable pub u8_at : List ℕ → Option (ℕ × List ℕ)
u8_at [] = None
u8_at (a ∷ rest) = Some (a, rest)

unfoldable pub u16_at : List ℕ → Option (ℕ × List ℕ)
u16_at (a ∷ b ∷ rest) = Some (from_le_bytes w16 (a ∷ b ∷ []), rest)
u16_at bytes = None

unfoldable pub u32_at : List ℕ → Option (ℕ × List ℕ)
u32_at (a ∷ b ∷ c ∷ d ∷ rest) = Some (from_le_bytes w32 (a ∷ b ∷ c ∷ d ∷ []), rest)
u32_at bytes = None

unfoldable pub u64_at : List ℕ → Option (ℕ × List ℕ)
u64_at (a ∷ b ∷ c ∷ d ∷ e ∷ f ∷ g ∷ h ∷ rest) = Some (from_le_bytes w64 (a ∷ b ∷ c ∷ d ∷ e ∷ f ∷ g ∷ h ∷ []), rest)
u64_at bytes = None

-- nothing follows
abbrev pub ended : {A : Type 0} → List ℕ → A → Option A
ended [] x = Some x
ended (b ∷ bytes) x = None

-- the last number

unfoldable pub last_u8 : List ℕ → Option ℕ
last_u8 bytes = u8_at bytes >>= λ n. ended n.1 n.0

unfoldable pub last_u16 : List ℕ → Option ℕ
last_u16 bytes = u16_at bytes >>= λ n. ended n.1 n.0

unfoldable pub last_u32 : List ℕ → Option ℕ
last_u32 bytes = u32_at bytes >>= λ n. ended n.1 n.0

unfoldable pub last_u64 : List ℕ → Option ℕ
last_u64 bytes = u64_at bytes >>= λ n. ended n.1 n.0

-- Programs

unfoldable pub insn_at : List ℕ → Option (Insn × List ℕ)
insn_at bytes = do
  code ← u16_at bytes
  jt ← u8_at code.1
  jf ← u8_at jt.1
  k ← u32_at jf.1
  Some (record { code = code.0; jt = jt.0; jf = jf.0; k = k.0 }, k.1)

unfoldable pub insns_at : ℕ → List ℕ → Option (List Insn × List ℕ)
insns_at zero bytes = Some ([], bytes)
insns_at (suc n) bytes = do
  insn ← insn_at bytes
  others ← insns_at n insn.1
  Some (insn.0 ∷ others.0, others.1)

-- so many, and nothing behind them
abbrev pub insns_in : ℕ → List ℕ → Option (List Insn)
insns_in count bytes = insns_at count bytes >>= λ code. ended code.1 code.0

unfoldable pub program_in : List ℕ → Option (List Insn)
program_in bytes = do
  count ← u16_at bytes
  if leb count.0 MAX_INSNS then insns_in count.0 count.1 else None

-- Operations

abbrev pub rights_rows : List (ℕ × Option Rights)
rights_rows = (1, Some R) ∷ (2, Some M) ∷ (3, Some Rm) ∷ []

unfoldable pub rights_in : List ℕ → Option Rights
rights_in bytes = last_u8 bytes >>= λ number. choose number rights_rows

unfoldable pub mint_in : ℕ → List ℕ → Option Op
mint_in domain bytes = do
  cap ← u32_at bytes
  to ← u16_at cap.1
  rights ← rights_in to.1
  Some (Mint domain cap.0 to.0 rights)

-- an id, and a program
unfoldable pub loaded_in : List ℕ → Option (ℕ × List Insn)
loaded_in bytes = do
  id ← u32_at bytes
  program ← program_in id.1
  Some (id.0, program)

-- an operation of a kind and a domain, by what follows these
abbrev pub op_rows : ℕ → List ℕ → List (ℕ × Option Op)
op_rows domain bytes =
    (1, last_u16 bytes >>= λ endpoint. Some (Create domain endpoint))
    ∷ (2, mint_in domain bytes)
    ∷ (3, last_u32 bytes >>= λ cap. Some (Revoke domain cap))
    ∷ (4, last_u32 bytes >>= λ cap. Some (DropCap domain cap))
    ∷ (5, loaded_in bytes >>= λ loaded. Some (Install domain loaded.0 loaded.1))
    ∷ (6, last_u32 bytes >>= λ filter. Some (Remove domain filter))
    ∷ (7, loaded_in bytes >>= λ loaded. Some (Replace domain loaded.0 loaded.1))
    ∷ []

unfoldable pub op_of : ℕ → ℕ → List ℕ → Option Op
op_of kind domain bytes = choose kind (op_rows domain bytes)

unfoldable pub op_in : List ℕ → Option Op
op_in bytes = do
  kind ← u8_at bytes
  domain ← u16_at kind.1
  op_of kind.0 domain.0 domain.1

-- Decisions

-- the rules that are told by their number alone
abbrev pub fault_rows : List (ℕ × Option OpFault)
fault_rows =
    (1, Some NoCap) ∷ (2, Some NotHolder) ∷ (3, Some NoRight) ∷ (4, Some RightsExceed) ∷ (5, Some EndpointTaken)
    ∷ (6, Some CapsFull) ∷ (7, Some IdsSpent) ∷ (11, Some NoFilter) ∷ (12, Some NotOwner) ∷ (13, Some TableFull)
    ∷ (14, Some FilterIdsSpent) ∷ (18, Some VersionsSpent) ∷ (19, Some DomainFull) ∷ []

abbrev pub plain_fault : ℕ → Option OpFault
plain_fault number = choose number fault_rows

unfoldable pub bad_program_in : List ℕ → Option OpFault
bad_program_in bytes = do
  rule ← u8_at bytes
  pc ← last_u16 rule.1
  if (rule.0 == 0) || leb 11 rule.0 then None else Some (BadProgram rule.0 pc)

unfoldable pub fault_in : List ℕ → Option OpFault
fault_in bytes = do
  number ← u8_at bytes
  if number.0 == 17 then bad_program_in number.1 else (ended number.1 number.0 >>= plain_fault)

abbrev pub veto_rows : List ℕ → List (ℕ × Option Veto)
veto_rows bytes =
    (0, ended bytes veto.Budget)
    ∷ (1, ended bytes veto.NoMemory)
    ∷ (2, fault_in bytes >>= λ fault. Some (veto.Rule fault))
    ∷ []

unfoldable pub veto_in : List ℕ → Option Veto
veto_in bytes = u8_at bytes >>= λ why. choose why.0 (veto_rows why.1)

abbrev pub made_rows : List ℕ → List (ℕ × Option Made)
made_rows bytes =
    (0, ended bytes made_variants.Nothing)
    ∷ (1, last_u32 bytes >>= λ id. Some (made_variants.Cap id))
    ∷ (2, last_u32 bytes >>= λ id. Some (made_variants.Filter id))
    ∷ []

unfoldable pub made_in : List ℕ → Option Made
made_in bytes = u8_at bytes >>= λ made. choose made.0 (made_rows made.1)

unfoldable pub committed_in : List ℕ → Option Decision
committed_in bytes = do
  version ← u64_at bytes
  made ← made_in version.1
  Some (Committed version.0 made)

unfoldable pub refused_in : List ℕ → Option Decision
refused_in bytes = do
  core ← u16_at bytes
  why ← veto_in core.1
  Some (Refused core.0 why)

unfoldable pub decision_in : List ℕ → Option Decision
decision_in bytes = u8_at bytes >>= λ kind. choose kind.0 ((0, committed_in kind.1) ∷ (1, refused_in kind.1) ∷ [])

-- Messages

unfoldable pub prepare_in : List ℕ → Option Message
prepare_in bytes = do
  txn ← u64_at bytes
  op ← op_in txn.1
  Some (message.Prepare txn.0 op)

abbrev pub vote_rows : ℕ → List (ℕ × Option Message)
vote_rows txn =
    (0, Some (message.Vote txn vote.Yes))
    ∷ (1, Some (message.Vote txn vote.Budget))
    ∷ (2, Some (message.Vote txn vote.NoMemory))
    ∷ []

unfoldable pub vote_in : List ℕ → Option Message
vote_in bytes = do
  txn ← u64_at bytes
  number ← last_u8 txn.1
  choose number (vote_rows txn.0)

-- a message of a kind, by what follows its stamp
abbrev pub body_rows : List ℕ → List (ℕ × Option Message)
body_rows bytes =
    (1, prepare_in bytes)
    ∷ (2, vote_in bytes)
    ∷ (3, last_u64 bytes >>= λ txn. Some (message.Commit txn))
    ∷ (4, last_u64 bytes >>= λ txn. Some (message.Abort txn))
    ∷ (5, last_u64 bytes >>= λ txn. Some (message.Ack txn))
    ∷ (6, op_in bytes >>= λ op. Some (message.Submit op))
    ∷ (7, decision_in bytes >>= λ decision. Some (message.Reply decision))
    ∷ []

unfoldable pub body_of : ℕ → List ℕ → Option Message
body_of kind bytes = choose kind (body_rows bytes)

unfoldable pub message_in : List ℕ → Option (ℕ × Message)
message_in bytes = do
  kind ← u8_at bytes
  stamp ← u64_at kind.1
  m ← body_of kind.0 stamp.1
  Some (stamp.0, m)
