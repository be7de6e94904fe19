-- The table that the cores replicate: a state machine whose state is a function of its log (Schneider 1990,
-- "Implementing fault-tolerant services using the state machine approach", section 2).
use Rattle.std.specs.Prelude.{◌≡◌, ⊤, ◌==◌, ◌+◌, ◌<◌, ◌≤◌, ◌⊎◌, ◌↔◌, ℕ, Bool, not, cond, leb, ltb, min, Option, Some, None, is_none, List, [], ◌∷◌, ◌++◌, length, filter, map, take}
use Rattle.std.specs.List.{find, sum_by, Contains}
use Rattle.bpf_insn.specs.declared.insn.Insn.{Insn}
use Rattle.bpf_insn.specs.declared.insn.TheConstants.{MAX_INSNS}
use Rattle.filter_verify.specs.declared.rules.Refusal.{Refusal}
use Rattle.filter_verify.specs.Rules.{Sound, Refuses}
use Rattle.filter_verify.specs.Numbers.{number_of, place_of}
use Rattle.bpf_insn.specs.Machine.{Packet, Ends}
use Rattle.endpoint_caps.specs.declared.Cap.{Cap}
use Rattle.endpoint_caps.specs.declared.CapFault.{CapFault}
use Rattle.endpoint_caps.specs.declared.CapFault.TheVariants as cap_fault
use Rattle.endpoint_caps.specs.declared.Right.TheVariants.{Receive}
use Rattle.endpoint_caps.specs.Capabilities.{CapTable, no_caps, cap_at, is_some_and, created, minted_from, revoked, dropped, first, holder_tests, right_tests, create_tests, mint_tests}
use Rattle.filter_table.specs.Listed.{ListedFilter}
use Rattle.filter_table.specs.Limits.{TableLimits}
use Rattle.filter_table.specs.declared.operation.Op.{Op}
use Rattle.filter_table.specs.declared.operation.Op.TheVariants.{Create, Mint, Revoke, DropCap, Install, Remove, Replace}
use Rattle.filter_table.specs.declared.operation.OpFault.TheVariants.{NoCap, NotHolder, NoRight, RightsExceed, EndpointTaken, CapsFull, IdsSpent, NoFilter, NotOwner, TableFull, DomainFull, FilterIdsSpent, BadProgram, VersionsSpent}
use Rattle.filter_table.specs.declared.operation.StageFault.{StageFault}
use Rattle.filter_table.specs.declared.operation.StageFault.TheVariants.{Rule, Budget, NoMemory}
use Rattle.filter_table.specs.declared.operation.Made.{Made}
use Rattle.filter_table.specs.declared.operation.Made.TheVariants as made_variants
use Rattle.filter_table.specs.declared.delivery.Kept.{Kept}

-- The state

pub record TableState : Type 0 where
  pub limits : TableLimits  -- no operation changes them
  pub version : ℕ
  pub caps : CapTable
  pub filters : List ListedFilter  -- in order of installation
  pub next_filter : ℕ

abbrev pub empty_table : TableLimits → TableState
empty_table limits = record { limits = limits; version = 0; caps = no_caps; filters = []; next_filter = 1 }

abbrev pub filter_at : List ListedFilter → ℕ → Option ListedFilter
filter_at filters id = find (λ f. f.id == id) filters

-- the instructions of all filters, which a core's budget bounds
abbrev pub instructions_of : List ListedFilter → ℕ
instructions_of filters = sum_by (λ f. length f.program) filters

-- the filters of one domain, of which its share is counted
abbrev pub owned_by : ℕ → List ListedFilter → List ListedFilter
owned_by domain filters = filter (λ f. f.owner == domain) filters

unfoldable pub instructions : TableState → ℕ
instructions s = instructions_of s.filters

-- What an operation does

-- the program of the filter with this id is replaced; its id, owner, capability and endpoint stay, and its place in order
abbrev pub replaced : List ListedFilter → ℕ → List Insn → List ListedFilter
replaced filters id program = map (λ f. cond (f.id == id) (record f { program = program }) f) filters

abbrev pub endpoint_of : Option Cap → ℕ
endpoint_of None = 0
endpoint_of (Some c) = c.endpoint

unfoldable pub after : TableState → Op → TableState
after s (Create domain endpoint) = record s { version = s.version + 1; caps = created s.caps domain endpoint }
after s (Mint domain cap to rights) = record s { version = s.version + 1; caps = minted_from s.caps cap to rights }
after s (Revoke domain cap) = record s { version = s.version + 1; caps = revoked s.caps cap }
after s (DropCap domain cap) = record s { version = s.version + 1; caps = dropped s.caps cap }
after s (Install domain cap program) = record s {
  version = s.version + 1;
  filters = s.filters ++ record { id = s.next_filter; owner = domain; cap = cap; endpoint = endpoint_of (cap_at s.caps.held cap); program = program } ∷ [];
  next_filter = s.next_filter + 1;
}
after s (Remove domain id) = record s { version = s.version + 1; filters = filter (λ f. not (f.id == id)) s.filters }
after s (Replace domain id program) = record s { version = s.version + 1; filters = replaced s.filters id program }

-- the id that the operation makes
unfoldable pub made : TableState → Op → Made
made s (Create domain endpoint) = made_variants.Cap s.caps.next
made s (Mint domain cap to rights) = made_variants.Cap s.caps.next
made s (Install domain cap program) = made_variants.Filter s.next_filter
made s op = made_variants.Nothing

-- Which operations are allowed

abbrev pub rule_of : CapFault → StageFault
rule_of cap_fault.NoCap = Rule NoCap
rule_of cap_fault.NotHolder = Rule NotHolder
rule_of cap_fault.NoRight = Rule NoRight
rule_of cap_fault.RightsExceed = Rule RightsExceed
rule_of cap_fault.EndpointTaken = Rule EndpointTaken
rule_of cap_fault.CapsFull = Rule CapsFull
rule_of cap_fault.DomainFull = Rule DomainFull
rule_of cap_fault.IdsSpent = Rule IdsSpent
rule_of cap_fault.NoMemory = NoMemory

abbrev pub as_rules : List (Bool × CapFault) → List (Bool × StageFault)
as_rules tests = map (λ test. (test.0, rule_of test.1)) tests

abbrev pub version_test : TableState → Bool × StageFault
version_test s = (s.version == 18446744073709551615, Rule VersionsSpent)

abbrev pub cap_of : Option ListedFilter → ℕ
cap_of None = 0
cap_of (Some f) = f.cap

abbrev pub owner_tests : List ListedFilter → ℕ → ℕ → List (Bool × StageFault)
owner_tests filters domain id =
    (is_none (filter_at filters id), Rule NoFilter)
    ∷ (not (is_some_and (λ f. f.owner == domain) (filter_at filters id)), Rule NotOwner)
    ∷ []

abbrev pub install_tests : TableState → ℕ → ℕ → ℕ → List Insn → List (Bool × StageFault)
install_tests s budget domain cap program =
    as_rules (right_tests s.caps.held domain cap Receive)
    ++ (leb s.limits.filters (length s.filters), Rule TableFull)
    ∷ (leb s.limits.domain_filters (length (owned_by domain s.filters)), Rule DomainFull)
    ∷ (ltb s.limits.domain_insns (instructions_of (owned_by domain s.filters) + length program), Rule DomainFull)
    ∷ (s.next_filter == 4294967295, Rule FilterIdsSpent)
    ∷ (ltb budget (instructions_of s.filters + length program), Budget)
    ∷ []

-- the capability is the filter's, and the new program is counted in place of the old
abbrev pub replace_tests : TableState → ℕ → ℕ → ℕ → List Insn → List (Bool × StageFault)
replace_tests s budget domain id program =
    owner_tests s.filters domain id
    ++ as_rules (right_tests s.caps.held domain (cap_of (filter_at s.filters id)) Receive)
    ++ (ltb s.limits.domain_insns (instructions_of (owned_by domain (replaced s.filters id program))), Rule DomainFull)
    ∷ (ltb budget (instructions_of (replaced s.filters id program)), Budget)
    ∷ []

-- what is tested of an operation, in order, before its program is verified
abbrev pub tests : TableState → ℕ → Op → List (Bool × StageFault)
tests s budget (Create domain endpoint) = version_test s ∷ as_rules (create_tests s.limits.caps s.caps domain endpoint)
tests s budget (Mint domain cap to rights) = version_test s ∷ as_rules (mint_tests s.limits.caps s.caps domain cap rights)
tests s budget (Revoke domain cap) = version_test s ∷ as_rules (holder_tests s.caps.held domain cap)
tests s budget (DropCap domain cap) = version_test s ∷ as_rules (holder_tests s.caps.held domain cap)
tests s budget (Install domain cap program) = version_test s ∷ install_tests s budget domain cap program
tests s budget (Remove domain id) = version_test s ∷ owner_tests s.filters domain id
tests s budget (Replace domain id program) = version_test s ∷ replace_tests s budget domain id program

-- the program that an operation brings
abbrev pub program_of : Op → Option (List Insn)
program_of (Install domain cap program) = Some program
program_of (Replace domain id program) = Some program
program_of op = None

-- a program that is sent is within the limit on instructions
abbrev pub HasShortProgram : Op → Type 0
HasShortProgram (Install domain cap program) = length program ≤ MAX_INSNS
HasShortProgram (Replace domain filter program) = length program ≤ MAX_INSNS
HasShortProgram op = ⊤

-- the answer of the verifier to the program, if there is one
abbrev pub Verifies : Option (List Insn) → Option StageFault → Type 0
Verifies None answer = answer ≡ None
Verifies (Some program) answer =
    (Sound program × (answer ≡ None))
    ⊎ ((refusal : Refusal) × Refuses program refusal × (answer ≡ Some (Rule (BadProgram (number_of refusal) (place_of refusal)))))

abbrev pub AnswersFirst : Option StageFault → Op → Option StageFault → Type 0
AnswersFirst (Some fault) op answer = answer ≡ Some fault
AnswersFirst None op answer = Verifies (program_of op) answer

-- the first refusal that stands at this state under this budget, or none
unfoldable pub Allowed : TableState → ℕ → Op → Option StageFault → Type 0
Allowed s budget op answer = AnswersFirst (first (tests s budget op)) op answer

-- Packets

-- one of the filters, of the endpoint and with a capability that is held, accepts the packet with this verdict
pub record Hands (caps : List Cap) (filters : List ListedFilter) (packet : Packet) (endpoint verdict : ℕ) : Type 0 where
  pub accepted_by : ListedFilter
  pub listed : Contains filters accepted_by
  pub of_endpoint : accepted_by.endpoint ≡ endpoint
  pub cap_held : is_none (cap_at caps accepted_by.cap) ≡ Bool.false
  pub steps : ℕ
  pub ends : Ends accepted_by.program packet verdict steps
  pub above_zero : 0 < verdict

-- the endpoint gets so many bytes of the packet: the greatest verdict's, at most the captured ones
pub record Gets (caps : List Cap) (filters : List ListedFilter) (packet : Packet) (endpoint kept : ℕ) : Type 0 where
  pub greatest : ℕ
  pub hands : Hands caps filters packet endpoint greatest
  pub above_all : (verdict : ℕ) → Hands caps filters packet endpoint verdict → verdict ≤ greatest
  pub is_kept : kept ≡ min greatest (length packet.bytes)

-- endpoints in increasing order
abbrev pub IsIncreasing : List Kept → Type 0
IsIncreasing [] = Unit {0}
IsIncreasing (a ∷ []) = Unit {0}
IsIncreasing (a ∷ b ∷ rest) = (a.endpoint < b.endpoint) × IsIncreasing (b ∷ rest)

-- the list of those that get the packet
pub record AreReceivers (caps : List Cap) (filters : List ListedFilter) (packet : Packet) (kept : List Kept) : Type 0 where
  pub increasing : IsIncreasing kept
  pub each : (endpoint bytes : ℕ) → Contains kept (record { endpoint = endpoint; kept = bytes }) ↔ Gets caps filters packet endpoint bytes

-- those whose filters in this table accept the packet
abbrev pub Accepting : TableState → Packet → List Kept → Type 0
Accepting s packet kept = AreReceivers s.caps.held s.filters packet kept

-- Logs

abbrev pub after_all : TableState → List Op → TableState
after_all s [] = s
after_all s (op ∷ ops) = after_all (after s op) ops

-- the table after the first v operations of the log, on a machine with these limits
unfoldable pub table : TableLimits → List Op → ℕ → TableState
table limits log v = after_all (empty_table limits) (take v log)
