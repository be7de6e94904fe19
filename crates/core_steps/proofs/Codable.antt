-- Bytes stand for what core 0 sends.
use Rattle.std.proofs.Common.{◌≡◌, ◌∙◌, ◌∷◌, ◌≤◌, ◌||◌, inl, inr, ℕ, Bool, true, false, Option, None, Some, List, [], length, refl, sym, subst, arith}
use Rattle.std.specs.List.{list_any}
use Rattle.bpf_insn.specs.declared.insn.Insn.{Insn}
use Rattle.endpoint_caps.specs.Capabilities.{first}
use Rattle.filter_verify.specs.Numbers.{number_of}
use Rattle.filter_verify.specs.Rules.{Refuses}
use Rattle.filter_verify.specs.declared.rules.Refusal.{Refusal}
use Rattle.filter_verify.specs.declared.rules.Refusal.TheVariants as reason
use Rattle.filter_table.specs.declared.operation.Op.{Op}
use Rattle.filter_table.specs.declared.operation.Op.TheVariants.{Create, Mint, Revoke, DropCap, Install, Remove, Replace}
use Rattle.filter_table.specs.declared.operation.OpFault.{OpFault}
use Rattle.filter_table.specs.declared.operation.OpFault.TheVariants.{BadProgram}
use Rattle.filter_table.specs.declared.operation.StageFault.{StageFault}
use Rattle.filter_table.specs.declared.operation.StageFault.TheVariants as stage_fault
use Rattle.table_replica.specs.Shown.{ReplicaState}
use Rattle.filter_table.specs.Tables.{TableState, tests, program_of, Verifies, Allowed}
use Rattle.filter_table.proofs.Tables.{allowed_tests, allowed_answers}
use Rattle.filter_table.specs.Tables.{HasShortProgram}
use Rattle.monitor_messages.specs.Coding.{IsNumbered}
use Rattle.monitor_messages.specs.declared.message.Message.TheVariants as message
use Rattle.filter_table.specs.declared.decision.Veto.TheVariants as veto
use Rattle.filter_table.specs.declared.decision.Decision.{Decision}
use Rattle.filter_table.specs.declared.decision.Decision.TheVariants.{Refused}
use Rattle.monitor_messages.specs.declared.message.Message.{Message}
use Rattle.monitor_messages.specs.Coding.{IsShort}
use Rattle.two_phase.specs.Coordinators.{veto_of}
use Rattle.monitor_2pc.specs.Starting.{WasStaged}
use Rattle.core_steps.specs.Core0Steps.{CanBeSent}

-- an operation that is allowed is short

sound_short : (program : List Insn) → Verifies (Some program) None → length program ≤ 4096
sound_short program (inl v) = v.0.shaped.sized.1
sound_short program (inr v) = absurd (cc (v.2))

pub allowed_short : (s : TableState) (b : ℕ) (op : Op) → Allowed s b op None → HasShortProgram op
allowed_short s b (Install domain cap program) a = sound_short program (allowed_answers s b (Install domain cap program) None None (allowed_tests s b (Install domain cap program) a) a)
allowed_short s b (Replace domain id program) a = sound_short program (allowed_answers s b (Replace domain id program) None None (allowed_tests s b (Replace domain id program) a) a)
allowed_short s b (Create domain endpoint) a = tt
allowed_short s b (Mint domain cap to rights) a = tt
allowed_short s b (Revoke domain cap) a = tt
allowed_short s b (DropCap domain cap) a = tt
allowed_short s b (Remove domain id) a = tt

-- A refusal can be sent

number_within : (program : List Insn) (r : Refusal) → Refuses program r → (1 ≤ number_of r) × (number_of r ≤ 10)
number_within program reason.NoMemory h = absurd h
number_within program r h = (omega arith, omega arith)

abbrev is_bad : StageFault → Bool
is_bad (stage_fault.Rule (BadProgram rule pc)) = true
is_bad fault = false

first_bad : (ts : List (Bool × StageFault)) (rule pc : ℕ) → first ts ≡ Some (stage_fault.Rule (BadProgram rule pc)) → list_any (λ t. is_bad t.1) ts ≡ true
first_bad [] rule pc h = absurd cc
first_bad (t ∷ ts) rule pc h = by_test t.0 refl (first_bad ts rule pc)
  where
    by_test : (b : Bool) → t.0 ≡ b → (first ts ≡ Some (stage_fault.Rule (BadProgram rule pc)) → list_any (λ t. is_bad t.1) ts ≡ true) → list_any (λ t. is_bad t.1) (t ∷ ts) ≡ true
    by_test true e rest = let h' = rw e at h in let f : t.1 ≡ stage_fault.Rule (BadProgram rule pc) = cc in rw f refl
    by_test false e rest = either (is_bad t.1) (rest (rw e at h))
      where
        either : (b : Bool) → list_any (λ t. is_bad t.1) ts ≡ true → (b || list_any (λ t. is_bad t.1) ts) ≡ true
        either true r = refl
        either false r = r

-- no test says that a program is bad
none_bad : (s : TableState) (b : ℕ) (op : Op) → list_any (λ t. is_bad t.1) (tests s b op) ≡ false
none_bad s b (Create domain endpoint) = refl
none_bad s b (Mint domain cap to rights) = refl
none_bad s b (Revoke domain cap) = refl
none_bad s b (DropCap domain cap) = refl
none_bad s b (Install domain cap program) = refl
none_bad s b (Remove domain id) = refl
none_bad s b (Replace domain id program) = refl

verified_within : (program : Option (List Insn)) (rule pc : ℕ) → Verifies program (Some (stage_fault.Rule (BadProgram rule pc))) → (1 ≤ rule) × (rule ≤ 10)
verified_within None rule pc v = absurd cc
verified_within (Some program) rule pc (inl v) = absurd (cc (v.1))
verified_within (Some program) rule pc (inr v) =
    let same : rule ≡ number_of v.0 = cc (v.2) in
    rw same (number_within program v.0 (v.1))

bad_within : (s : TableState) (b : ℕ) (op : Op) (rule pc : ℕ) → Allowed s b op (Some (stage_fault.Rule (BadProgram rule pc))) → (1 ≤ rule) × (rule ≤ 10)
bad_within s b op rule pc a = by_first (first (tests s b op)) refl
  where
    by_first : (f : Option StageFault) → first (tests s b op) ≡ f → (1 ≤ rule) × (rule ≤ 10)
    by_first None e = verified_within (program_of op) rule pc (allowed_answers s b op (Some (stage_fault.Rule (BadProgram rule pc))) None e a)
    by_first (Some fault) e =
        let is : Some (stage_fault.Rule (BadProgram rule pc)) ≡ Some fault = allowed_answers s b op (Some (stage_fault.Rule (BadProgram rule pc))) (Some fault) e a in
        absurd (let x = first_bad (tests s b op) rule pc (e ∙ sym is) in let y = none_bad s b op in cc)

rule_numbered : (f : OpFault) → ((rule pc : ℕ) → f ≡ BadProgram rule pc → (1 ≤ rule) × (rule ≤ 10)) → IsNumbered (message.Reply (Refused 0 (veto.Rule f)))
rule_numbered (BadProgram rule pc) h = h rule pc refl
rule_numbered f h = tt

pub fault_numbered : (s : TableState) (b : ℕ) (op : Op) (fault : StageFault) → Allowed s b op (Some fault) → IsNumbered (message.Reply (Refused 0 (veto_of fault)))
fault_numbered s b op (stage_fault.Rule f) a = rule_numbered f (λ rule pc e. bad_within s b op rule pc (subst (λ (x : OpFault). Allowed s b op (Some (stage_fault.Rule x))) e a))
fault_numbered s b op stage_fault.Budget a = tt
fault_numbered s b op stage_fault.AlreadyStaged a = tt
fault_numbered s b op stage_fault.NoMemory a = tt

-- where the replica refused to stage it
pub refusal_numbered : (r : ReplicaState) (op : Op) (fault : StageFault) → WasStaged r op (Some fault) → IsNumbered (message.Reply (Refused 0 (veto_of fault)))
refusal_numbered r op (stage_fault.Rule f) was = fault_numbered r.shown r.budget op (stage_fault.Rule f) (was.1.1)
refusal_numbered r op stage_fault.Budget was = tt
refusal_numbered r op stage_fault.AlreadyStaged was = tt
refusal_numbered r op stage_fault.NoMemory was = tt

-- where it has staged it
pub prepare_codable : (r : ReplicaState) (op : Op) (m : Message) (txn : ℕ) → WasStaged r op None → m ≡ message.Prepare txn op → IsShort m × IsNumbered m
prepare_codable r op m txn was is = rw is (allowed_short r.shown r.budget op was.1, tt)

-- what was decided
pub decided_numbered : (decided : Option Decision) (decision : Decision) → CanBeSent decided → decided ≡ Some decision → IsNumbered (message.Reply decision)
decided_numbered decided decision can is = rw is at can
