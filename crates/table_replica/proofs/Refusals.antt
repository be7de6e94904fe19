-- What a refused program says of staging its operation, and what the tests of an operation are without that of the version.
use Rattle.std.proofs.Common.{◌≡◌, ◌≢◌, ◌==◌, inl, inr, ℕ, Bool, true, false, cond, Option, Some, None, List, [], ◌∷◌, refl, sym, ap, ◌∙◌, subst, arith}
use Rattle.std.specs.Option.{option_map}
use Rattle.std.proofs.lemmas.Bool.Decides.{nat_tests}
use Rattle.bpf_insn.specs.declared.insn.Insn.{Insn}
use Rattle.endpoint_caps.specs.declared.CapFault.{CapFault}
use Rattle.endpoint_caps.specs.Capabilities.{first}
use Rattle.filter_table.specs.declared.operation.Op.{Op}
use Rattle.filter_table.specs.declared.operation.StageFault.{StageFault}
use Rattle.filter_table.specs.declared.operation.StageFault.TheVariants.{AlreadyStaged, Rule, Budget, NoMemory}
use Rattle.filter_table.specs.declared.operation.OpFault.TheVariants.{VersionsSpent}
use Rattle.filter_table.specs.Tables.{TableState, tests, Verifies, program_of, as_rules, rule_of}
use Rattle.filter_verify.specs.Rules.{IsWellShaped}
use Rattle.filter_table.specs.Staging.{VerifierAsks, CannotStage}
use Rattle.table_replica.specs.Replicas.{RefusesAs}
use Rattle.filter_table.proofs.Changes.{allowed_if}

pub cannot_program : (s : TableState) (budget : ℕ) (op : Op) (f : StageFault) → first (tests s budget op) ≡ None → RefusesAs (program_of op) f → CannotStage s budget op None f
cannot_program s budget op AlreadyStaged h r = absurd (never (program_of op) r)
  where
    never : (p : Option (List Insn)) → Verifies p (Some AlreadyStaged) → ⊥
    never None v = cc
    never (Some p) (inl v) = cc (v.1)
    never (Some p) (inr v) = cc (v.2)
cannot_program s budget op (Rule fault) h r = (refl, allowed_if s budget op (Some (Rule fault)) h r)
cannot_program s budget op Budget h r = (refl, allowed_if s budget op (Some Budget) h r)
cannot_program s budget op NoMemory h r = (refl, record { passed = h; shaped = asked (program_of op) r })
  where
    asked : (brought : Option (List Insn)) → VerifierAsks brought → (program : List Insn) → brought ≡ Some program → IsWellShaped program
    asked None asks program is = absurd asks
    asked (Some other) asks program is = let same : other ≡ program = cc in subst IsWellShaped same asks

-- a version is left, so the other tests decide
after_version : (version : ℕ) (rest : List (Bool × StageFault)) (answer : Option StageFault) → version ≢ 18446744073709551615 → answer ≡ first rest
    → answer ≡ first ((version == 18446744073709551615, Rule VersionsSpent) ∷ rest)
after_version version rest answer left is = grind (arith, nat_tests)

rules_first : (faults : List (Bool × CapFault)) → first (as_rules faults) ≡ option_map rule_of (first faults)
rules_first [] = refl
rules_first (test ∷ rest) = by_test test.0 (rules_first rest)
  where
    by_test : (stands : Bool) → first (as_rules rest) ≡ option_map rule_of (first rest) → cond stands (Some (rule_of test.1)) (first (as_rules rest)) ≡ option_map rule_of (cond stands (Some test.1) (first rest))
    by_test true later = refl
    by_test false later = later

-- and where they are of the capabilities
pub caps_decide : (version : ℕ) (faults : List (Bool × CapFault)) (fault : Option CapFault) (answer : Option StageFault) → version ≢ 18446744073709551615 → fault ≡ first faults
    → answer ≡ option_map rule_of fault → answer ≡ first ((version == 18446744073709551615, Rule VersionsSpent) ∷ as_rules faults)
caps_decide version faults fault answer left is ruled = after_version version (as_rules faults) answer left (ruled ∙ ap (option_map rule_of) is ∙ sym (rules_first faults))
