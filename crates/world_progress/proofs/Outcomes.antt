-- Each operation is allowed, breaks a rule or exceeds the budget.
use Rattle.std.proofs.Common.{◌≡◌, ◌⊎◌, inl, inr, ℕ, Bool, true, false, Option, Some, None, List, [], ◌∷◌, refl}
use Rattle.std.specs.List.{list_all}
use Rattle.bpf_insn.specs.declared.insn.Insn.{Insn}
use Rattle.filter_verify.specs.declared.rules.Refusal.{Refusal}
use Rattle.filter_verify.specs.Rules.{Sound, Refuses, IsDecided}
use Rattle.filter_verify.specs.Numbers.{number_of, place_of}
use Rattle.filter_verify.proofs.Sorting.{sound_or_refused}
use Rattle.endpoint_caps.specs.Capabilities.{first}
use Rattle.filter_table.specs.declared.operation.Op.{Op}
use Rattle.filter_table.specs.declared.operation.Op.TheVariants.{Create, Mint, Revoke, DropCap, Install, Remove, Replace}
use Rattle.filter_table.specs.declared.operation.OpFault.{OpFault}
use Rattle.filter_table.specs.declared.operation.OpFault.TheVariants.{BadProgram}
use Rattle.filter_table.specs.declared.operation.StageFault.{StageFault}
use Rattle.filter_table.specs.declared.operation.StageFault.TheVariants.{AlreadyStaged, Rule, Budget, NoMemory}
use Rattle.filter_table.specs.Tables.{TableState, tests, program_of, AnswersFirst, Allowed}

-- The tests are of rules and of the budget

abbrev is_tested : StageFault → Bool
is_tested (Rule fault) = true
is_tested Budget = true
is_tested fault = false

first_tested : (ts : List (Bool × StageFault)) (fault : StageFault) → list_all (λ t. is_tested t.1) ts ≡ true → first ts ≡ Some fault → is_tested fault ≡ true
first_tested [] fault all h = absurd cc
first_tested (t ∷ ts) fault all h = by_kind (is_tested t.1) refl t.0 refl (first_tested ts fault)
  where
    by_kind : (k : Bool) → is_tested t.1 ≡ k → (b : Bool) → t.0 ≡ b → (list_all (λ t. is_tested t.1) ts ≡ true → first ts ≡ Some fault → is_tested fault ≡ true) → is_tested fault ≡ true
    by_kind false k b e rest = absurd (let x = rw k at all in cc)
    by_kind true k true e rest = let h' = rw e at h in let same : t.1 ≡ fault = cc in rw (← same) k
    by_kind true k false e rest = rest (rw k at all) (rw e at h)

all_tested : (s : TableState) (budget : ℕ) (op : Op) → list_all (λ t. is_tested t.1) (tests s budget op) ≡ true
all_tested s budget (Create domain endpoint) = refl
all_tested s budget (Mint domain cap to rights) = refl
all_tested s budget (Revoke domain cap) = refl
all_tested s budget (DropCap domain cap) = refl
all_tested s budget (Install domain cap program) = refl
all_tested s budget (Remove domain id) = refl
all_tested s budget (Replace domain id program) = refl

-- What becomes of an operation

pub data Outcome (s : TableState) (budget : ℕ) (op : Op) : Type 0 where
  allows : Allowed s budget op None → Outcome s budget op
  breaks : (fault : OpFault) → Allowed s budget op (Some (Rule fault)) → Outcome s budget op
  exceeds : Allowed s budget op (Some Budget) → Outcome s budget op

answered : (s : TableState) (budget : ℕ) (op : Op) (answer f : Option StageFault) → first (tests s budget op) ≡ f → AnswersFirst f op answer → Allowed s budget op answer
unfolding Allowed
answered s budget op answer f e a = rw e a

either_way : (program : List Insn) → Sound program ⊎ ((refusal : Refusal) × Refuses program refusal)
unfolding IsDecided
either_way program = sound_or_refused program

pub outcome : (s : TableState) (budget : ℕ) (op : Op) → Outcome s budget op
outcome s budget op = by_first (first (tests s budget op)) refl
  where
    by_program : (p : Option (List Insn)) → program_of op ≡ p → first (tests s budget op) ≡ None → Outcome s budget op
    by_program None is e = allows (answered s budget op None None e (rw is refl))
    by_program (Some program) is e = by_verdict (either_way program)
      where
        by_verdict : Sound program ⊎ ((refusal : Refusal) × Refuses program refusal) → Outcome s budget op
        by_verdict (inl sound) = allows (answered s budget op None None e (rw is (inl (sound, refl))))
        by_verdict (inr r) = breaks (BadProgram (number_of r.0) (place_of r.0)) (answered s budget op _ None e (rw is (inr (r.0, r.1, refl))))

    by_fault : (fault : StageFault) → first (tests s budget op) ≡ Some fault → is_tested fault ≡ true → Outcome s budget op
    by_fault (Rule fault) e t = breaks fault (answered s budget op (Some (Rule fault)) (Some (Rule fault)) e refl)
    by_fault Budget e t = exceeds (answered s budget op (Some Budget) (Some Budget) e refl)
    by_fault AlreadyStaged e t = absurd cc
    by_fault NoMemory e t = absurd cc

    by_first : (f : Option StageFault) → first (tests s budget op) ≡ f → Outcome s budget op
    by_first None e = by_program (program_of op) refl e
    by_first (Some fault) e = by_fault fault e (first_tested (tests s budget op) fault (all_tested s budget op) e)
