-- Laws of the table: what an operation changes of version and instructions, and what a longer log leaves.
use Rattle.std.proofs.Common.{◌≡◌, ◌+◌, ◌<◌, ◌≤◌, ◌==◌, ℕ, zero, suc, Bool, true, false, not, Option, Some, None, List, [], ◌∷◌, ◌++◌, length, filter, take, slice_get, refl, ap, sym, ◌∙◌, subst, arith, ltb, ◌⊎◌, ◌||◌, inl, inr}
use Rattle.std.proofs.lemmas.List.{take_all, take-append-le}
use Rattle.std.proofs.lemmas.List.Sums.{sum_by-append}
use Rattle.std.proofs.lemmas.Bool.Decides.{nat_tests}
use Rattle.std.specs.List.{list_any}
use Rattle.filter_table.specs.Listed.{ListedFilter}
use Rattle.filter_table.specs.declared.operation.Op.{Op}
use Rattle.filter_table.specs.declared.operation.Op.TheVariants.{Create, Mint, Revoke, DropCap, Install, Remove, Replace}
use Rattle.filter_table.specs.declared.operation.StageFault.{StageFault}
use Rattle.filter_table.specs.declared.operation.StageFault.TheVariants.{Rule, Budget}
use Rattle.filter_table.specs.declared.operation.OpFault.{OpFault}
use Rattle.filter_table.specs.declared.operation.OpFault.TheVariants.{BadProgram}
use Rattle.bpf_insn.specs.declared.insn.Insn.{Insn}
use Rattle.filter_verify.specs.declared.rules.Refusal.{Refusal}
use Rattle.filter_verify.specs.Rules.{Sound, Refuses}
use Rattle.filter_verify.specs.Numbers.{number_of, place_of}
use Rattle.filter_verify.proofs.Reasons.{Refuses-sound}
use Rattle.endpoint_caps.specs.Capabilities.{first}
use Rattle.filter_table.specs.Limits.{TableLimits}
use Rattle.filter_table.specs.Tables.{TableState, replaced, empty_table, after, after_all, table, instructions, instructions_of, tests, AnswersFirst, program_of, Verifies, Allowed}

pub version-after : (s : TableState) (op : Op) → (after s op).version ≡ s.version + 1
unfolding after
version-after s (Create domain endpoint) = refl
version-after s (Mint domain from to rights) = refl
version-after s (Revoke domain from) = refl
version-after s (DropCap domain from) = refl
version-after s (Install domain from program) = refl
version-after s (Remove domain id) = refl
version-after s (Replace domain id program) = refl

pub after_all-append : (s : TableState) (xs ys : List Op) → after_all s (xs ++ ys) ≡ after_all (after_all s xs) ys
after_all-append s [] ys = refl
after_all-append s (x ∷ xs) ys = after_all-append (after s x) xs ys

pub version-after_all : (s : TableState) (ops : List Op) → (after_all s ops).version ≡ s.version + length ops
version-after_all s [] = omega arith
version-after_all s (op ∷ ops) = omega (arith, version-after_all (after s op) ops, version-after s op)

-- no operation changes the limits
pub limits-after : (s : TableState) (op : Op) → (after s op).limits ≡ s.limits
unfolding after
limits-after s (Create domain endpoint) = refl
limits-after s (Mint domain from to rights) = refl
limits-after s (Revoke domain from) = refl
limits-after s (DropCap domain from) = refl
limits-after s (Install domain from program) = refl
limits-after s (Remove domain id) = refl
limits-after s (Replace domain id program) = refl

limits-after_all : (s : TableState) (ops : List Op) → (after_all s ops).limits ≡ s.limits
limits-after_all s [] = refl
limits-after_all s (op ∷ ops) = limits-after_all (after s op) ops ∙ limits-after s op

pub table_limits : (limits : TableLimits) (log : List Op) (v : ℕ) → (table limits log v).limits ≡ limits
unfolding table
table_limits limits log v = limits-after_all (empty_table limits) (take v log)

-- the table after the whole log
pub table_whole : (limits : TableLimits) (log : List Op) → table limits log (length log) ≡ after_all (empty_table limits) log
unfolding table
table_whole limits log = ap (after_all (empty_table limits)) (take_all (length log) log (omega arith))

pub table_next : (limits : TableLimits) (log : List Op) (op : Op) → table limits (log ++ op ∷ []) (length (log ++ op ∷ [])) ≡ after (table limits log (length log)) op
table_next limits log op = table_whole limits (log ++ op ∷ []) ∙ after_all-append (empty_table limits) log (op ∷ []) ∙ ap (λ s. after s op) (sym (table_whole limits log))

-- a longer log has the same tables at the versions of the shorter
pub table_front : (limits : TableLimits) (log more : List Op) (v : ℕ) → v ≤ length log → table limits (log ++ more) v ≡ table limits log v
unfolding table
table_front limits log more v h = ap (after_all (empty_table limits)) (take-append-le v log more h)

pub table_version : (limits : TableLimits) (log : List Op) → (table limits log (length log)).version ≡ length log
table_version limits log = ap (λ (s : TableState). s.version) (table_whole limits log) ∙ (version-after_all (empty_table limits) log ∙ omega arith)

-- the tests of an allowed operation fail
pub first_none : {A : Type 0} (tests : List (Bool × A)) (i : ℕ) (test : Bool × A) → first tests ≡ None → slice_get tests i ≡ Some test → test.0 ≡ false
first_none [] i test h at = absurd cc
first_none (t ∷ ts) i test h at = by_first t.0 refl i at (λ j. first_none ts j test)
  where
    by_first : (b : Bool) → t.0 ≡ b → (i : ℕ) → slice_get (t ∷ ts) i ≡ Some test → ((j : ℕ) → first ts ≡ None → slice_get ts j ≡ Some test → test.0 ≡ false) → test.0 ≡ false
    by_first true e i at rest = absurd (let h' = rw e at h in cc)
    by_first false e zero at rest = cc
    by_first false e (suc i) at rest = rest i (rw e at h) at

pub allowed_tests : (s : TableState) (budget : ℕ) (op : Op) → Allowed s budget op None → first (tests s budget op) ≡ None
unfolding Allowed
allowed_tests s budget op allowed = by_first (first (tests s budget op)) refl allowed
  where
    by_first : (f : Option StageFault) → first (tests s budget op) ≡ f → AnswersFirst f op None → first (tests s budget op) ≡ None
    by_first None e a = e
    by_first (Some fault) e a = absurd cc

pub sum_filter : (p : ListedFilter → Bool) (fs : List ListedFilter) → instructions_of (filter p fs) ≤ instructions_of fs
sum_filter p [] = omega arith
sum_filter p (f ∷ fs) = by_test (p f) refl (sum_filter p fs)
  where
    by_test : (b : Bool) → p f ≡ b → instructions_of (filter p fs) ≤ instructions_of fs → instructions_of (filter p (f ∷ fs)) ≤ instructions_of (f ∷ fs)
    by_test true e rest = rw e (omega (arith, rest, sum_by-append (λ (g : ListedFilter). length g.program) (f ∷ []) fs, sum_by-append (λ (g : ListedFilter). length g.program) (f ∷ []) (filter p fs)))
    by_test false e rest = rw e (omega (arith, rest, sum_by-append (λ (g : ListedFilter). length g.program) (f ∷ []) fs))

-- an operation that no test refuses keeps within the budget
pub tests_fit : (s : TableState) (budget : ℕ) (op : Op) → first (tests s budget op) ≡ None → instructions s ≤ budget → instructions (after s op) ≤ budget
unfolding instructions after
tests_fit s budget (Create domain endpoint) passed h = h
tests_fit s budget (Mint domain from to rights) passed h = h
tests_fit s budget (Revoke domain from) passed h = h
tests_fit s budget (DropCap domain from) passed h = h
tests_fit s budget (Install domain from program) passed h =
    let within = first_none (tests s budget (Install domain from program)) 8 _ passed refl in
    simp sum_by-append (grind (arith, nat_tests, within))
tests_fit s budget (Remove domain id) passed h = omega (arith, sum_filter (λ f. not (f.id == id)) s.filters)
tests_fit s budget (Replace domain id program) passed h =
    let within = first_none (tests s budget (Replace domain id program)) 7 _ passed refl in
    grind (arith, nat_tests, within)

pub allowed_fits : (s : TableState) (budget : ℕ) (op : Op) → Allowed s budget op None → instructions s ≤ budget → instructions (after s op) ≤ budget
allowed_fits s budget op allowed h = tests_fit s budget op (allowed_tests s budget op allowed) h

pub instructions_opening : (limits : TableLimits) → instructions (empty_table limits) ≡ 0
unfolding instructions
instructions_opening limits = refl

-- The budget decides nothing but the budget: what one core allows, no core refuses by a rule

first_front : {A : Type 0} (xs ys : List (Bool × A)) → first (xs ++ ys) ≡ None → first xs ≡ None
first_front [] ys h = refl
first_front (x ∷ xs) ys h = by_test x.0 refl (first_front xs ys)
  where
    by_test : (b : Bool) → x.0 ≡ b → (first (xs ++ ys) ≡ None → first xs ≡ None) → first (x ∷ xs) ≡ None
    by_test true e rest = absurd (let h' = rw e at h in cc)
    by_test false e rest = rw e (rest (rw e at h))

first_skip : {A : Type 0} (xs ys : List (Bool × A)) → first xs ≡ None → first (xs ++ ys) ≡ first ys
first_skip [] ys h = refl
first_skip (x ∷ xs) ys h = by_test x.0 refl (first_skip xs ys)
  where
    by_test : (b : Bool) → x.0 ≡ b → (first xs ≡ None → first (xs ++ ys) ≡ first ys) → first ((x ∷ xs) ++ ys) ≡ first ys
    by_test true e rest = absurd (let h' = rw e at h in cc)
    by_test false e rest = rw e (rest (rw e at h))

pub allowed_answers : (s : TableState) (budget : ℕ) (op : Op) (answer : Option StageFault) (f : Option StageFault) → first (tests s budget op) ≡ f → Allowed s budget op answer → AnswersFirst f op answer
unfolding Allowed
allowed_answers s budget op answer f e a = rw e at a

-- an operation whose last test is the budget's, and which brings a program
elsewhere_last : (s : TableState) (b b' : ℕ) (op : Op) (fault : OpFault) (program : List Insn) (front : List (Bool × StageFault)) (over over' : Bool)
    → tests s b op ≡ front ++ (over, Budget) ∷ [] → tests s b' op ≡ front ++ (over', Budget) ∷ [] → program_of op ≡ Some program
    → Allowed s b op None → Allowed s b' op (Some (Rule fault)) → ⊥
elsewhere_last s b b' op fault program front over over' here there brings a r = by_last over' refl
  where
    none : first (tests s b op) ≡ None
    none = allowed_tests s b op a

    front_none : first front ≡ None
    front_none = first_front front ((over, Budget) ∷ []) (ap first (sym here) ∙ none)

    last_left : first (tests s b' op) ≡ first ((over', Budget) ∷ [])
    last_left = ap first there ∙ first_skip front ((over', Budget) ∷ []) front_none

    sound : Sound program
    sound = by_verdict (subst (λ (p : Option (List Insn)). Verifies p None) brings (allowed_answers s b op None None none a))
      where
        by_verdict : (Sound program × (◌≡◌ {A = Option StageFault} None None)) ⊎ ((refusal : Refusal) × Refuses program refusal × (◌≡◌ {A = Option StageFault} None (Some (Rule (BadProgram (number_of refusal) (place_of refusal)))))) → Sound program
        by_verdict (inl v) = v.0
        by_verdict (inr v) = absurd (cc (v.2))

    by_last : (t : Bool) → over' ≡ t → ⊥
    by_last true e = let x = allowed_answers s b' op _ (Some Budget) (last_left ∙ rw e refl) r in cc
    by_last false e = by_verdict (subst (λ (p : Option (List Insn)). Verifies p (Some (Rule fault))) brings (allowed_answers s b' op _ None (last_left ∙ rw e refl) r))
      where
        by_verdict : (Sound program × (◌≡◌ {A = Option StageFault} (Some (Rule fault)) None)) ⊎ ((refusal : Refusal) × Refuses program refusal × (Some (Rule fault) ≡ Some (Rule (BadProgram (number_of refusal) (place_of refusal))))) → ⊥
        by_verdict (inl v) = cc (v.1)
        by_verdict (inr v) = Refuses-sound program v.0 sound v.1

pub allowed_elsewhere : (s : TableState) (b b' : ℕ) (op : Op) (fault : OpFault) → Allowed s b op None → Allowed s b' op (Some (Rule fault)) → ⊥
allowed_elsewhere s b b' (Create domain endpoint) fault a r = let x = allowed_answers s b' (Create domain endpoint) _ None (allowed_tests s b (Create domain endpoint) a) r in cc
allowed_elsewhere s b b' (Mint domain from to rights) fault a r = let x = allowed_answers s b' (Mint domain from to rights) _ None (allowed_tests s b (Mint domain from to rights) a) r in cc
allowed_elsewhere s b b' (Revoke domain from) fault a r = let x = allowed_answers s b' (Revoke domain from) _ None (allowed_tests s b (Revoke domain from) a) r in cc
allowed_elsewhere s b b' (DropCap domain from) fault a r = let x = allowed_answers s b' (DropCap domain from) _ None (allowed_tests s b (DropCap domain from) a) r in cc
allowed_elsewhere s b b' (Remove domain id) fault a r = let x = allowed_answers s b' (Remove domain id) _ None (allowed_tests s b (Remove domain id) a) r in cc
allowed_elsewhere s b b' (Install domain from program) fault a r =
    elsewhere_last s b b' (Install domain from program) fault program (take 8 (tests s b (Install domain from program)))
    (ltb b (instructions_of s.filters + length program)) (ltb b' (instructions_of s.filters + length program)) refl refl refl a r
allowed_elsewhere s b b' (Replace domain id program) fault a r =
    elsewhere_last s b b' (Replace domain id program) fault program (take 7 (tests s b (Replace domain id program)))
    (ltb b (instructions_of (replaced s.filters id program))) (ltb b' (instructions_of (replaced s.filters id program))) refl refl refl a r

-- Where the first refusal is the budget's, the operation exceeds it

last_false : {A : Type 0} (xs : List (Bool × A)) (y : Bool × A) (g : A) → y.0 ≡ false → first (xs ++ y ∷ []) ≡ Some g → first xs ≡ Some g
last_false [] y g f h = absurd (let h' = rw f at h in cc)
last_false (x ∷ xs) y g f h = by_test x.0 refl (last_false xs y g f)
  where
    by_test : (b : Bool) → x.0 ≡ b → (first (xs ++ y ∷ []) ≡ Some g → first xs ≡ Some g) → first (x ∷ xs) ≡ Some g
    by_test true e rest = rw e (rw e at h)
    by_test false e rest = rw e (rest (rw e at h))

abbrev is_budget : StageFault → Bool
is_budget Budget = true
is_budget fault = false

first_budget : (ts : List (Bool × StageFault)) → first ts ≡ Some Budget → list_any (λ t. is_budget t.1) ts ≡ true
first_budget [] h = absurd cc
first_budget (t ∷ ts) h = by_test t.0 refl (first_budget ts)
  where
    by_test : (b : Bool) → t.0 ≡ b → (first ts ≡ Some Budget → list_any (λ t. is_budget t.1) ts ≡ true) → list_any (λ t. is_budget t.1) (t ∷ ts) ≡ true
    by_test true e rest = let h' = rw e at h in let f : t.1 ≡ Budget = cc in rw f refl
    by_test false e rest = either (is_budget t.1) (rest (rw e at h))
      where
        either : (b : Bool) → list_any (λ t. is_budget t.1) ts ≡ true → (b || list_any (λ t. is_budget t.1) ts) ≡ true
        either true r = refl
        either false r = r

budget_first : (s : TableState) (budget : ℕ) (op : Op) → Allowed s budget op (Some Budget) → first (tests s budget op) ≡ Some Budget
budget_first s budget op a = by_first (first (tests s budget op)) refl
  where
    verified : (p : Option (List Insn)) → Verifies p (Some Budget) → ⊥
    verified None v = cc
    verified (Some program) (inl v) = cc (v.1)
    verified (Some program) (inr v) = cc (v.2)

    by_first : (f : Option StageFault) → first (tests s budget op) ≡ f → first (tests s budget op) ≡ Some Budget
    by_first None e = absurd (verified (program_of op) (allowed_answers s budget op (Some Budget) None e a))
    by_first (Some fault) e = let x = allowed_answers s budget op (Some Budget) (Some fault) e a in cc

-- an operation whose last test alone is the budget's
over_last : (s : TableState) (budget : ℕ) (op : Op) (front : List (Bool × StageFault)) (over : Bool) → tests s budget op ≡ front ++ (over, Budget) ∷ [] → list_any (λ t. is_budget t.1) front ≡ false
    → Allowed s budget op (Some Budget) → over ≡ true
over_last s budget op front over is none a = by_last over refl
  where
    by_last : (t : Bool) → over ≡ t → over ≡ true
    by_last true e = e
    by_last false e = absurd (let x = first_budget front (last_false front (over, Budget) Budget e (ap first (sym is) ∙ budget_first s budget op a)) in cc)

pub over_budget : (s : TableState) (budget : ℕ) (op : Op) → Allowed s budget op (Some Budget) → budget < instructions (after s op)
unfolding instructions after
over_budget s budget (Create domain endpoint) a = absurd (let x = first_budget (tests s budget (Create domain endpoint)) (budget_first s budget (Create domain endpoint) a) in cc)
over_budget s budget (Mint domain from to rights) a = absurd (let x = first_budget (tests s budget (Mint domain from to rights)) (budget_first s budget (Mint domain from to rights) a) in cc)
over_budget s budget (Revoke domain from) a = absurd (let x = first_budget (tests s budget (Revoke domain from)) (budget_first s budget (Revoke domain from) a) in cc)
over_budget s budget (DropCap domain from) a = absurd (let x = first_budget (tests s budget (DropCap domain from)) (budget_first s budget (DropCap domain from) a) in cc)
over_budget s budget (Remove domain id) a = absurd (let x = first_budget (tests s budget (Remove domain id)) (budget_first s budget (Remove domain id) a) in cc)
over_budget s budget (Install domain from program) a =
    let over = over_last s budget (Install domain from program) (take 8 (tests s budget (Install domain from program))) (ltb budget (instructions_of s.filters + length program)) refl refl a in
    simp sum_by-append (grind (arith, nat_tests, over))
over_budget s budget (Replace domain id program) a =
    let over = over_last s budget (Replace domain id program) (take 7 (tests s budget (Replace domain id program))) (ltb budget (instructions_of (replaced s.filters id program))) refl refl a in
    grind (arith, nat_tests, over)
