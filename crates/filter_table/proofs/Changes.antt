-- What no refusal leaves known of an operation, and what each refusal says.
use Rattle.std.proofs.Common.{◌≡◌, ◌+◌, ◌<◌, ◌≤◌, ◌==◌, inl, inr, ℕ, Bool, true, false, Option, Some, None, List, [], ◌∷◌, length, refl, ap, sym, subst, ◌∙◌, arith}
use Rattle.std.proofs.lemmas.Bool.Decides.{nat_tests}
use Rattle.std.specs.List.{list_any}
use Rattle.bpf_insn.specs.declared.insn.Insn.{Insn}
use Rattle.endpoint_caps.specs.Capabilities.{first}
use Rattle.filter_table.specs.declared.operation.Op.{Op}
use Rattle.filter_table.specs.declared.operation.Op.TheVariants.{Create, Mint, Revoke, DropCap, Install, Remove, Replace}
use Rattle.filter_table.specs.declared.operation.StageFault.{StageFault}
use Rattle.filter_table.specs.declared.operation.StageFault.TheVariants.{AlreadyStaged, Rule, Budget, NoMemory}
use Rattle.filter_table.specs.Tables.{TableState, tests, Allowed, Verifies, program_of, instructions, instructions_of, replaced, after}
use Rattle.filter_verify.specs.Rules.{IsWellShaped}
use Rattle.filter_table.specs.Staging.{AsksForMemory, CannotStage}
use Rattle.filter_table.proofs.Tables.{first_none, allowed_fits}

not_last : (n m : ℕ) → (n == m) ≡ false → n ≤ m → n < m
not_last n m e le = grind (arith, nat_tests)

pub version_room : (s : TableState) (budget : ℕ) (op : Op) → first (tests s budget op) ≡ None → s.version < 18446744073709551616 → s.version < 18446744073709551615
version_room s budget op h lt = not_last s.version 18446744073709551615 (by_op op h) (omega arith)
  where
    by_op : (op : Op) → first (tests s budget op) ≡ None → (s.version == 18446744073709551615) ≡ false
    by_op (Create domain endpoint) h = first_none (tests s budget (Create domain endpoint)) 0 _ h refl
    by_op (Mint domain cap to rights) h = first_none (tests s budget (Mint domain cap to rights)) 0 _ h refl
    by_op (Revoke domain cap) h = first_none (tests s budget (Revoke domain cap)) 0 _ h refl
    by_op (DropCap domain cap) h = first_none (tests s budget (DropCap domain cap)) 0 _ h refl
    by_op (Install domain cap program) h = first_none (tests s budget (Install domain cap program)) 0 _ h refl
    by_op (Remove domain id) h = first_none (tests s budget (Remove domain id)) 0 _ h refl
    by_op (Replace domain id program) h = first_none (tests s budget (Replace domain id program)) 0 _ h refl

pub filter_id_room : (s : TableState) (budget domain cap : ℕ) (program : List Insn) → first (tests s budget (Install domain cap program)) ≡ None → s.next_filter < 4294967296 → s.next_filter < 4294967295
filter_id_room s budget domain cap program h lt = not_last s.next_filter 4294967295 (first_none (tests s budget (Install domain cap program)) 7 _ h refl) (omega arith)

pub install_room : (s : TableState) (budget domain cap : ℕ) (program : List Insn) → first (tests s budget (Install domain cap program)) ≡ None → instructions_of s.filters + length program ≤ budget
install_room s budget domain cap program h = let within = first_none (tests s budget (Install domain cap program)) 8 _ h refl in grind (arith, nat_tests, within)

pub replace_room : (s : TableState) (budget domain id : ℕ) (program : List Insn) → first (tests s budget (Replace domain id program)) ≡ None → instructions_of (replaced s.filters id program) ≤ budget
replace_room s budget domain id program h = let within = first_none (tests s budget (Replace domain id program)) 7 _ h refl in grind (arith, nat_tests, within)

-- No test names memory, or what is staged

abbrev is_other : StageFault → Bool
is_other NoMemory = true
is_other AlreadyStaged = true
is_other fault = false

first_of : {A : Type 0} (p : A → Bool) (ts : List (Bool × A)) (f : A) → list_any (λ t. p t.1) ts ≡ false → first ts ≡ Some f → p f ≡ false
first_of p [] f n h = absurd cc
first_of p (t ∷ ts) f n h = by_test t.0 refl (p t.1) refl (first_of p ts f)
  where
    by_test : (b : Bool) → t.0 ≡ b → (o : Bool) → p t.1 ≡ o → (list_any (λ t. p t.1) ts ≡ false → first ts ≡ Some f → p f ≡ false) → p f ≡ false
    by_test true e false o rest = let h' = rw e at h in let same : t.1 ≡ f = cc in sym (ap p same) ∙ o
    by_test true e true o rest = absurd (let n' = rw o at n in cc)
    by_test false e false o rest = rest (rw o at n) (rw e at h)
    by_test false e true o rest = absurd (let n' = rw o at n in cc)

no_other : (s : TableState) (budget : ℕ) (op : Op) → list_any (λ t. is_other t.1) (tests s budget op) ≡ false
no_other s budget (Create domain endpoint) = refl
no_other s budget (Mint domain cap to rights) = refl
no_other s budget (Revoke domain cap) = refl
no_other s budget (DropCap domain cap) = refl
no_other s budget (Install domain cap program) = refl
no_other s budget (Remove domain id) = refl
no_other s budget (Replace domain id program) = refl

refused_if : (s : TableState) (budget : ℕ) (op : Op) (f : StageFault) → first (tests s budget op) ≡ Some f → Allowed s budget op (Some f)
unfolding Allowed
refused_if s budget op f h = rw h refl

pub allowed_if : (s : TableState) (budget : ℕ) (op : Op) (answer : Option StageFault) → first (tests s budget op) ≡ None → Verifies (program_of op) answer → Allowed s budget op answer
unfolding Allowed
allowed_if s budget op answer h v = rw h v

pub cannot_first : (s : TableState) (budget : ℕ) (op : Op) (f : StageFault) → first (tests s budget op) ≡ Some f → CannotStage s budget op None f
cannot_first s budget op AlreadyStaged h = absurd (let x = first_of is_other (tests s budget op) AlreadyStaged (no_other s budget op) h in cc)
cannot_first s budget op (Rule fault) h = (refl, refused_if s budget op (Rule fault) h)
cannot_first s budget op Budget h = (refl, refused_if s budget op Budget h)
cannot_first s budget op NoMemory h = absurd (let x = first_of is_other (tests s budget op) NoMemory (no_other s budget op) h in cc)

-- no test finds that memory is lacking
pub never_memory : (s : TableState) (budget : ℕ) (op : Op) → first (tests s budget op) ≡ Some NoMemory → ⊥
never_memory s budget op h = absurd (let x = first_of is_other (tests s budget op) NoMemory (no_other s budget op) h in cc)

-- a program that is verified is well shaped
verified_shape : (brought : Option (List Insn)) → Verifies brought None → (program : List Insn) → brought ≡ Some program → IsWellShaped program
verified_shape None v program is = absurd cc
verified_shape (Some other) (inl v) program is = let same : other ≡ program = cc in subst IsWellShaped same v.0.shaped
verified_shape (Some other) (inr v) program is = absurd (let x = v.2 in cc)

pub asks_verified : (s : TableState) (budget : ℕ) (op : Op) → first (tests s budget op) ≡ None → Verifies (program_of op) None → AsksForMemory s budget op
asks_verified s budget op h v = record { passed = h; shaped = verified_shape (program_of op) v }

-- the table after the operation is not made
pub cannot_change : (s : TableState) (budget : ℕ) (op : Op) → first (tests s budget op) ≡ None → Verifies (program_of op) None → CannotStage s budget op None NoMemory
cannot_change s budget op h v = (refl, asks_verified s budget op h v)

pub fits_after : (s : TableState) (budget : ℕ) (op : Op) → Allowed s budget op None → instructions_of s.filters ≤ budget → instructions_of (after s op).filters ≤ budget
unfolding instructions
fits_after s budget op allowed h = allowed_fits s budget op allowed h
