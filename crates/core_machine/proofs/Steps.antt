-- Steps one after another.
use Rattle.std.proofs.Common.{◌≡◌, ◌==◌, ◌++◌, ◌∙◌, ◌⊎◌, inl, inr, ℕ, zero, suc, true, false, Some, List, [], ◌∷◌, slice_get, slice_set, refl, sym, ap, subst, arith, append_assoc}
use Rattle.std.specs.Prelude.{if◌then◌else◌}
use Rattle.std.specs.List.{AllZip}
use Rattle.std.proofs.lemmas.List.{append-nil}
use Rattle.std.proofs.lemmas.Option.{slice_get_within}
use Rattle.filter_table.proofs.Positions.{get_at}
use Rattle.world_model.proofs.Lists.{same_or_not, get-set_same, get-set_other, length-slice_set}
use Rattle.world_model.proofs.Submissions.{eq_self, eq_other}
use Rattle.core_machine.specs.Machines.{RingCore, IsMachine, AreSameCores}
use Rattle.core_machine.proofs.Machines.{machine_ran}
use Rattle.core_machine.specs.declared.step.CoreStep.{CoreStep}
use Rattle.core_machine.specs.declared.step.Task.{Task}
use Rattle.core_machine.specs.declared.step.StepOutcome.{StepOutcome}
use Rattle.core_machine.specs.Steps.{IsOf, did, asked_op, decided, of_core}
use Rattle.core_machine.specs.Driving.{CoreDrives, DrivesAt, AreDriven}
use Rattle.filter_table.specs.Limits.{TableLimits}
use Rattle.core_machine.proofs.Tasks.{drives_none, drives_along}

-- of the steps of one core, those of a longer list
more_steps : {T : Type 0} (found : Task → StepOutcome → List T) (core : ℕ) (steps : List CoreStep) (outcomes : List StepOutcome) (s : CoreStep) (o : StepOutcome) → AllZip (λ (s : CoreStep) (o : StepOutcome). IsOf s.task o) steps outcomes
    → of_core found core (steps ++ s ∷ []) (outcomes ++ o ∷ []) ≡ of_core found core steps outcomes ++ of_core found core (s ∷ []) (o ∷ [])
more_steps found core [] [] s o along = refl
more_steps found core [] (b ∷ outcomes) s o along = absurd along
more_steps found core (a ∷ steps) [] s o along = absurd along
more_steps found core (a ∷ steps) (b ∷ outcomes) s o along =
    let front = if a.core == core then found a.task b else [] in
    ap (λ l. front ++ l) (more_steps found core steps outcomes s o along.1) ∙ sym (append_assoc front (of_core found core steps outcomes) (of_core found core (s ∷ []) (o ∷ [])))

zip_more : (steps : List CoreStep) (outcomes : List StepOutcome) (s : CoreStep) (o : StepOutcome) → AllZip (λ (s : CoreStep) (o : StepOutcome). IsOf s.task o) steps outcomes → IsOf s.task o
    → AllZip (λ (s : CoreStep) (o : StepOutcome). IsOf s.task o) (steps ++ s ∷ []) (outcomes ++ o ∷ [])
zip_more [] [] s o along is = (is, tt)
zip_more [] (b ∷ outcomes) s o along is = absurd along
zip_more (a ∷ steps) [] s o along is = absurd along
zip_more (a ∷ steps) (b ∷ outcomes) s o along is = (along.0, zip_more steps outcomes s o along.1 is)

pub driven_none : (cores : List RingCore) → AreDriven [] [] cores cores
driven_none cores = record { answered = tt; all = refl; each = λ i c d at at'. subst (λ (x : RingCore). CoreDrives [] [] [] c x) (same_at i c d at at') (drives_none c) }
  where
    same_at : (i : ℕ) (c d : RingCore) → slice_get cores i ≡ Some c → slice_get cores i ≡ Some d → c ≡ d
    same_at i c d at at' = cc

pub driven_more : (steps : List CoreStep) (outcomes : List StepOutcome) (s : CoreStep) (o : StepOutcome) (a b c : List RingCore) → AreDriven steps outcomes a b → AreDriven (s ∷ []) (o ∷ []) b c
    → AreDriven (steps ++ s ∷ []) (outcomes ++ o ∷ []) a c
driven_more steps outcomes s o a b c h k = record { answered = zip_more steps outcomes s o h.answered k.answered.0; all = k.all ∙ h.all; each = each }
  where
    each : (i : ℕ) (x z : RingCore) → slice_get a i ≡ Some x → slice_get c i ≡ Some z → DrivesAt (steps ++ s ∷ []) (outcomes ++ o ∷ []) i x z
    each i x z at at' =
        let y = get_at b i (omega (arith, slice_get_within a i x at, h.all)) in
        rw (more_steps (did i) i steps outcomes s o h.answered, more_steps asked_op i steps outcomes s o h.answered, more_steps (λ task. decided) i steps outcomes s o h.answered)
        (drives_along _ _ _ _ _ _ x y.0 z (h.each i x y.0 at y.1) (k.each i y.0 z y.1 at'))

-- One step

pub driven_one : (s : CoreStep) (o : StepOutcome) (cores : List RingCore) (core new : RingCore) → slice_get cores s.core ≡ Some core → core.number ≡ s.core → IsOf s.task o
    → CoreDrives (did core.number s.task o) (asked_op s.task o) (decided o) core new → AreDriven (s ∷ []) (o ∷ []) cores (slice_set cores s.core new)
driven_one s o cores core new there number is h = record { answered = (is, tt); all = length-slice_set cores s.core new; each = λ i c d at at'. by_place i c d at at' (same_or_not i s.core) }
  where
    by_place : (i : ℕ) (c d : RingCore) → slice_get cores i ≡ Some c → slice_get (slice_set cores s.core new) i ≡ Some d → ((i ≡ s.core) ⊎ (i ≡ s.core → ⊥)) → DrivesAt (s ∷ []) (o ∷ []) i c d
    by_place i c d at at' (inl e) =
        let here : slice_get cores s.core ≡ Some c = subst (λ (n : ℕ). slice_get cores n ≡ Some c) e at in
        let there' : slice_get (slice_set cores s.core new) s.core ≡ Some d = subst (λ (n : ℕ). slice_get (slice_set cores s.core new) n ≡ Some d) e at' in
        let old_is : core ≡ c = let a = there in let b = here in cc in
        let set = get-set_same cores s.core new core there in
        let new_is : new ≡ d = let a = set in let b = there' in cc in
        let test : (s.core == i) ≡ true = ap (λ (n : ℕ). s.core == n) e ∙ eq_self s.core in
        rw (test, e, append-nil (did s.core s.task o), append-nil (asked_op s.task o), append-nil (decided o))
        (subst (λ (x : RingCore). CoreDrives (did s.core s.task o) (asked_op s.task o) (decided o) x d) old_is (subst (λ (x : RingCore). CoreDrives (did s.core s.task o) (asked_op s.task o) (decided o) core x) new_is
        (subst (λ (n : ℕ). CoreDrives (did n s.task o) (asked_op s.task o) (decided o) core new) number h)))
    by_place i c d at at' (inr ne) =
        let other = get-set_other cores s.core i new (λ (e : s.core ≡ i). ne (sym e)) in
        let same : c ≡ d = let a = at in let b = at' in let e = other in cc in
        let test : (s.core == i) ≡ false = eq_other s.core i (λ (e : s.core ≡ i). ne (sym e)) in
        rw test (subst (λ (x : RingCore). CoreDrives [] [] [] c x) same (drives_none c))

-- The cores stay those of the machine

pub driven_same : (steps : List CoreStep) (outcomes : List StepOutcome) (old new : List RingCore) → AreDriven steps outcomes old new → AreSameCores old new
driven_same steps outcomes old new h = record { all = h.all; each = λ i c d at at'. (h.each i c d at at').same }

number_at : (limits : TableLimits) (budget : ℕ) (budgets : List ℕ) (cores : List RingCore) (i : ℕ) (c : RingCore) → IsMachine limits budget budgets cores → slice_get cores i ≡ Some c → c.number ≡ i
number_at limits budget budgets [] i c machine at = absurd machine
number_at limits budget budgets (first ∷ others) zero c machine at = let e : first ≡ c = cc in subst (λ (x : RingCore). x.number ≡ 0) e machine.place.number_is
number_at limits budget budgets (first ∷ others) (suc i) c machine at =
    let b = get_at budgets i (omega (arith, slice_get_within others i c at, machine.all)) in
    (machine.peers i b.0 c b.1 at).place.number_is

pub placed : (limits : TableLimits) (budget : ℕ) (budgets : List ℕ) (old new : List RingCore) → IsMachine limits budget budgets old → AreSameCores old new → (i : ℕ) (c : RingCore) → slice_get new i ≡ Some c → c.number ≡ i
placed limits budget budgets old new machine same i c at = number_at limits budget budgets new i c (machine_ran limits budget budgets old new machine same) at
