use Rattle.std.proofs.Common.{rules, ◌≡◌, ◌++◌, ◌∷◌, ◌∙◌, All, ℕ, List, [], length, ap, sym, subst, append_assoc}
use Rattle.std.proofs.lemmas.List.{append-nil, nil_from_length}
use Rattle.std.specs.Vec.Iter.{into_iter_items}
use Rattle.core_machine.specs.declared.step.CoreStep.{CoreStep}
use Rattle.core_machine.specs.declared.step.StepOutcome.{StepOutcome}
use Rattle.std.proofs.lemmas.List.Elements.{All-append}
use Rattle.core_machine.specs.Driving.{IsStep, IsRunning, AreDriven}
use Rattle.headline.specs.Waking.{AreDone}
use Rattle.headline.proofs.Stepping.{done_none, done_more, driven_first, no_histories, inside_front}
use Rattle.headline.proofs.serving.drive_each.Goals as goal

pub loop-step-init : goal.loop-step-init
loop-step-init c =
    let e = c.in_ok-outcomes.ensures in
    let looked = subst (λ (l : List CoreStep). AreDriven l c.in_ok-outcomes.outcomes.items c.args.cores.now c.drive.new.cores) c.new.ensures.items e.driven in
    record {
      done = λ limits budget budgets machine. done_none limits c.in_ok-outcomes.outcomes.items c.args.cores.now c.drive.new.cores (budget, budgets, machine) looked c.drive.ensures.machine (e.concludes limits);
      whole = search rules;
      running = e.running;
    }

pub drive-requires-in-loop-step-clause-machine : goal.drive-requires-in-loop-step-clause-machine
drive-requires-in-loop-step-clause-machine c = let m = c.requires.machine in let d = c.loop-step.invariant.done m.0 m.1 m.2 m.3 in (m.0, d.budget, d.budgets, d.machine)

pub loop-step-preserved : goal.loop-step-preserved
loop-step-preserved c =
    let e = c.in_ok-outcome.ensures in
    let looked = subst (λ (l : List CoreStep). AreDriven l c.in_ok-outcomes.outcomes.items c.args.cores.now c.drive.new.cores) c.new.ensures.items c.in_ok-outcomes.ensures.driven in
    let yielded = c.loop-step.yielded in
    let whole : c.args.steps.items ≡ (yielded ++ c.in-Some.step ∷ []) ++ into_iter_items c.next.new.self =
    c.loop-step.invariant.whole ∙ ap (λ (l : List CoreStep). yielded ++ l) c.in-Some.ensures.steps.0 ∙ sym (append_assoc yielded (c.in-Some.step ∷ []) (into_iter_items c.next.new.self)) in
    let can = subst (λ (n : ℕ). All (IsStep n) c.args.steps.items) (sym looked.all) c.requires.steps in
    let front = inside_front (IsStep (length c.drive.new.cores)) (yielded ++ c.in-Some.step ∷ []) (into_iter_items c.next.new.self) (subst (All (IsStep (length c.drive.new.cores))) whole can) in
    let one = subst (λ (l : List CoreStep). AreDriven l c.in_ok-outcome.outcome.items c.loop-step.cores c.drive-in-loop-step.new.cores) c.in_ok-vec.ensures.items e.driven in
    record {
      done = λ limits budget budgets machine. subst (λ (os : List StepOutcome). AreDone limits (yielded ++ c.in-Some.step ∷ []) os c.drive.new.cores c.drive-in-loop-step.new.cores) (sym c.in_ok-append.ensures.items)
          (done_more limits yielded c.loop-step.outcomes.items c.in-Some.step c.in_ok-outcome.outcome.items c.drive.new.cores c.loop-step.cores c.drive-in-loop-step.new.cores front
          (no_histories c.in_ok-outcomes.outcomes.items c.args.cores.now c.drive.new.cores c.requires.nothing looked) (c.loop-step.invariant.done limits budget budgets machine) one c.drive-in-loop-step.ensures.machine (e.concludes limits));
      whole = whole;
      running = rw c.in_ok-append.ensures.items (All-append IsRunning c.loop-step.outcomes.items c.in_ok-outcome.outcome.items c.loop-step.invariant.running e.running);
    }

pub returns-clause-done : goal.returns-clause-done
returns-clause-done c = λ limits budget budgets machine.
    let none : into_iter_items c.loop-step.step-iterator ≡ [] = nil_from_length _ (sym c.loop-step.step-iterator.rest.ok.0 ∙ c.in-None.ensures.steps.0) in
    let all : c.args.steps.items ≡ c.loop-step.yielded = c.loop-step.invariant.whole ∙ ap (λ (l : List CoreStep). c.loop-step.yielded ++ l) none ∙ append-nil c.loop-step.yielded in
    let looked = subst (λ (l : List CoreStep). AreDriven l c.in_ok-outcomes.outcomes.items c.args.cores.now c.drive.new.cores) c.new.ensures.items c.in_ok-outcomes.ensures.driven in
    let d = c.loop-step.invariant.done limits budget budgets machine in
    subst (λ (l : List CoreStep). AreDone limits l c.loop-step.outcomes.items c.args.cores.now c.loop-step.cores) (sym all) (record {
      budget = d.budget;
      budgets = d.budgets;
      machine = d.machine;
      con = d.con;
      driven = driven_first c.loop-step.yielded c.loop-step.outcomes.items c.in_ok-outcomes.outcomes.items c.args.cores.now c.drive.new.cores c.loop-step.cores looked d.driven;
      order = d.order;
    })
