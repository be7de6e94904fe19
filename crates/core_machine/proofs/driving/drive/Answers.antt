use Rattle.std.proofs.Common.{All, ◌≡◌, ◌∙◌, ◌++◌, ◌∷◌, [], List, length, ap, sym, arith, append_assoc, rules}
use Rattle.std.proofs.lemmas.List.{append-nil, nil_from_length}
use Rattle.std.specs.Vec.Iter.{into_iter_items}
use Rattle.core_machine.specs.declared.step.CoreStep.{CoreStep}
use Rattle.core_machine.proofs.Machines.{machine_ran}
use Rattle.core_machine.proofs.Doing.{done_more}
use Rattle.core_machine.proofs.Steps.{driven_more, driven_same, placed}
use Rattle.core_machine.proofs.Looked.{driven_looked}
use Rattle.std.proofs.lemmas.List.Elements.{All-append}
use Rattle.core_machine.specs.Machines.{RingCore}
use Rattle.core_machine.specs.Conclusions.{AreRunning, Conclude}
use Rattle.core_machine.specs.declared.step.StepOutcome.{StepOutcome}
use Rattle.core_machine.specs.Driving.{IsRunning}
use Rattle.core_machine.proofs.Looked.{ran_before}
use Rattle.core_machine.proofs.driving.drive.Goals as goal

one_running : (o : StepOutcome) → IsRunning o → All IsRunning (o ∷ [])
one_running o is = search rules

pub do_step-requires-clause-place : goal.do_step-requires-clause-place
do_step-requires-clause-place c =
    let m = c.requires.machine in
    placed m.0 m.1 m.2 c.args.cores.now c.loop-step.cores m.3 (driven_same c.loop-step.yielded c.loop-step.outcomes.items c.args.cores.now c.loop-step.cores c.loop-step.invariant.0)

pub loop-step-preserved : goal.loop-step-preserved
loop-step-preserved c = (
  rw c.push_reserved.ensures.items
      (driven_more c.loop-step.yielded c.loop-step.outcomes.items c.in-Some.step c.do_step.result c.args.cores.now c.loop-step.cores c.do_step.new.cores c.loop-step.invariant.0 c.do_step.ensures.driven),
  omega (arith, c.loop-step.invariant.1, c.push_reserved.ensures.len, c.push_reserved.ensures.capacity, ap length c.in-Some.ensures.steps.0),
  c.loop-step.invariant.2 ∙ ap (λ (l : List CoreStep). c.loop-step.yielded ++ l) c.in-Some.ensures.steps.0 ∙ sym (append_assoc c.loop-step.yielded (c.in-Some.step ∷ []) (into_iter_items c.next.new.self)),
  rw c.push_reserved.ensures.items
      (done_more c.loop-step.yielded c.loop-step.outcomes.items c.in-Some.step c.do_step.result c.args.cores.now c.loop-step.cores c.do_step.new.cores c.loop-step.invariant.3 c.do_step.ensures.done),
  rw c.push_reserved.ensures.items (λ run. let r = c.do_step.ensures.running run in All-append IsRunning c.loop-step.outcomes.items (c.do_step.result ∷ []) (c.loop-step.invariant.4 r.0) (one_running c.do_step.result r.1)),
)

pub agree_all-requires : goal.agree_all-requires
agree_all-requires c =
    let m = c.requires.machine in
    (m.0, m.1, m.2, machine_ran m.0 m.1 m.2 c.args.cores.now c.loop-step.cores m.3 (driven_same c.loop-step.yielded c.loop-step.outcomes.items c.args.cores.now c.loop-step.cores c.loop-step.invariant.0))

pub returns-clause-driven : goal.returns-clause-driven
returns-clause-driven c =
    let none : into_iter_items c.loop-step.step-iterator ≡ [] = nil_from_length _ (sym c.loop-step.step-iterator.rest.ok.0 ∙ c.in-None.ensures.steps.0) in
    let all : c.args.steps.items ≡ c.loop-step.yielded = c.loop-step.invariant.2 ∙ ap (λ (l : List CoreStep). c.loop-step.yielded ++ l) none ∙ append-nil c.loop-step.yielded in
    rw all (driven_looked c.loop-step.yielded c.loop-step.outcomes.items c.args.cores.now c.loop-step.cores c.agree_all.new.cores c.loop-step.invariant.0 c.agree_all.ensures.looked)

pub returns-clause-in_turn : goal.returns-clause-in_turn
returns-clause-in_turn c =
    let none : into_iter_items c.loop-step.step-iterator ≡ [] = nil_from_length _ (sym c.loop-step.step-iterator.rest.ok.0 ∙ c.in-None.ensures.steps.0) in
    let all : c.args.steps.items ≡ c.loop-step.yielded = c.loop-step.invariant.2 ∙ ap (λ (l : List CoreStep). c.loop-step.yielded ++ l) none ∙ append-nil c.loop-step.yielded in
    rw all (record { last = c.loop-step.cores; done = c.loop-step.invariant.3; looked = c.agree_all.ensures.looked })

pub returns-clause-machine : goal.returns-clause-machine
returns-clause-machine c =
    driven_same c.loop-step.yielded c.loop-step.outcomes.items c.args.cores.now c.agree_all.new.cores
    (driven_looked c.loop-step.yielded c.loop-step.outcomes.items c.args.cores.now c.loop-step.cores c.agree_all.new.cores c.loop-step.invariant.0 c.agree_all.ensures.looked)

pub returns-clause-concludes : goal.returns-clause-concludes
returns-clause-concludes c = λ limits budget budgets machine.
    c.agree_all.ensures.concludes limits budget budgets
    (machine_ran limits budget budgets c.args.cores.now c.loop-step.cores machine (driven_same c.loop-step.yielded c.loop-step.outcomes.items c.args.cores.now c.loop-step.cores c.loop-step.invariant.0))

pub returns-clause-running : goal.returns-clause-running
returns-clause-running c =
    let m = c.requires.machine in
    let same = machine_ran m.0 m.1 m.2 c.args.cores.now c.loop-step.cores m.3 (driven_same c.loop-step.yielded c.loop-step.outcomes.items c.args.cores.now c.loop-step.cores c.loop-step.invariant.0) in
    c.loop-step.invariant.4 (ran_before m.0 m.1 m.2 c.loop-step.cores c.agree_all.new.cores c.agree_all.ensures.looked (c.agree_all.ensures.concludes m.0 m.1 m.2 same))
