use Rattle.std.proofs.Common.{◌≡◌, ◌∙◌, ◌<◌, All, ℕ, List, length, sym, subst}
use Rattle.core_machine.specs.Machines.{RingCore}
use Rattle.core_machine.specs.declared.step.CoreStep.{CoreStep}
use Rattle.headline.specs.Served.{events_of}
use Rattle.headline.proofs.Shown.{equal_shown}
use Rattle.headline.proofs.Stepping.{says_after, begun_after, own_after, its_machine, laws_after}
use Rattle.headline.proofs.serving.serve_steps.Goals as goal

-- the steps are of cores of the machine
inside : (steps : List CoreStep) (cores : List RingCore) (budgets : List ℕ) → length cores ≡ length budgets → All (λ (s : CoreStep). s.core < length budgets) steps → All (λ (s : CoreStep). s.core < length cores) steps
inside steps cores budgets long within = subst (λ (n : ℕ). All (λ (s : CoreStep). s.core < n) steps) (sym long) within

pub drive_each-requires-clause-machine : goal.drive_each-requires-clause-machine
drive_each-requires-clause-machine c =
    let m = its_machine c.args.limits c.in-Ok.cores.items c.as_mut_slice.result.now c.args.budgets.now c.as_mut_slice.ensures.value c.in-Ok.ensures.machine in
    (c.args.limits, m.0, m.1, m.2)

pub returns-in-Ok-drive_each-clause-tables : goal.returns-in-Ok-drive_each-clause-tables
returns-in-Ok-drive_each-clause-tables c =
    let m = its_machine c.args.limits c.in-Ok.cores.items c.as_mut_slice.result.now c.args.budgets.now c.as_mut_slice.ensures.value c.in-Ok.ensures.machine in
    let done = c.in-Ok-drive_each.ensures.done c.args.limits m.0 m.1 m.2 in
    let within = inside c.args.steps.items c.in-Ok.cores.items c.args.budgets.now c.in-Ok.ensures.cores c.requires.steps in
    (says_after c.args.limits c.in-Ok.cores.len c.args.steps.items c.in-Ok-drive_each.outcomes.items c.in-Ok.cores.items c.as_mut_slice.result.now c.drive_each.new.cores c.as_mut_slice.ensures.value c.in-Ok.cores.ok.0 within c.in-Ok.ensures.nothing
    done.driven (done.budget, done.budgets, done.con) done.order).tables

pub returns-in-Ok-drive_each-clause-delivers : goal.returns-in-Ok-drive_each-clause-delivers
returns-in-Ok-drive_each-clause-delivers c =
    let m = its_machine c.args.limits c.in-Ok.cores.items c.as_mut_slice.result.now c.args.budgets.now c.as_mut_slice.ensures.value c.in-Ok.ensures.machine in
    let done = c.in-Ok-drive_each.ensures.done c.args.limits m.0 m.1 m.2 in
    let within = inside c.args.steps.items c.in-Ok.cores.items c.args.budgets.now c.in-Ok.ensures.cores c.requires.steps in
    (says_after c.args.limits c.in-Ok.cores.len c.args.steps.items c.in-Ok-drive_each.outcomes.items c.in-Ok.cores.items c.as_mut_slice.result.now c.drive_each.new.cores c.as_mut_slice.ensures.value c.in-Ok.cores.ok.0 within c.in-Ok.ensures.nothing
    done.driven (done.budget, done.budgets, done.con) done.order).delivers

pub returns-in-Ok-drive_each-clause-equal : goal.returns-in-Ok-drive_each-clause-equal
returns-in-Ok-drive_each-clause-equal c =
    equal_shown c.args.limits (events_of c.args.steps.items c.in-Ok-drive_each.outcomes.items) _ (returns-in-Ok-drive_each-clause-tables c)

pub returns-in-Ok-drive_each-clause-answered : goal.returns-in-Ok-drive_each-clause-answered
returns-in-Ok-drive_each-clause-answered c =
    let m = its_machine c.args.limits c.in-Ok.cores.items c.as_mut_slice.result.now c.args.budgets.now c.as_mut_slice.ensures.value c.in-Ok.ensures.machine in
    (c.in-Ok-drive_each.ensures.done c.args.limits m.0 m.1 m.2).driven.answered

pub returns-in-Ok-drive_each-clause-begun : goal.returns-in-Ok-drive_each-clause-begun
returns-in-Ok-drive_each-clause-begun c =
    let m = its_machine c.args.limits c.in-Ok.cores.items c.as_mut_slice.result.now c.args.budgets.now c.as_mut_slice.ensures.value c.in-Ok.ensures.machine in
    let done = c.in-Ok-drive_each.ensures.done c.args.limits m.0 m.1 m.2 in
    let within = inside c.args.steps.items c.in-Ok.cores.items c.args.budgets.now c.in-Ok.ensures.cores c.requires.steps in
    begun_after c.args.limits c.args.steps.items c.in-Ok-drive_each.outcomes.items c.in-Ok.cores.items c.as_mut_slice.result.now c.drive_each.new.cores c.as_mut_slice.ensures.value within c.in-Ok.ensures.nothing done.driven (done.budget, done.budgets, done.con)

pub returns-in-Ok-drive_each-clause-own : goal.returns-in-Ok-drive_each-clause-own
returns-in-Ok-drive_each-clause-own c =
    let m = its_machine c.args.limits c.in-Ok.cores.items c.as_mut_slice.result.now c.args.budgets.now c.as_mut_slice.ensures.value c.in-Ok.ensures.machine in
    let done = c.in-Ok-drive_each.ensures.done c.args.limits m.0 m.1 m.2 in
    let within = inside c.args.steps.items c.in-Ok.cores.items c.args.budgets.now c.in-Ok.ensures.cores c.requires.steps in
    own_after c.args.limits c.args.steps.items c.in-Ok-drive_each.outcomes.items c.in-Ok.cores.items c.as_mut_slice.result.now c.drive_each.new.cores c.as_mut_slice.ensures.value within c.in-Ok.ensures.nothing done.driven (done.budget, done.budgets, done.con)

pub returns-in-Ok-drive_each-clause-rightful : goal.returns-in-Ok-drive_each-clause-rightful
returns-in-Ok-drive_each-clause-rightful c =
    let m = its_machine c.args.limits c.in-Ok.cores.items c.as_mut_slice.result.now c.args.budgets.now c.as_mut_slice.ensures.value c.in-Ok.ensures.machine in
    let done = c.in-Ok-drive_each.ensures.done c.args.limits m.0 m.1 m.2 in
    let within = inside c.args.steps.items c.in-Ok.cores.items c.args.budgets.now c.in-Ok.ensures.cores c.requires.steps in
    (laws_after c.args.limits c.args.budgets.now c.args.steps.items c.in-Ok-drive_each.outcomes.items c.in-Ok.cores.items c.as_mut_slice.result.now c.drive_each.new.cores c.as_mut_slice.ensures.value within c.in-Ok.ensures.nothing c.in-Ok.ensures.machine done).0.rightful

pub returns-in-Ok-drive_each-clause-allowed : goal.returns-in-Ok-drive_each-clause-allowed
returns-in-Ok-drive_each-clause-allowed c =
    let m = its_machine c.args.limits c.in-Ok.cores.items c.as_mut_slice.result.now c.args.budgets.now c.as_mut_slice.ensures.value c.in-Ok.ensures.machine in
    let done = c.in-Ok-drive_each.ensures.done c.args.limits m.0 m.1 m.2 in
    let within = inside c.args.steps.items c.in-Ok.cores.items c.args.budgets.now c.in-Ok.ensures.cores c.requires.steps in
    (laws_after c.args.limits c.args.budgets.now c.args.steps.items c.in-Ok-drive_each.outcomes.items c.in-Ok.cores.items c.as_mut_slice.result.now c.drive_each.new.cores c.as_mut_slice.ensures.value within c.in-Ok.ensures.nothing c.in-Ok.ensures.machine done).0.allowed

pub returns-in-Ok-drive_each-clause-judged : goal.returns-in-Ok-drive_each-clause-judged
returns-in-Ok-drive_each-clause-judged c =
    let m = its_machine c.args.limits c.in-Ok.cores.items c.as_mut_slice.result.now c.args.budgets.now c.as_mut_slice.ensures.value c.in-Ok.ensures.machine in
    let done = c.in-Ok-drive_each.ensures.done c.args.limits m.0 m.1 m.2 in
    let within = inside c.args.steps.items c.in-Ok.cores.items c.args.budgets.now c.in-Ok.ensures.cores c.requires.steps in
    (laws_after c.args.limits c.args.budgets.now c.args.steps.items c.in-Ok-drive_each.outcomes.items c.in-Ok.cores.items c.as_mut_slice.result.now c.drive_each.new.cores c.as_mut_slice.ensures.value within c.in-Ok.ensures.nothing c.in-Ok.ensures.machine done).0.judged

pub returns-in-Ok-drive_each-clause-once : goal.returns-in-Ok-drive_each-clause-once
returns-in-Ok-drive_each-clause-once c =
    let m = its_machine c.args.limits c.in-Ok.cores.items c.as_mut_slice.result.now c.args.budgets.now c.as_mut_slice.ensures.value c.in-Ok.ensures.machine in
    let done = c.in-Ok-drive_each.ensures.done c.args.limits m.0 m.1 m.2 in
    let within = inside c.args.steps.items c.in-Ok.cores.items c.args.budgets.now c.in-Ok.ensures.cores c.requires.steps in
    (laws_after c.args.limits c.args.budgets.now c.args.steps.items c.in-Ok-drive_each.outcomes.items c.in-Ok.cores.items c.as_mut_slice.result.now c.drive_each.new.cores c.as_mut_slice.ensures.value within c.in-Ok.ensures.nothing c.in-Ok.ensures.machine done).0.once
