use Rattle.core_threads.proofs.Resting.{rests_after, machine_after, named_after}
use Rattle.core_threads.proofs.settling.run_to_rest.Goals as goal

pub returns-clause-rests : goal.returns-clause-rests
returns-clause-rests g c =
    let e = c.in_ok-ended.ended in
    rests_after c.args.machine.cores e.cores.items c.as_mut_slice.result.now c.settle_where_halted-undone.new.cores c.args.jobs.items e.left.items c.deref.result.now e.cores.len e.halted c.settle_where_halted-undone.result
    c.as_mut_slice.ensures.value c.deref.ensures.value e.cores.ok.0 c.settle_where_halted-undone.ensures c.in_ok-ended.ensures.ended

pub returns-clause-machine : goal.returns-clause-machine
returns-clause-machine g c = λ limits budget budgets m.
    let e = c.in_ok-ended.ended in
    machine_after c.args.machine.cores e.cores.items c.as_mut_slice.result.now c.settle_where_halted-undone.new.cores c.args.jobs.items e.left.items c.deref.result.now e.cores.len e.halted c.settle_where_halted-undone.result
    c.as_mut_slice.ensures.value c.deref.ensures.value e.cores.ok.0 c.settle_where_halted-undone.ensures limits budget budgets (c.in_ok-ended.ensures.machine limits budget budgets m)

pub returns-clause-named : goal.returns-clause-named
returns-clause-named g c =
    let e = c.in_ok-ended.ended in let m = c.in_ok-ended.ensures.one_machine in
    named_after c.args.machine.cores e.cores.items c.as_mut_slice.result.now c.settle_where_halted-undone.new.cores c.args.jobs.items e.left.items c.deref.result.now e.cores.len e.halted c.settle_where_halted-undone.result
    c.as_mut_slice.ensures.value c.deref.ensures.value e.cores.ok.0 c.settle_where_halted-undone.ensures m.0 m.1 m.2 m.3 c.in_ok-ended.ensures.ended.why
