use Rattle.std.proofs.Common.{refl, sym, ◌∙◌}
use Rattle.std.proofs.lemmas.Bool.{false≢true}
use Rattle.core_machine.specs.declared.settling.Settled.TheVariants.{AtRest}
use Rattle.core_threads.proofs.Resting.{machine_itself, have_settled, ends_itself, all_done, leaves_receivable, machine_settled}
use Rattle.core_threads.proofs.settling.settle_halted.Goals as goal

pub returns-in-AtRest-clause-settled : goal.returns-in-AtRest-clause-settled
returns-in-AtRest-clause-settled c =
    let m = c.requires.machine in let old = c.args.cores.now in let e = c.settle.ensures in
    have_settled m.0 m.1 m.2 old c.settle.new.cores e.machine e.keeps (e.concludes m.0 m.1 m.2 (machine_itself m.0 m.1 m.2 old m.3))

pub returns-in-AtRest-clause-done : goal.returns-in-AtRest-clause-done
returns-in-AtRest-clause-done c =
    let m = c.requires.machine in let old = c.args.cores.now in let e = c.settle.ensures in
    let s = have_settled m.0 m.1 m.2 old c.settle.new.cores e.machine e.keeps (e.concludes m.0 m.1 m.2 (machine_itself m.0 m.1 m.2 old m.3)) in
    all_done m.0 m.1 m.2 old c.settle.new.cores c.args.left.now m.3 s (ends_itself AtRest c.settle.new.cores c.in-AtRest.ensures.ends) (c.are_at_end.ensures.0 c.if-are_at_end.true)

pub returns-in-AtRest-2-clause-settled : goal.returns-in-AtRest-2-clause-settled
returns-in-AtRest-2-clause-settled c =
    let m = c.requires.machine in let old = c.args.cores.now in let e = c.settle.ensures in
    have_settled m.0 m.1 m.2 old c.settle.new.cores e.machine e.keeps (e.concludes m.0 m.1 m.2 (machine_itself m.0 m.1 m.2 old m.3))

pub returns-in-AtRest-2-clause-undone : goal.returns-in-AtRest-2-clause-undone
returns-in-AtRest-2-clause-undone c =
    let m = c.requires.machine in let old = c.args.cores.now in let e = c.settle.ensures in let new = c.settle.new.cores in
    let s = have_settled m.0 m.1 m.2 old new e.machine e.keeps (e.concludes m.0 m.1 m.2 (machine_itself m.0 m.1 m.2 old m.3)) in
    record {
      settled = AtRest;
      ends = ends_itself AtRest new c.in-AtRest-2.ensures.ends;
      names = (refl, leaves_receivable new c.args.left.now (ends_itself AtRest new c.in-AtRest-2.ensures.ends).0 m.0 m.1 m.2 (machine_settled old new s m.0 m.1 m.2 m.3) (λ all. false≢true (sym c.if-are_at_end.false ∙ c.are_at_end.ensures.1 all)));
    }

pub returns-in-Spent-clause-settled : goal.returns-in-Spent-clause-settled
returns-in-Spent-clause-settled c =
    let m = c.requires.machine in let old = c.args.cores.now in let e = c.settle.ensures in
    have_settled m.0 m.1 m.2 old c.settle.new.cores e.machine e.keeps (e.concludes m.0 m.1 m.2 (machine_itself m.0 m.1 m.2 old m.3))

pub returns-in-NoMemory-clause-settled : goal.returns-in-NoMemory-clause-settled
returns-in-NoMemory-clause-settled c =
    let m = c.requires.machine in let old = c.args.cores.now in let e = c.settle.ensures in
    have_settled m.0 m.1 m.2 old c.settle.new.cores e.machine e.keeps (e.concludes m.0 m.1 m.2 (machine_itself m.0 m.1 m.2 old m.3))

pub returns-in-NoRoom-clause-settled : goal.returns-in-NoRoom-clause-settled
returns-in-NoRoom-clause-settled c =
    let m = c.requires.machine in let old = c.args.cores.now in let e = c.settle.ensures in
    have_settled m.0 m.1 m.2 old c.settle.new.cores e.machine e.keeps (e.concludes m.0 m.1 m.2 (machine_itself m.0 m.1 m.2 old m.3))
