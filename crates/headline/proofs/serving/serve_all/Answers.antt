use Rattle.std.proofs.Common.{◌<◌, ◌≤◌, All, ℕ, sym, subst}
use Rattle.std.specs.Prelude.{IfOk, IfSome}
use Rattle.headline.specs.Waking.{IsTurnOf}
use Rattle.headline.proofs.serving.serve_all.Goals as goal

pub settle_each-requires-clause-machine : goal.settle_each-requires-clause-machine
settle_each-requires-clause-machine c = let m = c.requires.machine in let d = c.in_ok-outcomes.ensures.done m.0 m.1 m.2 m.3 in (m.0, d.budget, d.budgets, d.machine)

pub settle_each-requires-clause-few : goal.settle_each-requires-clause-few
settle_each-requires-clause-few c = let m = c.requires.machine in subst (λ (n : ℕ). n ≤ 64) (sym (c.in_ok-outcomes.ensures.done m.0 m.1 m.2 m.3).driven.all) c.requires.few

pub returns-clause-done : goal.returns-clause-done
returns-clause-done c = λ limits budget budgets machine. c.settle_each.ensures.done limits c.args.steps.items c.args.cores.now c.requires.steps c.requires.nothing (c.in_ok-outcomes.ensures.done limits budget budgets machine)

pub returns-clause-turns : goal.returns-clause-turns
returns-clause-turns c = let m = c.requires.machine in subst (λ (n : ℕ). IfOk c.settle_each.result (λ work. All (IsTurnOf n) work.turns.items)) (c.in_ok-outcomes.ensures.done m.0 m.1 m.2 m.3).driven.all c.settle_each.ensures.turns

pub returns-clause-halted : goal.returns-clause-halted
returns-clause-halted c = let m = c.requires.machine in subst (λ (n : ℕ). IfOk c.settle_each.result (λ work. IfSome work.halted (λ core. core < n))) (c.in_ok-outcomes.ensures.done m.0 m.1 m.2 m.3).driven.all c.settle_each.ensures.halted
