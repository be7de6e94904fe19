use Rattle.console.proofs.expression.compile_over.Goals as goal

pub returns-in_ok-new-in-Ok : goal.returns-in_ok-new-in-Ok
returns-in_ok-new-in-Ok c = rw c.in_ok-new-in-Ok.ensures c.in-Ok.ensures.selects
