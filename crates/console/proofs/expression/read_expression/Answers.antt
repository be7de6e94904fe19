use Rattle.std.proofs.Common.{inr}
use Rattle.console.proofs.ExpressionLemmas.{gives_all}
use Rattle.console.proofs.expression.read_expression.Goals as goal

pub returns-in_ok-compile_all-in-Ok : goal.returns-in_ok-compile_all-in-Ok
returns-in_ok-compile_all-in-Ok c = inr (c.requires, gives_all c.args.code.now c.args.accept _ c.in-Ok.ensures.reads c.in-Ok.ensures.only c.in_ok-compile_all-in-Ok.field-0 c.in_ok-compile_all-in-Ok.ensures)

pub returns-in_ok-bad_code-in-Err : goal.returns-in_ok-bad_code-in-Err
returns-in_ok-bad_code-in-Err c = inr (c.requires, c.in-Err.fault, c.in_default.not-NoMemory, c.in-Err.ensures.none c.in_default.not-NoMemory, c.in_ok-bad_code-in-Err.ensures.0, c.in_ok-bad_code-in-Err.ensures.1)
