use Rattle.std.proofs.Common.{inr}
use Rattle.console.proofs.code.read_code.Goals as goal

pub returns-in-Ok : goal.returns-in-Ok
returns-in-Ok c =
    let answer = c.in_ok-refused-in-Err-verify.ensures in
    inr (
      c.in-Ok.program.items,
      c.in-Ok.ensures.spelled,
      c.in-Err-verify.refusal,
      rw c.as_slice.ensures.value at c.in-Err-verify.ensures.refusal answer.0,
      answer.1,
    )
