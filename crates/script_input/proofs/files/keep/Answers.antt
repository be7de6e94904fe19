use Rattle.std.proofs.Common.{refl}
use Rattle.engine_io.proofs.InputLemmas.{long_input, whole_input}
use Rattle.script_input.proofs.files.keep.Goals as goal

pub returns-in-TooLong-clause-kept : goal.returns-in-TooLong-clause-kept
returns-in-TooLong-clause-kept g c =
    let given = rw c.in-TooLong.is at c.in_ok-bytes.ensures.input in
    (refl, long_input _ _ given.0 given.1 given.2)

pub returns-in_ok-push-in-Whole-clause-kept : goal.returns-in_ok-push-in-Whole-clause-kept
returns-in_ok-push-in-Whole-clause-kept g c =
    let gave = rw c.in-Whole.is at c.in_ok-bytes.ensures.input in
    (c.in-Whole.bytes.items, c.in_ok-push-in-Whole.ensures, whole_input _ _ _ gave.0 gave.1, gave.2)
