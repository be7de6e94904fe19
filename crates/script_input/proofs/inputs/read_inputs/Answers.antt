use Rattle.std.proofs.Common.{arith, inl, inr}
use Rattle.engine_io.proofs.InputLemmas.{long_input, whole_input}
use Rattle.script_input.specs.Inputs.{had}
use Rattle.script_input.proofs.Reading.{some_inputs}
use Rattle.script_input.proofs.inputs.read_inputs.Goals as goal

pub returns-in-TooLong-clause-read : goal.returns-in-TooLong-clause-read
returns-in-TooLong-clause-read g c =
    let given = rw c.in-TooLong.is at c.in_ok-script.ensures.input in
    let input = long_input _ _ given.0 given.1 given.2 in
    let files = some_inputs (had g.F.Read.remaining c.args.files.now) in
    (input.0, files.0, (input.1, files.1, λ short. absurd (omega (arith, short, input.2))), inl input.2)

pub returns-in_default-clause-read : goal.returns-in_default-clause-read
returns-in_default-clause-read g c =
    let gave = rw c.in-Whole.is at c.in_ok-script.ensures.input in
    let long = rw c.in_default.is at c.in_ok-files.ensures.read in
    (c.in-Whole.script.items, long.0, (whole_input _ _ _ gave.0 gave.1, long.1.0, λ short. long.1.1), inr long.2)

pub returns-clause-read : goal.returns-clause-read
returns-clause-read g c =
    let gave = rw c.in-Whole.is at c.in_ok-script.ensures.input in
    let read = rw c.in-Some.is at c.in_ok-files.ensures.read in
    ((whole_input _ _ _ gave.0 gave.1, read.0.0, λ short. read.0.1), (gave.2, read.1))
