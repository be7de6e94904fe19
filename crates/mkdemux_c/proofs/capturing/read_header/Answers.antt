use Rattle.std.proofs.Common.{arith, inl, inr, refl}
use Rattle.savefile_front.proofs.HeaderLemmas.{wrong_front}
use Rattle.mkdemux_c.proofs.capturing.read_header.Goals as goal

pub returns-in-Ok-Err : goal.returns-in-Ok-Err
returns-in-Ok-Err c =
    let wrong = rw c.in-Ok-Err.field-0-is at c.in-Ok-Err.ensures in
    inr (inl (c.in-Ok-Err.fault, wrong_front c.args.bytes.now c.min-front.result c.in-Ok-Err.fault (omega (arith, c.min-front.ensures)) wrong, c.number_of_header.ensures, refl, c.passed.ensures))
