use Rattle.std.proofs.Common.{inr, refl}
use Rattle.compile_engine.proofs.tree.read_text.Goals as goal

pub returns-in_ok-explain-in_default : goal.returns-in_ok-explain-in_default
returns-in_ok-explain-in_default c =
    inr (c.in-Err.fault, c.in_default.not-NoMemory, c.in-Err.ensures.none c.in_default.not-NoMemory, refl, c.in_ok-explain-in_default.ensures)
