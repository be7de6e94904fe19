use Rattle.std.proofs.Common.{◌∙◌, Err, ap, inr, refl}
use Rattle.compile_engine.proofs.compiling.compiled_over.Goals as goal

pub returns-in_ok-explain-in_default : goal.returns-in_ok-explain-in_default
returns-in_ok-explain-in_default c = inr (
  c.in-Err.fault,
  (c.in_default.not-NoMemory, λ wrong is expr. c.compile.ensures.none wrong (c.in-Err.is ∙ ap Err is) expr),
  refl,
  c.in_ok-explain-in_default.ensures,
)
