use Rattle.std.proofs.Common.{inr, refl}
use Rattle.std.specs.Prelude.{codes}
use Rattle.filter_expr.specs.declared.fault.CompileFault.TheVariants.{NoMemory}
use Rattle.mkdemux_c.proofs.compiling.mkdemux_explain.Goals as goal

pub returns-in-Err : goal.returns-in-Err
returns-in-Err c = (codes "out of memory\n", inr (inr (NoMemory, tt, refl)), refl, c.lay-in-Err.ensures)
