use Rattle.std.proofs.Common.{◌≡◌, ap, Err, inr}
use Rattle.std.proofs.lemmas.Result.{err_from_is_err_and}
use Rattle.engine_io.specs.declared.fault.EngineFault.TheVariants.{NoMemory}
use Rattle.sim_engine.proofs.engine.run_script.Goals as goal

pub returns-in_err-done-clause-part : goal.returns-in_err-done-clause-part
returns-in_err-done-clause-part g c =
    let p = err_from_is_err_and c.from_residual.result c.from_residual.ensures.1 in
    rw (p.1, p.2) (λ memory.
    let same : c.in_err-done.field-0.0 ≡ NoMemory = cc in
    let part = rw c.as_slice.ensures at (c.in_err-done.ensures.part (ap Err same)) in
    let boots = rw c.as_slice-budgets.ensures at c.in-Ok.ensures.boots in
    inr (part.0, part.1, part.2, part.4, part.5, (boots.0, boots.1, boots.2, (part.3, rw boots.3 at part.6)), part.7))
