use Rattle.std.proofs.Common.{refl}
use Rattle.core_loop.proofs.sending.can_carry.Goals as goal

-- (a search finds these too, in fifteen seconds)
pub returns-in-Nothing-clause-can : goal.returns-in-Nothing-clause-can
returns-in-Nothing-clause-can g c = rw c.in-Nothing.is ((λ _. tt), λ _. refl)

pub returns-in-ToAll-clause-can : goal.returns-in-ToAll-clause-can
returns-in-ToAll-clause-can g c = rw c.in-ToAll.is c.all_ready.ensures.all
