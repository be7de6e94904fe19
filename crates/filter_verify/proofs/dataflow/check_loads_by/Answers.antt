use Rattle.filter_verify.proofs.Settled.{Refuses-unwritten}
use Rattle.filter_verify.proofs.dataflow.check_loads_by.Goals as goal

pub returns-in_ok-path-in-Some-clause-err : goal.returns-in_ok-path-in-Some-clause-err
returns-in_ok-path-in-Some-clause-err c =
    λ _. Refuses-unwritten _ _ _ _ _ c.requires.shaped c.in-Some.ensures.some.settled c.in-Some.ensures.some.inside c.in_ok-path-in-Some.ensures
