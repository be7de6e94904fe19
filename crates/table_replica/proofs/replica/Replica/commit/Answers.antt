use Rattle.std.proofs.Common.{ap, subst}
use Rattle.filter_table.specs.Tables.{TableState}
use Rattle.filter_table.specs.Soundness.{IdsGrow}
use Rattle.table_replica.specs.Shown.{ReplicaState}
use Rattle.table_replica.proofs.Planned.{became, kept_performed, ids_performed}
use Rattle.table_replica.proofs.replica.Replica.commit.Goals as goal

pub invariant_of-self : goal.invariant_of-self
invariant_of-self c =
    let i = c.self.inside in
    kept_performed i.budget i.contents c.perform.new.self.table c.perform.new.self.staged c.self.invariant.0 c.self.invariant.1 c.self.invariant.2
    (became i.contents c.perform.new.self.table c.perform.result c.perform.ensures.performed c.perform.ensures.none) c.perform.ensures.free

pub returns-clause-ids : goal.returns-clause-ids
returns-clause-ids c =
    let i = c.self.inside in
    subst (λ (s : TableState). IdsGrow s c.perform.new.self.table) (ap (λ (r : ReplicaState). r.shown) c.self.view_is)
    (ids_performed i.contents c.perform.new.self.table (became i.contents c.perform.new.self.table c.perform.result c.perform.ensures.performed c.perform.ensures.none))
