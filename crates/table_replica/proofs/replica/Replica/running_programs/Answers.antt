use Rattle.std.proofs.Common.{List, ap, subst, ◌∙◌, ◌≡◌}
use Rattle.filter_table.specs.Listed.{ListedFilter}
use Rattle.installed_filters.specs.Lent.{AreDifferent}
use Rattle.table_replica.specs.Lent.{held_filters}
use Rattle.table_replica.specs.Shown.{ReplicaState}
use Rattle.table_replica.proofs.Shared.{same_held}
use Rattle.table_replica.proofs.replica.Replica.running_programs.Goals as goal

pub returns : goal.returns
returns c =
    let table = c.self.inside.contents.table in
    subst (λ (r : ReplicaState). AreDifferent (held_filters r.shown.caps.held r.shown.filters) c.running_programs.result) c.self.view_is
    (subst (λ (fs : List ListedFilter). AreDifferent fs c.running_programs.result)
    (same_held table.caps.held c.filters.result.now.now c.filters.ensures.held ∙ ap (held_filters table.caps.held) c.filters.ensures.listed)
    c.running_programs.ensures)
