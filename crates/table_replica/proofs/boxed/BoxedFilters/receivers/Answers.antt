use Rattle.std.proofs.Common.{◌≡◌, ◌∙◌, List, ap, subst, sym}
use Rattle.std.specs.Prelude.{IfOk}
use Rattle.endpoint_caps.specs.declared.Cap.{Cap}
use Rattle.filter_table.specs.Tables.{AreReceivers}
use Rattle.installed_filters.specs.Installed.{AreHeldBy, Standing}
use Rattle.installed_filters.specs.Receiving.{kept_by}
use Rattle.installed_filters.specs.Lent.{listed}
use Rattle.table_replica.specs.Boxed.{standing_in}
use Rattle.table_replica.proofs.boxed.BoxedFilters.receivers.Goals as goal

pub returns-in-Some : goal.returns-in-Some
returns-in-Some c =
    let own : c.deref.result.now ≡ c.args.self.now = c.deref.ensures ∙ (sym (ap standing_in c.in-Some.is) ∙ c.self.view_is) in
    subst (λ (s : Standing). IfOk c.receivers.result (λ found. (caps : List Cap) → AreHeldBy caps s.now → AreReceivers caps (listed s.now) (record { bytes = c.args.bytes.now; original = c.args.original }) (kept_by found c.receivers.new.workspace.kept.items)))
    own c.receivers.ensures
