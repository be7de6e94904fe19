use Rattle.std.proofs.Common.{◌≡◌, ◌<◌, ◌∙◌, Contains, ap, subst, sym}
use Rattle.installed_filters.specs.Installed.{Installed, Standing}
use Rattle.table_replica.specs.Boxed.{standing_in}
use Rattle.table_replica.proofs.boxed.BoxedFilters.prepare_install.Goals as goal

pub prepare_install-requires-clause-last : goal.prepare_install-requires-clause-last
prepare_install-requires-clause-last c =
    let own : c.deref_mut.result.now ≡ c.args.self.now = c.deref_mut.ensures.value ∙ (sym (ap standing_in c.in-Some.is) ∙ (c.make_filters.ensures.same ∙ c.self.view_is)) in
    subst (λ (s : Standing). (f : Installed) → Contains s.now f → f.filter.id < c.args.id) (sym own) c.requires.last
