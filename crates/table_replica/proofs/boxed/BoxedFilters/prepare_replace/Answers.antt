use Rattle.std.proofs.Common.{◌≡◌, ◌∙◌, Contains, true, ap, subst, sym}
use Rattle.installed_filters.specs.Installed.{Installed, Standing}
use Rattle.table_replica.specs.Boxed.{standing_in}
use Rattle.table_replica.proofs.boxed.BoxedFilters.prepare_replace.Goals as goal

pub prepare_replace-requires-clause-held : goal.prepare_replace-requires-clause-held
prepare_replace-requires-clause-held c =
    let own : c.deref_mut.result.now ≡ c.args.self.now = c.deref_mut.ensures.value ∙ (sym (ap standing_in c.in-Some.is) ∙ c.self.view_is) in
    subst (λ (s : Standing). (f : Installed) → Contains s.now f → f.filter.id ≡ c.args.id → f.held ≡ true) (sym own) c.requires.held
