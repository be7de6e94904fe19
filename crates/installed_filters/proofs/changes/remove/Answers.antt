use Rattle.std.proofs.Common.{◌≡◌, List, ap, nat_eq, subst, sym, ◌∙◌, ℕ}
use Rattle.std.specs.Map.{remove_entry}
use Rattle.installed_filters.specs.declared.books.Row.{Row}
use Rattle.installed_filters.specs.Books.{Adds}
use Rattle.installed_filters.proofs.Rows.{adds_removed}
use Rattle.installed_filters.proofs.changes.remove.Goals as goal

pub returns-clause-booked : goal.returns-clause-booked
returns-clause-booked c = λ booked.
    let rows = c.args.rows.now.entries in
    let is : c.remove.new.self.entries ≡ remove_entry (nat_eq c.args.id) rows = c.remove.ensures.entries ∙ ap (λ (k : ℕ). remove_entry (nat_eq k) rows) c.from.ensures in
    c.take.ensures.booked rows c.remove.new.self.entries booked (subst (λ (es : List (ℕ × Row)). Adds es c.args.row rows) (sym is) (adds_removed rows c.args.id c.args.row c.requires.there))
