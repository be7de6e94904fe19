use Rattle.std.proofs.Common.{◌≡◌, List, ap, nat_eq, subst, sym, ◌∙◌, ℕ}
use Rattle.std.specs.Map.{remove_entry, set_value}
use Rattle.chunked.specs.Maps.{SortedMap, value_at}
use Rattle.installed_filters.specs.declared.books.Row.{Row}
use Rattle.installed_filters.specs.Books.{Adds}
use Rattle.installed_filters.specs.Under.{is_under}
use Rattle.installed_filters.proofs.Booked.{eq_yes}
use Rattle.installed_filters.proofs.Rows.{adds_removed, adds_set}
use Rattle.installed_filters.proofs.changes.replace.Goals as goal

pub set-requires : goal.set-requires
set-requires c =
    ap (λ (k : ℕ). is_under c.args.row.cap (value_at c.args.rows.now.entries k)) c.from.ensures
    ∙ (ap (is_under c.args.row.cap) c.requires.there ∙ eq_yes c.args.old.cap c.args.row.cap c.requires.cap)

pub returns-clause-booked : goal.returns-clause-booked
returns-clause-booked c = λ booked.
    let rows = c.args.rows.now.entries in
    let is : c.set.new.self.entries ≡ set_value (nat_eq c.args.id) rows c.args.row = ap (λ (m : SortedMap Row). m.entries) c.set.ensures.entries ∙ ap (λ (k : ℕ). set_value (nat_eq k) rows c.args.row) c.from.ensures in
    c.swap.ensures.booked rows (remove_entry (nat_eq c.args.id) rows) c.set.new.self.entries booked (adds_removed rows c.args.id c.args.old c.requires.there)
    (subst (λ (es : List (ℕ × Row)). Adds (remove_entry (nat_eq c.args.id) rows) c.args.row es) (sym is) (adds_set rows c.args.id c.args.old c.args.row c.requires.there))
