use Rattle.std.proofs.Common.{◌≡◌, ◌++◌, ◌∷◌, [], List, ap, nat_cmp, subst, sym, ◌∙◌, ℕ}
use Rattle.std.specs.BTreeMap.{insert_entry}
use Rattle.chunked.specs.Maps.{SortedMap, value_at}
use Rattle.installed_filters.specs.declared.books.Row.{Row}
use Rattle.installed_filters.specs.Books.{Adds}
use Rattle.installed_filters.proofs.Rows.{absent_last, adds_last, push_last}
use Rattle.installed_filters.proofs.changes.install.Goals as goal

pub insert_reserved-requires-clause-absent : goal.insert_reserved-requires-clause-absent
insert_reserved-requires-clause-absent c =
    let rows = c.args.rows.now.entries in
    ap (λ (k : ℕ). value_at rows k) c.from.ensures ∙ absent_last rows c.args.id c.requires.last

pub returns-clause-rows : goal.returns-clause-rows
returns-clause-rows c =
    let rows = c.args.rows.now.entries in
    ap (λ (m : SortedMap Row). m.entries) c.insert_reserved.ensures.entries
    ∙ (ap (λ (k : ℕ). insert_entry nat_cmp rows k c.args.row) c.from.ensures ∙ push_last rows c.args.id c.args.row c.requires.last)

pub returns-clause-booked : goal.returns-clause-booked
returns-clause-booked c = λ booked.
    let rows = c.args.rows.now.entries in
    let is : c.insert_reserved.new.self.entries ≡ rows ++ (c.args.id, c.args.row) ∷ [] =
    ap (λ (m : SortedMap Row). m.entries) c.insert_reserved.ensures.entries
    ∙ (ap (λ (k : ℕ). insert_entry nat_cmp rows k c.args.row) c.from.ensures ∙ push_last rows c.args.id c.args.row c.requires.last) in
    c.put.ensures.booked rows c.insert_reserved.new.self.entries booked (subst (λ (es : List (ℕ × Row)). Adds rows c.args.row es) (sym is) (adds_last rows c.args.id c.args.row))
