use Rattle.std.proofs.Common.{◌≡◌, ◌∙◌, List, ℕ, ap, filter, map, nat_le, subst, sym}
use Rattle.filter_table.specs.Listed.{ListedFilter}
use Rattle.installed_filters.specs.declared.books.Row.{Row}
use Rattle.installed_filters.specs.Installed.{Standing}
use Rattle.installed_filters.specs.Lent.{AreLendable, listed, listed_row}
use Rattle.installed_filters.proofs.Different.{lendable, lendable_from, listed_from, listed_rows}
use Rattle.installed_filters.proofs.filters.Filters.iter_from.Goals as goal

pub invariant_of-result : goal.invariant_of-result
invariant_of-result c =
    let i = c.self.inside in
    let rows : c.iter_from.result ≡ filter (λ (e : ℕ × Row). nat_le c.args.id e.0) i.rows.entries =
    c.iter_from.ensures ∙ ap (λ (n : ℕ). filter (λ (e : ℕ × Row). nat_le n e.0) i.rows.entries) c.from.ensures in
    subst (λ (es : List (ℕ × Row)). AreLendable i.slots.slots es) (sym rows)
    (lendable_from i.slots.slots i.rows.entries c.args.id (lendable i.rows.entries i.slots.slots i.reaches.ends c.self.invariant.0.booked c.self.invariant.0.ids))

pub returns : goal.returns
returns c =
    let i = c.self.inside in
    let rows : c.iter_from.result ≡ filter (λ (e : ℕ × Row). nat_le c.args.id e.0) i.rows.entries =
    c.iter_from.ensures ∙ ap (λ (n : ℕ). filter (λ (e : ℕ × Row). nat_le n e.0) i.rows.entries) c.from.ensures in
    ap (map (listed_row i.slots.slots)) rows ∙ (listed_from i.slots.slots i.rows.entries c.args.id
    ∙ ap (λ (fs : List ListedFilter). filter (λ (f : ListedFilter). nat_le c.args.id f.id) fs) (sym (listed_rows i.slots.slots i.rows.entries) ∙ ap (λ (s : Standing). listed s.now) c.self.view_is))
