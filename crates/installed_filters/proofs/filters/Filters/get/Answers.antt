use Rattle.std.proofs.Common.{◌≡◌, ◌∙◌, None, Some, ap, sym}
use Rattle.std.specs.Option.{option_map}
use Rattle.chunked.specs.Maps.{value_at}
use Rattle.filter_table.specs.Listed.{ListedFilter}
use Rattle.filter_table.specs.Tables.{filter_at}
use Rattle.installed_filters.specs.Installed.{Standing}
use Rattle.installed_filters.specs.Lent.{listed, listed_row}
use Rattle.installed_filters.proofs.Different.{row_found}
use Rattle.installed_filters.proofs.Rows.{booked_slot, found_in}
use Rattle.installed_filters.proofs.filters.Filters.get.Goals as goal

pub lent-requires : goal.lent-requires
lent-requires c =
    let i = c.self.inside in
    let row = c.in-Some.row.now in
    let at : value_at i.rows.entries c.args.id ≡ Some row = ap (value_at i.rows.entries) (sym c.from.ensures) ∙ sym c.in-Some.ensures in
    booked_slot i.rows.entries i.slots.slots i.reaches.ends c.self.invariant.0.booked (c.args.id, row) (found_in i.rows.entries c.args.id row at)

pub returns-in-Some : goal.returns-in-Some
returns-in-Some c =
    let i = c.self.inside in
    let row = c.in-Some.row.now in
    let at : value_at i.rows.entries c.args.id ≡ Some row = ap (value_at i.rows.entries) (sym c.from.ensures) ∙ sym c.in-Some.ensures in
    ap (λ (f : ListedFilter). Some f) c.lent.ensures
    ∙ (sym (ap (option_map (λ r. listed_row i.slots.slots (c.args.id, r))) at)
    ∙ (sym (row_found i.slots.slots i.rows.entries c.args.id) ∙ ap (λ (s : Standing). filter_at (listed s.now) c.args.id) c.self.view_is))

pub returns-in-None : goal.returns-in-None
returns-in-None c =
    let i = c.self.inside in
    let none = c.in-None.ensures in
    let at : value_at i.rows.entries c.args.id ≡ None = ap (value_at i.rows.entries) (sym c.from.ensures) ∙ sym none in
    sym (ap (option_map (λ r. listed_row i.slots.slots (c.args.id, r))) at)
    ∙ (sym (row_found i.slots.slots i.rows.entries c.args.id) ∙ ap (λ (s : Standing). filter_at (listed s.now) c.args.id) c.self.view_is)
