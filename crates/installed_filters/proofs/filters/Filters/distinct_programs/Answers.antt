use Rattle.std.proofs.Common.{count_by, is_some, subst, sym, ℕ}
use Rattle.installed_filters.specs.Installed.{Standing}
use Rattle.installed_filters.specs.Lent.{AreDifferent, listed}
use Rattle.installed_filters.proofs.Different.{all_different}
use Rattle.installed_filters.proofs.filters.Filters.distinct_programs.Goals as goal

pub returns : goal.returns
returns c =
    let i = c.self.inside in
    subst (λ (n : ℕ). AreDifferent (listed c.args.self.now.now) n) (sym c.count.ensures)
    (subst (λ (s : Standing). AreDifferent (listed s.now) (count_by is_some i.slots.slots)) c.self.view_is (all_different i.rows.entries i.slots.slots i.reaches.ends c.self.invariant.0.booked))
