use Rattle.std.proofs.Common.{count_by, subst, sym, ℕ}
use Rattle.installed_filters.specs.Slotting.{is_held}
use Rattle.installed_filters.specs.Installed.{Standing}
use Rattle.installed_filters.specs.Lent.{AreDifferent, held_listed}
use Rattle.installed_filters.proofs.Different.{running_different}
use Rattle.installed_filters.proofs.filters.Filters.running_programs.Goals as goal

pub returns : goal.returns
returns c =
    let i = c.self.inside in
    subst (λ (n : ℕ). AreDifferent (held_listed c.args.self.now.now) n) (sym c.count_held.ensures)
    (subst (λ (s : Standing). AreDifferent (held_listed s.now) (count_by is_held i.slots.slots)) c.self.view_is (running_different i.rows.entries i.slots.slots i.reaches.ends c.self.invariant.0.booked))
