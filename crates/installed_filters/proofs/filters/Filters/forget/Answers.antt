use Rattle.std.proofs.Common.{None, refl}
use Rattle.installed_filters.proofs.Planned.{has_slots, kept_free}
use Rattle.installed_filters.proofs.filters.Filters.forget.Goals as goal

pub take_back-requires-clause-slots : goal.take_back-requires-clause-slots
take_back-requires-clause-slots c = let i = c.self.inside in has_slots i.rows i.slots i.reaches i.change c.self.invariant.0.booked c.self.invariant.1

pub invariant_of-self : goal.invariant_of-self
invariant_of-self c =
    let i = c.self.inside in
    (kept_free i.rows.entries i.slots.slots i.reaches.ends c.take_back.new.lists None refl c.self.invariant.0.booked c.self.invariant.0.ids c.take_back.ensures, tt)
