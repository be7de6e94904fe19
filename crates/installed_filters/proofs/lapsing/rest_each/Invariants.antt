use Rattle.std.proofs.Common.{◌⊎◌, drop}
use Rattle.installed_filters.specs.Slotting.{slot_at}
use Rattle.installed_filters.specs.Listing.{AreThose, Rests}
use Rattle.installed_filters.specs.Lapsing.{slots_counted}
use Rattle.installed_filters.proofs.Rested.{AreCountedSo}
use Rattle.installed_filters.proofs.lapsing.rest_each.Given as goal

abbrev pub invariant-loop-entry : goal.invariant-loop-entry
invariant-loop-entry l = record {
  counted : AreCountedSo l.counts.entries (drop l.entry-index l.lapsing) l.lapsing;
  rests : AreThose l.resting (λ m p. Rests (slot_at l.slots.slots) m p ⊎ Rests (slots_counted l.slots.slots l.counts.entries) m p);
}
