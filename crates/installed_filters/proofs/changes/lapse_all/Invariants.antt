use Rattle.std.proofs.Common.{drop}
use Rattle.installed_filters.specs.Slotting.{slot_at}
use Rattle.installed_filters.specs.Listing.{AreThose, Runs}
use Rattle.installed_filters.proofs.Lapsed.{AreLapsing}
use Rattle.installed_filters.proofs.changes.lapse_all.Given as goal

abbrev pub invariant-loop-entry : goal.invariant-loop-entry
invariant-loop-entry l = record {
  lapsing : AreLapsing l.initial.rows.entries l.initial.slots.slots l.lapsing l.rows.entries l.slots.slots l.reaches.ends (drop l.entry-index l.lapsing);
  runs : AreThose l.running (Runs (slot_at l.slots.slots));
}
