use Rattle.core_links.proofs.Pumping.{Pumping, BitClear, BitLeft, Before, From}
use Rattle.core_links.proofs.ring_links.RingLinks.pump_due.Given as goal

abbrev pub invariant-bits : goal.invariant-bits
invariant-bits l = Pumping (BitClear l.left) (BitLeft l.left) l.initial.slots l.slots l.marks

abbrev pub decreases-bits : goal.decreases-bits
decreases-bits l = l.left

abbrev pub invariant-others : goal.invariant-others
invariant-others l = Pumping (Before l.place) (From l.place) l.fn.slots l.slots l.marks
