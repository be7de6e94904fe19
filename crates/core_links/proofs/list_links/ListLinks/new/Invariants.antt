use Rattle.core_links.proofs.NewLists.{ArePlaces}
use Rattle.core_links.proofs.list_links.ListLinks.new.Given as goal

abbrev pub invariant-loop-peer : goal.invariant-loop-peer
invariant-loop-peer l = ArePlaces l.own l.capacity l.peer l.slots.items
