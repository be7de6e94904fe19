use Rattle.std.proofs.Common.{rules}
use Rattle.core_links.proofs.Pumping.{moved_on_at}
use Rattle.core_links.proofs.ring_links.RingLinks.pump_at.Goals as goal

pub returns-in-Some : goal.returns-in-Some
returns-in-Some c =
    moved_on_at c.args.peer c.args.slots.now c.index-slots-peer.result c.in-Some.link c.pump.new.self c.args.marks.now c.note.new.self c.ready.result (search rules) c.in-Some.is
    c.pump.ensures.link c.pump.ensures.pumped c.pump.ensures.lines c.ready.ensures c.note.ensures
