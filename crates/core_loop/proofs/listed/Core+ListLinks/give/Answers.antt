use Rattle.core_links.specs.ListSlots.{list_view}
use Rattle.core_loop.proofs.Resting.{stands_same, given_traffic}
use Rattle.core_loop.proofs.Stopped.{given_shows, stopped_still}
use Rattle.core_loop.proofs.listed.Core+ListLinks.give.Goals as goal

pub invariant_of-self : goal.invariant_of-self
invariant_of-self c =
    let i = c.self.inside in
    let v = c.self.invariant in (
      v.0,
      v.1,
      stands_same i.part i.number i.cores i.clock i.history.items (list_view i.links) (list_view c.give.new.self) v.2 (given_traffic i.links c.give.new.self c.args.peer c.args.message.items c.give.result c.give.ensures.ok c.give.ensures.stays),
      v.3,
      v.4,
      stopped_still i.cores i.clock i.part (list_view i.links) (list_view c.give.new.self) i.stopped (given_shows i.links c.give.new.self c.args.peer c.args.message.items c.give.result c.give.ensures.ok c.give.ensures.stays) v.5,
      v.6,
    )
