use Rattle.std.proofs.Common.{◌≡◌, ◌-◌, Some, None, slice_get}
use Rattle.world_core.proofs.WorldKeeping.{core0_shows}
use Rattle.world_core.proofs.EventKeeping.{entry_shows, entry_none}
use Rattle.world_core.proofs.world.WorldOver.replica.Goals as goal

pub returns-then-core-eq0-clause-some : goal.returns-then-core-eq0-clause-some
returns-then-core-eq0-clause-some g c = rw (← c.self.view_is, c.if-core-eq0.true) (core0_shows _ _ _ c.self.invariant)

pub returns-in-Some-clause-some : goal.returns-in-Some-clause-some
returns-in-Some-clause-some g c =
    let at : slice_get c.self.inside.peers.items (c.args.core - 1) ≡ Some c.in-Some.peer.now = cc (c.in-Some.ensures, c.deref.ensures.value, c.from.ensures) in
    entry_shows g.C.Channel.messages c.self.inside.core0 c.self.inside.peers.items c.args.self.now c.args.core c.in-Some.peer.now c.self.invariant c.self.view_is c.if-core-eq0.false at

pub returns-in-None-clause-none : goal.returns-in-None-clause-none
returns-in-None-clause-none g c =
    let at : slice_get c.self.inside.peers.items (c.args.core - 1) ≡ None = cc (c.in-None.ensures, c.deref.ensures.value, c.from.ensures) in
    entry_none g.C.Channel.messages c.self.inside.core0 c.self.inside.peers.items c.args.self.now c.args.core c.self.view_is c.if-core-eq0.false at
