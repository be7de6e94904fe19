use Rattle.std.proofs.Common.{◌≡◌, ◌∙◌, Some, sym}
use Rattle.world_core.specs.Channels.{first_of}
use Rattle.world_core.proofs.Keeping.{first_rest}
use Rattle.world_core.proofs.peer.Peer.take.Goals as goal

pub take_in-taken-requires-clause-awaits : goal.take_in-taken-requires-clause-awaits
take_in-taken-requires-clause-awaits g c =
    let first : first_of (g.C.Channel.messages c.args.self.now.down) ≡ Some c.in-Some.message = sym c.in_ok-first.ensures.ok ∙ c.in-Some.is in
    let r = first_rest (g.C.Channel.messages c.args.self.now.down) c.in-Some.message first in
    c.requires.awaits c.in-Some.message r.0 r.1

pub take_in-taken-requires-clause-oldest : goal.take_in-taken-requires-clause-oldest
take_in-taken-requires-clause-oldest g c = sym c.in_ok-first.ensures.ok ∙ c.in-Some.is
