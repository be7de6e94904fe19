use Rattle.std.proofs.Common.{false, rules}
use Rattle.core_machine.proofs.Wires.{silent_link, silent_alone, alone, holding}
use Rattle.core_machine.proofs.wiring.join_peer.Goals as goal

pub returns-clause-silent : goal.returns-clause-silent
returns-clause-silent c =
    let up = c.in_ok-to_first in
    let down = c.in_ok-to_peer in
    let first = c.join.new.self in
    let links = c.join-2.new.self in (
      silent_link first c.args.peer (record { sender = down.to_peer; receiver = up.from_peer; moved = false; bell = c.in_ok-its_bell.its_bell }) c.join.ensures.joined down.ensures.sender.0 up.ensures.receiver.0,
      silent_alone c.in_ok-links.links links 0 c.in_ok-links.ensures.empty c.join-2.ensures.others
          (silent_link links 0 (record { sender = up.to_first; receiver = down.from_first; moved = false; bell = c.in_ok-bell.bell }) c.join-2.ensures.joined up.ensures.sender.0 down.ensures.receiver.0),
    )

pub returns-clause-no_other : goal.returns-clause-no_other
returns-clause-no_other c = alone c.in_ok-links.links c.join-2.new.self c.in_ok-links.ensures.empty c.join-2.ensures.others

pub returns-clause-holds : goal.returns-clause-holds
returns-clause-holds c =
    let up = c.in_ok-to_first in
    let down = c.in_ok-to_peer in
    let first = c.join.new.self in
    let links = c.join-2.new.self in
    holding first links (record { sender = down.to_peer; receiver = up.from_peer; moved = false; bell = c.in_ok-its_bell.its_bell }) (record { sender = up.to_first; receiver = down.from_first; moved = false; bell = c.in_ok-bell.bell })
    (search rules) (search rules) down.ensures.capacity.0 up.ensures.capacity.0
