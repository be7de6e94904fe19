use Rattle.core_loop.proofs.Silent.{silent_empty, silent_more}
use Rattle.tests_machines.proofs.running.lines.given_links.Goals as goal

pub returns : goal.returns
returns c = silent_more c.in_ok-links.links c.join.new.self 0 _ (silent_empty c.in_ok-links.links c.in_ok-links.ensures.empty) c.join.ensures.joined c.join.ensures.others c.in_ok-sender.ensures.sender.0 c.new-receiver.ensures.taken.0
