use Rattle.std.proofs.Common.{false, suc, ◌∙◌, arith, rules}
use Rattle.core_machine.proofs.Wires.{holding}
use Rattle.core_loop.proofs.Silent.{silent_empty, silent_more}
use Rattle.tests_machines.proofs.joined.joined_links.Goals as goal

pub returns-clause-silent : goal.returns-clause-silent
returns-clause-silent c = (
  silent_more c.in_ok-first.first c.join.new.self 1 _ (silent_empty c.in_ok-first.first c.in_ok-first.ensures.empty) c.join.ensures.joined c.join.ensures.others c.in_ok-to_second.ensures.sender.0 c.in_ok-to_first.ensures.receiver.0,
  silent_more c.in_ok-second.second c.join-2.new.self 0 _ (silent_empty c.in_ok-second.second c.in_ok-second.ensures.empty) c.join-2.ensures.joined c.join-2.ensures.others c.in_ok-to_first.ensures.sender.0 c.in_ok-to_second.ensures.receiver.0,
)

pub returns-clause-alone : goal.returns-clause-alone
returns-clause-alone c = (
  c.join.ensures.others 0 (λ e. absurd (omega (arith, e))) ∙ c.in_ok-first.ensures.empty 0,
  λ entry. c.join-2.ensures.others (suc entry) (λ e. absurd (omega (arith, e))) ∙ c.in_ok-second.ensures.empty (suc entry),
)

pub returns-clause-holds : goal.returns-clause-holds
returns-clause-holds c =
    holding c.join.new.self c.join-2.new.self (record { sender = c.in_ok-to_second.to_second; receiver = c.in_ok-to_first.from_second; moved = false; bell = c.in_ok-its_bell.its_bell }) (record { sender = c.in_ok-to_first.to_first; receiver = c.in_ok-to_second.from_first; moved = false; bell = c.in_ok-bell.bell })
    (search rules) (search rules) c.in_ok-to_second.ensures.capacity.0 c.in_ok-to_first.ensures.capacity.0
