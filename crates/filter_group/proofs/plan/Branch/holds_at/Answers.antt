use Rattle.filter_group.proofs.plan.Branch.holds_at.Goals as goal

pub returns-else-holds_with : goal.returns-else-holds_with
returns-else-holds_with c = λ done packet values count further goes. c.holds_with-else-holds_with.ensures done packet values count goes
