use Rattle.core_steps.proofs.core0.Core0.take.Goals as goal

pub returns-in-Vote-clause-stranger : goal.returns-in-Vote-clause-stranger
returns-in-Vote-clause-stranger c = rw c.in-Vote.is c.hear_vote.ensures.stranger

pub returns-in-Ack-clause-stranger : goal.returns-in-Ack-clause-stranger
returns-in-Ack-clause-stranger c = rw c.in-Ack.is c.hear_ack.ensures.stranger
