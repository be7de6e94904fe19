use Rattle.core_steps.proofs.core0.Core0.take_sends.Goals as goal

pub returns-in-Ack-clause-sends : goal.returns-in-Ack-clause-sends
returns-in-Ack-clause-sends c = λ after told h. c.ack_sends.ensures.sends _ after told (rw c.in-Ack.is at h)
