use Rattle.std.proofs.Common.{◌∙◌, ap, arith}
use Rattle.world_model.specs.Cases.{as_reply}
use Rattle.core_steps.proofs.Codable.{decided_numbered}
use Rattle.core_steps.proofs.Sending.{ack_replies, reply_to_one}
use Rattle.core_steps.proofs.core0.Core0.ack_sends.Goals as goal

pub returns-clause-codable : goal.returns-clause-codable
returns-clause-codable c = (tt, decided_numbered _ c.in-Some.decision c.requires.sendable c.in-Some.ensures.decided)

pub returns-clause-sends : goal.returns-clause-sends
returns-clause-sends c = λ txn after told h.
    ack_replies c.args.self.now c.args.from txn after told c.reply_after.result c.requires h c.reply_after.ensures.told ∙ (ap as_reply c.in-Some.is ∙ reply_to_one c.in-Some.core c.from.result c.in-Some.decision (λ none. omega (arith, none, c.if-core-eq0.false)) c.from.ensures)

pub returns-in_default-clause-sends : goal.returns-in_default-clause-sends
returns-in_default-clause-sends c = λ txn after told h.
    ack_replies c.args.self.now c.args.from txn after told c.reply_after.result c.requires h c.reply_after.ensures.told ∙ ap as_reply c.in_default.is
