use Rattle.trace_lines.specs.Links.{ends_at}
use Rattle.trace_lines.specs.Following.{HasTaken}
use Rattle.trace_lines.proofs.Linking.{follows_next}
use Rattle.trace_lines.proofs.messages.follow.Goals as goal

pub returns-clause-follows : goal.returns-clause-follows
returns-clause-follows c = λ past row follows.
    let taken : HasTaken c.args.highest past (ends_at c.args.event.act c.args.event.told) c.take.new.state =
    rw (← c.ends_at.ensures) (c.in_ok-sender.ensures.taken c.args.highest past follows) in
    let a = c.in_ok-apply.ensures in
    follows_next c.args.highest past c.args.event c.effect_at.result c.take.new.state c.apply.new.state taken c.effect_at.ensures a.asker a.acks (a.messages past row taken.asker taken.acks) a.fronts
