use Rattle.mkdemux_cores.proofs.Counting.{decided_count}
use Rattle.mkdemux_cores.proofs.turning.decided.Goals as goal

pub returns : goal.returns
returns c =
    decided_count c.args.core.now c.given.result c.pending.result c.under_way.result c.saturating_add-unanswered.result c.saturating_sub.result c.are_decided.ensures c.given.ensures c.pending.ensures c.under_way.ensures
    c.saturating_add-unanswered.ensures c.saturating_sub.ensures
