use Rattle.std.proofs.Common.{◌≡◌, Some, None, slice_get, sym, ◌∙◌, arith}
use Rattle.monitor_2pc.proofs.Counts.{empty_at, missing_after, none_after}
use Rattle.monitor_2pc.proofs.tally.VoteList.cast.Goals as goal

pub returns-then-self-gt0-clause-tallied : goal.returns-then-self-gt0-clause-tallied
returns-then-self-gt0-clause-tallied c =
    let xs = c.self.inside.votes.items in
    let here : slice_get xs c.args.entry ≡ Some None = empty_at xs c.args.entry c.index.result.now (omega (arith, c.len.ensures, c.if-entry-len.false)) c.index.ensures (sym c.is_some.ensures ∙ c.if-is_some.false) in
    missing_after xs c.args.entry c.self.inside.missing c.args.vote c.self.invariant.1 (omega (arith, c.if-self-gt0.true)) here

pub outcome_of-requires-clause-full : goal.outcome_of-requires-clause-full
outcome_of-requires-clause-full c =
    let xs = c.self.inside.votes.items in
    let here : slice_get xs c.args.entry ≡ Some None = empty_at xs c.args.entry c.index.result.now (omega (arith, c.len.ensures, c.if-entry-len.false)) c.index.ensures (sym c.is_some.ensures ∙ c.if-is_some.false) in
    rw c.deref.ensures.value (none_after xs c.args.entry c.self.inside.missing c.args.vote c.self.invariant.1 (omega (arith, c.if-self-gt0.false)) here)

pub returns-clause-open : goal.returns-clause-open
returns-clause-open c =
    let xs = c.self.inside.votes.items in
    rw (← c.self.view_is) (empty_at xs c.args.entry c.index.result.now (omega (arith, c.len.ensures, c.if-entry-len.false)) c.index.ensures (sym c.is_some.ensures ∙ c.if-is_some.false))
