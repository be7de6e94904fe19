use Rattle.std.proofs.Common.{List, subst}
use Rattle.filter_table.specs.declared.delivery.Kept.{Kept}
use Rattle.installed_filters.specs.Keeping.{AreKept, IsRaised}
use Rattle.installed_filters.proofs.Hits.{raised_gets}
use Rattle.installed_filters.proofs.reaches.keep_raised.Goals as goal

pub returns : goal.returns
returns c =
    let kept = c.gather.new.kept.items in
    raised_gets c.args.ends.now c.args.hits.now c.args.captured kept (subst (λ (rs : List Kept). AreKept (IsRaised rs) c.args.captured kept) c.in_ok-list_raises.ensures c.in_ok-gather.ensures)
