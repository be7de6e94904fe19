use Rattle.std.proofs.Common.{◌≡◌, List, subst}
use Rattle.filter_table.specs.declared.delivery.Kept.{Kept}
use Rattle.installed_filters.specs.Keeping.{AreKept, IsRaised}
use Rattle.installed_filters.proofs.Gathered.{raised_permuted}
use Rattle.installed_filters.proofs.gathering.gather.Goals as goal

pub returns : goal.returns
returns c =
    raised_permuted c.args.raises.now.items c.sort_many.new.raises.items c.args.captured c.keep_each.new.kept.items c.sort_many.ensures
    (subst (λ (rs : List Kept). AreKept (IsRaised rs) c.args.captured c.keep_each.new.kept.items) c.deref.ensures.value c.in_ok-keep_each.ensures)
