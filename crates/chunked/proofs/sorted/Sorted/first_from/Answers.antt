use Rattle.std.proofs.Common.{nat_le, slice_get, sym, ap, ◌∙◌}
use Rattle.chunked.proofs.Rising.{find-filter, yields_first}
use Rattle.chunked.proofs.sorted.Sorted.first_from.Goals as goal

pub returns : goal.returns
returns g c =
    yields_first (λ x. x.now) c.next.result c.iter_from.result c.next.new.self c.next.ensures.steps
    ∙ ap (λ es. slice_get es 0) c.iter_from.ensures.entries
    ∙ sym (find-filter (λ e. nat_le c.args.key e.0) c.args.self.now.entries)
