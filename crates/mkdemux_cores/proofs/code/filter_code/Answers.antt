use Rattle.std.proofs.Common.{ap, option_map, sym, ◌∙◌}
use Rattle.table_replica.specs.Lent.{shown_filter}
use Rattle.mkdemux_cores.proofs.code.filter_code.Goals as goal

pub returns : goal.returns
returns c = (shown_filter c.in_ok-filter.filter, sym c.filter.ensures ∙ ap (option_map shown_filter) c.in_ok-filter.was, sym c.code.ensures.code)
