use Rattle.std.proofs.Common.{append_assoc, arith, ap, length}
use Rattle.sim_lines.proofs.Counted.{filters_counted}
use Rattle.sim_lines.proofs.Texts.{same_text}
use Rattle.sim_lines.proofs.table.push_total.Goals as goal

pub count-filters-requires : goal.count-filters-requires
count-filters-requires c = omega (arith, filters_counted _ c.filters.ensures.sound, ap length c.filters.ensures.filters)

pub returns : goal.returns
returns c =
    same_text _ _ _ _ c.writeln.ensures.bytes
    (simp (append_assoc, c.version-version.ensures, c.len-caps.ensures, c.caps.ensures, c.count-filters.ensures, c.filters.ensures.filters, c.total_instructions-instructions.ensures))
