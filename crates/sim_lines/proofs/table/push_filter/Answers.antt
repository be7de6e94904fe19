use Rattle.std.proofs.Common.{append_assoc}
use Rattle.sim_lines.proofs.Texts.{same_text}
use Rattle.sim_lines.proofs.table.push_filter.Goals as goal

pub returns : goal.returns
returns c = let h = c.writeln.ensures.bytes in same_text _ _ _ _ h (simp (append_assoc, c.code.ensures.code))
