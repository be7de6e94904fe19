use Rattle.std.proofs.Common.{◌+◌, arith}
use Rattle.draw_engine.specs.Text.{name_cell}
use Rattle.draw_engine.proofs.Columns.{wrote_next}
use Rattle.draw_engine.proofs.text.push_names.Goals as goal

pub loop-core-preserved : goal.loop-core-preserved
loop-core-preserved c =
    wrote_next name_cell c.loop-core.text.items _ _ c.loop-core.core (c.args.highest + 1) (omega arith) c.in_ok-push_name.ensures c.loop-core.invariant
