use Rattle.std.proofs.Common.{◌+◌, arith}
use Rattle.trace_lines.specs.Views.{drawn}
use Rattle.draw_engine.specs.Text.{core_cell}
use Rattle.draw_engine.proofs.Columns.{wrote_next}
use Rattle.draw_engine.proofs.text.push_cells.Goals as goal

pub loop-core-preserved : goal.loop-core-preserved
loop-core-preserved c =
    wrote_next (core_cell (drawn c.args.row.now)) c.loop-core.text.items _ _ c.loop-core.core (c.args.highest + 1) (omega arith) c.in_ok-push_core_cell.ensures c.loop-core.invariant
