use Rattle.std.proofs.Common.{◌+◌, arith}
use Rattle.draw_engine.specs.Svg.{column}
use Rattle.draw_engine.proofs.Columns.{wrote_next}
use Rattle.draw_engine.proofs.svg.push_columns.Goals as goal

pub loop-core-preserved : goal.loop-core-preserved
loop-core-preserved c =
    wrote_next (column c.args.bottom) c.loop-core.text.items _ _ c.loop-core.core (c.args.highest + 1) (omega arith) c.in_ok-push_column.ensures c.loop-core.invariant
