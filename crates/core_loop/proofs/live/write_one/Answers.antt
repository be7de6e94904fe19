use Rattle.std.proofs.Common.{sym, ◌∙◌}
use Rattle.core_loop.proofs.Told.{written_first}
use Rattle.core_loop.proofs.live.write_one.Goals as goal

pub returns-clause-ok : goal.returns-clause-ok
returns-clause-ok c = written_first c.args.room.now c.args.kept (sym c.is_empty.ensures ∙ c.if-is_empty.false)
