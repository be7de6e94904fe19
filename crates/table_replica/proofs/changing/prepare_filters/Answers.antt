use Rattle.std.proofs.Common.{subst}
use Rattle.filter_table.specs.declared.operation.Op.{Op}
use Rattle.table_replica.specs.Changing.{MayChange}
use Rattle.table_replica.proofs.changing.prepare_filters.Goals as goal

pub prepare_replace-requires-clause-held : goal.prepare_replace-requires-clause-held
prepare_replace-requires-clause-held c = (subst (λ (op : Op). MayChange c.args.id c.args.filters.now.now op) c.in-Replace.is c.requires.may).1
