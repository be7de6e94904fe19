-- What the two parts of the protocol share.
use Rattle.std.specs.Prelude.{Option, None, Some}
use Rattle.filter_table.specs.declared.operation.Op.{Op}
use Rattle.filter_table.specs.Tables.{TableState, after}

-- the table once this is committed, if anything is
abbrev pub after_commit : TableState → Option Op → TableState
after_commit s None = s
after_commit s (Some op) = after s op
