-- What core 0 counts.
-- No public clause cites these.
use Rattle.std.specs.Prelude.{ℕ, Bool, not, List, Option, is_none, is_some, count_by}
use Rattle.filter_table.specs.declared.operation.Op.{Op}
use Rattle.filter_table.specs.declared.decision.Vote.{Vote}

abbrev pub votes_missing : List (Option Vote) → ℕ
votes_missing votes = count_by is_none votes

abbrev pub acks_missing : List Bool → ℕ
acks_missing acks = count_by not acks

abbrev pub requests_waiting : List (Option Op) → ℕ
requests_waiting waiting = count_by is_some waiting
