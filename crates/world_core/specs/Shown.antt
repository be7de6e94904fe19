-- What the world shows of the replica of a core.
use Rattle.std.specs.Prelude.{◌≡◌, ℕ, zero, suc, Option, Some, slice_get, option_map}
use Rattle.filter_table.specs.declared.operation.Op.{Op}
use Rattle.filter_table.specs.Tables.{table}
use Rattle.table_replica.specs.Shown.{ReplicaState}
use Rattle.world_model.specs.Worlds.{World, version_at, budget_at}

-- what is staged there: the operation under vote
abbrev pub staged_at : World → ℕ → Option (Option Op)
staged_at w zero = Some w.place.staged
staged_at w (suc entry) = option_map (λ p. p.place.staged) (slice_get w.peers entry)

-- it shows the table of the core's version, under the core's budget
pub record ShowsReplica (w : World) (core : ℕ) (r : ReplicaState) : Type 0 where
  pub version : ℕ
  pub is_version : version_at w core ≡ Some version
  pub numbered : r.shown.version ≡ version
  pub shown : r.shown ≡ table w.limits w.log version
  pub is_budget : budget_at w core ≡ Some r.budget
  pub is_staged : staged_at w core ≡ Some r.staged
