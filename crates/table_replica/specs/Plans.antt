-- What is ready for a staged operation, so that to perform it takes no memory and can't fail.
-- No public clause cites these.
use Rattle.std.specs.Prelude.{◌≡◌, ◌<◌, ℕ, IsTrue, MatchOption, Option, Some, None, List}
use Rattle.chunked.specs.Maps.{SortedMap}
use Rattle.endpoint_caps.specs.declared.Cap.{Cap}
use Rattle.endpoint_caps.specs.Capabilities.{CapBounds, CapTable, created, minted_from, revoked, dropped, first, create_tests, mint_tests}
use Rattle.endpoint_caps.specs.Holding.{Holding}
use Rattle.filter_table.specs.Listed.{ListedFilter}
use Rattle.filter_table.specs.Tables.{TableState, after, instructions_of, made}
use Rattle.filter_table.specs.declared.operation.Op.{Op}
use Rattle.filter_table.specs.declared.operation.Op.TheVariants as ops
use Rattle.table_replica.specs.declared.plan.CapChange.{CapChange}
use Rattle.table_replica.specs.declared.plan.CapChange.TheVariants.{Nothing, Create, Mint, Revoke, DropCap}
use Rattle.table_replica.specs.declared.plan.Plan.{Plan}
use Rattle.table_replica.specs.declared.shares.Share.{Share}
use Rattle.table_replica.specs.Shares.{AreShares, HasRoom, IsNewShare}
use Rattle.installed_filters.specs.Installed.{AreHeldBy, Standing}
use Rattle.installed_filters.specs.Lent.{listed}

-- what an operation does to the capabilities
abbrev pub change_of : Op → CapChange
change_of (ops.Create domain endpoint) = Create domain endpoint
change_of (ops.Mint domain cap to rights) = Mint domain cap to rights
change_of (ops.Revoke domain cap) = Revoke cap
change_of (ops.DropCap domain cap) = DropCap cap
change_of op = Nothing

abbrev pub caps_after : CapTable → CapChange → CapTable
caps_after table Nothing = table
caps_after table (Create domain endpoint) = created table domain endpoint
caps_after table (Mint domain cap to rights) = minted_from table cap to rights
caps_after table (Revoke cap) = revoked table cap
caps_after table (DropCap cap) = dropped table cap

-- one more capability takes no memory, and nothing refuses it under some limits
abbrev pub IsReady : Holding → CapChange → Type 0
IsReady caps (Create domain endpoint) = IsTrue caps.ready × (limits : CapBounds) × (first (create_tests limits caps.table domain endpoint) ≡ None)
IsReady caps (Mint domain cap to rights) = IsTrue caps.ready × (limits : CapBounds) × (first (mint_tests limits caps.table domain cap rights) ≡ None)
IsReady caps change = Unit {0}

-- these filters are listed after it, and stand under these capabilities: those of now, if no others are planned
abbrev pub AreNextFilters : List Cap → List ListedFilter → Standing → Type 0
AreNextFilters caps after filters = MatchOption filters.next ((listed filters.now ≡ after) × AreHeldBy caps filters.now) (λ next. (listed next ≡ after) × AreHeldBy caps next)

-- the plan is that of its operation
pub record IsPlan (s : TableState) (caps : Holding) (filters : Standing) (shares : SortedMap Share) (plan : Plan) : Type 0 where
  pub change : plan.caps ≡ change_of plan.op.value
  pub ready : IsReady caps plan.caps
  pub filters_after : AreNextFilters (after s plan.op.value).caps.held (after s plan.op.value).filters filters
  pub share : IsNewShare s.filters (after s plan.op.value).filters plan.share
  pub room : HasRoom shares plan.share
  pub instructions_after : plan.instructions ≡ instructions_of (after s plan.op.value).filters
  pub next_filter : plan.next_filter ≡ (after s plan.op.value).next_filter
  pub made : plan.made ≡ made s plan.op.value
  pub version : s.version < 18446744073709551615

abbrev pub staged_op : Option Plan → Option Op
staged_op None = None
staged_op (Some plan) = Some plan.op.value

abbrev pub IsPlanned : TableState → Holding → Standing → SortedMap Share → Option Plan → Type 0
IsPlanned s caps filters shares None = filters.next ≡ None
IsPlanned s caps filters shares (Some plan) = IsPlan s caps filters shares plan

-- what is kept beside the table: its filters stand under its capabilities, and are counted for their domains and together
pub record IsKept (s : TableState) (caps : Holding) (filters : Standing) (shares : SortedMap Share) (instructions : ℕ) (plan : Option Plan) : Type 0 where
  pub held : AreHeldBy caps.table.held filters.now
  pub shares_kept : AreShares shares.entries (listed filters.now)
  pub total : instructions ≡ instructions_of (listed filters.now)
  pub planned : IsPlanned s caps filters shares plan
