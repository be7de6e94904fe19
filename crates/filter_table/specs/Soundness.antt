-- What every table keeps.
use Rattle.std.specs.Prelude.{◌≡◌, ◌+◌, ◌<◌, ◌≤◌, ℕ, true, Some, List, [], ◌∷◌}
use Rattle.std.specs.List.{Contains}
use Rattle.filter_verify.specs.Rules.{Sound}
use Rattle.endpoint_caps.specs.declared.Cap.{Cap}
use Rattle.endpoint_caps.specs.declared.Right.TheVariants.{Receive}
use Rattle.endpoint_caps.specs.Capabilities.{CapTable, IdsBetween, ParentsHeld, cap_at, has_right}
use Rattle.filter_table.specs.Listed.{ListedFilter}
use Rattle.filter_table.specs.Tables.{TableState}

-- the ids increase, from the first number on and below the second
abbrev pub FilterIdsBetween : ℕ → List ListedFilter → ℕ → Type 0
FilterIdsBetween from [] to = from ≤ to
FilterIdsBetween from (f ∷ filters) to = (from ≤ f.id) × FilterIdsBetween (f.id + 1) filters to

-- while its capability is held, it is the owner that holds it, for the filter's endpoint and with the right to receive there
pub record IsRightful (caps : CapTable) (f : ListedFilter) : Type 0 where
  pub given_out : f.cap < caps.next
  pub held_by_owner : (c : Cap) → cap_at caps.held f.cap ≡ Some c → (c.holder ≡ f.owner) × (c.endpoint ≡ f.endpoint) × (has_right c.rights Receive ≡ true)
  pub sound : Sound f.program

-- ids are given out once and in order, and each filter is rightful
pub record IsSoundTable (s : TableState) : Type 0 where
  pub cap_ids : IdsBetween 0 s.caps.held s.caps.next
  pub parents : ParentsHeld s.caps.held
  pub filter_ids : FilterIdsBetween 0 s.filters s.next_filter
  pub rightful : (f : ListedFilter) → Contains s.filters f → IsRightful s.caps f

-- no id is given out again
pub record IdsGrow (old new : TableState) : Type 0 where
  pub caps : old.caps.next ≤ new.caps.next
  pub filters : old.next_filter ≤ new.next_filter
