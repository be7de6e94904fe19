-- What is lent of the filters of a table, and how many different programs they have.
use Rattle.std.specs.Prelude.{is_none, not, List, filter}
use Rattle.endpoint_caps.specs.declared.Cap.{Cap}
use Rattle.endpoint_caps.specs.Capabilities.{cap_at}
use Rattle.filter_table.specs.Listed.{ListedFilter}
pub use Rattle.installed_filters.specs.Lent.{shown_filter, IsIn, AreDifferent}

-- the filters whose capability is held
abbrev pub held_filters : List Cap → List ListedFilter → List ListedFilter
held_filters caps filters = filter (λ f. not (is_none (cap_at caps f.cap))) filters
