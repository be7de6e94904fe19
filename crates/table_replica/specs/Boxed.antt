-- Filters that lie on the heap, if there are any.
-- No public clause cites these.
use Rattle.std.specs.Prelude.{◌≡◌, ℕ, Option, Some, None, List, [], Box, map}
use Rattle.std.specs.Box.{box_value}
use Rattle.filter_table.specs.Listed.{ListedFilter}
use Rattle.installed_filters.specs.Installed.{Installed, Standing, lapsed_under}

abbrev pub standing_in : {Z : Type 0} → Option (Box Standing Z) → Standing
standing_in None = record { now = []; next = None }
standing_in (Some filters) = box_value filters

abbrev pub rest_in : Option (List ListedFilter) → List ListedFilter
rest_in None = []
rest_in (Some rest) = rest

-- the filters once capabilities have gone, if there are any filters
abbrev pub IsLapse : {V : Type 0} → List (ℕ × V) → List Installed → Option (List Installed) → Type 0
IsLapse gone now None = now ≡ []
IsLapse gone now (Some next) = next ≡ map (lapsed_under gone) now
