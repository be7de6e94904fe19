-- What is told of a packet's receivers.
use Rattle.std.specs.Prelude.{List, [], ◌∷◌}
use Rattle.filter_table.specs.declared.delivery.Kept.{Kept}
use Rattle.installed_filters.specs.declared.receiving.Receivers.{Receivers}
use Rattle.installed_filters.specs.declared.receiving.Receivers.TheVariants.{Nobody, One, Listed}

-- the endpoints that get the packet, where the workspace has this list
abbrev pub kept_by : Receivers → List Kept → List Kept
kept_by Nobody listed = []
kept_by (One kept) listed = kept ∷ []
kept_by Listed listed = listed
