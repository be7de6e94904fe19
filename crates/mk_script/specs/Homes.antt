-- What contracts see of the home cores of domains. No public clause cites these.
use Rattle.std.specs.Prelude.{ℕ, unwrap_or}
use Rattle.std.specs.Ordering.{nat_cmp}
use Rattle.std.specs.BTreeMap.{get}
use Rattle.mk_script.specs.declared.homes.Homes.{Homes}

-- the core at which the requests of a domain enter
abbrev pub home_in : Homes → ℕ → ℕ
home_in homes domain = unwrap_or (get nat_cmp homes.cores domain) 0
