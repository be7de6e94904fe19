-- The limits of a machine.
use Rattle.std.specs.Prelude.{ℕ}
use Rattle.endpoint_caps.specs.Capabilities.{CapBounds}

-- how many capabilities and filters there may be; how many filters one domain may own, and how many instructions these may have
pub record TableLimits : Type 0 where
  pub caps : CapBounds
  pub filters : ℕ
  pub domain_filters : ℕ
  pub domain_insns : ℕ

-- those of a machine for which none are given: a domain may have all
abbrev pub default_limits : TableLimits
default_limits = record { caps = record { total = 1024; share = 1024 }; filters = 1024; domain_filters = 1024; domain_insns = 4294967295 }
