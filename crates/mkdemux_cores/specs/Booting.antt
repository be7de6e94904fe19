-- Cores that are opened.
use Rattle.std.specs.Prelude.{◌≡◌, ◌≤◌, ◌==◌, if◌then◌else◌, ℕ, List, Option, Some, None, map, All}
use Rattle.core_machine.specs.Booted.{HasDoneNothing}
use Rattle.core_machine.specs.Booting.{IsMachineOf}
use Rattle.mkdemux_cores.specs.declared.handle.CoreHandle.{CoreHandle}
use Rattle.core_machine.specs.Machines.{RingCore}
use Rattle.filter_table.specs.Limits.{TableLimits}

-- the cores that handles have, in order
abbrev pub cores_of : List CoreHandle → List (Option RingCore)
cores_of handles = map (λ h. h.core) handles

abbrev pub AreClosed : List CoreHandle → Type 0
AreClosed handles = All (λ h. h.core ≡ None) handles

-- the handles have the cores of one machine with these limits and budgets, in order, which have done nothing
pub record AreOpened (limits : TableLimits) (budgets : List ℕ) (handles : List CoreHandle) : Type 0 where
  pub cores : List RingCore
  pub all_open : cores_of handles ≡ map (λ c. Some c) cores
  pub machine : IsMachineOf limits budgets cores
  pub nothing_done : All HasDoneNothing cores

-- numbers that a machine may have as its limits: no total is 0 or above 65,536, and no share is above its total
pub record AreLimits (caps filters domain_caps domain_filters : ℕ) : Type 0 where
  pub some_caps : 1 ≤ caps
  pub few_caps : caps ≤ 65536
  pub some_filters : 1 ≤ filters
  pub few_filters : filters ≤ 65536
  pub caps_share : domain_caps ≤ caps
  pub filters_share : domain_filters ≤ filters

-- a domain's share, where 0 stands for all
abbrev pub share_of : ℕ → ℕ → ℕ
share_of total share = if share == 0 then total else share

-- the limits that these numbers give
abbrev pub limits_of : ℕ → ℕ → ℕ → ℕ → ℕ → TableLimits
limits_of caps filters domain_caps domain_filters domain_insns = record {
  caps = record { total = caps; share = share_of caps domain_caps };
  filters = filters;
  domain_filters = share_of filters domain_filters;
  domain_insns = share_of 4294967295 domain_insns;
}
