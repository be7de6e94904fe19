-- Links over which nothing goes.
use Rattle.std.specs.Prelude.{◌<◌, ℕ, zero, suc}
use Rattle.core_links.specs.Views.{LinkView}
use Rattle.core_links.specs.Flows.{Flow, IsResting}

-- nothing goes over the links of the core with this number, among so many: core 0 has one to each other core, another core has one to core 0
abbrev pub AreResting : ℕ → ℕ → (ℕ → LinkView) → (ℕ → Flow) → Type 0
AreResting zero cores view flow = (entry : ℕ) → suc entry < cores → IsResting (view (suc entry)) (flow (suc entry))
AreResting (suc number) cores view flow = IsResting (view 0) (flow 0)
