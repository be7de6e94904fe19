-- Whose answer core 0 waits for, as its links show it.
use Rattle.std.specs.Prelude.{◌≡◌, ℕ, []}
use Rattle.core_links.specs.Views.{LinkView}
use Rattle.monitor_2pc.specs.Awaiting.{Awaits}
use Rattle.core_loop.specs.declared.part.Part.{Part}
use Rattle.core_loop.specs.declared.part.Part.TheVariants as part

-- the part is core 0's, it waits for the vote or the acknowledgement of this core, and no message of it is there, as far as core 0 has looked
abbrev pub WaitsFor : Part → LinkView → ℕ → Type 0
WaitsFor (part.Core0 core) view peer = Awaits core.coordinator peer × (view.kept ≡ [])
WaitsFor (part.OtherCore core) view peer = ⊥
