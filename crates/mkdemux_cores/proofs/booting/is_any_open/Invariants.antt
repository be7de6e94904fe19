use Rattle.std.proofs.Common.{◌≡◌, ◌<◌, ℕ, None, slice_index_or}
use Rattle.mkdemux_cores.specs.declared.handle.CoreHandle.{CoreHandle}
use Rattle.mkdemux_cores.specs.Booting.{cores_of}
use Rattle.mkdemux_cores.proofs.booting.is_any_open.Given as goal

abbrev pub invariant-loop-core : goal.invariant-loop-core
invariant-loop-core l =
    record { same : cores_of l.cores ≡ cores_of l.initial.cores; closed : (d : CoreHandle) (k : ℕ) → k < l.core-index → (slice_index_or l.initial.cores k d).core ≡ None }
