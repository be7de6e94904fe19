-- What votes come to.
-- No public clause cites these.
use Rattle.std.specs.Prelude.{◌≡◌, ◌≢◌, ℕ, Option, Some, None, List, slice_get}
use Rattle.filter_table.specs.declared.decision.Vote.{Vote}
use Rattle.filter_table.specs.declared.decision.Vote.TheVariants.{Yes}
use Rattle.two_phase.specs.declared.step.Say.{Say}
use Rattle.two_phase.specs.declared.step.Say.TheVariants.{Prepare, Commit, Abort}
use Rattle.monitor_2pc.specs.declared.tally.Tally.{Tally}
use Rattle.monitor_2pc.specs.declared.tally.Tally.TheVariants.{Open, AllYes, Against}
use Rattle.two_phase.specs.Coordinators.{LeastNo}

abbrev pub Tallied : List (Option Vote) → Tally → Type 0
Tallied votes Open = (i : ℕ) × (slice_get votes i ≡ Some None)
Tallied votes AllYes = (i : ℕ) (v : Option Vote) → slice_get votes i ≡ Some v → v ≡ Some Yes
Tallied votes (Against core against) = LeastNo votes core against × ((i : ℕ) → slice_get votes i ≢ Some None)

-- what core 0 says on these votes: nothing while one is missing, Commit where all are Yes, else Abort
abbrev pub SaysOn : List (Option Vote) → Option Say → Type 0
SaysOn votes None = (i : ℕ) × (slice_get votes i ≡ Some None)
SaysOn votes (Some Commit) = (i : ℕ) (v : Option Vote) → slice_get votes i ≡ Some v → v ≡ Some Yes
SaysOn votes (Some Abort) = ((i : ℕ) × (v : Vote) × (slice_get votes i ≡ Some (Some v)) × (v ≢ Yes)) × ((i : ℕ) → slice_get votes i ≢ Some None)
SaysOn votes (Some Prepare) = ⊥
