-- Whose answer core 0 waits for (Gray 1978, "Notes on data base operating systems", section 5.8.3).
use Rattle.std.specs.Prelude.{◌≡◌, ℕ, zero, suc, false, Some, None, slice_get}
use Rattle.two_phase.specs.Coordinators.{CoordinatorState, Phase, Idle, Voting, Acking}

-- the vote or the acknowledgement at this entry has not come
abbrev pub IsMissing : Phase → ℕ → Type 0
IsMissing Idle entry = ⊥
IsMissing (Voting votes) entry = slice_get votes entry ≡ Some None
IsMissing (Acking acks) entry = slice_get acks entry ≡ Some false

-- core 0 waits for this core's vote or acknowledgement: core c has entry c - 1
abbrev pub Awaits : CoordinatorState → ℕ → Type 0
Awaits own zero = ⊥
Awaits own (suc entry) = IsMissing own.phase entry
