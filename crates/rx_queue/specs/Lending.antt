-- What a look at the front of a queue leaves.
use Rattle.std.specs.Prelude.{◌≡◌, [], ◌∷◌, ⊤, Option, MatchOption}
use mathlib.Core.List.{IsPrefix}
use mathlib.Core.Option.{none}
use Rattle.std.specs.Borrow.{MutBor, Bor, Fml}
use denote.Follow.{follows_so}
use Rattle.rx_queue.specs.declared.job.Job.{Job}
use Rattle.rx_queue.specs.declared.intake.Intake.{Intake}
use Rattle.rx_queue.specs.contracts.intake.Intake.{the_row}
use Rattle.rx_queue.specs.Queue.{jobs_taken, jobs_seen, SameIntake}

-- no job is taken, and the job shown is the first of those seen; where none is shown, none is seen
abbrev pub ShowsFront : Intake → Intake → Option (Bor Job) → Type 0
ShowsFront old new shown =
    SameIntake old new × (jobs_taken new ≡ jobs_taken old) × IsPrefix (jobs_seen old) (jobs_seen new)
    × MatchOption shown (jobs_seen new ≡ []) (λ job. IsPrefix (job.now ∷ []) (jobs_seen new))

-- once the borrow is over, the intake is one that shows this front
abbrev pub LendsFront : MutBor Intake → Option (Bor Job) → Fml
LendsFront i shown = follows_so the_row the_row i.ghost_name none (λ _ _. ⊤) (λ n. ShowsFront i.now n shown)
