-- Steps one after another, each with its cores before and after.
use Rattle.std.proofs.Common.{◌≡◌, ◌++◌, Bool, true, Option, List, [], ◌∷◌, Some, refl, subst}
use Rattle.filter_table.specs.declared.decision.Decision.{Decision}
use Rattle.world_histories.specs.declared.history.Stamped.{Stamped}
use Rattle.rx_queue.specs.declared.job.Job.{Job}
use Rattle.core_links.specs.RingSlots.{ring_view}
use Rattle.core_loop.specs.declared.cause.Cause.{Cause}
use Rattle.core_loop.specs.declared.cause.Turn.{Turn}
use Rattle.core_loop.specs.declared.cause.Turn.TheVariants as turn
use Rattle.core_loop.specs.Beginning.{CanBeginNext}
use Rattle.core_loop.specs.Choosing.{NoMessageNow}
use Rattle.core_loop.specs.Cores.{DidOne, CanReceive}
use Rattle.core_loop.specs.Turning.{IsSpent, LacksMemory}
use Rattle.core_machine.specs.Machines.{RingCore}
use Rattle.core_machine.specs.declared.step.CoreStep.{CoreStep}
use Rattle.core_machine.specs.declared.step.StepOutcome.{StepOutcome}
use Rattle.core_machine.specs.Driving.{TurnsRightly, IsDone, AreDoneInTurn}

pub done_more : (steps : List CoreStep) (outcomes : List StepOutcome) (s : CoreStep) (o : StepOutcome) (a b c : List RingCore) → AreDoneInTurn steps outcomes a b → IsDone s o b c → AreDoneInTurn (steps ++ s ∷ []) (outcomes ++ o ∷ []) a c
done_more [] [] s o a b c h k = (c, subst (λ (cores : List RingCore). IsDone s o cores c) h k, refl)
done_more [] (p ∷ outcomes) s o a b c h k = absurd h
done_more (r ∷ steps) [] s o a b c h k = absurd h
done_more (r ∷ steps) (p ∷ outcomes) s o a b c h k = (h.0, h.1, done_more steps outcomes s o h.0 b c h.2 k)

pub turned_rightly : (rx : Bool) (t : Turn) (old new : RingCore)
    → ((s : Stamped) (d : Option Decision) → t ≡ turn.Did s d → DidOne ring_view old new s)
    → ((cause : Cause) → t ≡ turn.Stopped cause → new.stopped ≡ Some cause)
    → (t ≡ turn.Spent → IsSpent old.cores old.clock old.part old.pending (ring_view new.links) rx new.intake)
    → (t ≡ turn.NoMemory → LacksMemory old.cores old.clock old.part old.pending (ring_view new.links) rx new.intake)
    → (t ≡ turn.Idle → NoMessageNow new.cores new.part (ring_view new.links))
    → (t ≡ turn.Idle → CanBeginNext new.cores new.part new.pending (ring_view new.links) → ⊥)
    → (t ≡ turn.Idle → rx ≡ true → (job : Job) → CanReceive new job → ⊥)
    → TurnsRightly rx t old new
turned_rightly rx (turn.Did s d) old new did stopped spent lacks quiet unable none = did s d refl
turned_rightly rx turn.Idle old new did stopped spent lacks quiet unable none = record { no_message = quiet refl; no_request = unable refl; no_job = none refl }
turned_rightly rx (turn.Stopped cause) old new did stopped spent lacks quiet unable none = stopped cause refl
turned_rightly rx turn.Spent old new did stopped spent lacks quiet unable none = spent refl
turned_rightly rx turn.NoMemory old new did stopped spent lacks quiet unable none = lacks refl
