-- Cores that run at the end have run all along.
use Rattle.std.proofs.Common.{◌≡◌, ◌⊎◌, inl, inr, ℕ, List, ◌∷◌, Option, None, Some, slice_get, slice_set, refl, sym, ap, subst, ◌∙◌}
use Rattle.world_model.proofs.Lists.{same_or_not, get-set_same, get-set_other}
use Rattle.core_loop.specs.declared.cause.Cause.{Cause}
use Rattle.core_loop.specs.declared.cause.Turn.{Turn}
use Rattle.core_loop.specs.declared.cause.Turn.TheVariants as turn
use Rattle.core_loop.specs.declared.live.NotReceived.{NotReceived}
use Rattle.core_loop.specs.declared.live.NotReceived.TheVariants as no
use Rattle.core_loop.specs.Receiving.{IsRefused}
use Rattle.core_machine.specs.Machines.{RingCore}
use Rattle.core_machine.specs.Conclusions.{AreRunning}
use Rattle.core_machine.specs.declared.step.StepOutcome.{StepOutcome}
use Rattle.core_machine.specs.declared.step.StepOutcome.TheVariants as outcome
use Rattle.core_machine.specs.Driving.{IsRunning}

-- a turn
pub turned_running : (t : Turn) (old new : RingCore) → ((cause : Cause) → t ≡ turn.Stopped cause → new.stopped ≡ Some cause)
    → (((cause : Cause) → t ≡ turn.Stopped cause → ⊥) → (old.stopped ≡ None) × (new.stopped ≡ None)) → new.stopped ≡ None → (old.stopped ≡ None) × IsRunning (outcome.Turned t)
turned_running (turn.Did s d) old new stopped running none = ((running (λ cause e. cc)).0, tt)
turned_running turn.Idle old new stopped running none = ((running (λ cause e. cc)).0, tt)
turned_running (turn.Stopped cause) old new stopped running none = absurd (let is = stopped cause refl in cc)
turned_running turn.Spent old new stopped running none = ((running (λ cause e. cc)).0, tt)
turned_running turn.NoMemory old new stopped running none = ((running (λ cause e. cc)).0, tt)

-- a packet that is not received
pub refused_running : (why : NotReceived) (old new : RingCore) (bytes : List ℕ) (original room : ℕ) → IsRefused old bytes original room why → new ≡ old → new.stopped ≡ None → (old.stopped ≡ None) × IsRunning (outcome.NotReceived why)
refused_running (no.Stopped cause) old new bytes original room refused same none = absurd (let e = ap (λ (c : RingCore). c.stopped) same in cc (e, refused, none))
refused_running no.Spent old new bytes original room refused same none = (refused.0, tt)
refused_running (no.NoRoom count) old new bytes original room refused same none = (refused.0, tt)
refused_running no.NoMemory old new bytes original room refused same none = (refused.0, tt)

-- one core of all
pub step_running : (cores : List RingCore) (k : ℕ) (core new : RingCore) (o : StepOutcome) → slice_get cores k ≡ Some core → (new.stopped ≡ None → (core.stopped ≡ None) × IsRunning o)
    → AreRunning (slice_set cores k new) → AreRunning cores × IsRunning o
step_running cores k core new o there one all = (old, now.1)
  where
    now : (core.stopped ≡ None) × IsRunning o
    now = one (all k new (get-set_same cores k new core there))

    old : AreRunning cores
    old i c at = by_place (same_or_not i k)
      where
        by_place : ((i ≡ k) ⊎ (i ≡ k → ⊥)) → c.stopped ≡ None
        by_place (inl e) =
            let here : slice_get cores k ≡ Some c = subst (λ (n : ℕ). slice_get cores n ≡ Some c) e at in
            let same : core ≡ c = let a = there in let b = here in cc in
            subst (λ (x : RingCore). x.stopped ≡ None) same now.0
        by_place (inr ne) = all i c (get-set_other cores k i new (λ (e : k ≡ i). ne (sym e)) ∙ at)
