-- Cores that were looked at.
use Rattle.std.proofs.Common.{◌≡◌, ◌++◌, ◌∙◌, ℕ, zero, suc, Some, List, [], ◌∷◌, length, slice_get, refl, sym, ap, subst, arith}
use Rattle.std.proofs.lemmas.Option.{slice_get_within}
use Rattle.filter_table.proofs.Positions.{get_at}
use Rattle.world_histories.specs.Histories.{unstamped, OtherState}
use Rattle.core_links.specs.RingSlots.{SameLinks}
use Rattle.rx_queue.specs.Queue.{SameIntake}
use Rattle.core_loop.specs.declared.part.Part.{Part}
use Rattle.core_loop.specs.Keeping.{replica_of}
use Rattle.core_loop.specs.Cores.{SameCore, begun}
use Rattle.core_loop.specs.Answering.{decisions}
use Rattle.core_machine.specs.Machines.{RingCore}
use Rattle.core_machine.specs.Looking.{IsLookedAt, AreLookedAt}
use Rattle.core_machine.specs.Conclusions.{AreRunning, Conclude}
use Rattle.core_machine.specs.declared.step.CoreStep.{CoreStep}
use Rattle.core_machine.specs.declared.step.StepOutcome.{StepOutcome}
use Rattle.core_machine.specs.Driving.{DrivesAt, AreDriven}
use Rattle.filter_table.specs.Limits.{TableLimits}
use Rattle.core_machine.proofs.Along.{looked_same, same_along}

pub driven_looked : (steps : List CoreStep) (outcomes : List StepOutcome) (a b c : List RingCore) → AreDriven steps outcomes a b → AreLookedAt b c → AreDriven steps outcomes a c
driven_looked steps outcomes a b c h l = record { answered = h.answered; all = l.all ∙ h.all; each = each }
  where
    each : (i : ℕ) (x z : RingCore) → slice_get a i ≡ Some x → slice_get c i ≡ Some z → DrivesAt steps outcomes i x z
    each i x z at at' =
        let y = get_at b i (omega (arith, slice_get_within a i x at, h.all)) in
        let k = h.each i x y.0 at y.1 in
        let m = l.each i y.0 z y.1 at' in record {
          same = same_along x y.0 z k.same (looked_same y.0 z m);
          history = ap (λ (w : RingCore). unstamped w.history) m.core ∙ k.history;
          requests_are = ap (λ (w : RingCore). begun w.history ++ w.pending) m.core ∙ k.requests_are;
          decisions_are = ap (λ (w : RingCore). decisions w.history) m.core ∙ k.decisions_are;
        }

-- cores that are running once they were looked at were running before
pub ran_before : (limits : TableLimits) (budget : ℕ) (budgets : List ℕ) (old new : List RingCore) → AreLookedAt old new → Conclude limits budget budgets new → AreRunning old
ran_before limits budget budgets old [] l h i c at = absurd h
ran_before limits budget budgets old (first ∷ others) l h i c at =
    let d = get_at (first ∷ others) i (omega (arith, slice_get_within old i c at, l.all)) in
    sym (ap (λ (x : RingCore). x.stopped) (l.each i c d.0 at d.1).core) ∙ h.running i d.0 d.1
