-- What stands after a turn.
use Rattle.std.proofs.Common.{◌≡◌, ◌≢◌, ℕ, Bool, List, Some, None, refl, sym, ap, ◌∙◌, subst, rules}
use Rattle.filter_table.specs.declared.operation.Op.{Op}
use Rattle.core_links.specs.Views.{LinkView}
use Rattle.core_loop.specs.declared.cause.Cause.{Cause}
use Rattle.core_loop.specs.declared.part.Part.{Part}
use Rattle.core_loop.specs.Beginning.{CanBeginNext}
use Rattle.core_loop.specs.Choosing.{NoMessageNow}
use Rattle.core_loop.specs.Cores.{CoreState, SameCore, NothingDone}
use Rattle.core_loop.specs.Turning.{IsSpent, LacksMemory}
use Rattle.core_machine.specs.declared.recorded.RecordedTurn.{RecordedTurn}
use Rattle.core_machine.specs.declared.recorded.RecordedTurn.TheVariants.{Did, Idle, Stopped, Spent, NoMemory, NoRoom}
use Rattle.core_threads.specs.Reasons.{RestsNow}
use Rattle.core_threads.specs.Runs.{AfterTurn}

module _ {L : Type 0} (same : L → L → Type 0) (view : L → ℕ → LinkView) (old new : CoreState L) (rx : Bool) (core : SameCore same old new) where
  -- what holds of the core as it was holds of it where nothing was done
  still : NothingDone view old new → (P : ℕ → ℕ → Part → List Op → Type 0) → P old.cores old.clock old.part old.pending → P new.cores new.clock new.part new.pending
  still none P h =
      subst (λ (n : ℕ). P n new.clock new.part new.pending) (sym core.cores)
      (subst (λ (n : ℕ). P old.cores n new.part new.pending) (sym none.clock)
      (subst (λ (p : Part). P old.cores old.clock p new.pending) (sym none.part)
      (subst (λ (ops : List Op). P old.cores old.clock old.part ops) (sym none.pending) h)))

  -- a core that was not stopped is stopped by a turn that says so alone, and what a turn says stands
  pub after_turn : (turn : RecordedTurn) → old.stopped ≡ None → (turn ≢ Did → NothingDone view old new) → (turn ≡ NoRoom → new ≡ old)
      → ((cause : Cause) → turn ≡ Stopped cause → new.stopped ≡ Some cause) → (((cause : Cause) → turn ≢ Stopped cause) → turn ≢ NoRoom → (old.stopped ≡ None) × (new.stopped ≡ None))
      → (turn ≡ Spent → IsSpent old.cores old.clock old.part old.pending (view new.links) rx new.intake) → (turn ≡ NoMemory → LacksMemory old.cores old.clock old.part old.pending (view new.links) rx new.intake)
      → (turn ≡ Idle → NoMessageNow new.cores new.part (view new.links)) → (turn ≡ Idle → CanBeginNext new.cores new.part new.pending (view new.links) → ⊥) → AfterTurn view turn new
  after_turn (Stopped cause) was other full stops runs spent lacks quiet unable = stops cause refl
  after_turn NoRoom was other full stops runs spent lacks quiet unable = ap (λ (c : CoreState L). c.stopped) (full refl) ∙ was
  after_turn Did was other full stops runs spent lacks quiet unable = (runs (λ cause is. absurd (cc)) (λ is. absurd (cc))).1
  after_turn Idle was other full stops runs spent lacks quiet unable = record {
    running = (runs (λ cause is. absurd (cc)) (λ is. absurd (cc))).1;
    no_message = quiet refl;
    no_request = unable refl;
  }
  after_turn Spent was other full stops runs spent lacks quiet unable = record {
    running = (runs (λ cause is. absurd (cc)) (λ is. absurd (cc))).1;
    rx = rx;
    intake = new.intake;
    queue = search rules;
    spent = still (other (λ is. absurd (cc))) (λ cores clock x requests. IsSpent cores clock x requests (view new.links) rx new.intake) (spent refl);
  }
  after_turn NoMemory was other full stops runs spent lacks quiet unable = record {
    running = (runs (λ cause is. absurd (cc)) (λ is. absurd (cc))).1;
    rx = rx;
    intake = new.intake;
    queue = search rules;
    lacks = still (other (λ is. absurd (cc))) (λ cores clock x requests. LacksMemory cores clock x requests (view new.links) rx new.intake) (lacks refl);
  }

-- a core that rests rests still, whatever its queue shows
pub rests_still : {L : Type 0} (view : L → ℕ → LinkView) (c d : CoreState L) → d ≡ record c { intake = d.intake } → RestsNow view c → RestsNow view d
rests_still view c d e h = subst (RestsNow view) (sym e) (record { running = h.running; no_message = h.no_message; no_request = h.no_request })
