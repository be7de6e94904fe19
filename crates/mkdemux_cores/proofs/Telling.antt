-- What a turn's answer says of the turn.
use Rattle.std.proofs.Common.{◌≡◌, ◌++◌, ◌∙◌, [], ℕ, Option, None, Some, refl, sym, ap, arith}
use Rattle.std.specs.Prelude.{◌≢◌, ◌==◌, ◌||◌, ◌<◌, IsSome, option_to_list, cond, true, false}
use Rattle.filter_table.specs.declared.decision.Decision.{Decision}
use Rattle.filter_table.specs.declared.decision.Decision.TheVariants.{Committed, Refused}
use Rattle.filter_table.specs.declared.decision.Veto.TheVariants as veto
use Rattle.core_links.specs.RingSlots.{SameLinks, ring_view}
use Rattle.world_histories.specs.declared.history.Stamped.{Stamped}
use Rattle.core_loop.specs.declared.cause.Cause.{Cause}
use Rattle.core_loop.specs.declared.cause.Turn.{Turn}
use Rattle.core_loop.specs.declared.cause.Turn.TheVariants.{Did, Idle, Stopped, Spent, NoMemory}
use Rattle.core_loop.specs.Answering.{AreDecided, decisions}
use Rattle.core_loop.specs.Beginning.{CanBeginNext}
use Rattle.core_links.specs.Flows.{IsLooked, HasMoved, ring_flow}
use Rattle.core_links.specs.Waking.{bits_below}
use Rattle.core_loop.specs.Choosing.{ShowsNothing, NoMessageNow}
use Rattle.core_loop.specs.Cores.{SameCore, DidOne, NothingDone, begun}
use Rattle.core_loop.specs.Receipts.{receives}
use Rattle.core_loop.specs.Turning.{IsSpent, HasWork, LacksMemory, StopsFirst}
use Rattle.core_machine.specs.Machines.{RingCore}
use Rattle.mkdemux_cores.specs.declared.answers.TheConstants.{DONE, NO_MEMORY, STOPPED, SPENT, IDLE}
use Rattle.mkdemux_cores.specs.declared.turned.Turned.{Turned}
use Rattle.mkdemux_cores.specs.declared.turned.TheConstants.{NOTHING}
use Rattle.mkdemux_cores.specs.Reports.{reported}
use Rattle.mkdemux_cores.specs.Turns.{AreLinked, HasDone, HasTurned, IsNumber, said}

-- the number of what a turn did, and what is told of it
abbrev pub turn_answer : Turn → ℕ
turn_answer (Did s d) = DONE
turn_answer Idle = IDLE
turn_answer (Stopped cause) = STOPPED
turn_answer Spent = SPENT
turn_answer NoMemory = NO_MEMORY

abbrev pub turn_report : ℕ → Turn → Turned
turn_report number (Did s d) = reported number d
turn_report number turn = NOTHING

-- what a core's turn says, with no job
pub record Says (turn : Turn) (old new : RingCore) : Type 0 where
  pub core : SameCore SameLinks old new
  pub requests : begun new.history ++ new.pending ≡ begun old.history ++ old.pending
  pub decided : AreDecided new.part new.history
  pub did : (s : Stamped) (d : Option Decision) → turn ≡ Did s d → DidOne ring_view old new s
  pub decision : (s : Stamped) (d : Option Decision) → turn ≡ Did s d → decisions new.history ≡ decisions old.history ++ option_to_list d
  pub leave : (s : Stamped) (d : Option Decision) → turn ≡ Did s d → receives s.done.event ≡ []
  pub other : ((s : Stamped) (d : Option Decision) → turn ≢ Did s d) → NothingDone ring_view old new
  pub stays : (cause : Cause) → old.stopped ≡ Some cause → (turn ≡ Stopped cause) × (new ≡ old)
  pub stopped : (cause : Cause) → turn ≡ Stopped cause → new.stopped ≡ Some cause
  pub cause : (cause : Cause) → old.stopped ≡ None → turn ≡ Stopped cause → StopsFirst old.cores old.clock old.part (ring_view new.links) cause
  pub running : ((cause : Cause) → turn ≢ Stopped cause) → (old.stopped ≡ None) × (new.stopped ≡ None)
  pub spent : turn ≡ Spent → IsSpent old.cores old.clock old.part old.pending (ring_view new.links) false new.intake
  pub lacks : turn ≡ NoMemory → LacksMemory old.cores old.clock old.part old.pending (ring_view new.links) false new.intake
  pub no_memory : turn ≡ NoMemory → HasWork old.cores old.part old.pending (ring_view new.links) false new.intake
  pub idle_message : turn ≡ Idle → NoMessageNow new.cores new.part (ring_view new.links)
  pub idle : turn ≡ Idle → CanBeginNext new.cores new.part new.pending (ring_view new.links) → ⊥
  pub still : (p : ℕ) → (ring_flow new.links p).moved ≡ false → IsLooked (ring_flow old.links p) (ring_flow new.links p)
  pub moved : old.stopped ≡ None → (p : ℕ) → (ring_flow new.links p).moved ≡ true → HasMoved (ring_flow old.links p) (ring_flow new.links p)
  pub full : turn ≡ Idle → (p : ℕ) → (ring_view new.links p).ready ≡ false → (ring_flow new.links p).room ≡ 0
  pub dry : turn ≡ Idle → ((p : ℕ) → p < new.cores → ShowsNothing (ring_view new.links p)) → (p : ℕ) → p < new.cores → (ring_flow new.links p).known ≡ 0

-- what is told of a decision says nothing of who is woken
said_reported : (number : ℕ) (d : Option Decision) (woken more closed : ℕ) → said (record (reported number d) { woken = woken; more = more; closed = closed }) ≡ reported number d
said_reported number None woken more closed = refl
said_reported number (Some (Committed version made)) woken more closed = refl
said_reported number (Some (Refused core (veto.Rule fault))) woken more closed = refl
said_reported number (Some (Refused core veto.Budget)) woken more closed = refl
said_reported number (Some (Refused core veto.NoMemory)) woken more closed = refl

-- 1 after an answer with which a further turn may do something
abbrev pub more_for : ℕ → ℕ
more_for answer = cond ((answer == DONE) || (answer == NO_MEMORY)) 1 0

-- what C is told of the turn, with whom it woke, whether there is more and who is closed
abbrev pub turn_told : ℕ → Turn → ℕ → ℕ → ℕ → Turned
turn_told number turn woken more closed = record (turn_report number turn) { woken = woken; more = more; closed = closed }

module _ (old new : RingCore) (number woken more closed : ℕ) (counts : IsNumber number new) where
  done : (turn : Turn) → Says turn old new → turn_answer turn ≡ DONE → HasDone (turn_told number turn woken more closed) old new
  done (Did s d) says e = record { event = s; decision = d; number = number; counts = counts; did = says.did s d refl; decisions_are = says.decision s d refl; receives_none = says.leave s d refl; told = said_reported number d woken more closed }
  done Idle says e = absurd (omega (arith, e))
  done (Stopped cause) says e = absurd (omega (arith, e))
  done Spent says e = absurd (omega (arith, e))
  done NoMemory says e = absurd (omega (arith, e))

  not_did : (turn : Turn) → (turn_answer turn ≢ DONE) → (s : Stamped) (d : Option Decision) → turn ≢ Did s d
  not_did (Did s d) differs s' d' e = differs refl
  not_did Idle differs s' d' e = absurd (cc)
  not_did (Stopped cause) differs s' d' e = absurd (cc)
  not_did Spent differs s' d' e = absurd (cc)
  not_did NoMemory differs s' d' e = absurd (cc)

  nothing_told : (turn : Turn) → (turn_answer turn ≢ DONE) → said (turn_told number turn woken more closed) ≡ NOTHING
  nothing_told (Did s d) differs = absurd (differs refl)
  nothing_told Idle differs = refl
  nothing_told (Stopped cause) differs = refl
  nothing_told Spent differs = refl
  nothing_told NoMemory differs = refl

  stopped : (turn : Turn) → Says turn old new → turn_answer turn ≡ STOPPED → IsSome new.stopped
  stopped (Stopped cause) says e = some_of new.stopped cause (says.stopped cause refl)
    where
      some_of : (o : Option Cause) (x : Cause) → o ≡ Some x → IsSome o
      some_of (Some y) x e = refl
      some_of None x e = absurd (cc)
  stopped (Did s d) says e = absurd (omega (arith, e))
  stopped Idle says e = absurd (omega (arith, e))
  stopped Spent says e = absurd (omega (arith, e))
  stopped NoMemory says e = absurd (omega (arith, e))

  stays : (turn : Turn) → Says turn old new → IsSome old.stopped → (turn_answer turn ≡ STOPPED) × (new ≡ old)
  stays turn says some = of_cause old.stopped refl some
    where
      of_cause : (o : Option Cause) → old.stopped ≡ o → IsSome o → (turn_answer turn ≡ STOPPED) × (new ≡ old)
      of_cause (Some cause) is there = let same = says.stays cause is in (ap turn_answer same.0, same.1)
      of_cause None is there = absurd cc

  why_stopped : (turn : Turn) → Says turn old new → (cause : Cause) → turn_answer turn ≡ STOPPED → old.stopped ≡ None → new.stopped ≡ Some cause
      → StopsFirst old.cores old.clock old.part (ring_view new.links) cause
  why_stopped (Stopped cause') says cause e none is = says.cause cause none (ap Stopped (inj (sym (says.stopped cause' refl) ∙ is)))
    where
      inj : {a b : Cause} → Some a ≡ Some b → a ≡ b
      inj e = cc
  why_stopped (Did s d) says cause e none is = absurd (omega (arith, e))
  why_stopped Idle says cause e none is = absurd (omega (arith, e))
  why_stopped Spent says cause e none is = absurd (omega (arith, e))
  why_stopped NoMemory says cause e none is = absurd (omega (arith, e))

  not_stopped : (turn : Turn) → (turn_answer turn ≢ STOPPED) → (cause : Cause) → turn ≢ Stopped cause
  not_stopped (Stopped cause) differs cause' e = differs refl
  not_stopped (Did s d) differs cause e = absurd (cc)
  not_stopped Idle differs cause e = absurd (cc)
  not_stopped Spent differs cause e = absurd (cc)
  not_stopped NoMemory differs cause e = absurd (cc)

  is_idle : (turn : Turn) → turn_answer turn ≡ IDLE → turn ≡ Idle
  is_idle Idle e = refl
  is_idle (Did s d) e = absurd (omega (arith, e))
  is_idle (Stopped cause) e = absurd (omega (arith, e))
  is_idle Spent e = absurd (omega (arith, e))
  is_idle NoMemory e = absurd (omega (arith, e))

  is_spent : (turn : Turn) → turn_answer turn ≡ SPENT → turn ≡ Spent
  is_spent Spent e = refl
  is_spent (Did s d) e = absurd (omega (arith, e))
  is_spent (Stopped cause) e = absurd (omega (arith, e))
  is_spent Idle e = absurd (omega (arith, e))
  is_spent NoMemory e = absurd (omega (arith, e))

  lacks_memory : (turn : Turn) → turn_answer turn ≡ NO_MEMORY → turn ≡ NoMemory
  lacks_memory NoMemory e = refl
  lacks_memory (Did s d) e = absurd (omega (arith, e))
  lacks_memory (Stopped cause) e = absurd (omega (arith, e))
  lacks_memory Idle e = absurd (omega (arith, e))
  lacks_memory Spent e = absurd (omega (arith, e))

  pub has_turned : (turn : Turn) → Says turn old new → woken ≡ bits_below new.cores (λ p. (ring_flow new.links p).moved)
      → more ≡ more_for (turn_answer turn) → AreLinked closed old → HasTurned (turn_answer turn) (turn_told number turn woken more closed) old new
  has_turned turn says bits further linked = record {
    same = says.core;
    requests = says.requests;
    decided = says.decided;
    done = done turn says;
    nothing_done = λ differs. says.other (not_did turn differs);
    nothing_told = nothing_told turn;
    woken = bits;
    unnamed = says.still;
    named = says.moved;
    more = further;
    closed = linked;
    full = λ e. says.full (is_idle turn e);
    dry = λ e. says.dry (is_idle turn e);
    stopped = stopped turn says;
    stays = stays turn says;
    why_stopped = why_stopped turn says;
    running = λ differs. says.running (not_stopped turn differs);
    idle = λ e. says.idle_message (is_idle turn e);
    asks_nothing = λ e. says.idle (is_idle turn e);
    spent = λ e. says.spent (is_spent turn e);
    lacks = λ e. says.lacks (lacks_memory turn e);
    no_memory = λ e. says.no_memory (lacks_memory turn e);
  }
