-- What an attempt at one event comes to, each fact by its name.
-- No public clause cites these.
use Rattle.std.specs.Prelude.{◌≡◌, ◌<◌, ℕ, Bool, true, false, List, Option, Result, IfErr}
use Rattle.filter_table.specs.declared.operation.Op.{Op}
use Rattle.rx_queue.specs.declared.intake.Intake.{Intake}
use Rattle.rx_queue.specs.Queue.{SameIntake}
use Rattle.world_histories.specs.declared.history.Stamped.{Stamped}
use Rattle.core_links.specs.Views.{LinkView}
use Rattle.core_links.specs.Flows.{Flow, FlowsOn, IsLooked, HasMoved}
use Rattle.core_loop.specs.declared.context.Context.{Context}
use Rattle.core_loop.specs.declared.part.Part.{Part}
use Rattle.core_loop.specs.declared.refusal.Halt.{Halt}
use Rattle.core_loop.specs.declared.refusal.Halt.TheVariants as halt
use Rattle.core_loop.specs.Carrying.{Quiet}
use Rattle.core_loop.specs.Choosing.{ShowsNothing, IsNext}
use Rattle.core_loop.specs.Consuming.{Consumes, ConsumesNone, HasNothingNow}
use Rattle.core_loop.specs.Events.{Acts}
use Rattle.core_loop.specs.Outcomes.{OnEvent, OnNone, OnIdle}
use Rattle.core_loop.specs.Turning.{ActsFirst, HasWork, HaltsFor}

-- what an attempt may change of a core: its part in the protocol, its links, its requests and its jobs
pub record Holdings (L : Type 0) : Type 0 where
  pub part : Part
  pub links : L
  pub requests : List Op
  pub intake : Intake

-- The attempt at the first event that can be done, by what the links have shown. `context` says which core this is, and when; of links, `view` is
-- what they show, `flow` the lines that went over them, and `alike` that two are the same before and after a call.
pub record Attempts {L : Type 0} (view : L → ℕ → LinkView) (flow : L → ℕ → Flow) (alike : L → L → Type 0) (context : Context) (rx : Bool) (old new : Holdings L) (result : Result (Option Stamped) Halt) : Type 0 where
  -- an event: it is the core's, the first that can be done, and takes of the requests and jobs what it says
  pub acts : OnEvent result (Acts context.number context.cores context.clock (view old.links) (view new.links) old.part new.part)
  pub next : OnEvent result (λ s. IsNext context.cores context.begun_last old.part old.requests (view old.links) s.done.event)
  pub consumes : OnEvent result (Consumes old.requests new.requests old.intake new.intake rx)
  pub links : OnEvent result (λ _. alike old.links new.links)
  -- with an event or without: no line moves, and the queue is the same
  pub lines : (p : ℕ) → flow new.links p ≡ flow old.links p
  pub queue : SameIntake old.intake new.intake
  -- without an event: all is as it was, but for jobs that were seen
  pub same : OnNone result ((new.part ≡ old.part) × (new.links ≡ old.links))
  pub none : OnNone result (ConsumesNone old.requests new.requests old.intake new.intake)
  -- why there is none
  pub idle : OnIdle result (HasNothingNow context.cores old.part old.requests (view old.links) rx new.intake)
  pub why : IfErr result (HaltsFor context.cores context.clock old.part old.requests (view old.links) rx new.intake)

-- The same, once the links were pumped and looked at. What they have shown is what they show at the end.
pub record LooksAndAttempts {L : Type 0} (view : L → ℕ → LinkView) (flow : L → ℕ → Flow) (alike : L → L → Type 0) (context : Context) (rx : Bool) (old new : Holdings L) (result : Result (Option Stamped) Halt) : Type 0 where
  -- an event
  pub acts : OnEvent result (ActsFirst context.number context.cores context.clock context.begun_last old.requests (view old.links) (view new.links) old.part new.part)
  pub consumes : OnEvent result (Consumes old.requests new.requests old.intake new.intake rx)
  -- with an event or without: a link says that a line moved where one did, and only there
  pub links : alike old.links new.links
  pub queue : SameIntake old.intake new.intake
  pub still : (p : ℕ) → (flow new.links p).moved ≡ false → IsLooked (flow old.links p) (flow new.links p)
  pub moved : (p : ℕ) → (flow new.links p).moved ≡ true → HasMoved (flow old.links p) (flow new.links p)
  -- without an event: all is as it was, but for messages and jobs that were seen
  pub same : OnNone result (new.part ≡ old.part)
  pub none : OnNone result (ConsumesNone old.requests new.requests old.intake new.intake)
  pub quiet : OnNone result ((p : ℕ) → Quiet (view old.links p) (view new.links p))
  -- nothing to do: all lines that could move have moved
  pub idle : OnIdle result (HasNothingNow context.cores old.part old.requests (view new.links) rx new.intake)
  pub lines : OnIdle result ((p : ℕ) → FlowsOn (flow old.links p) (flow new.links p))
  pub full : OnIdle result ((p : ℕ) → (view new.links p).ready ≡ false → (flow new.links p).room ≡ 0)
  pub dry : OnIdle result (((p : ℕ) → p < context.cores → ShowsNothing (view new.links p)) → (p : ℕ) → p < context.cores → (flow new.links p).known ≡ 0)
  -- why it can't be done; memory is lacking only where there is something to do
  pub why : IfErr result (HaltsFor context.cores context.clock old.part old.requests (view new.links) rx new.intake)
  pub memory : IfErr result (λ h. h ≡ halt.NoMemory → HasWork context.cores old.part old.requests (view new.links) rx new.intake)
