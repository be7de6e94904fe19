use Rattle.std.proofs.Common.{◌≡◌, ◌∙◌, ◌++◌, inr, ℕ, true, false, List, Option, Some, None, Ok, refl, ap, subst, arith, rules}
use Rattle.std.proofs.lemmas.Grind.{common_steps}
use Rattle.rx_queue.specs.declared.job.Job.{Job}
use Rattle.table_replica.specs.Shown.{ReplicaState}
use Rattle.core_loop.specs.declared.refusal.Refusal.{Refusal}
use Rattle.core_loop.specs.Keeping.{replica_of}
use Rattle.world_histories.specs.declared.history.Stamped.{Stamped}
use Rattle.core_loop.specs.Receipts.{IsReceivable, Receives, receives, CannotReceive}
use mathlib.Core.List.{IsPrefix}
use Rattle.filter_table.specs.declared.operation.Op.{Op}
use Rattle.rx_queue.specs.declared.intake.Intake.{Intake}
use Rattle.rx_queue.specs.Queue.{jobs_seen, jobs_taken, SameIntake}
use Rattle.core_links.specs.Views.{LinkView}
use Rattle.core_links.specs.Flows.{Flow}
use Rattle.core_loop.specs.declared.context.Context.{Context}
use Rattle.core_loop.specs.declared.part.Part.{Part}
use Rattle.core_loop.specs.Attempts.{Attempts}
use Rattle.core_loop.specs.Beginning.{CanBeginNext, IsFitting}
use Rattle.core_loop.specs.Choosing.{NoMessageNow}
use Rattle.core_loop.specs.Outcomes.{OnEvent, OnNone, OnIdle}
use Rattle.core_loop.proofs.Acting.{receives_act}
use Rattle.core_loop.proofs.Consuming.{left_all}
use Rattle.core_loop.proofs.events.begin_or_receive.Goals as goal

-- where nothing could begin, a receipt is the first event that can be done, or there is none
received : {L : Type 0} (view : L → ℕ → LinkView) (flow : L → ℕ → Flow) (alike : L → L → Type 0) (context : Context) (part : Part) (links : L) (requests : List Op) (old new : Intake) (done : Option Stamped)
    → alike links links → IsFitting context.number context.cores part → NoMessageNow context.cores part (view links) → (CanBeginNext context.cores part requests (view links) → ⊥) → SameIntake old new
    → OnEvent {E = Refusal} (Ok done) (Receives context.number context.clock (replica_of part))
    → OnEvent {E = Refusal} (Ok done) (λ s. jobs_taken new ≡ jobs_taken old ++ receives s.done.event)
    → OnEvent {E = Refusal} (Ok done) (λ s. IsPrefix (jobs_seen old) (receives s.done.event ++ jobs_seen new))
    → OnNone {E = Refusal} (Ok done) (jobs_taken new ≡ jobs_taken old) → OnNone {E = Refusal} (Ok done) (IsPrefix (jobs_seen old) (jobs_seen new))
    → OnIdle {E = Refusal} (Ok done) ((job : Job) → IsReceivable (replica_of part).shown.version new job → ⊥)
    → Attempts view flow alike context true (record { part = part; links = links; requests = requests; intake = old }) (record { part = part; links = links; requests = requests; intake = new }) (Ok done)
received view flow alike context part links requests old new (Some s) itself fits no_message no_request queue got taken front kept seen idle = record {
  acts = receives_act context.number context.cores context.clock part s (view links) fits got;
  next = rw got.is_event (no_message, no_request);
  consumes = record {
    requests = rw got.is_event refl;
    jobs = taken;
    front = front;
    whole = rw got.is_event tt;
    leave = λ no. absurd (let yes : true ≡ false = no in cc);
  };
  links = itself;
  lines = λ p. refl;
  queue = queue;
  same = tt;
  none = tt;
  idle = tt;
  why = tt;
}
received view flow alike context part links requests old new None itself fits no_message no_request queue got taken front kept seen idle = record {
  acts = tt;
  next = tt;
  consumes = tt;
  links = tt;
  lines = λ p. refl;
  queue = queue;
  same = (refl, refl);
  none = record { requests = refl; jobs = kept; seen = seen };
  idle = record { message = no_message; request = no_request; job = λ may. idle may.1 may.2 };
  why = tt;
}

pub returns-in-Ok-receive_front : goal.returns-in-Ok-receive_front
returns-in-Ok-receive_front g c =
    let is = c.in-None.is in
    let e = c.in-Ok.ensures in
    let same = rw is at e.same in
    let idle = rw is at e.idle in
    let requests = rw is at e.same_requests in
    let h = c.in-Ok-receive_front.ensures in
    let done = c.receive_front.new.done in
    let new = c.receive_front.new.intake in
    let rep : c.replica.result.now ≡ replica_of c.args.part.now = c.replica.ensures ∙ ap replica_of same.0 in
    rw (same.1, same.0, requests, c.if-not-rx.false)
    (received g.L.Links.view g.L.Links.flow g.L.Links.same c.args.context c.args.part.now c.args.links.now c.args.requests.now.items c.args.intake.now new done (g.met.L.Links.same_itself _) c.requires.fits c.requires.no_message idle h.queue
    (subst (λ (x : ReplicaState). OnEvent {E = Refusal} (Ok done) (Receives c.args.context.number c.args.context.clock x)) rep h.receives) h.taken h.front h.kept h.seen
    (subst (λ (x : ReplicaState). OnIdle {E = Refusal} (Ok done) ((job : Job) → IsReceivable x.shown.version new job → ⊥)) rep h.idle))

pub returns-in-Err-Spent-receive_front : goal.returns-in-Err-Spent-receive_front
returns-in-Err-Spent-receive_front g c =
    let is = c.in-None.is in
    let e = c.in-Ok.ensures in
    let same = rw is at e.same in
    let idle = rw is at e.idle in
    let requests = rw is at e.same_requests in
    let h = c.in-Err-Spent-receive_front.ensures in
    let rep : c.replica.result.now ≡ replica_of c.args.part.now = c.replica.ensures ∙ ap replica_of same.0 in
    let can = subst (λ (r : ReplicaState). (job : Job) × IsReceivable r.shown.version c.receive_front.new.intake job) rep h.can in
    let spent = subst (λ (r : Refusal). CannotReceive c.args.context.clock r) c.in-Err-Spent-receive_front.field-0-is h.why in
    record {
      acts = tt;
      next = tt;
      consumes = tt;
      links = tt;
      lines = e.lines;
      queue = h.queue;
      same = same;
      none = left_all c.args.requests.now c.begin.new.requests c.args.intake.now c.receive_front.new.intake requests h.kept h.seen;
      idle = tt;
      why = inr (inr (c.requires.no_message, idle, (c.if-not-rx.false, can.0, can.1), spent));
    }

pub returns-in-Err-receive_front : goal.returns-in-Err-receive_front
returns-in-Err-receive_front g c =
    let is = c.in-None.is in
    let e = c.in-Ok.ensures in
    let same = rw is at e.same in
    let idle = rw is at e.idle in
    let requests = rw is at e.same_requests in
    let h = c.in-Err-receive_front.ensures in
    let rep : c.replica.result.now ≡ replica_of c.args.part.now = c.replica.ensures ∙ ap replica_of same.0 in
    let can = subst (λ (r : ReplicaState). (job : Job) × IsReceivable r.shown.version c.receive_front.new.intake job) rep h.can in
    record {
      acts = tt;
      next = tt;
      consumes = tt;
      links = tt;
      lines = e.lines;
      queue = h.queue;
      same = same;
      none = left_all c.args.requests.now c.begin.new.requests c.args.intake.now c.receive_front.new.intake requests h.kept h.seen;
      idle = tt;
      why = inr (inr (c.requires.no_message, idle, (c.if-not-rx.false, can.0, can.1), first_of (search rules, grind (arith, common_steps))));
    }
