use Rattle.std.proofs.Common.{◌≡◌, ◌<◌, ◌++◌, ◌∙◌, inl, ℕ, true, false, List, Option, None, Some, refl, sym, ap, subst, rules}
use Rattle.std.specs.Prelude.{IfSome, IfNone}
use Rattle.core_links.specs.Views.{LinkView}
use Rattle.core_links.specs.Flows.{Flow, FlowsOn, IsLooked, HasMoved}
use Rattle.core_loop.proofs.Flowing.{on_along, out_on, pumped_still, pumped_moved}
use Rattle.rx_queue.specs.declared.job.Job.{Job}
use Rattle.rx_queue.specs.Queue.{jobs_seen}
use Rattle.world_histories.proofs.Lists.{prefix_then}
use Rattle.core_loop.proofs.Carrying.{quiet_along, same_quiet, pumped_quiet}
use Rattle.core_loop.specs.Choosing.{ShowsNothing, IsLeastShowing}
use Rattle.core_loop.specs.Consuming.{HasNothingNow}
use Rattle.core_loop.specs.Outcomes.{outcome}
use Rattle.core_loop.specs.Receipts.{receives}
use Rattle.core_loop.specs.Turning.{HasWork, HaltsFor}
use Rattle.core_loop.proofs.Acting.{on_event_map, on_none_map, on_idle_both, on_err_both, on_err_of, either_way, can_begin_has, work_stays}
use Rattle.core_loop.proofs.Consuming.{untouched}
use Rattle.core_loop.proofs.Order.{acts_first}
use Rattle.core_loop.proofs.turning.next_event.Goals as goal

pub first_event-requires-clause-least : goal.first_event-requires-clause-least
first_event-requires-clause-least g c = c.in-Ok.ensures.least

pub first_event-requires-clause-none : goal.first_event-requires-clause-none
first_event-requires-clause-none g c = c.in-Ok.ensures.none

pub returns-in-Err : goal.returns-in-Err
returns-in-Err g c =
    let pumped = c.pump.ensures in
    let looked = c.least_showing.ensures in
    let f = c.in-Err.ensures.fault in
    record {
      acts = tt;
      consumes = tt;
      links = g.met.L.Links.same_along _ _ _ pumped.links looked.links;
      queue = search rules;
      still = λ p. pumped_still _ _ _ _ (pumped.lines p) (looked.moved p);
      moved = λ p. pumped_moved _ _ _ _ (pumped.lines p) (looked.lines p) (looked.moved p);
      same = refl;
      none = untouched c.args.requests.now c.args.requests.now c.args.intake.now refl;
      quiet = λ p. quiet_along _ _ _ (pumped_quiet _ _ (pumped.pumped p)) (looked.quiet p);
      idle = tt;
      lines = tt;
      full = tt;
      dry = tt;
      why = record { peer = f.0; inside = f.1; before = f.2; stops = f.3 };
      memory = λ no. absurd (cc);
    }

-- where the least peer that shows a message shows none, there is none
dry_of : (cores : ℕ) (view : ℕ → LinkView) (flow : ℕ → Flow) (shown : Option ℕ) → IfSome shown (IsLeastShowing cores view) → IfNone shown ((p : ℕ) → p < cores → (flow p).known ≡ 0)
    → ((p : ℕ) → p < cores → ShowsNothing (view p)) → (p : ℕ) → p < cores → (flow p).known ≡ 0
dry_of cores view flow None least dry none = dry
dry_of cores view flow (Some peer) least dry none = absurd (least.shows (none peer least.inside).no_message)

pub returns-then-not-has_work : goal.returns-then-not-has_work
returns-then-not-has_work g c =
    let view = g.L.Links.view c.least_showing.new.links in
    let pumped = c.pump.ensures in
    let looked = c.least_showing.ensures in
    let work = c.has_work.ensures in
    let none = c.if-not-has_work.true in
    rw c.requires.undone (record {
      acts = tt;
      consumes = tt;
      links = g.met.L.Links.same_along _ _ _ pumped.links looked.links;
      queue = work.queue;
      still = λ p. pumped_still _ _ _ _ (pumped.lines p) (looked.moved p);
      moved = λ p. pumped_moved _ _ _ _ (pumped.lines p) (looked.lines p) (looked.moved p);
      same = refl;
      none = record { requests = refl; jobs = work.taken; seen = work.seen };
      quiet = λ p. quiet_along _ _ _ (pumped_quiet _ _ (pumped.pumped p)) (looked.quiet p);
      idle = record {
        message = inl (rw (work.no_message none) at c.in-Ok.ensures.none);
        request = λ can. work.no_request none (can_begin_has c.args.context.cores c.args.part.now c.args.requests.now.items view can);
        job = work.no_job none;
      };
      lines = λ p. on_along _ _ _ (out_on _ _ _ (pumped.lines p)) (looked.lines p);
      full = looked.full (λ p. (pumped.lines p).full);
      dry = dry_of c.args.context.cores view (g.L.Links.flow c.least_showing.new.links) c.in-Ok.shown c.in-Ok.ensures.least c.in-Ok.ensures.dry;
      why = tt;
      memory = tt;
    })

pub returns : goal.returns
returns g c =
    let view = g.L.Links.view in
    let flow = g.L.Links.flow in
    let cores = c.args.context.cores in
    let clock = c.args.context.clock in
    let part = c.args.part.now in
    let requests = c.args.requests.now.items in
    let links = c.args.links.now in
    let seen = c.least_showing.new.links in
    let rx = c.args.rx in
    let old = c.args.intake.now in
    let mid = c.has_work.new.intake in
    let new = c.first_event.new.intake in
    let pumped = c.pump.ensures in
    let looked = c.least_showing.ensures in
    let r = outcome c.first_event.result c.first_event.new.done in
    let e = c.first_event.ensures in
    let along = g.met.L.Links.same_along _ _ _ pumped.links looked.links in
    record {
      acts =
          acts_first c.args.context.number cores clock c.args.context.begun_last requests (view links) (view seen) (view c.first_event.new.links) part c.first_event.new.part r
          (λ p. quiet_along _ _ _ (pumped_quiet _ _ (pumped.pumped p)) (looked.quiet p)) e.next e.acts;
      consumes =
          on_event_map r
          (λ s h. record {
            requests = h.requests;
            jobs = h.jobs ∙ ap (λ (l : List Job). l ++ receives s.done.event) c.has_work.ensures.taken;
            front = prefix_then (jobs_seen old) (jobs_seen mid) (receives s.done.event ++ jobs_seen new) c.has_work.ensures.seen h.front;
            whole = h.whole;
            leave = h.leave;
          }) e.consumes;
      links = either_way r (λ h. g.met.L.Links.same_along _ _ _ along h) (λ s. subst (λ (l : g.row.L.Denot). g.L.Links.same links l) (sym s.1) along) e.links e.same;
      queue = search rules;
      still = λ p. subst (λ (f : Flow). f.moved ≡ false → IsLooked (flow links p) f) (sym (e.lines p)) (pumped_still _ _ _ _ (pumped.lines p) (looked.moved p));
      moved = λ p. subst (λ (f : Flow). f.moved ≡ true → HasMoved (flow links p) f) (sym (e.lines p)) (pumped_moved _ _ _ _ (pumped.lines p) (looked.lines p) (looked.moved p));
      same = on_none_map r (λ s. s.0) e.same;
      none =
          on_none_map r
          (λ n. record {
            requests = n.requests;
            jobs = n.jobs ∙ c.has_work.ensures.taken;
            seen = prefix_then (jobs_seen old) (jobs_seen mid) (jobs_seen new) c.has_work.ensures.seen n.seen;
          }) e.none;
      quiet =
          on_none_map r
          (λ s p. quiet_along (view links p) (view seen p) (view c.first_event.new.links p) (quiet_along _ _ _ (pumped_quiet _ _ (pumped.pumped p)) (looked.quiet p)) (same_quiet _ _ (ap (λ (l : g.row.L.Denot). view l p) s.1))) e.same;
      idle = on_idle_both r (λ n s. subst (λ (l : g.row.L.Denot). HasNothingNow cores part requests (view l) rx new) (sym s.1) n) e.idle e.same;
      lines = on_idle_both r (λ n s p. subst (λ (l : g.row.L.Denot). FlowsOn (flow links p) (flow l p)) (sym s.1) (on_along _ _ _ (out_on _ _ _ (pumped.lines p)) (looked.lines p))) e.idle e.same;
      full = on_idle_both r (λ n s. subst (λ (l : g.row.L.Denot). (p : ℕ) → (view l p).ready ≡ false → (flow l p).room ≡ 0) (sym s.1) (looked.full (λ p. (pumped.lines p).full))) e.idle e.same;
      dry =
          on_idle_both r (λ n s. subst (λ (l : g.row.L.Denot). ((p : ℕ) → p < cores → ShowsNothing (view l p)) → (p : ℕ) → p < cores → (flow l p).known ≡ 0) (sym s.1)
          (dry_of cores (view seen) (flow seen) c.in-Ok.shown c.in-Ok.ensures.least c.in-Ok.ensures.dry)) e.idle e.same;
      why = on_err_both r (λ halt s h. subst (λ (l : g.row.L.Denot). HaltsFor cores clock part requests (view l) rx new halt) (sym s.1) h) e.same e.why;
      memory =
          on_err_of r
          (λ halt s n no. subst (λ (l : g.row.L.Denot). HasWork cores part requests (view l) rx new) (sym s.1)
          (work_stays cores part requests (view seen) rx mid new c.in-Ok.shown c.in-Ok.ensures.least n.seen (c.has_work.ensures.some c.if-not-has_work.false))) e.same e.none;
    }
