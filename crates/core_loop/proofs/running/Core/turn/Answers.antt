use Rattle.std.proofs.Common.{◌≡◌, ◌∙◌, ◌++◌, ◌-◌, ◌^◌, ℕ, true, false, List, length, min, refl, sym, ap, subst}
use Rattle.filter_table.specs.declared.operation.Op.{Op}
use Rattle.core_links.specs.Flows.{FlowsOn, IsLooked, HasMoved}
use Rattle.world_histories.specs.declared.history.Stamped.{Stamped}
use Rattle.core_loop.specs.declared.part.Part.{Part}
use Rattle.core_loop.specs.Keeping.{IsStanding, replica_of}
use Rattle.core_loop.specs.Cores.{CoreState, begins}
use Rattle.core_loop.specs.Choosing.{NoMessageNow}
use Rattle.core_loop.specs.Receipts.{IsReceivable}
use Rattle.std.specs.Prelude.{option_to_list}
use Rattle.filter_table.specs.declared.decision.Decision.{Decision}
use Rattle.core_loop.specs.Answering.{decisions}
use Rattle.core_loop.specs.Turning.{ActsFirst, HasWork, IsSpent, LacksMemory}
use Rattle.core_loop.proofs.Acting.{acts_stand, acts_limits, acts_budget}
use Rattle.core_loop.proofs.Answering.{decides_next}
use Rattle.core_loop.proofs.InTurn.{begun_more as last_more}
use Rattle.core_loop.proofs.Stopped.{not_stopped, stopped_now}
use Rattle.core_loop.proofs.Resting.{did_is, stands_quiet, rest_stands, short_rest, begun_more, was_running, seen_same, seen_idle, seen_done}
use Rattle.core_loop.proofs.running.Core.turn.Goals as goal

pub returns-in-Some-clause-running : goal.returns-in-Some-clause-running
returns-in-Some-clause-running g c = λ f. absurd (f c.in-Some.cause refl)

pub returns-in-Err-Stopped-clause-running : goal.returns-in-Err-Stopped-clause-running
returns-in-Err-Stopped-clause-running g c = λ f. absurd (f c.in-Err-Stopped.cause refl)

pub invariant_of-self : goal.invariant_of-self
invariant_of-self g c =
    let i = c.self.inside in
    let v = c.self.invariant in
    let view = g.L.Links.view in
    let same = rw c.in-Ok-None.field-0-is at c.in-Ok-None.ensures.same in
    let none = rw c.in-Ok-None.field-0-is at c.in-Ok-None.ensures.none in
    let quiet = rw c.in-Ok-None.field-0-is at c.in-Ok-None.ensures.quiet in
    (v.0, v.1, rest_stands i.part c.next_event_of.new.part i.number i.cores i.clock i.history.items i.history.items (view i.links) (view c.next_event_of.new.links) v.2 same refl quiet, rw none.requests v.3, v.4, not_stopped i.cores i.clock c.next_event_of.new.part (view c.next_event_of.new.links) i.stopped c.in_default.is, rw none.requests v.6)

pub invariant_of-self-in-Err-Spent : goal.invariant_of-self-in-Err-Spent
invariant_of-self-in-Err-Spent g c =
    let i = c.self.inside in
    let v = c.self.invariant in
    let view = g.L.Links.view in
    let h = c.in-Err-Spent.ensures in
    (v.0, v.1, rest_stands i.part c.next_event_of.new.part i.number i.cores i.clock i.history.items i.history.items (view i.links) (view c.next_event_of.new.links) v.2 h.same refl h.quiet, rw h.none.requests v.3, v.4, not_stopped i.cores i.clock c.next_event_of.new.part (view c.next_event_of.new.links) i.stopped c.in_default.is, rw h.none.requests v.6)

pub invariant_of-self-in-Err-NoMemory : goal.invariant_of-self-in-Err-NoMemory
invariant_of-self-in-Err-NoMemory g c =
    let i = c.self.inside in
    let v = c.self.invariant in
    let view = g.L.Links.view in
    let h = c.in-Err-NoMemory.ensures in
    (v.0, v.1, rest_stands i.part c.next_event_of.new.part i.number i.cores i.clock i.history.items i.history.items (view i.links) (view c.next_event_of.new.links) v.2 h.same refl h.quiet, rw h.none.requests v.3, v.4, not_stopped i.cores i.clock c.next_event_of.new.part (view c.next_event_of.new.links) i.stopped c.in_default.is, rw h.none.requests v.6)

pub invariant_of-self-in-Err-Stopped : goal.invariant_of-self-in-Err-Stopped
invariant_of-self-in-Err-Stopped g c =
    let i = c.self.inside in
    let v = c.self.invariant in
    let view = g.L.Links.view in
    let h = c.in-Err-Stopped.ensures in
    (v.0, v.1, rest_stands i.part c.next_event_of.new.part i.number i.cores i.clock i.history.items i.history.items (view i.links) (view c.next_event_of.new.links) v.2 h.same refl h.quiet, rw h.none.requests v.3, v.4, stopped_now i.cores i.clock i.part c.next_event_of.new.part (view c.next_event_of.new.links) c.in-Err-Stopped.cause h.same (rw c.in-Err-Stopped.field-0-is at h.why), rw h.none.requests v.6)

pub invariant_of-self-in-Ok-Some : goal.invariant_of-self-in-Ok-Some
invariant_of-self-in-Ok-Some g c =
    let view = g.L.Links.view in
    let i = c.self.inside in
    let v = c.self.invariant in
    let s = c.in-Ok-Some.stamped in
    let a = rw c.in-Ok-Some.field-0-is at c.in-Ok-Some.ensures.acts in
    let taken = rw c.in-Ok-Some.field-0-is at c.in-Ok-Some.ensures.consumes in
    let kept = c.noted-self-inside.ensures in (
      v.0,
      v.1,
      subst (λ (l : List Stamped). IsStanding c.next_event_of.new.part i.number i.cores s.stamp l (view c.next_event_of.new.links)) (sym kept)
          (acts_stand i.part c.next_event_of.new.part i.number i.cores i.clock i.history.items s a.seen (view c.next_event_of.new.links) (stands_quiet i.part i.number i.cores i.clock i.history.items (view i.links) a.seen v.2 a.looks) a.acts),
      short_rest i.number i.requests.items (begins s.done.event) c.next_event_of.new.requests.items taken.requests v.3,
      c.last_begun_with-self-inside.ensures ∙ last_more i.begun_last i.history.items c.noted-self-inside.result.items s v.4 kept,
      not_stopped i.cores s.stamp c.next_event_of.new.part (view c.next_event_of.new.links) i.stopped c.in_default.is,
      v.6 ∙ ap (λ (ops : List Op). min (length ops) (2 ^ 64 - 1)) (sym (begun_more i.history.items c.noted-self-inside.result.items s i.requests.items c.next_event_of.new.requests.items kept taken.requests)),
    )

pub returns-in-Ok-None-clause-idle_message : goal.returns-in-Ok-None-clause-idle_message
returns-in-Ok-None-clause-idle_message g c = λ _.
    let same = rw c.in-Ok-None.field-0-is at c.in-Ok-None.ensures.same in
    let idle = rw c.in-Ok-None.field-0-is at c.in-Ok-None.ensures.idle in
    subst (λ (x : Part). NoMessageNow c.self.inside.cores x (g.L.Links.view c.next_event_of.new.links)) (sym same) idle.message

pub returns-in-Err-Spent-clause-spent : goal.returns-in-Err-Spent-clause-spent
returns-in-Err-Spent-clause-spent g c = λ _.
    let why = rw c.in-Err-Spent.field-0-is at c.in-Err-Spent.ensures.why in
    subst (λ (s : CoreState g.row.L.Denot). IsSpent s.cores s.clock s.part s.pending (g.L.Links.view c.next_event_of.new.links) c.args.rx c.next_event_of.new.intake) c.self.view_is why

pub returns-in-Ok-Some-clause-core : goal.returns-in-Ok-Some-clause-core
returns-in-Ok-Some-clause-core g c =
    let i = c.self.inside in
    let acts = rw c.in-Ok-Some.field-0-is at c.in-Ok-Some.ensures.acts in
    let budget = acts_budget i.number i.cores i.clock acts.seen (g.L.Links.view c.next_event_of.new.links) i.part c.next_event_of.new.part c.in-Ok-Some.stamped acts.acts in
    let limits = acts_limits i.part c.next_event_of.new.part i.number i.cores i.clock i.history.items c.in-Ok-Some.stamped (g.L.Links.view i.links) acts.seen (g.L.Links.view c.next_event_of.new.links) c.self.invariant.2 acts.acts in
    seen_same g.L.Links.same _ _ _ c.self.view_is (record { number = refl; cores = refl; limits = limits; budget = budget; links = c.next_event_of.ensures.links; intake = c.next_event_of.ensures.queue })

pub returns-in-Ok-Some-clause-did : goal.returns-in-Ok-Some-clause-did
returns-in-Ok-Some-clause-did g c = λ t d is.
    let s = c.in-Ok-Some.stamped in
    let acts = rw c.in-Ok-Some.field-0-is at c.in-Ok-Some.ensures.acts in
    let taken = rw c.in-Ok-Some.field-0-is at c.in-Ok-Some.ensures.consumes in
    let kept = c.noted-self-inside.ensures in
    let i = c.self.inside in
    let last = subst (λ (n : ℕ). ActsFirst i.number i.cores i.clock n i.requests.items (g.L.Links.view i.links) (g.L.Links.view c.next_event_of.new.links) i.part c.next_event_of.new.part s) c.self.invariant.4 acts in
    seen_done g.L.Links.view _ _ _ s t (did_is s t _ d is).0 c.self.view_is (record { history = kept; clock = refl; acts = last; pending = taken.requests; jobs = taken.jobs; seen = taken.front; unshortened = taken.whole })

pub returns-in-Ok-None-clause-core : goal.returns-in-Ok-None-clause-core
returns-in-Ok-None-clause-core g c =
    let same = rw c.in-Ok-None.field-0-is at c.in-Ok-None.ensures.same in
    seen_same g.L.Links.same _ _ _ c.self.view_is (record { number = refl; cores = refl; limits = rw same refl; budget = rw same refl; links = c.next_event_of.ensures.links; intake = c.next_event_of.ensures.queue })

pub returns-in-Ok-None-clause-other : goal.returns-in-Ok-None-clause-other
returns-in-Ok-None-clause-other g c = λ _.
    let same = rw c.in-Ok-None.field-0-is at c.in-Ok-None.ensures.same in
    let none = rw c.in-Ok-None.field-0-is at c.in-Ok-None.ensures.none in
    let quiet = rw c.in-Ok-None.field-0-is at c.in-Ok-None.ensures.quiet in
    seen_idle g.L.Links.view _ _ _ c.self.view_is (record { history = refl; part = same; clock = refl; pending = rw none.requests refl; links = quiet; jobs = none.jobs; seen = none.seen })

pub returns-in-Ok-None-clause-idle : goal.returns-in-Ok-None-clause-idle
returns-in-Ok-None-clause-idle g c = λ _.
    let same = rw c.in-Ok-None.field-0-is at c.in-Ok-None.ensures.same in
    let none = rw c.in-Ok-None.field-0-is at c.in-Ok-None.ensures.none in
    let idle = rw c.in-Ok-None.field-0-is at c.in-Ok-None.ensures.idle in
    rw (same, none.requests) idle.request

pub returns-in-Ok-None-clause-idle_job : goal.returns-in-Ok-None-clause-idle_job
returns-in-Ok-None-clause-idle_job g c = λ _ rx job can.
    let same = rw c.in-Ok-None.field-0-is at c.in-Ok-None.ensures.same in
    let idle = rw c.in-Ok-None.field-0-is at c.in-Ok-None.ensures.idle in
    idle.job (rx, job, subst (λ (x : Part). IsReceivable (replica_of x).shown.version c.next_event_of.new.intake job) same can)

pub returns-in-Err-Spent-clause-core : goal.returns-in-Err-Spent-clause-core
returns-in-Err-Spent-clause-core g c =
    let same = c.in-Err-Spent.ensures.same in
    seen_same g.L.Links.same _ _ _ c.self.view_is (record { number = refl; cores = refl; limits = rw same refl; budget = rw same refl; links = c.next_event_of.ensures.links; intake = c.next_event_of.ensures.queue })

pub returns-in-Err-Spent-clause-other : goal.returns-in-Err-Spent-clause-other
returns-in-Err-Spent-clause-other g c = λ _.
    let h = c.in-Err-Spent.ensures in
    seen_idle g.L.Links.view _ _ _ c.self.view_is (record { history = refl; part = h.same; clock = refl; pending = rw h.none.requests refl; links = h.quiet; jobs = h.none.jobs; seen = h.none.seen })

pub returns-in-Err-NoMemory-clause-core : goal.returns-in-Err-NoMemory-clause-core
returns-in-Err-NoMemory-clause-core g c =
    let same = c.in-Err-NoMemory.ensures.same in
    seen_same g.L.Links.same _ _ _ c.self.view_is (record { number = refl; cores = refl; limits = rw same refl; budget = rw same refl; links = c.next_event_of.ensures.links; intake = c.next_event_of.ensures.queue })

pub returns-in-Err-NoMemory-clause-other : goal.returns-in-Err-NoMemory-clause-other
returns-in-Err-NoMemory-clause-other g c = λ _.
    let h = c.in-Err-NoMemory.ensures in
    seen_idle g.L.Links.view _ _ _ c.self.view_is (record { history = refl; part = h.same; clock = refl; pending = rw h.none.requests refl; links = h.quiet; jobs = h.none.jobs; seen = h.none.seen })

pub returns-in-Err-Stopped-clause-core : goal.returns-in-Err-Stopped-clause-core
returns-in-Err-Stopped-clause-core g c =
    let same = c.in-Err-Stopped.ensures.same in
    seen_same g.L.Links.same _ _ _ c.self.view_is (record { number = refl; cores = refl; limits = rw same refl; budget = rw same refl; links = c.next_event_of.ensures.links; intake = c.next_event_of.ensures.queue })

pub returns-in-Err-Stopped-clause-other : goal.returns-in-Err-Stopped-clause-other
returns-in-Err-Stopped-clause-other g c = λ _.
    let h = c.in-Err-Stopped.ensures in
    seen_idle g.L.Links.view _ _ _ c.self.view_is (record { history = refl; part = h.same; clock = refl; pending = rw h.none.requests refl; links = h.quiet; jobs = h.none.jobs; seen = h.none.seen })

pub returns-in-Err-NoMemory-clause-no_memory : goal.returns-in-Err-NoMemory-clause-no_memory
returns-in-Err-NoMemory-clause-no_memory g c = λ _.
    subst (λ (s : CoreState g.row.L.Denot). HasWork s.cores s.part s.pending (g.L.Links.view c.next_event_of.new.links) c.args.rx c.next_event_of.new.intake) c.self.view_is (c.in-Err-NoMemory.ensures.memory c.in-Err-NoMemory.field-0-is)

pub returns-in-Ok-None-clause-requests : goal.returns-in-Ok-None-clause-requests
returns-in-Ok-None-clause-requests g c =
    let same = rw c.in-Ok-None.field-0-is at c.in-Ok-None.ensures.same in
    let none = rw c.in-Ok-None.field-0-is at c.in-Ok-None.ensures.none in
    rw (← c.self.view_is) (rw none.requests refl)

pub returns-in-Err-Spent-clause-requests : goal.returns-in-Err-Spent-clause-requests
returns-in-Err-Spent-clause-requests g c = rw (← c.self.view_is) (rw c.in-Err-Spent.ensures.none.requests refl)

pub returns-in-Err-NoMemory-clause-requests : goal.returns-in-Err-NoMemory-clause-requests
returns-in-Err-NoMemory-clause-requests g c = rw (← c.self.view_is) (rw c.in-Err-NoMemory.ensures.none.requests refl)

pub returns-in-Err-Stopped-clause-requests : goal.returns-in-Err-Stopped-clause-requests
returns-in-Err-Stopped-clause-requests g c = rw (← c.self.view_is) (rw c.in-Err-Stopped.ensures.none.requests refl)

pub returns-in-Ok-Some-clause-requests : goal.returns-in-Ok-Some-clause-requests
returns-in-Ok-Some-clause-requests g c =
    let i = c.self.inside in
    let s = c.in-Ok-Some.stamped in
    let taken = rw c.in-Ok-Some.field-0-is at c.in-Ok-Some.ensures.consumes in
    let kept = c.noted-self-inside.ensures in
    rw (← c.self.view_is) (begun_more i.history.items c.noted-self-inside.result.items s i.requests.items c.next_event_of.new.requests.items kept taken.requests)

pub returns-in-Err-Spent-clause-stays : goal.returns-in-Err-Spent-clause-stays
returns-in-Err-Spent-clause-stays g c = λ cause is. was_running _ _ cause c.self.view_is c.in_default.is is

pub returns-in-Ok-Some-clause-stays : goal.returns-in-Ok-Some-clause-stays
returns-in-Ok-Some-clause-stays g c = λ cause is. was_running _ _ cause c.self.view_is c.in_default.is is

pub returns-in-Err-NoMemory-clause-stays : goal.returns-in-Err-NoMemory-clause-stays
returns-in-Err-NoMemory-clause-stays g c = λ cause is. was_running _ _ cause c.self.view_is c.in_default.is is

pub returns-in-Ok-None-clause-stays : goal.returns-in-Ok-None-clause-stays
returns-in-Ok-None-clause-stays g c = λ cause is. was_running _ _ cause c.self.view_is c.in_default.is is

pub returns-in-Err-Stopped-clause-stays : goal.returns-in-Err-Stopped-clause-stays
returns-in-Err-Stopped-clause-stays g c = λ cause is. was_running _ _ cause c.self.view_is c.in_default.is is

pub returns-in-Ok-Some-clause-other : goal.returns-in-Ok-Some-clause-other
returns-in-Ok-Some-clause-other g c = λ none. absurd (none c.in-Ok-Some.stamped c.decision_of.result refl)

pub returns-in-Ok-Some-clause-decision : goal.returns-in-Ok-Some-clause-decision
returns-in-Ok-Some-clause-decision g c = λ t d is.
    let i = c.self.inside in
    let s = c.in-Ok-Some.stamped in
    let acts = rw c.in-Ok-Some.field-0-is at c.in-Ok-Some.ensures.acts in
    let same : c.decision_of.result ≡ d = (did_is s t _ d is).1 in
    let next = decides_next i.part c.next_event_of.new.part i.number i.cores i.clock i.history.items s (g.L.Links.view i.links) acts.seen (g.L.Links.view c.next_event_of.new.links) c.self.invariant.2 acts.acts in
    rw (← c.self.view_is) (ap decisions c.noted-self-inside.ensures ∙ next ∙ ap (λ (l : List Decision). decisions i.history.items ++ l) (sym c.decision_of.ensures ∙ ap option_to_list same))

pub returns-in-Err-NoMemory-clause-lacks : goal.returns-in-Err-NoMemory-clause-lacks
returns-in-Err-NoMemory-clause-lacks g c = λ _.
    let why = rw c.in-Err-NoMemory.field-0-is at c.in-Err-NoMemory.ensures.why in
    subst (λ (s : CoreState g.row.L.Denot). LacksMemory s.cores s.clock s.part s.pending (g.L.Links.view c.next_event_of.new.links) c.args.rx c.next_event_of.new.intake) c.self.view_is why

pub returns-in-Ok-None-clause-lines : goal.returns-in-Ok-None-clause-lines
returns-in-Ok-None-clause-lines g c = λ _.
    let lines : (p : ℕ) → FlowsOn (g.L.Links.flow c.self.inside.links p) (g.L.Links.flow c.next_event_of.new.links p) = rw c.in-Ok-None.field-0-is at c.in-Ok-None.ensures.lines in
    subst (λ (l : g.row.L.Denot). (p : ℕ) → FlowsOn (g.L.Links.flow l p) (g.L.Links.flow c.next_event_of.new.links p)) (ap (λ (x : CoreState g.row.L.Denot). x.links) c.self.view_is) lines

pub returns-in-Ok-None-clause-full : goal.returns-in-Ok-None-clause-full
returns-in-Ok-None-clause-full g c = λ _. rw c.in-Ok-None.field-0-is at c.in-Ok-None.ensures.full

pub returns-in-Ok-None-clause-dry : goal.returns-in-Ok-None-clause-dry
returns-in-Ok-None-clause-dry g c = λ _. rw c.in-Ok-None.field-0-is at c.in-Ok-None.ensures.dry

pub returns-in-Ok-None-clause-still : goal.returns-in-Ok-None-clause-still
returns-in-Ok-None-clause-still g c =
    subst (λ (l : g.row.L.Denot). (p : ℕ) → (g.L.Links.flow c.next_event_of.new.links p).moved ≡ false → IsLooked (g.L.Links.flow l p) (g.L.Links.flow c.next_event_of.new.links p)) (ap (λ (x : CoreState g.row.L.Denot). x.links) c.self.view_is) c.next_event_of.ensures.still

pub returns-in-Ok-None-clause-moved : goal.returns-in-Ok-None-clause-moved
returns-in-Ok-None-clause-moved g c = λ _.
    subst (λ (l : g.row.L.Denot). (p : ℕ) → (g.L.Links.flow c.next_event_of.new.links p).moved ≡ true → HasMoved (g.L.Links.flow l p) (g.L.Links.flow c.next_event_of.new.links p)) (ap (λ (x : CoreState g.row.L.Denot). x.links) c.self.view_is) c.next_event_of.ensures.moved

pub returns-in-Ok-Some-clause-still : goal.returns-in-Ok-Some-clause-still
returns-in-Ok-Some-clause-still g c =
    subst (λ (l : g.row.L.Denot). (p : ℕ) → (g.L.Links.flow c.next_event_of.new.links p).moved ≡ false → IsLooked (g.L.Links.flow l p) (g.L.Links.flow c.next_event_of.new.links p)) (ap (λ (x : CoreState g.row.L.Denot). x.links) c.self.view_is) c.next_event_of.ensures.still

pub returns-in-Ok-Some-clause-moved : goal.returns-in-Ok-Some-clause-moved
returns-in-Ok-Some-clause-moved g c = λ _.
    subst (λ (l : g.row.L.Denot). (p : ℕ) → (g.L.Links.flow c.next_event_of.new.links p).moved ≡ true → HasMoved (g.L.Links.flow l p) (g.L.Links.flow c.next_event_of.new.links p)) (ap (λ (x : CoreState g.row.L.Denot). x.links) c.self.view_is) c.next_event_of.ensures.moved

pub returns-in-Err-Spent-clause-still : goal.returns-in-Err-Spent-clause-still
returns-in-Err-Spent-clause-still g c =
    subst (λ (l : g.row.L.Denot). (p : ℕ) → (g.L.Links.flow c.next_event_of.new.links p).moved ≡ false → IsLooked (g.L.Links.flow l p) (g.L.Links.flow c.next_event_of.new.links p)) (ap (λ (x : CoreState g.row.L.Denot). x.links) c.self.view_is) c.next_event_of.ensures.still

pub returns-in-Err-Spent-clause-moved : goal.returns-in-Err-Spent-clause-moved
returns-in-Err-Spent-clause-moved g c = λ _.
    subst (λ (l : g.row.L.Denot). (p : ℕ) → (g.L.Links.flow c.next_event_of.new.links p).moved ≡ true → HasMoved (g.L.Links.flow l p) (g.L.Links.flow c.next_event_of.new.links p)) (ap (λ (x : CoreState g.row.L.Denot). x.links) c.self.view_is) c.next_event_of.ensures.moved

pub returns-in-Err-NoMemory-clause-still : goal.returns-in-Err-NoMemory-clause-still
returns-in-Err-NoMemory-clause-still g c =
    subst (λ (l : g.row.L.Denot). (p : ℕ) → (g.L.Links.flow c.next_event_of.new.links p).moved ≡ false → IsLooked (g.L.Links.flow l p) (g.L.Links.flow c.next_event_of.new.links p)) (ap (λ (x : CoreState g.row.L.Denot). x.links) c.self.view_is) c.next_event_of.ensures.still

pub returns-in-Err-NoMemory-clause-moved : goal.returns-in-Err-NoMemory-clause-moved
returns-in-Err-NoMemory-clause-moved g c = λ _.
    subst (λ (l : g.row.L.Denot). (p : ℕ) → (g.L.Links.flow c.next_event_of.new.links p).moved ≡ true → HasMoved (g.L.Links.flow l p) (g.L.Links.flow c.next_event_of.new.links p)) (ap (λ (x : CoreState g.row.L.Denot). x.links) c.self.view_is) c.next_event_of.ensures.moved

pub returns-in-Err-Stopped-clause-still : goal.returns-in-Err-Stopped-clause-still
returns-in-Err-Stopped-clause-still g c =
    subst (λ (l : g.row.L.Denot). (p : ℕ) → (g.L.Links.flow c.next_event_of.new.links p).moved ≡ false → IsLooked (g.L.Links.flow l p) (g.L.Links.flow c.next_event_of.new.links p)) (ap (λ (x : CoreState g.row.L.Denot). x.links) c.self.view_is) c.next_event_of.ensures.still

pub returns-in-Err-Stopped-clause-moved : goal.returns-in-Err-Stopped-clause-moved
returns-in-Err-Stopped-clause-moved g c = λ _.
    subst (λ (l : g.row.L.Denot). (p : ℕ) → (g.L.Links.flow c.next_event_of.new.links p).moved ≡ true → HasMoved (g.L.Links.flow l p) (g.L.Links.flow c.next_event_of.new.links p)) (ap (λ (x : CoreState g.row.L.Denot). x.links) c.self.view_is) c.next_event_of.ensures.moved
