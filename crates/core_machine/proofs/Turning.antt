-- The turns of one core.
use Rattle.std.proofs.Common.{◌≡◌, ◌∙◌, ◌+◌, ◌<◌, ◌≤◌, ◌⊎◌, inl, inr, ℕ, zero, suc, false, List, [], ◌∷◌, ◌++◌, refl, sym, ap, arith, append_assoc}
use Rattle.std.proofs.lemmas.List.{append-nil}
use mathlib.Core.List.{IsPrefix}
use Rattle.world_events.specs.declared.event.Event.{Event}
use Rattle.world_events.specs.declared.event.Event.TheVariants.{Rx}
use Rattle.world_histories.specs.declared.history.Stamped.{Stamped}
use Rattle.world_histories.specs.Histories.{unstamped}
use Rattle.world_progress.specs.Remaining.{is_step, steps}
use Rattle.core_links.specs.RingSlots.{ring_view}
use Rattle.core_links.specs.Flows.{FlowsOn, ring_flow}
use Rattle.core_loop.specs.Receipts.{receives}
use Rattle.core_loop.specs.Choosing.{ShowsNothing, NoMessageNow}
use Rattle.core_loop.specs.Beginning.{CanBeginNext}
use Rattle.core_machine.specs.Machines.{RingCore}
use Rattle.core_machine.proofs.Along.{same_itself, same_along}
use Rattle.core_machine.specs.Rounds.{Keeps, DidEvent, Idled, GoesOn, Turns}

pub prefix_along : {A : Type 0} (xs ys zs : List A) → IsPrefix xs ys → IsPrefix ys zs → IsPrefix xs zs
prefix_along {A} xs ys zs p q = (p.0 ++ q.0, sym (append_assoc xs p.0 q.0) ∙ (ap (λ (l : List A). l ++ q.0) p.1 ∙ q.1))

pub keeps_itself : (c : RingCore) → Keeps c c
keeps_itself c = record { same = same_itself c; asked_same = refl; history = ([], append-nil c.history); jobs = refl; receipts_same = refl }

pub keeps_along : (a b c : RingCore) → Keeps a b → Keeps b c → Keeps a c
keeps_along a b c h k = record {
  same = same_along a b c h.same k.same;
  asked_same = k.asked_same ∙ h.asked_same;
  history = prefix_along a.history b.history c.history h.history k.history;
  jobs = k.jobs ∙ h.jobs;
  receipts_same = k.receipts_same ∙ h.receipts_same;
}

-- Counting steps

pub steps_append : (h k : List Stamped) → steps (unstamped (h ++ k)) ≡ steps (unstamped h) + steps (unstamped k)
steps_append [] k = omega arith
steps_append (s ∷ h) k = let rest = steps_append h k in omega (arith, rest)

pub steps_grow : (h k : List Stamped) → IsPrefix h k → steps (unstamped h) ≤ steps (unstamped k)
steps_grow h k p = omega (arith, steps_append h p.0, ap (λ (l : List Stamped). steps (unstamped l)) p.1)

step_of : (e : Event) → receives e ≡ [] → is_step e ≡ 1
step_of (Rx core number packet floor) none = absurd cc
step_of e none = refl

one_step : (h k : List Stamped) (s : Stamped) → k ≡ h ++ s ∷ [] → receives s.done.event ≡ [] → steps (unstamped k) ≡ steps (unstamped h) + 1
one_step h k s is none =
    let one = step_of s.done.event none in
    let more = steps_append h (s ∷ []) in
    omega (arith, ap (λ (l : List Stamped). steps (unstamped l)) is, more, one)

-- All turns of one core in a round

-- it did no event in them
pub record Passed (old new : RingCore) : Type 0 where
  pub history : new.history ≡ old.history
  pub sent : (p : ℕ) → (ring_view new.links p).sent ≡ (ring_view old.links p).sent
  pub lines : (p : ℕ) → FlowsOn (ring_flow old.links p) (ring_flow new.links p)

-- nor could it do more
pub record Stayed (old new : RingCore) : Type 0 where
  pub history : new.history ≡ old.history
  pub sent : (p : ℕ) → (ring_view new.links p).sent ≡ (ring_view old.links p).sent
  pub lines : (p : ℕ) → FlowsOn (ring_flow old.links p) (ring_flow new.links p)
  pub no_message : NoMessageNow new.cores new.part (ring_view new.links)
  pub no_request : CanBeginNext new.cores new.part new.pending (ring_view new.links) → ⊥
  pub full : (p : ℕ) → (ring_view new.links p).ready ≡ false → (ring_flow new.links p).room ≡ 0
  pub dry : ((p : ℕ) → p < new.cores → ShowsNothing (ring_view new.links p)) → (p : ℕ) → p < new.cores → (ring_flow new.links p).known ≡ 0

-- it did an event, or this holds of it
pub record Went (P : RingCore → RingCore → Type 0) (old new : RingCore) : Type 0 where
  pub keeps : Keeps old new
  pub either : (steps (unstamped old.history) < steps (unstamped new.history)) ⊎ P old new

pub passed : (old new : RingCore) → Stayed old new → Passed old new
passed old new s = record { history = s.history; sent = s.sent; lines = s.lines }

pub went_passed : (old new : RingCore) → Went Stayed old new → Went Passed old new
went_passed old new w = record { keeps = w.keeps; either = by_either w.either }
  where
    by_either : (steps (unstamped old.history) < steps (unstamped new.history)) ⊎ Stayed old new → (steps (unstamped old.history) < steps (unstamped new.history)) ⊎ Passed old new
    by_either (inl l) = inl l
    by_either (inr s) = inr (passed old new s)

pub stayed_once : (old new : RingCore) → Idled old new → Stayed old new
stayed_once old new i = record {
  history = i.nothing.history;
  sent = λ p. (i.nothing.links p).sent_same;
  lines = i.lines;
  no_message = i.no_message;
  no_request = i.no_request;
  full = i.full;
  dry = i.dry;
}

pub went_once : (old new : RingCore) → GoesOn old new → Went Stayed old new
went_once old new g = record { keeps = g.keeps; either = by_turn g.turned }
  where
    by_turn : DidEvent old new ⊎ Idled old new → (steps (unstamped old.history) < steps (unstamped new.history)) ⊎ Stayed old new
    by_turn (inl d) = inl (omega (arith, one_step old.history new.history d.0 d.1.history d.2))
    by_turn (inr i) = inr (stayed_once old new i)

stayed_along : (a b c : RingCore) → Stayed a b → Stayed b c → Stayed a c
stayed_along a b c h k = record {
  history = k.history ∙ h.history;
  sent = λ p. k.sent p ∙ h.sent p;
  lines = λ p. record {
    out = omega (arith, (h.lines p).out, (k.lines p).out);
    come = omega (arith, (h.lines p).come, (k.lines p).come);
    room = omega (arith, (h.lines p).room, (k.lines p).room);
    known = omega (arith, (h.lines p).known, (k.lines p).known);
  };
  no_message = k.no_message;
  no_request = k.no_request;
  full = k.full;
  dry = k.dry;
}

went_more : (old mid new : RingCore) → Went Stayed old mid → Went Stayed mid new → Went Stayed old new
went_more old mid new front last = record { keeps = keeps_along old mid new front.keeps last.keeps; either = by_either front.either last.either }
  where
    by_either : (steps (unstamped old.history) < steps (unstamped mid.history)) ⊎ Stayed old mid → (steps (unstamped mid.history) < steps (unstamped new.history)) ⊎ Stayed mid new
        → (steps (unstamped old.history) < steps (unstamped new.history)) ⊎ Stayed old new
    by_either (inl f) x = inl (omega (arith, f, steps_grow mid.history new.history last.keeps.history))
    by_either (inr s) (inl l) = inl (omega (arith, l, ap (λ (h : List Stamped). steps (unstamped h)) s.history))
    by_either (inr s) (inr k) = inr (stayed_along old mid new s k)

pub went : (more : ℕ) (old new : RingCore) → Turns more old new → Went Stayed old new
went zero old new t = went_once old new t
went (suc more) old new t = went_more old t.0 new (went more old t.0 t.1) (went_once t.0 new t.2)
