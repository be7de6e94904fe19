-- Requests that are begun.
use Rattle.std.proofs.Common.{◌≡◌, ◌<◌, ℕ, true, false, Option, Some, None, Result, Ok, Err, List, [], ◌∷◌, length, slice_get, slice_set, refl, ap, sym, ◌∙◌, subst}
use Rattle.std.specs.Prelude.{is_ok, IfOk}
use Rattle.filter_table.specs.declared.operation.Op.{Op}
use Rattle.world_events.specs.declared.event.Event.{Event}
use Rattle.world_events.specs.declared.event.Event.TheVariants.{StartFor}
use Rattle.world_model.specs.Refusals.{waiting_at}
use Rattle.world_events.specs.declared.event.Answer.{Answer}
use Rattle.world_model.specs.Worlds.{World}
use Rattle.world_events.specs.declared.fault.WorldFault.{WorldFault}
use Rattle.sim_lines.specs.Events.{event_line}
use Rattle.sim_engine.specs.declared.requests.PendingRequest.{PendingRequest}
use Rattle.sim_engine.specs.declared.way.Way.{Way}
use Rattle.sim_engine.specs.Keeping.{EmptyBefore, NoneBefore, IsFirstAt}
use Rattle.sim_engine.specs.Pending.{left, FirstAt, NoneAt, IsLeft}
use Rattle.sim_engine.specs.Ways.{home_of, event_of, way_of}
use Rattle.sim_engine.specs.Simulations.{Tells, Begins, nothing, done, refused, nothing_line, sim, BeginsNext, begun, last, Drains, ends, stops, Next, waits, asked, NoneWaits}
use Rattle.sim_engine.proofs.Places.{none_left, first_left, empty_left}

pub begins_nothing : (w : World) (places places' : List (Option PendingRequest)) (by : Way) (home : ℕ) → home ≡ home_of by → places' ≡ places → NoneBefore places home (length places)
    → Begins (sim w places) by (sim w places') (nothing_line by)
begins_nothing w places places' by home is same none = nothing (subst (λ (h : ℕ). NoneAt h (left places)) is (none_left places home none)) (ap (sim w) same) refl

module _ (w w' : World) (places : List (Option PendingRequest)) (by : Way) (home place : ℕ) (is : home ≡ home_of by) (first : IsFirstAt places home place) (request : PendingRequest) (at : slice_get places place ≡ Some (Some request)) where
  same : first.request ≡ request
  same = let e : Some (Some first.request) ≡ Some (Some request) = sym first.at ∙ at in cc

  pub begins_done : (told : Result Answer WorldFault) → Tells w (event_of by request.op) told w' → is_ok told ≡ true
      → Begins (sim w places) by (sim w' (slice_set places place None)) (event_line (event_of by request.op) told)
  begins_done (Ok answer) tells yes' = done request (subst (λ (h : ℕ). FirstAt h (left places) request (left (slice_set places place None))) is
      (first_left places home place request at (subst (λ (r : PendingRequest). r.home ≡ home) same first.at_home) first.before)) answer tells refl
  begins_done (Err fault) tells no' = absurd cc

  pub begins_refused : (told : Result Answer WorldFault) → Tells w (event_of by request.op) told w' → is_ok told ≡ false
      → Begins (sim w places) by (sim w' places) (event_line (event_of by request.op) told)
  begins_refused (Ok answer) tells no' = absurd cc
  begins_refused (Err fault) tells yes' = refused request (left (slice_set places place None)) (subst (λ (h : ℕ). FirstAt h (left places) request (left (slice_set places place None))) is
      (first_left places home place request at (subst (λ (r : PendingRequest). r.home ≡ home) same first.at_home) first.before)) fault tells (ap (λ (v : World). sim v places) tells.2) refl

-- What settling begins

pub if_ok : {A E : Type 0} {P Q : A → Type 0} (r : Result A E) → IfOk r P → ((a : A) → P a → Q a) → IfOk r Q
if_ok (Ok a) p f = f a p
if_ok (Err e) p f = p

pub next_ends : (w : World) (places places' : List (Option PendingRequest)) → NoneWaits w → EmptyBefore places (length places) → places' ≡ places → BeginsNext (sim w places) (sim w places') [] false
next_ends w places places' none empty same =
    last (subst (λ (ps : List (Option PendingRequest)). Drains (sim w places) (sim w ps) []) (sym same) (ends (sim w places) (record { none_waits = none; none_pending = empty_left places empty })))

module _ (w w' : World) (places : List (Option PendingRequest)) where
  stopped : (event : Event) (rest : List PendingRequest) (fault : WorldFault) → Next (sim w places) event rest → Tells w event (Err fault) w' → BeginsNext (sim w places) (sim w' places) (event_line event (Err fault)) false
  stopped event rest fault next tells =
      last (subst (λ (v : World). Drains (sim w places) (sim v places) (event_line event (Err fault))) (sym tells.2) (stops (sim w places) event rest fault next (tells.0, tells.1, refl)))

  pub next_waits : (core : ℕ) (op : Op) → waiting_at w core ≡ Some op → ((less : ℕ) → less < core → waiting_at w less ≡ None) → (told : Result Answer WorldFault) → Tells w (StartFor core) told w'
      → BeginsNext (sim w places) (sim w' places) (event_line (StartFor core) told) (is_ok told)
  next_waits core op at least (Ok answer) tells = begun (StartFor core) (left places) answer (waits core op at least refl refl) tells refl refl
  next_waits core op at least (Err fault) tells = stopped (StartFor core) (left places) fault (waits core op at least refl refl) tells

  pub next_asked : (places' : List (Option PendingRequest)) (first : PendingRequest) (rest : List PendingRequest) → NoneWaits w → left places ≡ first ∷ rest → (told : Result Answer WorldFault)
      → Tells w (event_of (way_of first.home) first.op) told w' → IsLeft (is_ok told) (first ∷ rest) rest (left places')
      → BeginsNext (sim w places) (sim w' places') (event_line (event_of (way_of first.home) first.op) told) (is_ok told)
  next_asked places' first rest none is (Ok answer) tells now = begun (event_of (way_of first.home) first.op) rest answer (asked first none is refl) tells now refl
  next_asked places' first rest none is (Err fault) tells now =
      subst (λ (rs : List PendingRequest). BeginsNext (sim w places) (record { world = w'; pending = rs }) (event_line (event_of (way_of first.home) first.op) (Err fault)) false) (is ∙ sym now)
      (stopped (event_of (way_of first.home) first.op) rest fault (asked first none is refl) tells)
