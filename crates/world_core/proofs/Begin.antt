-- Core 0 starts a request, and asks the other cores or answers the one that asked.
use Rattle.std.proofs.Common.{◌≡◌, ◌∙◌, ℕ, zero, suc, Option, None, Some, List, length, map, slice_get, refl, ap, sym, subst, arith}
use Rattle.std.specs.Prelude.{option_and_then, Result, Ok, Err, IfOk, OnOk, OnErr}
use Rattle.std.proofs.lemmas.List.{length-map}
use Rattle.filter_table.specs.declared.operation.Op.{Op}
use Rattle.monitor_messages.specs.declared.message.Message.{Message}
use Rattle.two_phase.specs.Coordinators.{CanStart}
use Rattle.world_events.specs.declared.event.Event.TheVariants.{Start, StartFor}
use Rattle.world_model.specs.Cases.{outgoing, StartsAt, StartsForAt}
use Rattle.world_model.specs.Worlds as worlds
use Rattle.core_steps.specs.declared.core0.Core0.{Core0}
use Rattle.core_steps.specs.declared.core0.Told.{Told}
use Rattle.core_steps.specs.declared.other_core.OtherCore.{OtherCore}
use Rattle.core_steps.specs.Core0Steps.{core0_place, HasWaiting, Moves}
use Rattle.world_core.specs.declared.core0.LoggedCore0.{LoggedCore0}
use Rattle.world_core.specs.declared.peer.Peer.{Peer}
use Rattle.world_core.specs.LoggedCore0s.{Core0IsKept, Core0Moves, Core0Starts, Core0StartsFor}
use Rattle.world_core.specs.Keeping.{seen_peer, seen_world, CoreIsKept, WorldIsKept, EachMatches, Readied}
use Rattle.world_model.specs.Refusals.{waiting_at}
use Rattle.world_core.specs.Sending.{SentOut}
use Rattle.world_core.proofs.Carried.{readied_seen}
use Rattle.core_steps.proofs.Tables.{idle_phase}
use Rattle.world_core.proofs.Moving.{alike_sent, moved_seen, moved_kept}
use Rattle.std.proofs.lemmas.Option.{slice_get_within}
use Rattle.filter_table.proofs.Positions.{get_at}

-- The other cores after messages were made ready

pub readied_same : {C Piece : Type 0} (messages : C → List Message) (core0 : LoggedCore0) (peers peers' : List (Peer C Piece)) → EachMatches (Readied messages) peers peers' → seen_world messages core0 peers' ≡ seen_world messages core0 peers
readied_same messages core0 peers peers' m = rw (readied_seen messages peers peers' m) refl

pub readied_kept : {C Piece : Type 0} (messages : C → List Message) (core0 : LoggedCore0) (peers peers' : List (Peer C Piece)) → EachMatches (Readied messages) peers peers' → WorldIsKept messages core0 peers → WorldIsKept messages core0 peers'
readied_kept messages core0 peers peers' m k = record {
  core0_kept = k.core0_kept;
  others = k.others ∙ sym m.0;
  peers_kept = λ i p at.
      let old = get_at peers i (omega (arith, m.0, slice_get_within peers' i p at)) in
      subst (λ (c : OtherCore). CoreIsKept core0.core.replica.shown.limits core0.log.items c) (sym (m.1 i old.0 p old.1 at).core) (k.peers_kept i old.0 old.1);
  few = rw m.0 k.few;
  limits = k.limits;
  budget = k.budget;
  budgets = k.budgets;
  events = k.events;
  run = subst (λ (w : worlds.World). worlds.Run k.limits k.budget k.budgets k.events w) (sym (readied_same messages core0 peers peers' m)) k.run;
}

pub on_err : {T E : Type 0} (r : Result T E) (P : Type 0) → P → OnErr r P
on_err (Ok v) P h = tt
on_err (Err e) P h = h

pub ok_stays : {T E : Type 0} (r : Result T E) (P Q : Type 0) → (P → Q) → OnOk r P → OnOk r Q
ok_stays (Ok v) P Q as' h = as' h
ok_stays (Err e) P Q as' h = tt

pub ok_shows : {T E : Type 0} (r : Result T E) (P Q : T → Type 0) → ((v : T) → P v → Q v) → IfOk r P → IfOk r Q
ok_shows (Ok v) P Q as' h = as' v h
ok_shows (Err e) P Q as' h = tt

-- A core that has no request waiting

pub none_waiting : {C Piece : Type 0} (messages : C → List Message) (core0 : LoggedCore0) (peers : List (Peer C Piece)) (core : ℕ) → ((entry : ℕ) (op : Op) → HasWaiting core0.core core entry op → ⊥) → waiting_at (seen_world messages core0 peers) core ≡ None
none_waiting messages core0 peers zero none = refl
none_waiting messages core0 peers (suc entry) none = by_place (slice_get core0.core.coordinator.requests.waiting entry) refl
  where
    by_place : (o : Option (Option Op)) → slice_get core0.core.coordinator.requests.waiting entry ≡ o → waiting_at (seen_world messages core0 peers) (suc entry) ≡ None
    by_place None e = ap (option_and_then (λ waits. waits)) e
    by_place (Some None) e = ap (option_and_then (λ waits. waits)) e
    by_place (Some (Some op)) e = absurd (none entry op (record { is_core = refl; is_waiting = e }))

-- Core 0 after it was asked to stage a request

-- this is staged in its replica
abbrev pub staging : Core0 → Option Op → Core0
staging core staged = record core { replica = record core.replica { staged = staged } }

abbrev pub core0_staging : LoggedCore0 → Option Op → LoggedCore0
core0_staging core0 staged = record core0 { core = staging core0.core staged }

pub none_staged : (core0 : LoggedCore0) → Core0IsKept core0 → CanStart (core0_place core0.core) → core0.core.replica.staged ≡ None
none_staged core0 k can = idle_phase core0.core.coordinator.phase core0.core.replica.staged can.0 k.between.staged

-- it is taken back
pub withdrawn : (core0 : LoggedCore0) (core : Core0) (staged : Option Op) → core0.core.replica.staged ≡ None → core ≡ staging core0.core staged → staging core None ≡ core0.core
withdrawn core0 core staged none is = rw (is, ← none) refl

-- nothing was staged, so core 0 is as it was
pub unstaged : (core0 : LoggedCore0) (core : Core0) → core0.core.replica.staged ≡ None → core.replica.staged ≡ None → core ≡ staging core0.core core.replica.staged → core ≡ core0.core
unstaged core0 core none still is = is ∙ ap (staging core0.core) (still ∙ sym none)

-- the start is one of core 0 before that
moves_before : (core core' : Core0) (staged committed : Option Op) → Moves (staging core staged) committed core' → Moves core committed core'
moves_before core core' staged committed m = record { shown_next = m.shown_next; same_budget = m.same_budget; same_others = m.same_others; between = m.between }

-- The events

pub record HasDone {C Piece : Type 0} (messages : C → List Message) (core0' : LoggedCore0) (peers' : List (Peer C Piece)) (Event : Type 0) : Type 0 where
  pub happens : Event
  pub kept : WorldIsKept messages core0' peers'

pub start_done : {C Piece : Type 0} (messages : C → List Message) (core0 core0' : LoggedCore0) (peers mid peers' : List (Peer C Piece)) (op : Op) (staged : Option Op) (told : Told) → WorldIsKept messages core0 peers → CanStart (core0_place core0.core) → EachMatches (Readied messages) peers mid
    → Core0Starts (core0_staging core0 staged) op core0' told → SentOut messages mid (outgoing told.step (core0_place core0'.core)) peers' → HasDone messages core0' peers' (worlds.Happens (seen_world messages core0 peers) (Start op) (seen_world messages core0' peers') told.answer)
start_done messages core0 core0' peers mid peers' op staged told k can readied h sent =
    let kept = readied_kept messages core0 peers mid readied k in
    let same = readied_same messages core0 peers mid readied in
    let none = none_staged core0 k.core0_kept can in
    let s = h.starts in
    let moves : Core0Moves core0 s.committed core0' = record { moves = moves_before core0.core core0'.core staged s.committed s.moves; log_next = h.log_next; kept = h.kept } in
    let here : StartsAt (length (map (seen_peer messages) mid)) (worlds.newest (seen_world messages core0 mid)) core0.core.replica.budget (core0_place core0.core) op (core0_place core0'.core) s.committed told.step told.answer =
    rw (length-map mid (seen_peer messages), ← kept.others, ← k.core0_kept.shown, none) s.here in
    let happens : worlds.Happens (seen_world messages core0 mid) (Start op) (seen_world messages core0' peers') told.answer = record {
      place = core0_place core0'.core;
      committed = s.committed;
      told = told.step;
      here = here;
      next = moved_seen messages core0 core0' mid peers' s.committed (outgoing told.step (core0_place core0'.core)) moves sent ∙ rw s.same_requests refl;
    } in
    record {
      happens = subst (λ (w : worlds.World). worlds.Happens w (Start op) (seen_world messages core0' peers') told.answer) same happens;
      kept = moved_kept messages core0 core0' mid peers' s.committed (Start op) told.answer kept moves (alike_sent messages mid peers' (outgoing told.step (core0_place core0'.core)) sent) happens;
    }

pub start_for_done : {C Piece : Type 0} (messages : C → List Message) (core0 core0' : LoggedCore0) (peers mid peers' : List (Peer C Piece)) (core entry : ℕ) (staged : Option Op) (told : Told) → WorldIsKept messages core0 peers → CanStart (core0_place core0.core) → core ≡ suc entry → EachMatches (Readied messages) peers mid
    → Core0StartsFor (core0_staging core0 staged) entry core0' told → SentOut messages mid (outgoing told.step (core0_place core0'.core)) peers' → HasDone messages core0' peers' (worlds.Happens (seen_world messages core0 peers) (StartFor core) (seen_world messages core0' peers') told.answer)
start_for_done messages core0 core0' peers mid peers' core entry staged told k can is_core readied h sent =
    let kept = readied_kept messages core0 peers mid readied k in
    let same = readied_same messages core0 peers mid readied in
    let none = none_staged core0 k.core0_kept can in
    let s = h.starts in
    let moves : Core0Moves core0 s.committed core0' = record { moves = moves_before core0.core core0'.core staged s.committed s.moves; log_next = h.log_next; kept = h.kept } in
    let here : StartsForAt (length (map (seen_peer messages) mid)) (worlds.newest (seen_world messages core0 mid)) core0.core.replica.budget (core0_place core0.core) core0.core.coordinator.requests entry (core0_place core0'.core) core0'.core.coordinator.requests s.committed told.step told.answer =
    rw (length-map mid (seen_peer messages), ← kept.others, ← k.core0_kept.shown, none) s.here in
    let happens : worlds.Happens (seen_world messages core0 mid) (StartFor (suc entry)) (seen_world messages core0' peers') told.answer = record {
      place = core0_place core0'.core;
      requests = core0'.core.coordinator.requests;
      committed = s.committed;
      told = told.step;
      here = here;
      next = moved_seen messages core0 core0' mid peers' s.committed (outgoing told.step (core0_place core0'.core)) moves sent;
    } in
    record {
      happens = rw is_core (subst (λ (w : worlds.World). worlds.Happens w (StartFor (suc entry)) (seen_world messages core0' peers') told.answer) same happens);
      kept = moved_kept messages core0 core0' mid peers' s.committed (StartFor (suc entry)) told.answer kept moves (alike_sent messages mid peers' (outgoing told.step (core0_place core0'.core)) sent) happens;
    }
