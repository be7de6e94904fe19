-- What the calls of the world answer, from what its cores do.
use Rattle.std.proofs.Common.{◌≡◌, ◌≢◌, ◌∙◌, ◌-◌, ◌<◌, ◌∷◌, [], ℕ, zero, suc, Bool, true, Option, None, Some, List, Result, Ok, Err, length, slice_get, slice_set, slice_index_or, refl, ap, sym, subst, arith}
use Rattle.std.specs.Prelude.{option_map, option_and_then, IfOk, IfErr, IsErrAnd, OnErr}
use Rattle.filter_table.specs.declared.operation.Op.{Op}
use Rattle.monitor_messages.specs.declared.message.Message.{Message}
use Rattle.world_events.specs.declared.event.Event.{Event}
use Rattle.world_events.specs.declared.event.Event.TheVariants.{Start, Submit, StartFor, Take}
use Rattle.world_events.specs.declared.event.Answer.{Answer}
use Rattle.world_events.specs.declared.fault.WorldFault.{WorldFault}
use Rattle.world_events.specs.declared.fault.WorldFault.TheVariants.{NoSuchCore, Nothing, NotReady, NotIdle, Spent, Outstanding, NoneWaiting, NoMemory}
use Rattle.world_core.specs.declared.core0.LoggedCore0.{LoggedCore0}
use Rattle.world_core.specs.declared.peer.Peer.{Peer}
use Rattle.world_model.specs.Worlds as worlds
use Rattle.world_core.specs.Channels.{first_of}
use Rattle.two_phase.specs.Coordinators.{Idle}
use Rattle.world_model.specs.Refusals.{channel, StandsFirst, WorldRefuses}
use Rattle.world_core.specs.LoggedCore0s.{StartForRefuses}
use Rattle.world_core.specs.Keeping.{seen_peer, seen_world, WorldIsKept, PeerCannotSubmit, PeerCannotTake, ChangesOne, Submits, Takes, ReadyToTake}
use Rattle.world_core.specs.Shown.{ShowsReplica}
use Rattle.world_core.proofs.WorldKeeping.{peer_shows, no_version, no_core}
use Rattle.world_core.proofs.PeerKeeping.{seen_same, submit_happens, submit_kept, awaits_oldest, take_happens, take_kept}
use Rattle.std.proofs.lemmas.Option.{slice_get-get_or, slice_get_past}
use Rattle.filter_table.proofs.Lists.{map-get}
use Rattle.filter_table.proofs.Positions.{get_at}

-- Entries

pub entry_shows : {C Piece : Type 0} (messages : C → List Message) (core0 : LoggedCore0) (peers : List (Peer C Piece)) (w : worlds.World) (core : ℕ) (p : Peer C Piece) → WorldIsKept messages core0 peers → seen_world messages core0 peers ≡ w → core ≢ 0
    → slice_get peers (core - 1) ≡ Some p → ShowsReplica w core p.core.replica
entry_shows messages core0 peers w core p k view ne at =
    let e : suc (core - 1) ≡ core = omega (arith, ne) in
    subst (λ (x : worlds.World). ShowsReplica x core p.core.replica) view (subst (λ (n : ℕ). ShowsReplica (seen_world messages core0 peers) n p.core.replica) e (peer_shows messages core0 peers (core - 1) p k at))

pub entry_none : {C Piece : Type 0} (messages : C → List Message) (core0 : LoggedCore0) (peers : List (Peer C Piece)) (w : worlds.World) (core : ℕ) → seen_world messages core0 peers ≡ w → core ≢ 0 → slice_get peers (core - 1) ≡ None → worlds.version_at w core ≡ None
entry_none messages core0 peers w core view ne at =
    let e : suc (core - 1) ≡ core = omega (arith, ne) in
    subst (λ (x : worlds.World). worlds.version_at x core ≡ None) view (subst (λ (n : ℕ). worlds.version_at (seen_world messages core0 peers) n ≡ None) e (no_version messages core0 peers (core - 1) at))

-- A core's own events

-- what a call answers for this event
pub record Answered {C Piece : Type 0} (messages : C → List Message) (core0 : LoggedCore0) (w : worlds.World) (event : Event) (peers' : List (Peer C Piece)) (w' : worlds.World) (r : Result Answer WorldFault) : Type 0 where
  pub happens : IfOk r (worlds.Happens w event w')
  pub fault : IfErr r (WorldRefuses w event)
  pub same : OnErr r (w' ≡ w)
  pub kept : WorldIsKept messages core0 peers'

submit_refuses : (w : worlds.World) (entry : ℕ) (peer : worlds.Peer) (op : Op) (fault : WorldFault) → slice_get w.peers entry ≡ Some peer → PeerCannotSubmit peer fault → WorldRefuses w (Submit (suc entry) op) fault
submit_refuses w entry peer op Outstanding at h = (entry, peer, refl, at, h)
submit_refuses w entry peer op NoMemory at h = none
  where
    none : (fault : WorldFault) → StandsFirst w (Submit (suc entry) op) fault → ⊥
    none NoSuchCore s = let x : option_map (λ (p : worlds.Peer). p.up) (slice_get w.peers entry) ≡ Some peer.up = ap (option_map (λ (p : worlds.Peer). p.up)) at in cc
    none Outstanding s = let e : entry ≡ s.0 = omega (arith, s.2) in let there : slice_get w.peers entry ≡ Some s.1 = subst (λ (n : ℕ). slice_get w.peers n ≡ Some s.1) (sym e) s.3 in let same : peer ≡ s.1 = cc in
        let out : peer.outstanding ≡ true = ap (λ (p : worlds.Peer). p.outstanding) same ∙ s.4 in cc (out, h)
    none Nothing s = s
    none NotReady s = s
    none NotIdle s = s
    none Spent s = s
    none NoneWaiting s = s
    none NoMemory s = s
submit_refuses w entry peer op fault at h = absurd h

pub submit_answered : {C Piece : Type 0} (messages : C → List Message) (core0 : LoggedCore0) (peers peers' : List (Peer C Piece)) (w w' : worlds.World) (core entry : ℕ) (op : Op) (r : Result Answer WorldFault) → WorldIsKept messages core0 peers
    → seen_world messages core0 peers ≡ w → seen_world messages core0 peers' ≡ w' → core ≡ suc entry → ChangesOne peers entry peers' (Submits messages op r) → Answered messages core0 w (Submit core op) peers' w' r
submit_answered messages core0 peers peers' w w' core entry op r k view view' e c =
    rw (e, ← view, ← view', c.changed) (by_result r c.related)
  where
    by_result : (r : Result Answer WorldFault) → Submits messages op r c.before c.after
        → Answered messages core0 (seen_world messages core0 peers) (Submit (suc entry) op) (slice_set peers entry c.after) (seen_world messages core0 (slice_set peers entry c.after)) r
    by_result (Ok answer) s = record {
      happens = submit_happens messages core0 peers entry c.before c.after op answer c.there s.done;
      fault = tt;
      same = tt;
      kept = submit_kept messages core0 peers entry c.before c.after op (Ok answer) k c.there s;
    }
    by_result (Err fault) s = record {
      happens = tt;
      fault = submit_refuses (seen_world messages core0 peers) entry (seen_peer messages c.before) op fault (map-get (seen_peer messages) peers entry c.before c.there) s.fault;
      same = seen_same messages core0 peers entry c.before c.after c.there s.same;
      kept = submit_kept messages core0 peers entry c.before c.after op (Err fault) k c.there s;
    }

take_refuses : (w : worlds.World) (entry : ℕ) (peer : worlds.Peer) (short : Bool) (fault : WorldFault) → slice_get w.peers entry ≡ Some peer → PeerCannotTake peer fault → WorldRefuses w (Take (suc entry) 0 short) fault
take_refuses w entry peer short Nothing at h = ap (option_map (λ (p : worlds.Peer). p.down)) at ∙ ap (λ (ms : List Message). Some ms) h
take_refuses w entry peer short NoMemory at h = none
  where
    there : channel w (suc entry) 0 ≡ Some peer.down
    there = ap (option_map (λ (p : worlds.Peer). p.down)) at

    none : (fault : WorldFault) → StandsFirst w (Take (suc entry) 0 short) fault → ⊥
    none NoSuchCore s = cc (there, s)
    none Nothing s = h (let x = there in let y = s in cc)
    none Outstanding s = s
    none NotReady s = s
    none NotIdle s = s
    none Spent s = s
    none NoneWaiting s = s
    none NoMemory s = s
take_refuses w entry peer short fault at h = absurd h

pub take_answered : {C Piece : Type 0} (messages : C → List Message) (core0 : LoggedCore0) (peers peers' : List (Peer C Piece)) (w w' : worlds.World) (core entry : ℕ) (short : Bool) (r : Result Answer WorldFault) → WorldIsKept messages core0 peers
    → seen_world messages core0 peers ≡ w → seen_world messages core0 peers' ≡ w' → core ≡ suc entry → ChangesOne peers entry peers' (Takes messages short r) → Answered messages core0 w (Take core 0 short) peers' w' r
take_answered messages core0 peers peers' w w' core entry short r k view view' e c =
    rw (e, ← view, ← view', c.changed) (by_result r c.related)
  where
    by_result : (r : Result Answer WorldFault) → Takes messages short r c.before c.after
        → Answered messages core0 (seen_world messages core0 peers) (Take (suc entry) 0 short) (slice_set peers entry c.after) (seen_world messages core0 (slice_set peers entry c.after)) r
    by_result (Ok answer) s = record {
      happens = take_happens messages core0 peers entry c.before c.after short answer k c.there s.done;
      fault = tt;
      same = tt;
      kept = take_kept messages core0 peers entry c.before c.after short (Ok answer) k c.there s;
    }
    by_result (Err fault) s = record {
      happens = tt;
      fault = take_refuses (seen_world messages core0 peers) entry (seen_peer messages c.before) short fault (map-get (seen_peer messages) peers entry c.before c.there) s.fault;
      same = seen_same messages core0 peers entry c.before c.after c.there s.same;
      kept = take_kept messages core0 peers entry c.before c.after short (Err fault) k c.there s;
    }

pub take_ready : {C Piece : Type 0} (messages : C → List Message) (core0 : LoggedCore0) (peers : List (Peer C Piece)) (entry : ℕ) → WorldIsKept messages core0 peers → (p : Peer C Piece) → slice_get peers entry ≡ Some p → ReadyToTake messages p
take_ready messages core0 peers entry k p at = record { between = (k.peers_kept entry p at).between; awaits = awaits_oldest messages core0 peers entry p k at }

-- What a call tells

pub told_no_memory : (r : Result Answer WorldFault) (P : WorldFault → Type 0) → IsErrAnd r (λ fault. fault ≡ NoMemory) → P NoMemory → IfErr r P
told_no_memory (Ok answer) P h p = tt
told_no_memory (Err fault) P h p = subst P (sym h) p

pub told_err : (r : Result Answer WorldFault) (P : WorldFault → Type 0) (Q : Answer → Type 0) → IsErrAnd r P → IfOk r Q
told_err (Ok answer) P Q h = absurd h
told_err (Err fault) P Q h = tt

pub done_as : (r : Result Answer WorldFault) (P Q : Answer → Type 0) → ((answer : Answer) → P answer → Q answer) → IfOk r P → IfOk r Q
done_as (Ok answer) P Q as' h = as' answer h
done_as (Err fault) P Q as' h = tt

pub told_as : (r : Result Answer WorldFault) (P Q : WorldFault → Type 0) → ((fault : WorldFault) → P fault → Q fault) → IfErr r P → IfErr r Q
told_as (Ok answer) P Q as' h = tt
told_as (Err fault) P Q as' h = as' fault h

-- Core 0's takes

-- what the core with an entry answers of its oldest message
pub first_at : {C Piece E : Type 0} (messages : C → List Message) (peers : List (Peer C Piece)) (entry : ℕ) (d : Peer C Piece) → entry < length peers → (r : Result (Option Message) E)
    → IfOk r (λ message. message ≡ first_of (messages (slice_index_or peers entry d).up)) → IfOk r (λ message. option_map (λ (p : Peer C Piece). first_of (messages p.up)) (slice_get peers entry) ≡ Some message)
first_at {C} {Piece} messages peers entry d inside (Ok message) h = ap (option_map (λ (p : Peer C Piece). first_of (messages p.up))) (slice_get-get_or peers entry d inside) ∙ ap (λ (o : Option Message). Some o) (sym h)
first_at messages peers entry d inside (Err fault) h = tt

pub some_at : {C Piece E : Type 0} (messages : C → List Message) (peers : List (Peer C Piece)) (entry : ℕ) (d : Peer C Piece) → entry < length peers → (r : Result (Option Message) E)
    → OnErr r (messages (slice_index_or peers entry d).up ≢ []) → OnErr r (option_map (λ (p : Peer C Piece). messages p.up) (slice_get peers entry) ≢ Some [])
some_at messages peers entry d inside (Ok message) h = tt
some_at {C} {Piece} messages peers entry d inside (Err fault) h = λ none. h (let x = ap (option_map (λ (p : Peer C Piece). messages p.up)) (slice_get-get_or peers entry d inside) in cc)

-- the messages to core 0
channel_up : {C Piece : Type 0} (messages : C → List Message) (core0 : LoggedCore0) (peers : List (Peer C Piece)) (core entry : ℕ) (p : Peer C Piece) → core ≡ suc entry → slice_get peers entry ≡ Some p → channel (seen_world messages core0 peers) 0 core ≡ Some (messages p.up)
channel_up messages core0 peers core entry p e at = rw e (ap (option_map (λ (x : worlds.Peer). x.up)) (map-get (seen_peer messages) peers entry p at))

none_first : (ms : List Message) → first_of ms ≡ None → ms ≡ []
none_first [] e = refl
none_first (m ∷ ms) e = absurd cc

pub up_oldest : {C Piece : Type 0} (messages : C → List Message) (core0 : LoggedCore0) (peers : List (Peer C Piece)) (core entry : ℕ) (m : Message) → core ≡ suc entry → entry < length peers → option_map (λ (p : Peer C Piece). first_of (messages p.up)) (slice_get peers entry) ≡ Some (Some m)
    → option_and_then first_of (channel (seen_world messages core0 peers) 0 core) ≡ Some m
up_oldest {C} {Piece} messages core0 peers core entry m e inside first =
    let p = get_at peers entry inside in
    let f : first_of (messages p.0.up) ≡ Some m = (let x = first in let y = ap (option_map (λ (q : Peer C Piece). first_of (messages q.up))) p.1 in cc) in
    rw (channel_up messages core0 peers core entry p.0 e p.1) f

pub up_nothing : {C Piece : Type 0} (messages : C → List Message) (core0 : LoggedCore0) (peers : List (Peer C Piece)) (core entry : ℕ) → core ≡ suc entry → entry < length peers → option_map (λ (p : Peer C Piece). first_of (messages p.up)) (slice_get peers entry) ≡ Some None
    → channel (seen_world messages core0 peers) 0 core ≡ Some []
up_nothing {C} {Piece} messages core0 peers core entry e inside first =
    let p = get_at peers entry inside in
    let f : first_of (messages p.0.up) ≡ None = (let x = first in let y = ap (option_map (λ (q : Peer C Piece). first_of (messages q.up))) p.1 in cc) in
    channel_up messages core0 peers core entry p.0 e p.1 ∙ ap (λ (ms : List Message). Some ms) (none_first (messages p.0.up) f)

up_refuses : (w : worlds.World) (core : ℕ) (short : Bool) (ms : List Message) → channel w 0 core ≡ Some ms → ms ≢ [] → WorldRefuses w (Take 0 core short) NoMemory
up_refuses w core short ms there some NoSuchCore h = cc (there, h)
up_refuses w core short ms there some Nothing h = some (let x = there in let y = h in cc)
up_refuses w core short ms there some Outstanding h = h
up_refuses w core short ms there some NotReady h = h
up_refuses w core short ms there some NotIdle h = h
up_refuses w core short ms there some Spent h = h
up_refuses w core short ms there some NoneWaiting h = h
up_refuses w core short ms there some NoMemory h = h

pub up_no_memory : {C Piece : Type 0} (messages : C → List Message) (core0 : LoggedCore0) (peers : List (Peer C Piece)) (core entry : ℕ) (short : Bool) → core ≡ suc entry → entry < length peers → option_map (λ (p : Peer C Piece). messages p.up) (slice_get peers entry) ≢ Some []
    → WorldRefuses (seen_world messages core0 peers) (Take 0 core short) NoMemory
up_no_memory {C} {Piece} messages core0 peers core entry short e inside some =
    let p = get_at peers entry inside in
    up_refuses (seen_world messages core0 peers) core short (messages p.0.up) (channel_up messages core0 peers core entry p.0 e p.1)
    (λ none. some (ap (option_map (λ (q : Peer C Piece). messages q.up)) p.1 ∙ ap (λ (ms : List Message). Some ms) none))

-- a message that core 0 has no memory to take
pub heard_no_memory : (w : worlds.World) (core : ℕ) (m : Message) (short : Bool) → option_and_then first_of (channel w 0 core) ≡ Some m → WorldRefuses w (Take 0 core short) NoMemory
heard_no_memory w core m short first = by_channel (channel w 0 core) refl
  where
    by_channel : (o : Option (List Message)) → channel w 0 core ≡ o → WorldRefuses w (Take 0 core short) NoMemory
    by_channel None e = absurd (let x = rw e at first in cc)
    by_channel (Some []) e = absurd (let x = rw e at first in cc)
    by_channel (Some (n ∷ ms)) e = up_refuses w core short (n ∷ ms) e (λ x. cc)

-- A Start

pub start_no_memory : (w : worlds.World) (op : Op) → w.place.phase ≡ Idle → w.place.last ≢ 18446744073709551615 → WorldRefuses w (Start op) NoMemory
start_no_memory w op idle unspent NotIdle s = s idle
start_no_memory w op idle unspent Spent s = unspent (s.1)
start_no_memory w op idle unspent NoSuchCore s = s
start_no_memory w op idle unspent Nothing s = s
start_no_memory w op idle unspent NotReady s = s
start_no_memory w op idle unspent Outstanding s = s
start_no_memory w op idle unspent NoneWaiting s = s
start_no_memory w op idle unspent NoMemory s = s

-- A StartFor

pub start_for_refuses : (w : worlds.World) (core : ℕ) (fault : WorldFault) → channel w 0 core ≢ None → w.place.phase ≡ Idle → w.place.last ≢ 18446744073709551615 → StartForRefuses w core fault → WorldRefuses w (StartFor core) fault
start_for_refuses w core NoneWaiting there idle unspent h = (there, idle, unspent, h)
start_for_refuses w core NoMemory there idle unspent h = none
  where
    none : (fault : WorldFault) → StandsFirst w (StartFor core) fault → ⊥
    none NoSuchCore s = there s
    none NotIdle s = s.1 idle
    none Spent s = unspent (s.2)
    none NoneWaiting s = h (s.3)
    none Nothing s = s
    none NotReady s = s
    none Outstanding s = s
    none NoMemory s = s
start_for_refuses w core fault there idle unspent h = absurd h

pub no_channel : {C Piece : Type 0} (messages : C → List Message) (core0 : LoggedCore0) (peers : List (Peer C Piece)) (core : ℕ) → length peers < core → channel (seen_world messages core0 peers) 0 core ≡ None
no_channel messages core0 peers zero few = refl
no_channel messages core0 peers (suc entry) few = ap (option_map (λ (p : worlds.Peer). p.up)) (no_core messages peers entry (slice_get_past peers entry (omega (arith, few))))

pub no_channel_down : {C Piece : Type 0} (messages : C → List Message) (core0 : LoggedCore0) (peers : List (Peer C Piece)) (core : ℕ) → length peers < core → channel (seen_world messages core0 peers) core 0 ≡ None
no_channel_down messages core0 peers zero few = refl
no_channel_down messages core0 peers (suc entry) few = ap (option_map (λ (p : worlds.Peer). p.down)) (no_core messages peers entry (slice_get_past peers entry (omega (arith, few))))

pub has_channel : {C Piece : Type 0} (messages : C → List Message) (core0 : LoggedCore0) (peers : List (Peer C Piece)) (core entry : ℕ) → core ≡ suc entry → entry < length peers → channel (seen_world messages core0 peers) 0 core ≢ None
has_channel messages core0 peers core entry e inside none =
    let p = get_at peers entry inside in
    let there = channel_up messages core0 peers core entry p.0 e p.1 in
    cc (there, none)
