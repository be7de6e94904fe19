-- What an event of core 0 leaves of the other cores, and of the world.
use Rattle.std.specs.declared.alloc.Global.{Global}
use Rattle.std.specs.declared.vec.Vec.{Vec}
use Rattle.std.proofs.Common.{◌≡◌, ◌∙◌, ◌++◌, ◌∷◌, ◌<◌, ◌≤◌, ◌⊎◌, inl, inr, All, ℕ, suc, Bool, Option, None, Some, List, [], length, map, slice_get, refl, ap, sym, subst, arith, false}
use Rattle.filter_table.specs.Limits.{TableLimits}
use Rattle.filter_table.specs.declared.operation.Op.{Op}
use Rattle.filter_table.specs.Tables.{TableState, table}
use Rattle.filter_table.proofs.Tables.{table_front}
use Rattle.monitor_messages.specs.declared.message.Message.{Message}
use Rattle.two_phase.specs.declared.step.Step.{Step}
use Rattle.world_events.specs.declared.event.Event.{Event}
use Rattle.world_events.specs.declared.event.Event.TheVariants.{Take}
use Rattle.world_events.specs.declared.event.Answer.{Answer}
use Rattle.world_model.specs.Cases.{Outgoing, nothing, to_all, to_one, outgoing, joined, raised, TakesUpAt}
use Rattle.world_model.specs.Worlds as worlds
use Rattle.world_model.proofs.Lists.{length-slice_set}
use Rattle.world_model.proofs.Runs.{runs_more}
use Rattle.world_model.proofs.Agreement.{run_inv}
use Rattle.world_core.specs.declared.core0.LoggedCore0.{LoggedCore0}
use Rattle.world_core.specs.declared.peer.Peer.{Peer}
use Rattle.world_core.specs.Keeping.{seen_peer, seen_world, CoreIsKept, WorldIsKept, EachMatches, ChangesOne, IsSent, GivesUp, HasRoom, RoomAt, RoomFrom}
use Rattle.world_core.specs.LoggedCore0s.{Core0Moves}
use Rattle.world_core.specs.Sending.{IsMade, HasRoomFor, SentOut}
use Rattle.world_core.specs.declared.sending.Ready.{Ready}
use Rattle.world_core.specs.declared.sending.Ready.TheVariants.{Nothing, ToAll, ToOne}
use Rattle.core_steps.specs.declared.other_core.OtherCore.{OtherCore}
use Rattle.core_steps.specs.Core0Steps.{core0_place}
use Rattle.core_steps.proofs.Taking.{version_commit}
use Rattle.world_core.proofs.Keeping.{limits_commit}
use Rattle.world_core.proofs.PeerKeeping.{map-slice_set}
use Rattle.world_core.proofs.Core0Keeping.{Oldest, seen_gives_up}
use Rattle.world_core.proofs.Carried.{set_at, sent_seen}
use Rattle.world_core.proofs.WorldKeeping.{no_core}
use Rattle.std.proofs.lemmas.Option.{slice_get_within, slice_get_past}
use Rattle.filter_table.proofs.Lists.{map-get}
use Rattle.filter_table.proofs.Positions.{get_at}

-- Lists that match at each place

pub matches_self : {P : Type 0} (R : P → P → Type 0) (xs : List P) → ((p : P) → R p p) → EachMatches R xs xs
matches_self R xs self = (refl, λ k p p' a b. (let e : p ≡ p' = cc in subst (λ q. R p q) e (self p)))

pub matches_then : {P : Type 0} (R : P → P → Type 0) (xs ys zs : List P) → ((p q r : P) → R p q → R q r → R p r) → EachMatches R xs ys → EachMatches R ys zs → EachMatches R xs zs
matches_then R xs ys zs both a b = (
  b.0 ∙ a.0,
  λ k p r at at'.
      let q = get_at ys k (omega (arith, b.0, slice_get_within zs k r at')) in
      both p q.0 r (a.1 k p q.0 at q.1) (b.1 k q.0 r q.1 at'),
)

matches_as : {P : Type 0} (R S : P → P → Type 0) (xs ys : List P) → ((p q : P) → R p q → S p q) → EachMatches R xs ys → EachMatches S xs ys
matches_as R S xs ys as' m = (m.0, λ k p q a b. as' p q (m.1 k p q a b))

matches_one : {P : Type 0} (R S : P → P → Type 0) (xs ys : List P) (i : ℕ) → ((p : P) → S p p) → ((p q : P) → R p q → S p q) → ChangesOne xs i ys R → EachMatches S xs ys
matches_one {P} R S xs ys i self as' c = rw c.changed (length-slice_set xs i c.after, λ k p q a b. by_place k p q a (set_at xs i k c.after q (slice_get_within xs i c.before c.there) b))
  where
    by_place : (k : ℕ) (p q : P) → slice_get xs k ≡ Some p → (((i ≡ k) × (q ≡ c.after)) ⊎ ((i ≡ k → ⊥) × (slice_get xs k ≡ Some q))) → S p q
    by_place k p q a (inl e) =
        let there : slice_get xs k ≡ Some c.before = subst (λ (n : ℕ). slice_get xs n ≡ Some c.before) e.0 c.there in
        let before : c.before ≡ p = cc in
        rw (e.1, ← before) (as' c.before c.after c.related)
    by_place k p q a (inr e) = let same : p ≡ q = (let x = e.1 in cc) in rw (← same) (self p)

-- the core stays as it is, whatever its channels have
pub record Alike {C Piece : Type 0} (p p' : Peer C Piece) : Type 0 where
  pub core : p'.core ≡ p.core

alike_self : {C Piece : Type 0} (p : Peer C Piece) → Alike p p
alike_self p = record { core = refl }

alike_then : {C Piece : Type 0} (p q r : Peer C Piece) → Alike p q → Alike q r → Alike p r
alike_then p q r a b = record { core = b.core ∙ a.core }

pub alike_given : {C Piece : Type 0} (messages : C → List Message) (peers peers' : List (Peer C Piece)) (i : ℕ) → ChangesOne peers i peers' (GivesUp messages) → EachMatches Alike peers peers'
alike_given messages peers peers' i c = matches_one (GivesUp messages) Alike peers peers' i alike_self (λ p q g. record { core = g.core }) c

pub alike_sent : {C Piece : Type 0} (messages : C → List Message) (peers peers' : List (Peer C Piece)) (out : Outgoing) → SentOut messages peers out peers' → EachMatches Alike peers peers'
alike_sent messages peers peers' nothing s = rw s (matches_self Alike peers alike_self)
alike_sent messages peers peers' (to_all m) s = matches_as (IsSent messages m) Alike peers peers' (λ p q g. record { core = g.core }) s
alike_sent messages peers peers' (to_one entry m) (inl c) = matches_one (IsSent messages m) Alike peers peers' entry alike_self (λ p q g. record { core = g.core }) c
alike_sent messages peers peers' (to_one entry m) (inr s) = rw (s.1) (matches_self Alike peers alike_self)

pub alike_both : {C Piece : Type 0} (peers mid peers' : List (Peer C Piece)) → EachMatches Alike peers mid → EachMatches Alike mid peers' → EachMatches Alike peers peers'
alike_both peers mid peers' a b = matches_then Alike peers mid peers' alike_then a b

-- What is sent shows

sent_one_seen : {C Piece : Type 0} (messages : C → List Message) (m : Message) (peers peers' : List (Peer C Piece)) (entry : ℕ) → ChangesOne peers entry peers' (IsSent messages m)
    → map (seen_peer messages) peers' ≡ worlds.sent_to_one (map (seen_peer messages) peers) entry m (slice_get (map (seen_peer messages) peers) entry)
sent_one_seen messages m peers peers' entry c =
    let there = map-get (seen_peer messages) peers entry c.before c.there in
    let r = c.related in
    rw (c.changed, map-slice_set (seen_peer messages) peers entry c.after, there, r.core, r.down, r.up) refl

sent_out_seen : {C Piece : Type 0} (messages : C → List Message) (peers peers' : List (Peer C Piece)) (out : Outgoing) → SentOut messages peers out peers' → map (seen_peer messages) peers' ≡ worlds.sent_out (map (seen_peer messages) peers) out
sent_out_seen messages peers peers' nothing s = ap (map (seen_peer messages)) s
sent_out_seen messages peers peers' (to_all m) s = sent_seen messages m peers peers' s
sent_out_seen messages peers peers' (to_one entry m) (inl c) = sent_one_seen messages m peers peers' entry c
sent_out_seen messages peers peers' (to_one entry m) (inr s) = rw (s.1, no_core messages peers entry (s.0)) refl

-- the world after core 0 has moved and sent
pub moved_seen : {C Piece : Type 0} (messages : C → List Message) (core0 core0' : LoggedCore0) (peers peers' : List (Peer C Piece)) (committed : Option Op) (out : Outgoing) → Core0Moves core0 committed core0' → SentOut messages peers out peers'
    → seen_world messages core0' peers' ≡ worlds.core0_moves (seen_world messages core0 peers) (core0_place core0'.core) core0'.core.coordinator.requests committed out
moved_seen messages core0 core0' peers peers' committed out h sent =
    let version : core0'.core.replica.shown.version ≡ raised core0.core.replica.shown.version committed = ap (λ (s : TableState). s.version) h.moves.shown_next ∙ version_commit core0.core.replica.shown committed in
    rw (limits_commit core0.core.replica.shown core0'.core.replica.shown committed h.moves.shown_next, h.log_next, h.moves.same_budget, version, sent_out_seen messages peers peers' out sent) refl

-- The world is kept

core_moved : (limits : TableLimits) (log : List Op) (committed : Option Op) (core core' : OtherCore) → core.replica.shown.version ≤ length log → core' ≡ core → CoreIsKept limits log core → CoreIsKept limits (joined log committed) core'
core_moved limits log committed core core' le same k = subst (λ (c : OtherCore). CoreIsKept limits (joined log committed) c) (sym same) (record { shown = k.shown ∙ sym (front committed); between = k.between })
  where
    front : (o : Option Op) → table limits (joined log o) core.replica.shown.version ≡ table limits log core.replica.shown.version
    front None = refl
    front (Some op) = table_front limits log (op ∷ []) core.replica.shown.version le

pub moved_kept : {C Piece : Type 0} (messages : C → List Message) (core0 core0' : LoggedCore0) (peers peers' : List (Peer C Piece)) (committed : Option Op) (event : Event) (answer : Answer) → WorldIsKept messages core0 peers → Core0Moves core0 committed core0' → EachMatches Alike peers peers'
    → worlds.Happens (seen_world messages core0 peers) event (seen_world messages core0' peers') answer → WorldIsKept messages core0' peers'
moved_kept messages core0 core0' peers peers' committed event answer k h m happens = record {
  core0_kept = h.kept;
  others = h.moves.same_others ∙ (k.others ∙ sym (m.0));
  peers_kept = λ i p at.
      let old = get_at peers i (omega (arith, m.0, slice_get_within peers' i p at)) in
      let within = (run_inv k.limits k.budget k.budgets k.events (seen_world messages core0 peers) k.run).within i (seen_peer messages old.0) (map-get (seen_peer messages) peers i old.0 old.1) in
      rw (limits_commit core0.core.replica.shown core0'.core.replica.shown committed h.moves.shown_next, h.log_next) (core_moved core0.core.replica.shown.limits core0.log.items committed old.0.core p.core within.not_ahead (m.1 i old.0 p old.1 at).core (k.peers_kept i old.0 old.1));
  few = rw (m.0) k.few;
  limits = k.limits;
  budget = k.budget;
  budgets = k.budgets;
  events = k.events ++ record { event = event; answer = answer } ∷ [];
  run = runs_more _ (seen_world messages core0 peers) (seen_world messages core0' peers') k.events (record { event = event; answer = answer }) k.run happens;
}

-- Core 0 takes a message

seen_gave : {C Piece : Type 0} (messages : C → List Message) (core0 : LoggedCore0) (peers mid : List (Peer C Piece)) (core entry : ℕ) (m : Message) → (o : Oldest messages peers core m) → entry ≡ o.entry → ChangesOne peers entry mid (GivesUp messages)
    → seen_world messages core0 mid ≡ worlds.gave (seen_world messages core0 peers) o.entry (seen_peer messages o.peer) o.rest
seen_gave messages core0 peers mid core entry m o same c =
    let there : slice_get peers o.entry ≡ Some c.before = subst (λ (n : ℕ). slice_get peers n ≡ Some c.before) same c.there in
    let before : c.before ≡ o.peer = (let x = there in let y = o.there in cc) in
    let gives : GivesUp messages o.peer c.after = rw (← before) c.related in
    rw (c.changed, same, map-slice_set (seen_peer messages) peers o.entry c.after, seen_gives_up messages o.peer c.after o.rest gives o.dropped) refl

-- core 0 has taken the oldest message of the core
pub record UpDone {C Piece : Type 0} (messages : C → List Message) (core0' : LoggedCore0) (peers' : List (Peer C Piece)) (w : worlds.World) (core : ℕ) (answer : Answer) : Type 0 where
  pub happens : (short : Bool) → worlds.Happens w (Take 0 core short) (seen_world messages core0' peers') answer
  pub kept : WorldIsKept messages core0' peers'

pub up_done : {C Piece : Type 0} (messages : C → List Message) (core0 core0' : LoggedCore0) (peers mid peers' : List (Peer C Piece)) (w : worlds.World) (core entry : ℕ) (m : Message) (committed : Option Op) (told : Step) (answer : Answer) → WorldIsKept messages core0 peers
    → seen_world messages core0 peers ≡ w → (o : Oldest messages peers core m) → entry ≡ o.entry → Core0Moves core0 committed core0' → ChangesOne peers entry mid (GivesUp messages) → SentOut messages mid (outgoing told (core0_place core0'.core)) peers'
    → TakesUpAt core0.core.replica.shown (core0_place core0.core) core0.core.coordinator.requests o.entry m (core0_place core0'.core) core0'.core.coordinator.requests committed told answer → UpDone messages core0' peers' w core answer
up_done messages core0 core0' peers mid peers' w core entry m committed told answer k view o same h gives sent here =
    let happens : (short : Bool) → worlds.Happens (seen_world messages core0 peers) (Take 0 (suc o.entry) short) (seen_world messages core0' peers') answer = λ short. record {
      peer = seen_peer messages o.peer;
      is_peer = map-get (seen_peer messages) peers o.entry o.peer o.there;
      m = m;
      rest = o.rest;
      oldest = o.oldest;
      place = core0_place core0'.core;
      requests = core0'.core.coordinator.requests;
      committed = committed;
      told = told;
      here = subst (λ (s : TableState). TakesUpAt s (core0_place core0.core) core0.core.coordinator.requests o.entry m (core0_place core0'.core) core0'.core.coordinator.requests committed told answer) k.core0_kept.shown here;
      next = moved_seen messages core0 core0' mid peers' committed (outgoing told (core0_place core0'.core)) h sent
          ∙ ap (λ (x : worlds.World). worlds.core0_moves x (core0_place core0'.core) core0'.core.coordinator.requests committed (outgoing told (core0_place core0'.core))) (seen_gave messages core0 peers mid core entry m o same gives);
    } in
    record {
      happens = λ short. rw (o.is_core, ← view) (happens short);
      kept = moved_kept messages core0 core0' peers peers' committed (Take 0 (suc o.entry) false) answer k h (alike_both peers mid peers' (alike_given messages peers mid entry gives) (alike_sent messages mid peers' (outgoing told (core0_place core0'.core)) sent)) (happens false);
    }

-- a core that gave up a message can still be sent one
pub room_given : {C Piece : Type 0} (spare : C → ℕ) (messages : C → List Message) (peers mid : List (Peer C Piece)) (i : ℕ) → ChangesOne peers i mid (GivesUp messages) → RoomFrom spare peers 0 → RoomFrom spare mid 0
room_given {C} {Piece} spare messages peers mid i c room k p le at = by_place (set_at peers i k c.after p (slice_get_within peers i c.before c.there) (subst (λ (ps : List (Peer C Piece)). slice_get ps k ≡ Some p) c.changed at))
  where
    by_place : (((i ≡ k) × (p ≡ c.after)) ⊎ ((i ≡ k → ⊥) × (slice_get peers k ≡ Some p))) → HasRoom spare p
    by_place (inl e) =
        let before : HasRoom spare c.before = room i c.before (omega arith) c.there in
        rw (e.1, c.related.down) before
    by_place (inr e) = room k p le (e.1)

pub room_at_given : {C Piece : Type 0} (spare : C → ℕ) (messages : C → List Message) (peers mid : List (Peer C Piece)) (i entry : ℕ) → ChangesOne peers i mid (GivesUp messages) → RoomAt spare peers entry → RoomAt spare mid entry
room_at_given {C} {Piece} spare messages peers mid i entry c room p at = by_place (set_at peers i entry c.after p (slice_get_within peers i c.before c.there) (subst (λ (ps : List (Peer C Piece)). slice_get ps entry ≡ Some p) c.changed at))
  where
    by_place : (((i ≡ entry) × (p ≡ c.after)) ⊎ ((i ≡ entry → ⊥) × (slice_get peers entry ≡ Some p))) → HasRoom spare p
    by_place (inl e) =
        let before : HasRoom spare c.before = room c.before (subst (λ (n : ℕ). slice_get peers n ≡ Some c.before) e.0 c.there) in
        rw (e.1, c.related.down) before
    by_place (inr e) = room p (e.1)

-- what is ready can still be put, and was made for the same
pub ready_given : {C Piece : Type 0} (spare : C → ℕ) (messages : C → List Message) (peers mid : List (Peer C Piece)) (i : ℕ) (ready : Ready Piece) → ChangesOne peers i mid (GivesUp messages) → HasRoomFor spare peers ready → HasRoomFor spare mid ready
ready_given spare messages peers mid i Nothing c room = tt
ready_given spare messages peers mid i (ToAll pieces) c room = (room_given spare messages peers mid i c room.0, room.1 ∙ sym (ap length c.changed ∙ length-slice_set peers i c.after))
ready_given spare messages peers mid i (ToOne entry piece) c room = (omega (arith, room.0, ap length c.changed, length-slice_set peers i c.after), room_at_given spare messages peers mid i entry c room.1)

pub made_given : {C Piece : Type 0} (made : Piece → Message) (peers mid : List (Peer C Piece)) (out : Outgoing) (ready : Ready Piece) → length mid ≡ length peers → IsMade made peers out ready → IsMade made mid out ready
made_given made peers mid nothing Nothing long h = tt
made_given made peers mid (to_all m) (ToAll pieces) long h = (h.0, h.1 ∙ sym long)
made_given made peers mid (to_one entry m) (ToOne place piece) long h = (h.0, h.1, rw long h.2)
made_given made peers mid (to_one entry m) Nothing long h = rw long h
made_given made peers mid nothing (ToAll pieces) long h = absurd h
made_given made peers mid nothing (ToOne place piece) long h = absurd h
made_given made peers mid (to_all m) Nothing long h = absurd h
made_given made peers mid (to_all m) (ToOne place piece) long h = absurd h
made_given made peers mid (to_one entry m) (ToAll pieces) long h = absurd h

pub sent_to_none : {C Piece : Type 0} (made : Piece → Message) (messages : C → List Message) (peers : List (Peer C Piece)) (out : Outgoing) (ready : Ready Piece) → ready ≡ Nothing → IsMade made peers out ready → SentOut messages peers out peers
sent_to_none made messages peers nothing ready is h = refl
sent_to_none made messages peers (to_all m) ready is h = absurd (rw is at h)
sent_to_none made messages peers (to_one entry m) ready is h = let few = rw is at h in inr (slice_get_past peers entry few, refl)

pub sent_to_one : {C Piece : Type 0} (made : Piece → Message) (messages : C → List Message) (peers peers' : List (Peer C Piece)) (out : Outgoing) (ready : Ready Piece) (place : ℕ) (piece : Piece) → ready ≡ ToOne place piece
    → ChangesOne peers place peers' (IsSent messages (made piece)) → IsMade made peers out ready → SentOut messages peers out peers'
sent_to_one made messages peers peers' nothing ready place piece is put h = absurd (rw is at h)
sent_to_one made messages peers peers' (to_all m) ready place piece is put h = absurd (rw is at h)
sent_to_one {C} {Piece} made messages peers peers' (to_one entry m) ready place piece is put h =
    let x = rw is at h in
    let here = subst (λ (n : ℕ). ChangesOne peers n peers' (IsSent messages (made piece))) x.0 put in
    inl (subst (λ (s : Message). ChangesOne peers entry peers' (IsSent messages s)) x.1 here)

pub room_to_all : {C Piece : Type 0} (spare : C → ℕ) (peers : List (Peer C Piece)) (ready : Ready Piece) (pieces : Vec Piece Global) → ready ≡ ToAll pieces → HasRoomFor spare peers ready → RoomFrom spare peers 0 × (length pieces.items ≡ length peers)
room_to_all spare peers ready pieces is room = rw is at room

pub room_to_one : {C Piece : Type 0} (spare : C → ℕ) (peers : List (Peer C Piece)) (ready : Ready Piece) (place : ℕ) (piece : Piece) → ready ≡ ToOne place piece → HasRoomFor spare peers ready → (place < length peers) × RoomAt spare peers place
room_to_one spare peers ready place piece is room = rw is at room

pub sent_to_all : {C Piece : Type 0} (made : Piece → Message) (messages : C → List Message) (peers peers' : List (Peer C Piece)) (out : Outgoing) (ready : Ready Piece) (pieces : Vec Piece Global) → ready ≡ ToAll pieces
    → ((m : Message) → All (λ piece. made piece ≡ m) pieces.items → EachMatches (IsSent messages m) peers peers') → IsMade made peers out ready → SentOut messages peers out peers'
sent_to_all made messages peers peers' nothing ready pieces is put h = absurd (rw is at h)
sent_to_all made messages peers peers' (to_all m) ready pieces is put h = let x = rw is at h in put m x.0
sent_to_all made messages peers peers' (to_one entry m) ready pieces is put h = absurd (rw is at h)
