-- What core 0 meets, as the world shows it.
use Rattle.std.proofs.Common.{◌≡◌, ◌∙◌, ◌∷◌, ℕ, zero, suc, Option, None, Some, List, drop, map, slice_get, refl, ap, sym, subst}
use Rattle.std.specs.Prelude.{option_map, option_and_then}
use Rattle.monitor_messages.specs.declared.message.Message.{Message}
use Rattle.world_core.specs.Channels.{first_of}
use Rattle.world_model.specs.Agreement.{Expects}
use Rattle.world_model.specs.Worlds as worlds
use Rattle.world_model.proofs.Lists.{get_map}
use Rattle.world_model.proofs.RunLaws.{run_no_stranger}
use Rattle.core_steps.specs.Core0Steps.{core0_place}
use Rattle.world_core.specs.declared.core0.LoggedCore0.{LoggedCore0}
use Rattle.world_core.specs.declared.peer.Peer.{Peer}
use Rattle.world_model.specs.Refusals.{channel}
use Rattle.world_core.specs.Keeping.{seen_peer, seen_world, WorldIsKept, GivesUp}
use Rattle.world_core.proofs.Keeping.{first_rest}
use Rattle.filter_table.proofs.Lists.{map-get}

-- The oldest message to core 0

-- the core that it is from, and the messages after it
pub record Oldest {C Piece : Type 0} (messages : C → List Message) (peers : List (Peer C Piece)) (core : ℕ) (m : Message) : Type 0 where
  pub entry : ℕ
  pub is_core : core ≡ suc entry
  pub peer : Peer C Piece
  pub there : slice_get peers entry ≡ Some peer
  pub rest : List Message
  pub oldest : messages peer.up ≡ m ∷ rest
  pub dropped : drop 1 (messages peer.up) ≡ rest

up_of : {C Piece : Type 0} (messages : C → List Message) (peers : List (Peer C Piece)) (entry : ℕ) (m : Message) (o : Option worlds.Peer) → slice_get (map (seen_peer messages) peers) entry ≡ o
    → option_and_then first_of (option_map (λ (p : worlds.Peer). p.up) o) ≡ Some m → Oldest messages peers (suc entry) m
up_of messages peers entry m None at e = absurd cc
up_of messages peers entry m (Some p) at e =
    let q = get_map (seen_peer messages) peers entry p at in
    let up : messages q.0.up ≡ p.up = ap (λ (x : worlds.Peer). x.up) (sym q.2) in
    let r = first_rest (messages q.0.up) m (ap first_of up ∙ e) in
    record { entry = entry; is_core = refl; peer = q.0; there = q.1; rest = r.0; oldest = r.1; dropped = r.2 }

pub oldest_up : {C Piece : Type 0} (messages : C → List Message) (core0 : LoggedCore0) (peers : List (Peer C Piece)) (w : worlds.World) (core : ℕ) (m : Message) → seen_world messages core0 peers ≡ w → option_and_then first_of (channel w 0 core) ≡ Some m → Oldest messages peers core m
oldest_up messages core0 peers w zero m view e = absurd cc
oldest_up messages core0 peers w (suc entry) m view e =
    up_of messages peers entry m (slice_get (map (seen_peer messages) peers) entry) refl (subst (λ (x : worlds.World). option_and_then first_of (channel x 0 (suc entry)) ≡ Some m) (sym view) e)

-- core 0 waits for it
pub expects_up : {C Piece : Type 0} (messages : C → List Message) (core0 : LoggedCore0) (peers : List (Peer C Piece)) (core : ℕ) (m : Message) → WorldIsKept messages core0 peers → (o : Oldest messages peers core m) → Expects (core0_place core0.core) core0.core.coordinator.requests o.entry m
expects_up messages core0 peers core m k o =
    (run_no_stranger k.limits k.budget k.budgets k.events (seen_world messages core0 peers) k.run).up o.entry (seen_peer messages o.peer) m o.rest (map-get (seen_peer messages) peers o.entry o.peer o.there) o.oldest

pub seen_gives_up : {C Piece : Type 0} (messages : C → List Message) (p p' : Peer C Piece) (rest : List Message) → GivesUp messages p p' → drop 1 (messages p.up) ≡ rest → seen_peer messages p' ≡ record (seen_peer messages p) { up = rest }
seen_gives_up messages p p' rest g d = rw (g.core, g.down, g.up, d) refl
