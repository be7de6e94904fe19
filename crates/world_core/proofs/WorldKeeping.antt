-- The world that is kept is the one that is shown.
use Rattle.std.proofs.Common.{◌≡◌, ◌∙◌, ◌∷◌, ℕ, zero, suc, None, Some, List, [], map, slice_get, refl, ap, sym}
use Rattle.std.specs.Prelude.{option_map}
use Rattle.filter_table.specs.Tables.{table}
use Rattle.monitor_messages.specs.declared.message.Message.{Message}
use Rattle.world_core.specs.declared.core0.LoggedCore0.{LoggedCore0}
use Rattle.world_core.specs.declared.peer.Peer.{Peer}
use Rattle.world_model.specs.Worlds as worlds
use Rattle.world_model.specs.Agreement.{Agrees}
use Rattle.world_core.specs.Keeping.{seen_peer, seen_world, WorldIsKept}
use Rattle.world_core.specs.Shown.{ShowsReplica}
use Rattle.world_model.proofs.RunLaws.{run_agrees}
use Rattle.filter_table.proofs.Lists.{map-get}

agreed : {C Piece : Type 0} (messages : C → List Message) (core0 : LoggedCore0) (peers : List (Peer C Piece)) → (k : WorldIsKept messages core0 peers) → Agrees k.limits k.budget k.budgets (seen_world messages core0 peers)
agreed messages core0 peers k = run_agrees k.limits k.budget k.budgets k.events (seen_world messages core0 peers) k.run

pub core0_shows : {C Piece : Type 0} (messages : C → List Message) (core0 : LoggedCore0) (peers : List (Peer C Piece)) → WorldIsKept messages core0 peers → ShowsReplica (seen_world messages core0 peers) 0 core0.core.replica
core0_shows messages core0 peers k = record {
  version = core0.core.replica.shown.version;
  is_version = refl;
  numbered = refl;
  shown = k.core0_kept.shown ∙ ap (table core0.core.replica.shown.limits core0.log.items) (sym (agreed messages core0 peers k).core0);
  is_budget = refl;
  is_staged = refl;
}

pub peer_shows : {C Piece : Type 0} (messages : C → List Message) (core0 : LoggedCore0) (peers : List (Peer C Piece)) (i : ℕ) (p : Peer C Piece) → WorldIsKept messages core0 peers → slice_get peers i ≡ Some p → ShowsReplica (seen_world messages core0 peers) (suc i) p.core.replica
peer_shows messages core0 peers i p k at =
    let there = map-get (seen_peer messages) peers i p at in
    record {
      version = p.core.replica.shown.version;
      is_version = ap (option_map (λ (x : worlds.Peer). x.version)) there;
      numbered = refl;
      shown = (k.peers_kept i p at).shown;
      is_budget = ap (option_map (λ (x : worlds.Peer). x.budget)) there;
      is_staged = ap (option_map (λ (x : worlds.Peer). x.place.staged)) there;
    }

pub no_core : {C Piece : Type 0} (messages : C → List Message) (peers : List (Peer C Piece)) (i : ℕ) → slice_get peers i ≡ None → slice_get (map (seen_peer messages) peers) i ≡ None
no_core messages [] i at = refl
no_core messages (p ∷ peers) zero at = absurd cc
no_core messages (p ∷ peers) (suc i) at = no_core messages peers i at

pub no_version : {C Piece : Type 0} (messages : C → List Message) (core0 : LoggedCore0) (peers : List (Peer C Piece)) (i : ℕ) → slice_get peers i ≡ None → worlds.version_at (seen_world messages core0 peers) (suc i) ≡ None
no_version messages core0 peers i at = ap (option_map (λ (x : worlds.Peer). x.version)) (no_core messages peers i at)
