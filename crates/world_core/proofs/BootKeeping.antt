-- The world as it begins.
use Rattle.std.proofs.Common.{◌≡◌, ◌∙◌, ◌++◌, ◌∷◌, ◌+◌, ◌<◌, ℕ, None, Some, List, [], All, length, map, take, get_or, slice_get, refl, ap, sym, subst, arith}
use Rattle.std.proofs.lemmas.List.{length-map, map-append, take_more}
use Rattle.std.proofs.lemmas.List.Elements.{All-push}
use Rattle.std.proofs.lemmas.Option.{get_or_from_slice_get, slice_get_within}
use Rattle.filter_table.specs.Limits.{TableLimits}
use Rattle.filter_table.specs.Tables.{empty_table, table}
use Rattle.table_replica.specs.Shown.{ReplicaState}
use Rattle.monitor_messages.specs.declared.message.Message.{Message}
use Rattle.two_phase.specs.declared.most.TheConstants.{MOST_CORES}
use Rattle.two_phase.specs.Coordinators.{CoordinatorState, Idle, no_requests}
use Rattle.world_core.specs.declared.core0.LoggedCore0.{LoggedCore0}
use Rattle.world_core.specs.declared.peer.Peer.{Peer}
use Rattle.world_model.specs.Worlds as worlds
use Rattle.world_core.specs.Keeping.{seen_peer, seen_world, PeerIsKept, WorldIsKept}
use Rattle.world_core.proofs.Keeping.{table_opening}

all_at : {A : Type 0} (P : A → Type 0) (xs : List A) (i : ℕ) (x : A) → All P xs → slice_get xs i ≡ Some x → P x
all_at P xs i x all at = subst P (get_or_from_slice_get xs i x x at) (all i x (slice_get_within xs i x at))

-- core 0 and the others, as they begin
pub record Begins {C Piece : Type 0} (messages : C → List Message) (core0 : LoggedCore0) (peers : List (Peer C Piece)) (limits : TableLimits) (budget : ℕ) (budgets : List ℕ) : Type 0 where
  pub log : core0.log.items ≡ []
  pub replica : core0.core.replica ≡ record { budget = budget; shown = empty_table limits; staged = None }
  pub coordinator : core0.core.coordinator ≡ record { others = length budgets; last = 0; phase = Idle; requests = no_requests (length budgets) }
  pub begun : core0.begun ≡ None
  pub seen : map (seen_peer messages) peers ≡ map worlds.new_peer budgets
  pub kept : All (PeerIsKept limits []) peers
  pub few : length budgets < MOST_CORES

pub boot_seen : {C Piece : Type 0} (messages : C → List Message) (core0 : LoggedCore0) (peers : List (Peer C Piece)) (limits : TableLimits) (budget : ℕ) (budgets : List ℕ) → Begins messages core0 peers limits budget budgets → seen_world messages core0 peers ≡ worlds.boot limits budget budgets
boot_seen messages core0 peers limits budget budgets b = rw (b.log, b.replica, b.coordinator, b.seen) refl

pub boot_kept : {C Piece : Type 0} (messages : C → List Message) (core0 : LoggedCore0) (peers : List (Peer C Piece)) (limits : TableLimits) (budget : ℕ) (budgets : List ℕ) → Begins messages core0 peers limits budget budgets → WorldIsKept messages core0 peers
boot_kept messages core0 peers limits budget budgets b = record {
  core0_kept = record {
    shown = ap (λ (r : ReplicaState). r.shown) b.replica ∙ (sym (table_opening limits) ∙ (ap (λ log. table limits log (length log)) (sym b.log)
        ∙ ap (λ (m : TableLimits). table m core0.log.items (length core0.log.items)) (sym (ap (λ (r : ReplicaState). r.shown.limits) b.replica))));
    between = record { staged = rw (b.coordinator, b.replica) refl; sendable = rw b.coordinator tt };
    begun = rw (b.begun, b.replica) refl;
  };
  others = ap (λ (x : CoordinatorState). x.others) b.coordinator ∙ sym long;
  peers_kept = λ i p at. rw (b.log, b.replica) (all_at (PeerIsKept limits []) peers i p b.kept at);
  few = omega (arith, long, b.few);
  limits = limits;
  budget = budget;
  budgets = budgets;
  events = [];
  run = boot_seen messages core0 peers limits budget budgets b;
}
  where
    long : length peers ≡ length budgets
    long = sym (length-map peers (seen_peer messages)) ∙ (ap length b.seen ∙ length-map budgets worlds.new_peer)

-- one core more
pub seen_more : {A : Type 0} (f : A → worlds.Peer) (xs ys : List A) (x : A) (budgets : List ℕ) (i d : ℕ) → ys ≡ xs ++ x ∷ [] → map f xs ≡ map worlds.new_peer (take i budgets) → f x ≡ worlds.new_peer (get_or budgets i d) → i < length budgets
    → map f ys ≡ map worlds.new_peer (take (i + 1) budgets)
seen_more f xs ys x budgets i d more so_far here lt =
    ap (map f) more ∙ (map-append f xs (x ∷ []) ∙ (rw (so_far, here) (sym (ap (map worlds.new_peer) (take_more budgets i d lt) ∙ map-append worlds.new_peer (take i budgets) (get_or budgets i d ∷ [])))))

pub all_more : {A : Type 0} (P : A → Type 0) (xs ys : List A) (x : A) → ys ≡ xs ++ x ∷ [] → All P xs → P x → All P ys
all_more P xs ys x more all here = subst (All P) (sym more) (All-push P xs x all here)
