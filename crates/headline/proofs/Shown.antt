-- The replicas that a world shows are those that the headline speaks of.
use Rattle.std.proofs.Common.{◌≡◌, ◌≤◌, ℕ, zero, suc, Option, Some, None, List, length, take, drop, slice_get, refl, ap, sym, ◌∙◌, subst, arith}
use Rattle.std.specs.Prelude.{option_map}
use Rattle.std.proofs.lemmas.Option.{slice_get-map}
use Rattle.std.proofs.lemmas.List.{take-append-drop, length-take-le}
use Rattle.filter_table.specs.Limits.{TableLimits}
use Rattle.filter_table.specs.declared.operation.Op.{Op}
use Rattle.filter_table.specs.Tables.{TableState, table}
use Rattle.filter_table.proofs.Tables.{table_version, table_front}
use Rattle.table_replica.specs.Shown.{ReplicaState}
use Rattle.world_events.specs.declared.event.Done.{Done}
use Rattle.world_model.specs.Worlds.{Peer, World, version_at, Run}
use Rattle.world_model.specs.Readings.{version_of}
use Rattle.world_model.proofs.Lists.{get_map}
use Rattle.world_model.proofs.Agreement.{of_core}
use Rattle.world_model.proofs.RunLaws.{run_agrees, run_versions, run_limits, version_within}
use Rattle.world_core.specs.Shown.{ShowsReplica}
use Rattle.headline.specs.Headline.{ShowTables, AreEqualByVersion}
use Rattle.world_model.specs.Committed.{log_of}
use Rattle.headline.specs.Shown.{replica_of_peer, replicas_of}
use Rattle.core_machine.proofs.Logs.{run_log}

same_state : (r : ReplicaState) (b : ℕ) (s : TableState) (staged : Option Op) → b ≡ r.budget → s ≡ r.shown → staged ≡ r.staged → Some (record { budget = b; shown = s; staged = staged }) ≡ Some r
same_state r b s staged e e' e'' = rw (e, e', e'') refl

-- what the world shows of a core's replica is the replica at its place
pub shown_there : (w : World) (core : ℕ) (r : ReplicaState) → ShowsReplica w core r → slice_get (replicas_of w) core ≡ Some r
shown_there w zero r s =
    let b : w.budget ≡ r.budget = (let e = s.is_budget in cc) in
    let v : w.version ≡ s.version = (let e = s.is_version in cc) in
    let g : w.place.staged ≡ r.staged = (let e = s.is_staged in cc) in
    same_state r w.budget (table w.limits w.log w.version) w.place.staged b (ap (table w.limits w.log) v ∙ sym s.shown) g
shown_there w (suc i) r s =
    let p = of_core (λ (p : Peer). p.version) w.peers i s.version (slice_get w.peers i) refl s.is_version in
    let b : p.0.budget ≡ r.budget = (let e : Some p.0.budget ≡ Some r.budget = sym (ap (option_map (λ (x : Peer). x.budget)) p.1) ∙ s.is_budget in cc) in
    let g : p.0.place.staged ≡ r.staged = (let e : Some p.0.place.staged ≡ Some r.staged = sym (ap (option_map (λ (x : Peer). x.place.staged)) p.1) ∙ s.is_staged in cc) in
    slice_get-map (replica_of_peer w) w.peers i ∙ ap (option_map (replica_of_peer w)) p.1
    ∙ same_state r p.0.budget (table w.limits w.log p.0.version) p.0.place.staged b (ap (table w.limits w.log) p.2 ∙ sym s.shown) g

pub none_there : (w : World) (core : ℕ) → version_at w core ≡ None → slice_get (replicas_of w) core ≡ None
none_there w zero none = absurd cc
none_there w (suc i) none = slice_get-map (replica_of_peer w) w.peers i ∙ by_peer (slice_get w.peers i) none
  where
    by_peer : (o : Option Peer) → option_map (λ (p : Peer). p.version) o ≡ None → option_map (replica_of_peer w) o ≡ None
    by_peer None e = refl
    by_peer (Some p) e = absurd cc

-- a replica of the world shows the table of its core's version
of_world : (w : World) (core : ℕ) (r : ReplicaState) → slice_get (replicas_of w) core ≡ Some r → (version : ℕ) × (version_at w core ≡ Some version) × (r.shown ≡ table w.limits w.log version)
of_world w zero r at = (w.version, refl, (let e : record { budget = w.budget; shown = table w.limits w.log w.version; staged = w.place.staged } ≡ r = cc in sym (ap (λ (x : ReplicaState). x.shown) e)))
of_world w (suc i) r at =
    let p = get_map (replica_of_peer w) w.peers i r at in
    (p.0.version, ap (option_map (λ (x : Peer). x.version)) p.1, ap (λ (x : ReplicaState). x.shown) p.2)

-- the table of a version of the log has that version
table_at : (limits : TableLimits) (log : List Op) (v : ℕ) → v ≤ length log → (table limits log v).version ≡ v
table_at limits log v le =
    let long : length (take v log) ≡ v = length-take-le v log le in
    let front : table limits log v ≡ table limits (take v log) v = ap (λ (l : List Op). table limits l v) (sym (take-append-drop v log)) ∙ table_front limits (take v log) (drop v log) v (omega (arith, long)) in
    ap (λ (s : TableState). s.version) front ∙ (subst (λ (n : ℕ). (table limits (take v log) n).version ≡ n) long (table_version limits (take v log)))

pub tables_shown : (limits : TableLimits) (budget : ℕ) (budgets : List ℕ) (events : List Done) (w : World) → Run limits budget budgets events w → ShowTables limits events (replicas_of w)
tables_shown limits budget budgets events w run core r at =
    let o = of_world w core r at in
    let is : o.0 ≡ version_of core events = run_versions limits budget budgets events w run core o.0 o.1 in
    let limits_are : w.limits ≡ limits = run_limits limits budget budgets events w run in
    let log : w.log ≡ log_of events = run_log limits budget budgets events w run in
    let le = version_within limits budget budgets w core o.0 (run_agrees limits budget budgets events w run) o.1 in
    record {
      numbered = ap (λ (s : TableState). s.version) o.2 ∙ (ap (λ (m : TableLimits). (table m w.log o.0).version) limits_are ∙ (table_at limits w.log o.0 le ∙ is));
      shown = o.2 ∙ (ap (λ (m : TableLimits). table m w.log o.0) limits_are ∙ (ap (table limits w.log) is ∙ ap (λ (l : List Op). table limits l (version_of core events)) log));
    }

pub equal_shown : (limits : TableLimits) (events : List Done) (replicas : List ReplicaState) → ShowTables limits events replicas → AreEqualByVersion replicas
equal_shown limits events replicas shown core other r s at at' same =
    let a = shown core r at in
    let b = shown other s at' in
    a.shown ∙ (ap (table limits (log_of events)) (sym a.numbered ∙ (same ∙ b.numbered)) ∙ sym b.shown)
