-- What is added to the weights, and taken away.
use Rattle.std.proofs.Common.{◌≡◌, ◌++◌, ◌∷◌, ◌+◌, ◌*◌, ◌≤◌, ℕ, zero, suc, Bool, Option, None, Some, List, [], length, map, slice_get, slice_set, replicate, refl, ap, arith}
use Rattle.std.specs.Prelude.{option_to_list}
use Rattle.filter_table.specs.declared.operation.Op.{Op}
use Rattle.monitor_messages.specs.declared.message.Message.{Message}
use Rattle.monitor_messages.specs.declared.message.Message.TheVariants as message
use Rattle.filter_table.specs.declared.decision.Vote.{Vote}
use Rattle.world_events.specs.declared.event.Event.TheVariants.{Take}
use Rattle.world_events.specs.declared.event.Answer.{Answer}
use Rattle.world_events.specs.declared.event.Answer.TheVariants.{TookPrepare, TookCommit, TookAbort}
use Rattle.world_model.specs.Cases.{Outgoing, nothing, to_all, to_one, sent_up}
use Rattle.world_model.specs.Worlds.{Peer, send, sent_out, sent_to_one}
use Rattle.world_model.specs.Settling.{weight, load, loads, votes_cast}
use Rattle.world_progress.specs.Remaining.{unbegun_in, unbegun_up, weigh, waiting_weight}

-- Requests under way to core 0

pub unbegun-append : (k : ℕ) (xs ys : List Message) → unbegun_in k (xs ++ ys) ≡ unbegun_in k xs + unbegun_in k ys
unbegun-append k [] ys = omega arith
unbegun-append k (message.Submit op ∷ xs) ys = omega (arith, unbegun-append k xs ys)
unbegun-append k (m ∷ xs) ys = unbegun-append k xs ys

pub unbegun_set : (k : ℕ) (ps : List Peer) (i : ℕ) (p q : Peer) → slice_get ps i ≡ Some p → unbegun_up k (slice_set ps i q) + unbegun_in k p.up ≡ unbegun_up k ps + unbegun_in k q.up
unbegun_set k [] i p q at = absurd cc
unbegun_set k (x ∷ ps) zero p q at = let e : x ≡ p = cc in rw e (omega arith)
unbegun_set k (x ∷ ps) (suc i) p q at = omega (arith, unbegun_set k ps i p q at)

unbegun_map : (k : ℕ) (m : Message) (ps : List Peer) → unbegun_up k (map (send m) ps) ≡ unbegun_up k ps
unbegun_map k m [] = refl
unbegun_map k m (p ∷ ps) = ap (λ (n : ℕ). unbegun_in k p.up + n) (unbegun_map k m ps)

-- what core 0 sends is none of them
pub unbegun_sent : (k : ℕ) (ps : List Peer) (out : Outgoing) → unbegun_up k (sent_out ps out) ≡ unbegun_up k ps
unbegun_sent k ps nothing = refl
unbegun_sent k ps (to_all m) = unbegun_map k m ps
unbegun_sent k ps (to_one entry m) = by_peer (slice_get ps entry) refl
  where
    by_peer : (o : Option Peer) → slice_get ps entry ≡ o → unbegun_up k (sent_to_one ps entry m o) ≡ unbegun_up k ps
    by_peer None e = refl
    by_peer (Some p) e = omega (arith, unbegun_set k ps entry p (send m p) e)

-- nor is what another core answers
pub unbegun_answer : (k i : ℕ) (short : Bool) (answer : Answer) → unbegun_in k (option_to_list (sent_up (Take (suc i) 0 short) answer)) ≡ 0
unbegun_answer k i short (TookPrepare txn v) = refl
unbegun_answer k i short (TookCommit txn version) = refl
unbegun_answer k i short (TookAbort txn version) = refl
unbegun_answer k i short answer = refl

-- Requests that wait

pub waiting_set : (k : ℕ) (xs : List (Option Op)) (i : ℕ) (x y : Option Op) → slice_get xs i ≡ Some x → waiting_weight k (slice_set xs i y) + weigh k x ≡ waiting_weight k xs + weigh k y
waiting_set k [] i x y at = absurd cc
waiting_set k (z ∷ xs) zero x y at = let e : z ≡ x = cc in rw e (omega arith)
waiting_set k (z ∷ xs) (suc i) x y at = omega (arith, waiting_set k xs i x y at)

-- Messages of core 0

pub load-more : (xs ys : List Message) → load (xs ++ ys) ≡ load xs + load ys
load-more [] ys = omega arith
load-more (x ∷ xs) ys = omega (arith, load-more xs ys)

pub loads_put : (ps : List Peer) (i : ℕ) (p q : Peer) → slice_get ps i ≡ Some p → loads (slice_set ps i q) + (load p.down + load p.up) ≡ loads ps + (load q.down + load q.up)
loads_put [] i p q at = absurd cc
loads_put (x ∷ ps) zero p q at = let e : x ≡ p = cc in rw e (omega arith)
loads_put (x ∷ ps) (suc i) p q at = omega (arith, loads_put ps i p q at)

pub loads_asked : (ps : List Peer) (txn : ℕ) (op : Op) → loads (map (send (message.Prepare txn op)) ps) ≡ loads ps + 4 * length ps
loads_asked [] txn op = refl
loads_asked (p ∷ ps) txn op = omega (arith, loads_asked ps txn op, load-more p.down (message.Prepare txn op ∷ []))

pub loads_told : (ps : List Peer) (entry : ℕ) (m : Message) → loads (sent_to_one ps entry m (slice_get ps entry)) ≤ loads ps + weight m
loads_told ps entry m = by_peer (slice_get ps entry) refl
  where
    by_peer : (o : Option Peer) → slice_get ps entry ≡ o → loads (sent_to_one ps entry m o) ≤ loads ps + weight m
    by_peer None e = omega arith
    by_peer (Some p) e = omega (arith, loads_put ps entry p (send m p) e, load-more p.down (m ∷ []))

pub none_cast : (n : ℕ) → votes_cast (replicate n None) ≡ 0
none_cast zero = refl
none_cast (suc n) = none_cast n
