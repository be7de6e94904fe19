-- Events that are done one after another.
use Rattle.std.proofs.Common.{◌≡◌, ◌++◌, ◌∷◌, ℕ, suc, List, [], All, length, refl, ap, sym, ◌∙◌, subst, append_assoc, arith}
use Rattle.std.proofs.lemmas.List.{append-nil, length-map}
use Rattle.filter_table.specs.Limits.{TableLimits}
use Rattle.filter_table.specs.declared.operation.Op.{Op}
use Rattle.filter_table.specs.Tables.{HasShortProgram}
use Rattle.world_events.specs.declared.event.Event.{Event}
use Rattle.world_events.specs.declared.event.Event.TheVariants.{Submit}
use Rattle.world_events.specs.declared.event.Done.{Done}
use Rattle.world_model.specs.Worlds.{World, boot, Run}
use Rattle.world_model.proofs.Known.{run_known}
use Rattle.world_model.specs.Refusals.{Extends, IsShortEvent}
use Rattle.headline.specs.Shown.{replica_of_peer, replicas_of}

pub extends_none : (w : World) → Extends w [] w
extends_none w limits budget budgets before run = subst (λ (l : List Done). Run limits budget budgets l w) (sym (append-nil before)) run

pub extends_more : (w mid w' : World) (events : List Done) (done : Done) → Extends w events mid → Extends mid (done ∷ []) w' → Extends w (events ++ done ∷ []) w'
extends_more w mid w' events done first last limits budget budgets before run =
    subst (λ (l : List Done). Run limits budget budgets l w') (append_assoc before events (done ∷ [])) (last limits budget budgets (before ++ events) (first limits budget budgets before run))

-- a machine that comes up so has done these events
pub extends_boot : (limits : TableLimits) (budget : ℕ) (budgets : List ℕ) (w w' : World) (events : List Done) → w ≡ boot limits budget budgets → Extends w events w' → Run limits budget budgets events w'
extends_boot limits budget budgets w w' events is extends = extends limits budget budgets [] is

-- the operations that these events submit are short
pub short_event : (before after events : List Event) (event : Event) → events ≡ before ++ event ∷ after
    → All (λ (e : Event). (core : ℕ) (op : Op) → e ≡ Submit core op → HasShortProgram op) events → IsShortEvent event
short_event before after events event e all = by_event event (at before (subst (λ (l : List Event). All IsShort l) e all))
  where
    IsShort : Event → Type 0
    IsShort e = (core : ℕ) (op : Op) → e ≡ Submit core op → HasShortProgram op

    at : (xs : List Event) → All IsShort (xs ++ event ∷ after) → IsShort event
    at [] a = a 0 event (omega arith)
    at (x ∷ xs) a = at xs (λ k d within. a (suc k) d (omega (arith, within)))

    by_event : (e : Event) → IsShort e → IsShortEvent e
    by_event (Submit core op) s = s core op refl
    by_event e s = tt

-- a machine has a replica for each budget
pub all_replicas : (limits : TableLimits) (budget : ℕ) (budgets : List ℕ) (events : List Done) (w : World) → Run limits budget budgets events w → length (replicas_of w) ≡ length (budget ∷ budgets)
all_replicas limits budget budgets events w run = ap suc (length-map w.peers (replica_of_peer w) ∙ (run_known limits budget budgets events w run).cores)
