-- What an event takes of a core's requests and jobs, by its kind.
use Rattle.std.proofs.Common.{◌≡◌, ◌∙◌, ◌++◌, [], ℕ, Bool, false, List, refl, sym, ap, subst}
use Rattle.std.proofs.lemmas.List.{append-nil}
use Rattle.std.specs.Global.{Global}
use Rattle.std.specs.declared.collections.VecDeque.{VecDeque}
use mathlib.Core.List.{IsPrefix}
use Rattle.filter_table.specs.declared.operation.Op.{Op}
use Rattle.rx_queue.specs.declared.job.Job.{Job}
use Rattle.rx_queue.specs.declared.intake.Intake.{Intake}
use Rattle.rx_queue.specs.Queue.{jobs_seen, jobs_taken}
use Rattle.world_events.specs.declared.event.Event.{Event}
use Rattle.world_events.specs.declared.event.Event.TheVariants.{Take}
use Rattle.world_histories.specs.declared.history.Stamped.{Stamped}
use Rattle.world_histories.proofs.Lists.{prefix_self}
use Rattle.core_loop.specs.Cores.{begins}
use Rattle.core_loop.specs.Receipts.{receives}
use Rattle.core_loop.specs.Turning.{IsUnshortened}
use Rattle.core_loop.specs.Consuming.{Consumes, ConsumesNone}

-- one that receives no job
pub begun_consumes : (requests left : List Op) (i : Intake) (rx : Bool) (s : Stamped) → requests ≡ begins s.done.event ++ left → receives s.done.event ≡ [] → IsUnshortened s.done.event → Consumes requests left i i rx s
begun_consumes requests left i rx s began none whole = record {
  requests = began;
  jobs = sym (ap (λ (l : List Job). jobs_taken i ++ l) none ∙ append-nil (jobs_taken i));
  front = subst (λ (l : List Job). IsPrefix (jobs_seen i) (l ++ jobs_seen i)) (sym none) (prefix_self (jobs_seen i));
  whole = whole;
  leave = λ _. none;
}

-- a message that is taken
pub took_consumes : (number peer : ℕ) (requests : List Op) (i : Intake) (rx : Bool) (s : Stamped) → s.done.event ≡ Take number peer false → Consumes requests requests i i rx s
took_consumes number peer requests i rx s is =
    begun_consumes requests requests i rx s (sym (ap (λ (e : Event). begins e ++ requests) is)) (ap receives is) (subst IsUnshortened (sym is) refl)

-- none
pub left_all : (before left : VecDeque Op Global) (old new : Intake) → left ≡ before → jobs_taken new ≡ jobs_taken old → IsPrefix (jobs_seen old) (jobs_seen new) → ConsumesNone before.items left.items old new
left_all before left old new same jobs seen = record { requests = ap (λ (q : VecDeque Op Global). q.items) same; jobs = jobs; seen = seen }

pub untouched : (before left : VecDeque Op Global) (i : Intake) → left ≡ before → ConsumesNone before.items left.items i i
untouched before left i same = left_all before left i i same refl (prefix_self (jobs_seen i))
