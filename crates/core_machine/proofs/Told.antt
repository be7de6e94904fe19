-- What the one list of events of joined cores tells: the log, and that each packet went right by it.
use Rattle.std.proofs.Common.{◌≡◌, ◌∷◌, ℕ, List, refl, sym, ◌∙◌, subst}
use Rattle.filter_table.specs.Limits.{TableLimits}
use Rattle.filter_table.specs.declared.operation.Op.{Op}
use Rattle.world_events.specs.declared.event.Done.{Done}
use Rattle.world_model.specs.Worlds.{World, Run}
use Rattle.world_model.specs.Committed.{log_of}
use Rattle.world_model.specs.Decisions.{Delivers}
use Rattle.world_model.proofs.RunLaws.{run_delivers, run_limits}
use Rattle.core_machine.specs.Machines.{RingCore}
use Rattle.core_machine.specs.Conclusions.{Concludes, histories_of}
use Rattle.core_machine.specs.Merges.{ListsRuns, ListsRun}
use Rattle.core_machine.proofs.Logs.{run_log}

pub delivers_shown : (limits : TableLimits) (budget : ℕ) (budgets : List ℕ) (events : List Done) (w : World) → Run limits budget budgets events w → Delivers limits (log_of events) events
delivers_shown limits budget budgets events w run = subst (λ (log : List Op). Delivers limits log events) (run_log limits budget budgets events w run)
    (subst (λ (m : TableLimits). Delivers m w.log events) (run_limits limits budget budgets events w run) (run_delivers limits budget budgets events w run))

pub one_list : (limits : TableLimits) (budget : ℕ) (budgets : List ℕ) (first : RingCore) (others : List RingCore) (list : List Done) → (con : Concludes limits budget budgets first others) → ListsRuns (histories_of (first ∷ others)) list
    → ListsRun limits budget budgets first.history (histories_of others) con.end con.ends list
one_list limits budget budgets first others list con lists = lists limits budget budgets first.history (histories_of others) con.end con.ends refl con.computation

pub list_run : (limits : TableLimits) (budget : ℕ) (budgets : List ℕ) (first : RingCore) (others : List RingCore) (list : List Done) → (con : Concludes limits budget budgets first others)
    → (l : ListsRun limits budget budgets first.history (histories_of others) con.end con.ends list) → Run limits budget budgets list l.run.world
list_run limits budget budgets first others list con l = subst (λ (ds : List Done). Run limits budget budgets ds l.run.world) (sym l.is_listed) l.run.run

-- the log is the one that the list tells
pub list_log : (limits : TableLimits) (budget : ℕ) (budgets : List ℕ) (first : RingCore) (others : List RingCore) (list : List Done) → (con : Concludes limits budget budgets first others) → (l : ListsRun limits budget budgets first.history (histories_of others) con.end con.ends list)
    → con.end.log ≡ log_of list
list_log limits budget budgets first others list con l = sym l.run.all_end.log_is ∙ run_log limits budget budgets list l.run.world (list_run limits budget budgets first others list con l)

pub joined_deliver : (limits : TableLimits) (budget : ℕ) (budgets : List ℕ) (first : RingCore) (others : List RingCore) (list : List Done) → Concludes limits budget budgets first others → ListsRuns (histories_of (first ∷ others)) list → Delivers limits (log_of list) list
joined_deliver limits budget budgets first others list con lists =
    let l = one_list limits budget budgets first others list con lists in
    delivers_shown limits budget budgets list l.run.world (list_run limits budget budgets first others list con l)
