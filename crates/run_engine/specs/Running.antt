-- What cores have done once their threads are joined. No public clause cites these.
use Rattle.std.specs.Prelude.{◌≡◌, ◌<◌, ◌∷◌, ℕ, All, List, Some, length, slice_get}
use Rattle.rx_queue.specs.declared.job.Job.{Job}
use Rattle.core_machine.specs.Machines.{RingCore, IsMachine}
use Rattle.core_threads.specs.Ending.{IsAtEnd}
use Rattle.core_machine.specs.Lanes.{items_for}
use Rattle.mk_script.specs.declared.script.Item.{Item}
use Rattle.run_engine.specs.Showing.{DidItsWork}
use Rattle.filter_table.specs.Limits.{TableLimits}

-- the cores of one machine with these limits and budgets did the work of these items, and have nothing to do
pub record HaveDone (limits : TableLimits) (budgets : List ℕ) (items : List Item) (cores : List RingCore) (left : List (ℕ × Job)) : Type 0 where
  pub budget : ℕ
  pub others : List ℕ
  pub are_budgets : budgets ≡ budget ∷ others
  pub machine : IsMachine limits budget others cores
  pub work : (i : ℕ) (c : RingCore) → slice_get cores i ≡ Some c → DidItsWork items left i c.history
  pub ended : (i : ℕ) (c : RingCore) → slice_get cores i ≡ Some c → IsAtEnd (items_for i left) c
  pub at_cores : All (λ l. l.0 < length budgets) left
