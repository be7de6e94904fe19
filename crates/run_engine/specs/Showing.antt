-- What `run` shows of a script and its files: the events of one run of its cores, and the jobs that are left.
use Rattle.std.specs.Prelude.{◌≡◌, ◌⊎◌, ◌++◌, ◌∷◌, ◌<◌, ℕ, false, All, List, Ok, Err, Some, length, slice_get}
use Rattle.std.specs.List.{flat_map}
use Rattle.std.specs.List.Sorted.{IsNonDecreasingBy, IsPermutation}
use Rattle.rx_queue.specs.declared.job.Job.{Job}
use Rattle.two_phase.specs.Coordinators.{Idle}
use Rattle.world_model.specs.Decisions.{Delivers}
use Rattle.world_histories.specs.declared.history.Stamped.{Stamped}
use Rattle.world_histories.specs.Histories.{Core0State, OtherState, Computation}
use Rattle.world_histories.specs.Merging.{Merged, as_listed}
use Rattle.core_loop.specs.Answering.{decisions}
use Rattle.core_loop.specs.Cores.{begun, receipts}
use Rattle.core_machine.specs.Lanes.{items_for}
use Rattle.world_model.specs.Committed.{log_of}
use Rattle.sim_lines.specs.Events.{done_line, left_line}
use Rattle.mk_script.specs.declared.script.Item.{Item}
use Rattle.mk_script.specs.declared.script.Script.{Script}
use Rattle.mk_script.specs.declared.fault.ScriptFault.{ScriptFault}
use Rattle.mk_script.specs.Scripts.{Stands}
use Rattle.mk_script.specs.Threads.{for_threads}
use Rattle.script_input.specs.Faults.{script_fault_line}
use Rattle.engine_io.specs.Reading.{ShowsTooLong}
use Rattle.script_input.specs.Inputs.{AllShort, SomeLong}
use Rattle.run_engine.specs.Work.{requests_of, jobs_of}
use Rattle.filter_table.specs.Limits.{TableLimits}

-- The core began all requests that the script has for it, in order, and each is decided: the n-th decision is that on the n-th request. It
-- received the jobs that the script has for it, in order, but for those left.
pub record DidItsWork (items : List Item) (left : List (ℕ × Job)) (core : ℕ) (history : List Stamped) : Type 0 where
  pub requests : begun history ≡ items_for core (requests_of items)
  pub decided : length (decisions history) ≡ length (begun history)
  pub jobs : receipts history ++ items_for core left ≡ items_for core (jobs_of items)

-- Cores with these limits and budgets did the script's work, and these jobs are left. Core 0's history and the others' are a computation, at whose end
-- no request is being decided or waits for its reply, and the first job left of each core waits for a later version; by stamp and then by
-- core their events make this list.
pub record DidWork (limits : TableLimits) (budget : ℕ) (budgets : List ℕ) (items : List Item) (left : List (ℕ × Job)) (merged : List Stamped) : Type 0 where
  pub core0 : List Stamped
  pub others : List (List Stamped)
  pub end : Core0State
  pub ends : List OtherState
  pub computation : Computation limits budget budgets core0 others end ends
  pub settled : end.place.phase ≡ Idle
  pub answered : (i : ℕ) (other : OtherState) → slice_get ends i ≡ Some other → other.outstanding ≡ false
  pub waits : (core : ℕ) (history : List Stamped) (job : Job) (later : List Job) → slice_get (core0 ∷ others) core ≡ Some history → items_for core left ≡ job ∷ later → length end.log < job.floor
  pub work : (core : ℕ) (history : List Stamped) → slice_get (core0 ∷ others) core ≡ Some history → DidItsWork items left core history
  pub at_cores : All (λ l. l.0 < length (budget ∷ budgets)) left
  pub is_merged : Merged core0 others merged

abbrev pub left_lines : List (ℕ × Job) → List ℕ
left_lines left = flat_map (λ l. left_line l.0 l.1.number) left

-- the lines of jobs left, by the jobs' numbers
pub record ShowsLeft (left : List (ℕ × Job)) (text : List ℕ) : Type 0 where
  pub in_order : List (ℕ × Job)
  pub same : IsPermutation left in_order
  pub by_number : IsNonDecreasingBy (λ l. l.1.number) in_order
  pub printed : text ≡ left_lines in_order

-- What cores with the script's limits and budgets did, a line for each event, and then what is left. Each packet went to exactly the endpoints
-- that accept it in the table of its core's version.
pub record ShowsRun (script : Script) (text : List ℕ) : Type 0 where
  pub budget : ℕ
  pub budgets : List ℕ
  pub are_budgets : script.budgets ≡ budget ∷ budgets
  pub merged : List Stamped
  pub left : List (ℕ × Job)
  pub did : DidWork script.limits budget budgets script.items left merged
  pub delivers : Delivers script.limits (log_of (as_listed merged)) (as_listed merged)
  pub last_lines : List ℕ
  pub shows_left : ShowsLeft left last_lines
  pub printed : text ≡ flat_map done_line (as_listed merged) ++ last_lines

-- what a run of the script shows, or the line of its first fault
abbrev pub ShowsRunScript : List (List ℕ) → List ℕ → ℕ → List ℕ → Type 0
ShowsRunScript files input status text =
    ((script : Script) × Stands (for_threads files) input (Ok script) × (status ≡ 0) × ShowsRun script text)
    ⊎ ((fault : ScriptFault) × Stands (for_threads files) input (Err fault) × (status ≡ 1) × (text ≡ script_fault_line fault))

-- the script and each file have a limit
abbrev pub Shows : List (List ℕ) → List ℕ → ℕ → List ℕ → Type 0
Shows files input status text =
    (AllShort input files × ShowsRunScript files input status text)
    ⊎ (SomeLong input files × ShowsTooLong status text)
