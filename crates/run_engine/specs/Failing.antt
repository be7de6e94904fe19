-- Why a run of threads has no status, and what the records of its readers and its writer say then.
use Rattle.std.specs.Prelude.{◌≡◌, ⊤, ℕ, List, Option, Ok, false}
use Rattle.core_threads.specs.declared.halt.Halt.{Halt}
use Rattle.core_threads.specs.declared.halt.RunFault.{RunFault}
use Rattle.core_threads.specs.declared.halt.RunFault.TheVariants as run_fault
use Rattle.core_threads.specs.Settling.{HasHalted as HasHaltedOn}
use Rattle.mk_script.specs.declared.script.Item.{Item}
use Rattle.mk_script.specs.declared.script.Script.{Script}
use Rattle.mk_script.specs.Scripts.{Stands}
use Rattle.mk_script.specs.Threads.{for_threads}
use Rattle.engine_io.specs.declared.fault.EngineFault.TheVariants.{NoMemory}
use Rattle.engine_io.specs.declared.sink.Sink.{Sink}
use Rattle.engine_io.specs.declared.source.Source.{Source}
use Rattle.engine_io.specs.Devices.{StopsWriting}
use Rattle.script_input.specs.Inputs.{AreScriptInputs, NoneFailed, ScriptEndsEarly}
use Rattle.run_engine.specs.declared.engine.RunFailure.{RunFailure}
use Rattle.run_engine.specs.declared.engine.RunFailure.TheVariants.{Engine, Spawn, Halted}
use Rattle.run_engine.specs.Work.{requests_of, jobs_of}
use Rattle.filter_table.specs.Limits.{TableLimits}

-- the failure that a fault of a run is
abbrev pub IsFault : RunFault → RunFailure → Type 0
IsFault run_fault.Spawn failure = failure ≡ Spawn
IsFault run_fault.NoMemory failure = failure ≡ Engine NoMemory

-- the cores of these items ran, and the work isn't done, for this core, and this
abbrev pub HasHalted : TableLimits → List ℕ → List Item → ℕ → Halt → Type 0
HasHalted limits budgets items core why = HasHaltedOn limits budgets (requests_of items) (jobs_of items) core why

-- A run of cores reads nothing and writes nothing: of an engine's faults it has NoMemory alone. No public clause cites this,
-- nor the next.
abbrev pub IsOfCores : TableLimits → List ℕ → List Item → RunFailure → Type 0
IsOfCores limits budgets items (Engine fault) = fault ≡ NoMemory
IsOfCores limits budgets items Spawn = ⊤
IsOfCores limits budgets items (Halted core why) = HasHalted limits budgets items core why

-- where a core is named, it is one of this script's, and the work isn't done for it
abbrev pub HaltsOf : Script → RunFailure → Type 0
HaltsOf script (Halted core why) = HasHalted script.limits script.budgets script.items core why
HaltsOf script failure = ⊤

-- the script stands in what was read
abbrev pub HaltsScript : List (List ℕ) → List ℕ → RunFailure → Type 0
HaltsScript files input (Halted core why) = (script : Script) × Stands (for_threads files) input (Ok script) × HasHalted script.limits script.budgets script.items core why
HaltsScript files input failure = ⊤

-- and that is what was got of the script and its files
abbrev pub HaltsRun : {R F : Type 0} → (R → Option (List ℕ)) → Source R → Source R → (F → Option (List ℕ)) → List (Source F) → List (Source F) → RunFailure → Type 0
HaltsRun remaining old new left files files' (Halted core why) =
    (input : List ℕ) × (inputs : List (List ℕ)) × AreScriptInputs remaining old new left files files' input inputs × HaltsScript inputs input (Halted core why)
HaltsRun remaining old new left files files' failure = ⊤

-- why a run isn't written: no write failed, unless that is why
abbrev pub StopsRun : {W : Type 0} → Sink W → RunFailure → Type 0
StopsRun sink (Engine fault) = StopsWriting sink fault
StopsRun sink failure = sink.failed ≡ false

-- why there is no status: no read and no write failed, unless that is why
abbrev pub RunEndsEarly : {R F W : Type 0} → Source R → List (Source F) → Sink W → RunFailure → Type 0
RunEndsEarly script files sink (Engine fault) = ScriptEndsEarly script files sink fault
RunEndsEarly script files sink failure = (script.failed ≡ false) × NoneFailed files × (sink.failed ≡ false)
