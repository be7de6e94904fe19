-- What `sim` shows of a script and its files.
use Rattle.std.specs.Prelude.{◌≡◌, ◌⊎◌, ◌++◌, ◌∷◌, ℕ, List, Ok, Err}
use Rattle.world_model.specs.Worlds.{boot}
use Rattle.mk_script.specs.declared.script.Item.{Item}
use Rattle.mk_script.specs.declared.script.Script.{Script}
use Rattle.mk_script.specs.declared.fault.ScriptFault.{ScriptFault}
use Rattle.mk_script.specs.Scripts.{Stands}
use Rattle.mk_script.specs.Threads.{for_simulation}
use Rattle.engine_io.specs.Reading.{ShowsTooLong}
use Rattle.script_input.specs.Faults.{script_fault_line}
use Rattle.script_input.specs.Inputs.{AllShort, SomeLong}
use Rattle.sim_engine.specs.Memory.{DepartsAlone, SameButForMemory}
use Rattle.sim_engine.specs.Simulations.{Simulation, Performs, just}
use Rattle.filter_table.specs.Limits.{TableLimits}

-- what the script's items print, on cores with its limits and budgets
abbrev pub ShowsItems : TableLimits → List ℕ → List Item → List ℕ → Type 0
ShowsItems limits budgets items text = (budget : ℕ) × (others : List ℕ) × (budgets ≡ budget ∷ others) × ((s' : Simulation) × Performs (just (boot limits budget others)) items s' text)

-- what the script prints, or the line of its first fault
abbrev pub ShowsScript : List (List ℕ) → List ℕ → ℕ → List ℕ → Type 0
ShowsScript files input status text =
    ((script : Script) × Stands (for_simulation files) input (Ok script) × (status ≡ 0) × ShowsItems script.limits script.budgets script.items text)
    ⊎ ((fault : ScriptFault) × Stands (for_simulation files) input (Err fault) × (status ≡ 1) × (text ≡ script_fault_line fault))

-- the script and each file have a limit
abbrev pub ShowsSim : List (List ℕ) → List ℕ → ℕ → List ℕ → Type 0
ShowsSim files input status text =
    (AllShort input files × ShowsScript files input status text)
    ⊎ (SomeLong input files × ShowsTooLong status text)

-- one status is shown at most, where it is 1 one text, and else texts that are the same but for cores that are out of memory
abbrev pub ShowsOneButForMemory : (ℕ → List ℕ → Type 0) → Type 0
ShowsOneButForMemory Shows =
    (status other : ℕ) (text more : List ℕ) → Shows status text → Shows other more → (status ≡ other) × (status ≡ 1 → text ≡ more) × SameButForMemory text more

-- a text is shown from which each text that is shown departs only where that alone says that a core was out of memory
abbrev pub ShowsAmply : (ℕ → List ℕ → Type 0) → Type 0
ShowsAmply Shows =
    (status : ℕ) × (text : List ℕ) × Shows status text × ((other : ℕ) (more : List ℕ) → Shows other more → (text ≡ more) ⊎ DepartsAlone text more)

-- the text is a front of a whole text that is shown of a script that stands
abbrev pub ShowsPart : List (List ℕ) → List ℕ → List ℕ → Type 0
ShowsPart files input text = (more : List ℕ) × ShowsSim files input 0 (text ++ more)
