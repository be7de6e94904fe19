-- Conditions as graphs of tests.
use Rattle.std.specs.Prelude.{◌≡◌, ℕ, ◌+◌, ◌<◌, ◌≤◌, List, length, reverse, map, take, drop, Option, Some, slice_get}
use Rattle.bpf_insn.specs.declared.insn.TheConstants.{MAX_INSNS}
use Rattle.bpf_insn.specs.Machine.{Packet}
use Rattle.filter_cond.specs.declared.check.Comparison.{Comparison}
use Rattle.filter_cond.specs.declared.cond.Part.{Part}
use Rattle.filter_cond.specs.declared.cond.Part.TheVariants.{Compare}
use Rattle.filter_cond.specs.Means.{last, truths_of, tests}
use Rattle.filter_codegen.specs.declared.fault.CompileFault.{CompileFault}
use Rattle.filter_codegen.specs.declared.fault.CompileFault.TheVariants.{TooLong, TooHard, NoMemory}
use Rattle.filter_codegen.specs.declared.graph.Node.{Node}
use Rattle.filter_codegen.specs.declared.task.Task.{Task}
use Rattle.filter_codegen.specs.Graphs.{answer, value}
use Rattle.filter_codegen.specs.Tasks.{AreBelow, AreTasksBelow, verdict}

-- a part is a test of two numbers
abbrev pub HasComparison : List Part → Type 0
HasComparison parts = (index : ℕ) × (comparison : Comparison) × (slice_get parts index ≡ Some (Compare comparison))

-- the graph gives at the root what the parts say
pub record IsBuilt (parts : List Part) (graph : List Node) (root : ℕ) : Type 0 where
  pub inside : root < length graph + 2
  pub few : length graph ≤ tests parts
  pub says : (packet : Packet) (accept : ℕ) (results : List (Option ℕ)) → value packet accept graph root ≡ answer (last (truths_of results packet parts)) accept 0

-- the graph gives, once the first parts are built too, what all of them say
pub record IsBuilding (parts : List Part) (count : ℕ) (graph : List Node) (tasks : List Task) (entries : List ℕ) : Type 0 where
  pub inside : count ≤ length parts
  pub few : length graph ≤ tests (drop count parts)
  pub tasks_below : AreTasksBelow (length graph + 2) (reverse tasks)
  pub entries_below : AreBelow (length graph + 2) (reverse entries)
  pub says : (packet : Packet) (accept : ℕ) (results : List (Option ℕ))
      → verdict (value packet accept graph) (reverse tasks) (truths_of results packet (take count parts)) (map (value packet accept graph) (reverse entries))
      ≡ answer (last (truths_of results packet parts)) accept 0

-- why a condition is refused
abbrev pub RefusesParts : List Part → CompileFault → Type 0
RefusesParts parts TooLong = MAX_INSNS < tests parts
RefusesParts parts TooHard = HasComparison parts
RefusesParts parts NoMemory = Unit {0}

-- one part more is built
abbrev pub BuildsNext : Part → List Node → List Node → List Task → List Task → List ℕ → List ℕ → Type 0
BuildsNext part old new tasks_old tasks_new entries_old entries_new =
    (parts : List Part) (count : ℕ) → slice_get parts count ≡ Some part
    → IsBuilding parts (count + 1) old tasks_old entries_old → IsBuilding parts count new tasks_new entries_new
