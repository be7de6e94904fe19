-- What is left to do while a graph is built from the end of a condition. In each list here the last one pushed stands first.
-- No public clause cites these.
use Rattle.std.specs.Prelude.{◌≡◌, ℕ, ◌+◌, ◌<◌, Bool, List, [], ◌∷◌, length, reverse, map, Option}
use Rattle.bpf_insn.specs.declared.insn.TheConstants.{MAX_INSNS}
use Rattle.bpf_insn.specs.Machine.{Packet}
use Rattle.filter_cond.specs.declared.check.Comparison.{Comparison}
use Rattle.filter_cond.specs.declared.cond.Part.{Part}
use Rattle.filter_cond.specs.declared.cond.Part.TheVariants.{Compare}
use Rattle.filter_cond.specs.Means.{last, before, after, tests}
use Rattle.filter_codegen.specs.declared.fault.CompileFault.{CompileFault}
use Rattle.filter_codegen.specs.declared.fault.CompileFault.TheVariants.{TooLong, TooHard, NoMemory}
use Rattle.filter_codegen.specs.declared.graph.Node.{Node}
use Rattle.filter_codegen.specs.declared.task.Task.{Task}
use Rattle.filter_codegen.specs.declared.task.Task.TheVariants.{To, Pass, Fail, Choose}
use Rattle.filter_codegen.specs.declared.task.Ways.{Ways}
use Rattle.filter_codegen.specs.Graphs.{answer, value, Extends}

-- the first of some numbers, and 0 where there is none
abbrev pub top : List ℕ → ℕ
top [] = 0
top (n ∷ ns) = n

-- the others
abbrev pub rest : List ℕ → List ℕ
rest [] = []
rest (n ∷ ns) = ns

-- the last entry is taken
abbrev pub PopsEntry : List ℕ → List ℕ → ℕ → Type 0
PopsEntry old new entry = (entry ≡ top (reverse old)) × (reverse new ≡ rest (reverse old))

-- the places to which a task leads, and the entries that are left
abbrev pub Resolves : Task → List ℕ → List ℕ → Ways → Type 0
Resolves (To pass fail) old new ways = (ways.pass ≡ pass) × (ways.fail ≡ fail) × (new ≡ old)
Resolves (Pass fail) old new ways = (ways.pass ≡ top (reverse old)) × (ways.fail ≡ fail) × (reverse new ≡ rest (reverse old))
Resolves (Fail pass) old new ways = (ways.pass ≡ pass) × (ways.fail ≡ top (reverse old)) × (reverse new ≡ rest (reverse old))
Resolves Choose old new ways = (ways.pass ≡ top (reverse old)) × (ways.fail ≡ top (rest (reverse old))) × (reverse new ≡ rest (rest (reverse old)))

-- the verdicts from the entries, where a condition is built that says this of the packet
abbrev pub settled : (ℕ → ℕ) → Task → Option Bool → List ℕ → List ℕ
settled from (To pass fail) truth verdicts = answer truth (from pass) (from fail) ∷ verdicts
settled from (Pass fail) truth verdicts = answer truth (top verdicts) (from fail) ∷ rest verdicts
settled from (Fail pass) truth verdicts = answer truth (from pass) (top verdicts) ∷ rest verdicts
settled from Choose truth verdicts = answer truth (top verdicts) (top (rest verdicts)) ∷ rest (rest verdicts)

-- the verdict from the entry that comes last, once all is done
abbrev pub verdict : (ℕ → ℕ) → List Task → List (Option Bool) → List ℕ → ℕ
verdict from [] truths verdicts = top verdicts
verdict from (task ∷ tasks) truths verdicts = verdict from tasks (before truths) (settled from task (last truths) verdicts)

-- each place is below this one
abbrev pub AreBelow : ℕ → List ℕ → Type 0
AreBelow most [] = Unit {0}
AreBelow most (place ∷ places) = (place < most) × AreBelow most places

-- each place of a task is
abbrev pub IsBelow : ℕ → Task → Type 0
IsBelow most (To pass fail) = (pass < most) × (fail < most)
IsBelow most (Pass fail) = fail < most
IsBelow most (Fail pass) = pass < most
IsBelow most Choose = Unit {0}

abbrev pub AreTasksBelow : ℕ → List Task → Type 0
AreTasksBelow most [] = Unit {0}
AreTasksBelow most (task ∷ tasks) = IsBelow most task × AreTasksBelow most tasks

-- a part is built that leads to these places
pub record Builds (part : Part) (ways : Ways) (old new : List Node) (tasks_old tasks_new : List Task) (entries_old entries_new : List ℕ) : Type 0 where
  pub extends : Extends old new (tests (part ∷ []))
  pub tasks : AreTasksBelow (length old + 2) (reverse tasks_old) → AreTasksBelow (length new + 2) (reverse tasks_new)
  pub entries : AreBelow (length old + 2) (reverse entries_old) → AreBelow (length new + 2) (reverse entries_new)
  pub says : (packet : Packet) (accept : ℕ) (results : List (Option ℕ)) (truths : List (Option Bool))
      → AreTasksBelow (length old + 2) (reverse tasks_old) → AreBelow (length old + 2) (reverse entries_old)
      → verdict (value packet accept new) (reverse tasks_new) truths (map (value packet accept new) (reverse entries_new))
      ≡ (let made = after results packet truths part in
      verdict (value packet accept old) (reverse tasks_old) (before made)
      (answer (last made) (value packet accept old ways.pass) (value packet accept old ways.fail) ∷ map (value packet accept old) (reverse entries_old)))

-- why a part is refused: TooLong only where the graph is full
abbrev pub RefusesPart : Part → ℕ → CompileFault → Type 0
RefusesPart part count TooLong = MAX_INSNS < count + tests (part ∷ [])
RefusesPart part count TooHard = (comparison : Comparison) × (part ≡ Compare comparison)
RefusesPart part count NoMemory = Unit {0}
