-- What the text of a script stands for: the limits of the machine, the budgets of the cores and the items, or its first fault.
use Rattle.std.specs.Prelude.{Bool, ◌<◌, ◌≡◌, ◌⊎◌, ℕ, List, [], ◌∷◌, ◌++◌, if◌then◌else◌, unwrap_or, Result, Ok, Err}
use Rattle.std.specs.List.{flat_map, All}
use Rattle.filter_table.specs.Limits.{default_limits}
use Rattle.mk_script.specs.declared.script.Script.{Script}
use Rattle.mk_script.specs.declared.fault.ScriptFault.{ScriptFault}
use Rattle.mk_script.specs.declared.fault.ScriptFaultKind.{ScriptFaultKind}
use Rattle.mk_script.specs.declared.fault.ScriptFaultKind.TheVariants.{NoCores}
use Rattle.mk_script.specs.Meanings.{Meaning, budgets_in, limits_behind, items_of, known}
use Rattle.mk_script.specs.Statements.{Statement, statements}
use Rattle.mk_script.specs.Drafts.{Settings, has_cores}
use Rattle.mk_script.specs.Bodies.{Means}

abbrev pub fault_at : ℕ → ScriptFaultKind → ScriptFault
fault_at line kind = record { line = line; kind = kind }

-- the meanings of statements after those given, or the first fault
abbrev pub MeanBehind : Settings → List Meaning → List Statement → Result (List Meaning) ScriptFault → Type 0
MeanBehind settings given [] outcome = outcome ≡ Ok given
MeanBehind settings given (statement ∷ statements) outcome =
    ((meaning : Meaning) × Means settings (known given) statement (Ok meaning) × MeanBehind settings (given ++ meaning ∷ []) statements outcome)
    ⊎ ((kind : ScriptFaultKind) × Means settings (known given) statement (Err kind) × (outcome ≡ Err (fault_at statement.number kind)))

-- the script of meanings, with the limits of any machine where no line gives others; a text that has no `cores` lacks it on its
-- first line
abbrev pub script_of : Result (List Meaning) ScriptFault → Result Script ScriptFault
script_of (Err fault) = Err fault
script_of (Ok given) = if has_cores (known given) then Ok (record { limits = unwrap_or (limits_behind given) default_limits; budgets = flat_map budgets_in given; items = items_of given }) else Err (fault_at 1 NoCores)

-- the text stands for a script, or for its first fault
abbrev pub Stands : Settings → List ℕ → Result Script ScriptFault → Type 0
Stands settings text outcome = (meanings : Result (List Meaning) ScriptFault) × MeanBehind settings [] (statements text) meanings × (outcome ≡ script_of meanings)

-- the settings of these files
abbrev pub settings : List (List ℕ) → Bool → Settings
settings files threads = record { files = files; threads = threads }

-- files hold bytes
abbrev pub AreFiles : List (List ℕ) → Type 0
AreFiles [] = Unit {0}
AreFiles (file ∷ files) = All (λ b. b < 256) file × AreFiles files

-- the text stands for some outcome
abbrev pub SomeOutcome : Settings → List ℕ → Type 0
SomeOutcome settings text = (outcome : Result Script ScriptFault) × Stands settings text outcome

-- and for one at most
abbrev pub OneOutcome : Settings → List ℕ → Type 0
OneOutcome settings text = (this other : Result Script ScriptFault) → Stands settings text this → Stands settings text other → this ≡ other
