-- What `check --graph` shows of the text of a program: the control flow of the program, or why it has none.
use Rattle.std.specs.Prelude.{◌≡◌, ℕ, ◌<◌, ◌≤◌, ◌⊎◌, List, length, Option, Some, None}
use Rattle.bpf_insn.specs.declared.insn.Insn.{Insn}
use Rattle.filter_verify.specs.declared.rules.Refusal.{Refusal}
use Rattle.filter_verify.specs.Rules.{Refuses, Sound}
use Rattle.console.specs.declared.checking.CheckInput.{CheckInput}
use Rattle.console.specs.Checking.{Reads, ShowsFault}
use Rattle.engine_io.specs.Reading.{ShowsTooLong}
use Rattle.engine_io.specs.declared.input.TheConstants.{INPUT_BYTES}
use Rattle.graph_engine.specs.Graph.{graph_text}

-- the verifier accepts the program, or this is the first reason for which it doesn't
abbrev pub Verifies : List Insn → Option Refusal → Type 0
Verifies program None = Sound program
Verifies program (Some refusal) = Refuses program refusal

-- the text of a program, with the reason for which it is refused, if it is
abbrev pub Draws : List Insn → List ℕ → Type 0
Draws program text = (refusal : Option Refusal) × Verifies program refusal × (text ≡ graph_text program refusal)

-- what is shown of a text: its program, or the line of its first fault
abbrev pub ShowsText : CheckInput → List ℕ → ℕ → List ℕ → Type 0
ShowsText input bytes status text =
    ((program : List Insn) × Reads input bytes program × (status ≡ 0) × Draws program text)
    ⊎ (ShowsFault input bytes text × (status ≡ 1))

-- an input's length has a limit
abbrev pub ShowsGraph : CheckInput → List ℕ → ℕ → List ℕ → Type 0
ShowsGraph input bytes status text =
    ((length bytes ≤ INPUT_BYTES) × ShowsText input bytes status text)
    ⊎ ((INPUT_BYTES < length bytes) × ShowsTooLong status text)
