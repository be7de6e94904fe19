-- What a reader of a script answers. No public clause cites these.
use Rattle.std.specs.Prelude.{ℕ, ◌+◌, List, [], None, Result, Ok, Err}
use Rattle.filter_asm.specs.Program.{text_lines}
use Rattle.mk_script.specs.declared.fault.ScriptFault.{ScriptFault}
use Rattle.mk_script.specs.declared.reading.Reading.{Reading}
use Rattle.mk_script.specs.Changes.{Knows}
use Rattle.mk_script.specs.Drafts.{Settings}
use Rattle.mk_script.specs.Meanings.{Meaning}
use Rattle.mk_script.specs.Scripts.{MeanBehind}
use Rattle.mk_script.specs.Statements.{statements, statements_from}

-- the first lines were read: what the rest means after them, the text means after those given
abbrev pub Advances : Settings → List Meaning → ℕ → List ℕ → ℕ → List ℕ → Reading → Type 0
Advances s given n text lines rest r = (more : List Meaning) × Knows r more × ((outcome : Result (List Meaning) ScriptFault) → MeanBehind s more (statements_from (n + lines) None (text_lines rest)) outcome
    → MeanBehind s given (statements_from n None (text_lines text)) outcome)

-- the text was read whole, and has this fault first
abbrev pub Reads : Settings → List ℕ → Reading → Type 0
Reads s text r = (given : List Meaning) × Knows r given × MeanBehind s [] (statements text) (Ok given)

abbrev pub Refuses : Settings → List ℕ → ScriptFault → Type 0
Refuses s text fault = MeanBehind s [] (statements text) (Err fault)
