-- What the first pass knows of the lines that it has read. No public clause cites these.
use Rattle.std.specs.Prelude.{◌≡◌, ℕ, ◌++◌, List, [], ◌∷◌, Ok, Err}
use Rattle.filter_asm.specs.declared.pass.Pass.{Pass}
use Rattle.filter_asm.specs.declared.fault.AsmFaultKind.{AsmFaultKind}
use Rattle.filter_asm.specs.Program.{Line, Spells, definitions, drafts_of, line_gives}
use Rattle.filter_asm.specs.DraftViews as views
use Rattle.filter_asm.specs.Knows.{Knows}

-- the lines have no fault, and the pass has their labels and instructions
pub record Passed (lines : List Line) (pass : Pass) : Type 0 where
  pub known : Knows pass.labels (definitions lines)
  pub drafted : drafts_of lines ≡ Ok (views.drafts_of pass.drafts.items)

-- one more line was read
abbrev pub PassedOneMore : List Line → List ℕ → Pass → Type 0
PassedOneMore lines bytes pass = (line : Line) × Spells bytes line × Passed (lines ++ line ∷ []) pass

-- the line has this fault after the others
abbrev pub LineRefused : List Line → List ℕ → AsmFaultKind → Type 0
LineRefused lines bytes refusal = (line : Line) × Spells bytes line × (line_gives lines line ≡ Err refusal)
