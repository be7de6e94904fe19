-- One line of a listing. No public clause cites these.
use Rattle.std.specs.Prelude.{◌≡◌, ◌≢◌, ◌<◌, ◌⊎◌, List, [], ◌∷◌, ◌++◌, ℕ, length, Option, Some, None}
use Rattle.bpf_insn.specs.Texts.{words_of}
use Rattle.bpf_insn.specs.declared.insn.TheConstants.{MAX_INSNS}
use Rattle.bpf_insn.specs.declared.insn.Insn.{Insn}
use Rattle.filter_listing.specs.declared.reading.Style.{Style}
use Rattle.filter_listing.specs.declared.fault.ListingFaultKind.{ListingFaultKind}
use Rattle.filter_listing.specs.Lines.{lines_of, IsLine, IsRefused}

-- the lines of what is left of a text, where anything is
abbrev pub lines_left : Option (List ℕ) → List (List ℕ)
lines_left None = []
lines_left (Some text) = lines_of text

-- a line was read after those of a program
abbrev pub Stepped : Style → List ℕ → List Insn → List Insn → Type 0
Stepped style line old new =
    ((words_of line ≡ []) × (new ≡ old))
    ⊎ ((words_of line ≢ []) × (length old < MAX_INSNS) × ((insn : Insn) × (new ≡ old ++ insn ∷ []) × IsLine style (length old) line insn))

-- a line is refused after those of a program
abbrev pub LineRefused : ListingFaultKind → Style → List ℕ → List Insn → Type 0
LineRefused kind style line old = (words_of line ≢ []) × IsRefused kind style old line
