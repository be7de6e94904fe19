-- What is shown of a capture's fault, at the end of what stands before it.
use Rattle.std.specs.Prelude.{ℕ, List, [], ◌++◌, codes, Option, Some, None}
use Rattle.capture_reader.specs.declared.fault.ReadFault.{ReadFault}
use Rattle.console.specs.Words.{read_words}

-- the line for a fault of a capture
abbrev pub fault_line : ReadFault → List ℕ
fault_line fault = codes "fault " ++ read_words fault ++ codes "\n"

-- the line for the fault, if there is one
abbrev pub fault_text : Option ReadFault → List ℕ
fault_text None = []
fault_text (Some fault) = fault_line fault

-- the status that goes with it
abbrev pub fault_status : Option ReadFault → ℕ
fault_status None = 0
fault_status (Some fault) = 1
