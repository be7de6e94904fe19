-- The line for the first fault of a script.
use Rattle.std.specs.Prelude.{ℕ, List, [], ◌++◌, codes}
use Rattle.std.specs.Fmt.{decimal}
use Rattle.console.specs.Words.{asm_fault_name, read_words, code_words}
use Rattle.mk_script.specs.declared.fault.BodyFault.{BodyFault}
use Rattle.mk_script.specs.declared.fault.BodyFault.TheVariants.{Hex, Asm, Ddd, Capture}
use Rattle.mk_script.specs.declared.fault.ScriptFault.{ScriptFault}
use Rattle.mk_script.specs.declared.fault.ScriptFaultKind.{ScriptFaultKind}
use Rattle.mk_script.specs.declared.fault.ScriptFaultKind.TheVariants.{BadLine, NoCores, BadNumber, Twice, AfterCores, NoName, BadBody, NoMemory}

-- what can't be read, and why
abbrev pub body_words : BodyFault → List ℕ
body_words Hex = codes "hex"
body_words (Asm fault) = codes "asm " ++ decimal fault.line ++ codes " " ++ asm_fault_name fault.kind
body_words (Ddd fault) = codes "ddd " ++ code_words fault
body_words (Capture fault) = codes "capture " ++ read_words fault

abbrev pub kind_words : ScriptFaultKind → List ℕ
kind_words BadLine = codes "BadLine"
kind_words NoCores = codes "NoCores"
kind_words BadNumber = codes "BadNumber"
kind_words Twice = codes "Twice"
kind_words AfterCores = codes "AfterCores"
kind_words NoName = codes "NoName"
kind_words (BadBody fault) = codes "BadBody " ++ body_words fault
kind_words NoMemory = []

abbrev pub script_fault_line : ScriptFault → List ℕ
script_fault_line fault = codes "line " ++ decimal fault.line ++ codes ": " ++ kind_words fault.kind ++ codes "\n"
