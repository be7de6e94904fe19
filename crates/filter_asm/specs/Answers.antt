-- What a call answers, but for NoMemory. No public clause cites these.
use Rattle.std.specs.Prelude.{◌≡◌, List, [], ◌∷◌, ◌++◌, Result, Ok, Err, ◌⊎◌}
use Rattle.bpf_insn.specs.declared.insn.Insn.{Insn}
use Rattle.std.specs.declared.vec.Vec.{Vec}
use Rattle.std.specs.declared.alloc.Global.{Global}
use Rattle.filter_asm.specs.declared.fault.AsmFault.{AsmFault}
use Rattle.filter_asm.specs.declared.fault.AsmFaultKind.{AsmFaultKind}
use Rattle.filter_asm.specs.declared.fault.AsmFaultKind.TheVariants as kind
use Rattle.filter_asm.specs.Faults.{fault_of}
use Rattle.filter_asm.specs.Program as spec

-- the answer is this outcome, unless memory ran out
abbrev pub Answers : Result (Vec Insn Global) AsmFault → Result (List Insn) spec.Fault → Type 0
Answers (Ok program) outcome = outcome ≡ Ok program.items
Answers (Err fault) outcome = (fault.kind ≡ kind.NoMemory) ⊎ (outcome ≡ Err (fault_of fault))

-- the list has one more instruction, the one that was linked
abbrev pub IsNext : List Insn → List Insn → Result Insn AsmFaultKind → Type 0
IsNext old new (Ok insn) = new ≡ old ++ insn ∷ []
IsNext old new (Err k) = ⊥
