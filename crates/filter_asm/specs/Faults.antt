-- The fault that a call answers, as the definitions see it: its line and its kind.
use Rattle.filter_asm.specs.declared.fault.AsmFault.{AsmFault}
use Rattle.filter_asm.specs.Program as spec

abbrev pub fault_of : AsmFault → spec.Fault
fault_of fault = record { line = fault.line; kind = fault.kind }
