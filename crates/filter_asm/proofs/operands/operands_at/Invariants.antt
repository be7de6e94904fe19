use Rattle.std.proofs.Common.{◌≡◌, ◌≤◌, length, drop, option_map}
use Rattle.filter_asm.specs.Joining.{joined}
use Rattle.filter_asm.specs.Operands as spec
use Rattle.filter_asm.specs.Texts.{texts}
use Rattle.filter_asm.specs.Views.{operands_of, parts_of}
use Rattle.filter_asm.proofs.operands.operands_at.Given as goal

abbrev pub invariant-loop-part : goal.invariant-loop-part
invariant-loop-part l =
    (l.len ≤ length l.tokens)
    × (option_map (joined (operands_of l.found)) (spec.operands_at (parts_of (drop l.part-index l.parts)) (texts (drop l.len l.tokens))) ≡ spec.operands_at (parts_of l.parts) (texts l.tokens))
