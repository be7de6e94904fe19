-- What contracts see of the assembler's own types. No public clause cites these.
use Rattle.std.specs.Prelude.{List, map, option_map}
use Rattle.filter_asm.specs.Operands as spec
use Rattle.filter_asm.specs.declared.number.Numeral.{Numeral}
use Rattle.filter_asm.specs.declared.operands.Operands.{Operands}
use Rattle.filter_asm.specs.declared.operands.Part.{Part}
use Rattle.filter_asm.specs.declared.operands.Part.TheVariants.{Exactly, Number, Label}

abbrev pub part_of : Part → spec.Part
part_of (Exactly text) = spec.Exactly text.now
part_of Number = spec.Number
part_of Label = spec.Label

abbrev pub parts_of : List Part → List spec.Part
parts_of parts = map part_of parts

abbrev pub numeral_of : Numeral → spec.Numeral
numeral_of n = record { negative = n.negative; digits = n.digits.now }

abbrev pub operands_of : Operands → spec.Operands
operands_of o = record { number = option_map numeral_of o.number; first = option_map (λ l. l.now) o.first; second = option_map (λ l. l.now) o.second }
