-- What contracts see of the assembler's table. No public clause cites these.
use Rattle.std.specs.Prelude.{ℕ, List, map, bit_or}
use Rattle.filter_asm.specs.Mnemonics as spec
use Rattle.filter_asm.specs.Views.{parts_of}
use Rattle.filter_asm.specs.declared.table.Shape.{Shape}
use Rattle.filter_asm.specs.declared.table.Mnemonic.{Mnemonic}

-- a shape, for a mnemonic with this code without the shape's bits
abbrev pub shape_of : ℕ → Shape → spec.Shape
shape_of base s = record { parts = parts_of s.parts.now; code = bit_or base s.mode }

abbrev pub shapes_of : ℕ → List Shape → List spec.Shape
shapes_of base shapes = map (shape_of base) shapes

abbrev pub mnemonic_of : Mnemonic → spec.Mnemonic
mnemonic_of m = record { word = m.word.now; exchanged = m.exchanged; shapes = shapes_of m.base m.shapes.now }
