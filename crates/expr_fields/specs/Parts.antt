-- Questions as parts of conditions: operands stand before what they are operands of.
use Rattle.std.specs.Prelude.{List, [], ◌∷◌, ◌++◌}
use Rattle.filter_cond.specs.declared.cond.Part.{Part}
use Rattle.filter_cond.specs.declared.cond.Part.TheVariants as part
use Rattle.expr_meaning.specs.Questions.{Question, Yes, No, Ask, Not, And, Or}

abbrev pub parts_of : Question → List Part
parts_of Yes = part.Always ∷ []
parts_of No = part.Never ∷ []
parts_of (Ask check) = part.Is check ∷ []
parts_of (Not question) = parts_of question ++ part.Not ∷ []
parts_of (And first second) = parts_of first ++ (parts_of second ++ part.And ∷ [])
parts_of (Or first second) = parts_of first ++ (parts_of second ++ part.Or ∷ [])
