-- What a test asks of a packet: questions about numbers of it. The answer is yes or no, or none where a byte that is asked for wasn't
-- captured. It is asked from the left to the right, and no further than needed.
use Rattle.std.specs.Prelude.{ℕ, Bool, true, false, not, List, [], ◌∷◌, fold, Option, Some, None, option_map}
use Rattle.bpf_insn.specs.declared.form.Size.TheVariants as size
use Rattle.bpf_insn.specs.declared.form.Test.TheVariants.{Equal, Greater, GreaterOrEqual}
use Rattle.bpf_insn.specs.Machine.{Packet}
use Rattle.filter_cond.specs.declared.check.Check.{Check}
use Rattle.filter_cond.specs.declared.number.Load.{Load}
use Rattle.filter_cond.specs.declared.number.Load.TheVariants.{At}
use Rattle.filter_cond.specs.Means.{tested, chosen}

pub data Question : Type 0 where
  Yes : Question
  No : Question
  Ask : Check → Question
  Not : Question → Question
  And : Question → Question → Question
  Or : Question → Question → Question

-- both: `none and x` is none, and `false and x` is false
abbrev pub and_then : Option Bool → Option Bool → Option Bool
and_then first second = chosen first second (Some false)

-- either: `none or x` is none, and `true or x` is true
abbrev pub or_else : Option Bool → Option Bool → Option Bool
or_else first second = chosen first (Some true) second

abbrev pub answer : Question → Packet → Option Bool
answer Yes packet = Some true
answer No packet = Some false
answer (Ask check) packet = tested check packet
answer (Not question) packet = option_map not (answer question packet)
answer (And first second) packet = and_then (answer first packet) (answer second packet)
answer (Or first second) packet = or_else (answer first packet) (answer second packet)

-- the number of one, two or four bytes at a byte of the packet, the highest first
abbrev pub byte : ℕ → Load
byte at = At size.Byte at

abbrev pub half : ℕ → Load
half at = At size.Half at

abbrev pub word : ℕ → Load
word at = At size.Word at

-- the number is this, is one of two, is above it, is at least it, or is at most it
abbrev pub is : Load → ℕ → Question
is load value = Ask (record { load = load; mask = None; test = Equal; value = value })

abbrev pub either : Load → ℕ → ℕ → Question
either load first second = Or (is load first) (is load second)

abbrev pub above : Load → ℕ → Question
above load value = Ask (record { load = load; mask = None; test = Greater; value = value })

abbrev pub at_least : Load → ℕ → Question
at_least load value = Ask (record { load = load; mask = None; test = GreaterOrEqual; value = value })

abbrev pub at_most : Load → ℕ → Question
at_most load value = Not (above load value)

-- the number's bits of this mask are those of this value
abbrev pub bits : Load → ℕ → ℕ → Question
bits load mask value = Ask (record { load = load; mask = Some mask; test = Equal; value = value })

-- one of these
abbrev pub any_of : List Question → Question
any_of [] = No
any_of (question ∷ questions) = fold Or question questions
