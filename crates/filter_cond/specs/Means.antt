-- What conditions say of packets.
-- A condition is true or false of a packet, or has no value, where a number that it asks for has none. It is asked from its left to
-- its right, and no further than needed.
use Rattle.std.specs.Prelude.{ℕ, ◌+◌, Bool, true, false, not, List, [], ◌∷◌, fold, Option, Some, None, option_map, option_and_then, bit_and}
use Rattle.bpf_insn.specs.Machine.{Packet, test_value}
use Rattle.filter_cond.specs.declared.check.Check.{Check}
use Rattle.filter_cond.specs.declared.check.Comparison.{Comparison}
use Rattle.filter_cond.specs.declared.cond.Cond.{Cond}
use Rattle.filter_cond.specs.declared.cond.Part.{Part}
use Rattle.filter_cond.specs.declared.cond.Part.TheVariants.{Always, Never, Is, Compare, Not, And, Or, If}
use Rattle.filter_cond.specs.Numbers.{loaded, number, results_of}

-- the bits that count
abbrev pub masked : Option ℕ → ℕ → ℕ
masked None value = value
masked (Some mask) value = bit_and value mask

-- what a test says of the number that it is about
abbrev pub passes : Check → ℕ → Bool
passes check value = test_value check.test (masked check.mask value) check.value

-- what a test says of a packet
abbrev pub tested : Check → Packet → Option Bool
tested check packet = option_map (passes check) (loaded check.load packet)

-- what a test of two numbers says of a packet
abbrev pub compared : List (Option ℕ) → Packet → Comparison → Option Bool
compared results packet comparison =
    option_and_then (λ a. option_map (λ b. test_value comparison.test a b) (number results packet comparison.right)) (number results packet comparison.left)

-- one condition, and then one of two others
abbrev pub chosen : Option Bool → Option Bool → Option Bool → Option Bool
chosen None second third = None
chosen (Some true) second third = second
chosen (Some false) second third = third

-- the truth that was found last: none where there is none
abbrev pub last : List (Option Bool) → Option Bool
last [] = None
last (truth ∷ truths) = truth

-- those before it
abbrev pub before : List (Option Bool) → List (Option Bool)
before [] = []
before (truth ∷ truths) = truths

-- what a part makes of the truths before it, of which the last stands first
abbrev pub after : List (Option ℕ) → Packet → List (Option Bool) → Part → List (Option Bool)
after results packet truths Always = Some true ∷ truths
after results packet truths Never = Some false ∷ truths
after results packet truths (Is check) = tested check packet ∷ truths
after results packet truths (Compare comparison) = compared results packet comparison ∷ truths
after results packet truths Not = option_map not (last truths) ∷ before truths
after results packet truths And = chosen (last (before truths)) (last truths) (Some false) ∷ before (before truths)
after results packet truths Or = chosen (last (before truths)) (Some true) (last truths) ∷ before (before truths)
after results packet truths If = chosen (last (before (before truths))) (last (before truths)) (last truths) ∷ before (before (before truths))

-- the truths after these parts, the last one first
abbrev pub truths_of : List (Option ℕ) → Packet → List Part → List (Option Bool)
truths_of results packet parts = fold (after results packet) [] parts

-- what a condition says of a packet
abbrev pub means : Cond → Packet → Option Bool
means cond packet = last (truths_of (results_of cond.calculations.items packet) packet cond.parts.items)

-- how many tests there are
abbrev pub tests : List Part → ℕ
tests [] = 0
tests (Is check ∷ parts) = 1 + tests parts
tests (Compare comparison ∷ parts) = 1 + tests parts
tests (_ ∷ parts) = tests parts
