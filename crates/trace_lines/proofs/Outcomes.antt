-- What lines stand for, one line after another.
use Rattle.std.proofs.Common.{◌≡◌, ℕ, ◌+◌, List, [], ◌∷◌, ◌++◌, Result, Ok, Err, ap, refl, arith, append_assoc, Bool, true, false, if◌then◌else◌}
use Rattle.std.specs.List.{flat_map, list_any, position_or_len}
use Rattle.trace_lines.specs.Lines.{Shown, Said, Skipped, Bad, Done}
use Rattle.trace_lines.specs.Traces.{is_bad, shown_in, outcome}

-- after this many lines, with these events
abbrev pub after : ℕ → List Shown → Result (List Shown) ℕ → Result (List Shown) ℕ
after n found (Ok more) = Ok (found ++ more)
after n found (Err place) = Err (n + place)

picked : (b : Bool) (n p : ℕ) (found xs ys : List Shown) → after n found (if b then Err (1 + p + 1) else Ok (xs ++ ys)) ≡ after (n + 1) (found ++ xs) (if b then Err (p + 1) else Ok ys)
picked true n p found xs ys = ap Err (omega arith)
picked false n p found xs ys = rw append_assoc

passed : (b : Bool) (n p : ℕ) (found ys : List Shown) → after n found (if b then Err (1 + p + 1) else Ok ys) ≡ after (n + 1) found (if b then Err (p + 1) else Ok ys)
passed true n p found ys = ap Err (omega arith)
passed false n p found ys = refl

pub skipped : (n : ℕ) (found : List Shown) (rest : List Said) → after n found (outcome (Skipped ∷ rest)) ≡ after (n + 1) found (outcome rest)
skipped n found rest = passed (list_any is_bad rest) n (position_or_len is_bad rest) found (flat_map shown_in rest)

pub done : (n : ℕ) (found : List Shown) (s : Shown) (rest : List Said) → after n found (outcome (Done s ∷ rest)) ≡ after (n + 1) (found ++ s ∷ []) (outcome rest)
done n found s rest = picked (list_any is_bad rest) n (position_or_len is_bad rest) found (s ∷ []) (flat_map shown_in rest)

pub bad : (n : ℕ) (found : List Shown) (rest : List Said) → after n found (outcome (Bad ∷ rest)) ≡ Err (n + 1)
bad n found rest = refl
