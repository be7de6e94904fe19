-- What a text stands for: its events, or its first bad line.
use Rattle.std.specs.Prelude.{ℕ, ◌+◌, ◌==◌, if◌then◌else◌, Bool, true, false, List, [], ◌∷◌, map, Result, Ok, Err}
use Rattle.std.specs.List.{slice_split, flat_map, list_any, position_or_len}
use Rattle.trace_lines.specs.Lines.{Shown, Said, Bad, Done, said_of}

abbrev pub is_bad : Said → Bool
is_bad Bad = true
is_bad _ = false

abbrev pub shown_in : Said → List Shown
shown_in (Done s) = s ∷ []
shown_in _ = []

-- what each line says
abbrev pub said_in : List (List ℕ) → List Said
said_in lines = map said_of lines

-- the events, or the number of the first bad line, from 1
abbrev pub outcome : List Said → Result (List Shown) ℕ
outcome all = if list_any is_bad all then Err (position_or_len is_bad all + 1) else Ok (flat_map shown_in all)

abbrev pub trace_of : List ℕ → Result (List Shown) ℕ
trace_of text = outcome (said_in (slice_split (λ b. b == 10) text))
