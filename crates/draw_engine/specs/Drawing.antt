-- What `draw` shows of an input: the picture of its trace, or its first bad line.
use Rattle.std.specs.Prelude.{◌≡◌, Bool, true, false, ℕ, ◌<◌, ◌≤◌, ◌⊎◌, List, ◌++◌, length, codes, Result, Ok, Err}
use Rattle.std.specs.Fmt.{decimal}
use Rattle.engine_io.specs.declared.input.TheConstants.{INPUT_BYTES}
use Rattle.engine_io.specs.Reading.{ShowsTooLong}
use Rattle.trace_lines.specs.Lines.{Shown}
use Rattle.trace_lines.specs.Traces.{trace_of}
use Rattle.draw_engine.specs.Svg.{svg}
use Rattle.draw_engine.specs.Text.{text as as_text}

abbrev pub bad_line : ℕ → List ℕ
bad_line number = codes "line " ++ decimal number ++ codes ": BadLine\n"

-- as text, or as an SVG file
abbrev pub picture : Bool → List Shown → List ℕ
picture true events = as_text events
picture false events = svg events

abbrev pub Shows : Bool → Result (List Shown) ℕ → ℕ → List ℕ → Type 0
Shows plain (Ok events) status text = (status ≡ 0) × (text ≡ picture plain events)
Shows plain (Err number) status text = (status ≡ 1) × (text ≡ bad_line number)

-- an input's length has a limit
abbrev pub ShowsDraw : Bool → List ℕ → ℕ → List ℕ → Type 0
ShowsDraw plain input status text =
    ((length input ≤ INPUT_BYTES) × Shows plain (trace_of input) status text)
    ⊎ ((INPUT_BYTES < length input) × ShowsTooLong status text)
