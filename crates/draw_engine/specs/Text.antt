-- The picture of a trace as text, for a terminal: a column is a core, and a row an event, with its number and its line.
use Rattle.std.specs.Prelude.{ℕ, ◌+◌, ◌-◌, ◌==◌, if◌then◌else◌, Bool, List, [], ◌++◌, length, take, codes, Option, Some, None}
use Rattle.std.specs.List.{flat_map}
use Rattle.std.specs.Fmt.{decimal}
use Rattle.trace_lines.specs.declared.event.Act.{Act}
use Rattle.trace_lines.specs.declared.event.Act.TheVariants as act
use Rattle.trace_lines.specs.declared.messages.TraceMessage.{TraceMessage}
use Rattle.trace_lines.specs.Lines.{Shown}
use Rattle.trace_lines.specs.Links.{Drawn, drawn_of, left_of, highest_of}
use Rattle.draw_engine.specs.Svg.{core_of, cores, kind_word}

-- a column's words, with spaces up to the next column
unfoldable pub cell : List ℕ → List ℕ → List ℕ
cell front word = front ++ word ++ take (8 - (length front + length word)) (codes "        ")

-- an event: `*`, a packet `#`, and one that is refused, vetoed or not done `x`
abbrev pub act_sign : Act → List ℕ
act_sign (act.Rx core) = codes "#"
act_sign a = codes "*"

abbrev pub sign : Bool → Act → List ℕ
sign refused a = if refused then codes "x" else act_sign a

-- the version that the core comes to, or the event's sign
abbrev pub own_cell : Drawn → List ℕ
own_cell d = if length d.shown.version == 0 then cell (sign d.shown.no d.shown.event.act) [] else cell (codes "v") d.shown.version

abbrev pub core_cell : Drawn → ℕ → List ℕ
core_cell d core = if core == core_of d.shown.event.act then own_cell d else cell (codes "|") []

-- the row of the event that sent the message, from 1
abbrev pub sender_words : Option ℕ → List ℕ
sender_words None = []
sender_words (Some row) = codes " <- " ++ decimal (row + 1)

abbrev pub text_row : ℕ → Drawn → List ℕ
text_row highest d = flat_map (core_cell d) (cores highest) ++ decimal (d.row + 1) ++ codes " " ++ d.shown.text ++ sender_words d.sender ++ codes "\n"

-- a message that nobody took
abbrev pub open_row : TraceMessage → List ℕ
open_row m = codes "under way: " ++ kind_word m.kind ++ codes " to core " ++ decimal m.to ++ codes " <- " ++ decimal (m.row + 1) ++ codes "\n"

abbrev pub name_cell : ℕ → List ℕ
name_cell core = cell (codes "core ") (decimal core)

abbrev pub text_of : ℕ → List Drawn → List TraceMessage → List ℕ
text_of highest rows left = flat_map name_cell (cores highest) ++ codes "\n" ++ flat_map (text_row highest) rows ++ flat_map open_row left

abbrev pub text : List Shown → List ℕ
text events = text_of (highest_of events) (drawn_of events) (left_of events)
