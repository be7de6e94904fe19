-- The picture of a trace as an SVG file: a message sequence diagram. A column is a core, and a row an event, with its line.
use Rattle.std.specs.Prelude.{ℕ, ◌+◌, ◌-◌, ◌*◌, ◌==◌, if◌then◌else◌, max, Bool, false, List, [], ◌∷◌, ◌++◌, length, codes, Option, Some, None}
use Rattle.std.specs.List.{flat_map, range_with_len}
use Rattle.std.specs.Fmt.{decimal}
use Rattle.trace_lines.specs.declared.event.Act.{Act}
use Rattle.trace_lines.specs.declared.event.Act.TheVariants as act
use Rattle.trace_lines.specs.declared.messages.MessageKind.{MessageKind}
use Rattle.trace_lines.specs.declared.messages.MessageKind.TheVariants as kind
use Rattle.trace_lines.specs.declared.messages.TraceMessage.{TraceMessage}
use Rattle.trace_lines.specs.Lines.{Shown}
use Rattle.trace_lines.specs.Links.{Drawn, drawn_of, left_of, highest_of}

-- Places

abbrev pub x_of : ℕ → ℕ
x_of core = 130 * core + 60

abbrev pub y_of : ℕ → ℕ
y_of row = 22 * row + 84

-- below so many rows, with so many further ones
abbrev pub y_below : ℕ → ℕ → ℕ
y_below rows more = y_of rows + 22 * more

-- The core at which an event happens, and the core whose message it takes

abbrev pub core_of : Act → ℕ
core_of act.Start = 0
core_of (act.Submit core) = core
core_of (act.StartFor core) = 0
core_of (act.TakeUp from) = 0
core_of (act.TakeDown to) = to
core_of (act.Rx core) = core

abbrev pub from_of : Act → ℕ
from_of (act.TakeUp from) = from
from_of a = 0

-- Shapes: a line from one point to another, and words at a point, each of a class

-- a letter of SVG's path data, and the point
unfoldable pub point : List ℕ → ℕ → ℕ → List ℕ
point letter x y = letter ++ decimal x ++ codes " " ++ decimal y

unfoldable pub stroke : List ℕ → ℕ → ℕ → ℕ → ℕ → List ℕ
stroke class x y x' y' = codes "<path class='" ++ class ++ codes "' d='" ++ point (codes "M") x y ++ point (codes "L") x' y' ++ codes "'/>\n"

unfoldable pub text_tag : List ℕ → ℕ → ℕ → List ℕ
text_tag class x y = codes "<text class='" ++ class ++ codes "' x='" ++ decimal x ++ codes "' y='" ++ decimal y ++ codes "'>"

abbrev pub label : List ℕ → ℕ → ℕ → List ℕ → List ℕ
label class x y words = text_tag class x y ++ words ++ codes "</text>\n"

-- all cores up to the highest
abbrev pub cores : ℕ → List ℕ
cores highest = range_with_len 0 (highest + 1)

-- a core: its name, and its line down to the end
abbrev pub column : ℕ → ℕ → List ℕ
column bottom core = label (codes "c") (x_of core) 56 (codes "core " ++ decimal core) ++ stroke (codes "l") (x_of core) 64 (x_of core) bottom

abbrev pub columns : ℕ → ℕ → List ℕ
columns bottom highest = flat_map (column bottom) (cores highest)

-- the message that an event takes: from the row of its sender to the event's
abbrev pub arrow_class : Bool → List ℕ
arrow_class refused = if refused then codes "a n" else codes "a"

abbrev pub arrow_from : Drawn → Option ℕ → List ℕ
arrow_from d None = []
arrow_from d (Some sender) =
    stroke (arrow_class d.shown.no) (x_of (from_of d.shown.event.act)) (y_of sender) (x_of (core_of d.shown.event.act)) (y_of d.row)

abbrev pub arrow : Drawn → List ℕ
arrow d = arrow_from d d.sender

-- an event: a dot, which is square for a packet
abbrev pub event_class : Act → List ℕ
event_class (act.Rx core) = codes "p"
event_class a = codes "e"

abbrev pub dot_class : Bool → Act → List ℕ
dot_class refused a = if refused then codes "r" else event_class a

abbrev pub words_class : Bool → List ℕ
words_class refused = if refused then codes "w" else codes "t"

-- the version that the core comes to: right of all cores, where no arrow is
abbrev pub version : ℕ → ℕ → List ℕ → List ℕ
version highest row number = if length number == 0 then [] else label (codes "v") (130 * highest + 100) (22 * row + 88) (codes "v" ++ number)

-- how far a dot reaches to either side: a square is a stroke as long as it is wide, and a round dot is the ends of a stroke alone
abbrev pub reach : Bool → Act → ℕ
reach false (act.Rx core) = 4
reach refused a = 0

abbrev pub dot : List ℕ → ℕ → ℕ → ℕ → List ℕ
dot class reach core row = stroke class (x_of core - reach) (y_of row) (x_of core + reach) (y_of row)

-- words right of the versions
abbrev pub words_at : List ℕ → ℕ → ℕ → List ℕ → List ℕ
words_at class highest y words = label class (130 * highest + 110) (y + 4) words

-- an event's dot, version and line
abbrev pub mark : ℕ → Drawn → List ℕ
mark highest d =
    dot (dot_class d.shown.no d.shown.event.act) (reach d.shown.no d.shown.event.act) (core_of d.shown.event.act) d.row
    ++ version highest d.row d.shown.version
    ++ words_at (words_class d.shown.no) highest (y_of d.row) d.shown.text

abbrev pub kind_word : MessageKind → List ℕ
kind_word kind.Prepare = codes "prepare"
kind_word kind.Vote = codes "vote"
kind_word kind.Commit = codes "commit"
kind_word kind.Abort = codes "abort"
kind_word kind.Ack = codes "ack"
kind_word kind.Submit = codes "submit"
kind_word kind.Reply = codes "reply"

-- a message that nobody took: from its sender to a row of its own, below the events
abbrev pub open_arrow : ℕ → ℕ → ℕ → TraceMessage → List ℕ
open_arrow highest rows place m =
    stroke (codes "o") (x_of m.from) (y_of m.row) (x_of m.to) (y_below rows place)
    ++ words_at (codes "u") highest (y_below rows place) (kind_word m.kind ++ codes " under way")

abbrev pub open_from : ℕ → ℕ → ℕ → List TraceMessage → List ℕ
open_from highest rows place [] = []
open_from highest rows place (m ∷ ms) = open_arrow highest rows place m ++ open_from highest rows (place + 1) ms

-- the length of the longest line
abbrev pub longest_from : ℕ → List Drawn → ℕ
longest_from so_far [] = so_far
longest_from so_far (d ∷ ds) = longest_from (max so_far (length d.shown.text)) ds

abbrev pub width_of : ℕ → ℕ → ℕ
width_of highest longest = max 390 (130 * highest + 125 + 7 * longest)

-- How it looks, in light and in dark, and the legend

unfoldable pub style : List ℕ
style = codes "<style>text{fill:#222;stroke:#fff;stroke-width:3px;paint-order:stroke}path{fill:none;stroke:#555}.g{fill:#fff}.l{stroke:#bbb}.c{font-weight:bold;text-anchor:middle}.v{fill:#070;font-weight:bold;text-anchor:end}.a{marker-end:url(#h)}.o{stroke:#a50;stroke-dasharray:5 4;marker-end:url(#h)}.e,.p,.r{stroke-width:8px;stroke-linecap:round}.p{stroke:#06c;stroke-linecap:butt}.n,.r{stroke:#c00}.w{fill:#b00}.u{fill:#850}#h path{fill:#777;stroke:none}@media(prefers-color-scheme:dark){text{fill:#ddd;stroke:#181818}path{stroke:#aaa}.g{fill:#181818}.l{stroke:#555}.v{fill:#7d7}.o{stroke:#fb6}.p{stroke:#6bf}.n,.r{stroke:#f66}.w{fill:#f88}.u{fill:#fb6}}</style>\n<defs><marker id='h' viewBox='0 0 8 8' refX='11' refY='4' markerWidth='8' markerHeight='8' markerUnits='userSpaceOnUse' orient='auto'><path d='M0 0L8 4L0 8Z'/></marker></defs>\n<rect class='g' width='100%' height='100%'/>\n"

unfoldable pub legend : List ℕ
legend = codes "<path class='e' d='M20 20L20 20'/><text x='28' y='24'>event</text>\n<path class='p' d='M78 20L86 20'/><text x='90' y='24'>packet</text>\n<path class='r' d='M151 20L151 20'/><text x='159' y='24'>refused, vetoed</text>\n<path class='o' d='M276 20L306 20'/><text x='310' y='24'>under way</text>\n"

unfoldable pub view_box : ℕ → ℕ → List ℕ
view_box width height = codes "' viewBox='0 0 " ++ decimal width ++ codes " " ++ decimal height

unfoldable pub size : ℕ → ℕ → List ℕ
size width height = decimal width ++ codes "' height='" ++ decimal height

unfoldable pub head_start : List ℕ
head_start = codes "<svg xmlns='http://www.w3.org/2000/svg' width='"

unfoldable pub head_end : List ℕ
head_end = codes "' font-family='monospace' font-size='11'>\n<title>Messages between cores</title>\n"

abbrev pub head : ℕ → ℕ → List ℕ
head width height = head_start ++ size width height ++ view_box width height ++ head_end

-- the whole file
abbrev pub svg_of : ℕ → List Drawn → List TraceMessage → List ℕ
svg_of highest rows left =
    head (width_of highest (longest_from 0 rows)) (y_below (length rows) (length left) + 20) ++ style ++ legend
    ++ columns (y_below (length rows) (length left)) highest
    ++ flat_map arrow rows ++ open_from highest (length rows) 0 left ++ flat_map (mark highest) rows ++ codes "</svg>\n"

abbrev pub svg : List Shown → List ℕ
svg events = svg_of (highest_of events) (drawn_of events) (left_of events)
