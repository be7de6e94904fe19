-- The control flow of a program as text for Graphviz, in its DOT language: a node for each instruction and an arrow to
-- each place where control may go from it.
use Rattle.std.specs.Prelude.{ℕ, ◌+◌, ◌-◌, ◌==◌, nat_lt, if◌then◌else◌, Bool, false, List, [], ◌∷◌, ◌++◌, length, codes, Option, Some, None}
use Rattle.std.specs.Option.{option_map_or}
use Rattle.std.specs.List.{enumerate_from, flat_map, list_any}
use Rattle.std.specs.Fmt.{decimal}
use Rattle.bpf_insn.specs.declared.insn.Insn.{Insn}
use Rattle.bpf_insn.specs.declared.form.Form.{Form}
use Rattle.bpf_insn.specs.declared.form.Form.TheVariants.{Ja, JmpK, JmpX, RetK, RetA}
use Rattle.bpf_insn.specs.AsmText.{label, printed}
use Rattle.bpf_insn.specs.Table.{form_of}
use Rattle.filter_verify.specs.declared.rules.Refusal.{Refusal}
use Rattle.filter_verify.specs.declared.rules.Refusal.TheVariants as refusals
use Rattle.filter_verify.specs.Numbers.{place_of}
use Rattle.console.specs.Code.{refusal_words}
use Rattle.graph_engine.specs.declared.graph.Mark.{Mark}

-- What is marked

-- the path on which a word is unwritten
abbrev pub path_of : Option Refusal → List ℕ
path_of (Some (refusals.Unwritten pc word path)) = path
path_of _ = []

-- the first of these places
abbrev pub first : List ℕ → Option ℕ
first [] = None
first (place ∷ path) = Some place

-- the place on a path after this one
abbrev pub next_on : List ℕ → ℕ → Option ℕ
next_on [] pc = None
next_on (place ∷ path) pc = if place == pc then first path else next_on path pc

abbrev pub is_on : List ℕ → ℕ → Bool
is_on path pc = list_any (λ place. place == pc) path

-- the place that is refused: where there is no return at the end, the last
abbrev pub refused_place : ℕ → Refusal → ℕ
refused_place count refusals.NoReturn = count - 1
refused_place count refusal = place_of refusal

abbrev pub is_refused : ℕ → Option Refusal → ℕ → Bool
is_refused count None pc = false
is_refused count (Some refusal) pc = refused_place count refusal == pc

-- the marks of a place in a program of this length
abbrev pub mark_of : ℕ → Option Refusal → ℕ → Mark
mark_of count refusal pc = record { refused = is_refused count refusal pc; on_path = is_on (path_of refusal) pc; next = next_on (path_of refusal) pc }

-- What is drawn

abbrev pub red : Bool → List ℕ
red marked = if marked then codes " [color=red]" else []

abbrev pub bold : Bool → List ℕ
bold marked = if marked then codes " [style=bold]" else []

-- a return has a shape of its own
abbrev pub shape : Form → List ℕ
shape (RetK k) = codes " [shape=ellipse]"
shape RetA = codes " [shape=ellipse]"
shape form = []

-- a node: its label is the line of the assembler text
unfoldable pub labelled : ℕ → Form → List ℕ
labelled pc form = codes "  n" ++ decimal pc ++ codes " [label=\"" ++ label pc ++ codes ": " ++ printed pc form ++ codes "\"]"

abbrev pub node : ℕ → Form → Mark → List ℕ
node pc form mark = labelled pc form ++ shape form ++ red mark.refused ++ bold mark.on_path ++ codes "\n"

-- the node of a place, or `out` where the program has no such place
abbrev pub target : ℕ → ℕ → List ℕ
target count to = if nat_lt to count then codes "n" ++ decimal to else codes "out"

abbrev pub is_next : Option ℕ → ℕ → Bool
is_next None to = false
is_next (Some next) to = next == to

abbrev pub arrow : ℕ → ℕ → Option ℕ → ℕ → List ℕ → List ℕ
arrow count pc next to words =
    codes "  n" ++ decimal pc ++ codes " -> " ++ target count to ++ words ++ bold (is_next next to) ++ codes "\n"

-- where a conditional jump goes if its test is true, and if it is false
abbrev pub arrows_of_test : ℕ → ℕ → Option ℕ → ℕ → ℕ → List ℕ
arrows_of_test count pc next jt jf =
    arrow count pc next (pc + 1 + jt) (codes " [label=true]") ++ arrow count pc next (pc + 1 + jf) (codes " [label=false]")

abbrev pub arrows : ℕ → ℕ → Option ℕ → Form → List ℕ
arrows count pc next (Ja k) = arrow count pc next (pc + 1 + k) []
arrows count pc next (JmpK test k jt jf) = arrows_of_test count pc next jt jf
arrows count pc next (JmpX test jt jf) = arrows_of_test count pc next jt jf
arrows count pc next (RetK k) = []
arrows count pc next RetA = []
arrows count pc next form = arrow count pc next (pc + 1) []

-- an instruction of this form at this place of a program of this length
abbrev pub drawn : ℕ → Option Refusal → ℕ → Form → List ℕ
drawn count refusal pc form =
    node pc form (mark_of count refusal pc) ++ arrows count pc (next_on (path_of refusal) pc) form

abbrev pub drawn_from : ℕ → Option Refusal → ℕ → List Insn → List ℕ
drawn_from count refusal place insns =
    flat_map (λ at. option_map_or (drawn count refusal at.0) (form_of at.1) []) (enumerate_from place insns)

unfoldable pub head : List ℕ
head = codes "digraph filter {\n  node [shape=box] [fontname=monospace]\n  edge [fontname=monospace]\n"

-- why the program is refused
abbrev pub title : Option Refusal → List ℕ
title None = []
title (Some refusal) = codes "  label=\"refused " ++ refusal_words refusal ++ codes "\"\n"

-- the text of a program, and of the reason for which it is refused, if it is
abbrev pub graph_text : List Insn → Option Refusal → List ℕ
graph_text program refusal = head ++ title refusal ++ drawn_from (length program) refusal 0 program ++ codes "}\n"
