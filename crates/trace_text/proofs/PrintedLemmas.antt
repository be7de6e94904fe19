-- All that `sim` and `run` print is read, and what is drawn of it.
use Rattle.std.proofs.Common.{◌≡◌, ℕ, ◌<◌, true, List, [], ◌∷◌, ◌++◌, length, Option, Some, None, Result, Ok, Err, refl, ap, ◌∙◌, subst, sym, arith, append_assoc, append-nil}
use Rattle.std.specs.Prelude.{codes, map}
use Rattle.std.specs.Fmt.{decimal}
use Rattle.std.specs.List.{All, AllByRecursion, flat_map}
use Rattle.std.proofs.lemmas.List.Elements.{recursion_from_All}
use Rattle.bpf_insn.specs.Texts.{is_blank, words_of}
use Rattle.endpoint_caps.specs.declared.Rights.{Rights}
use Rattle.endpoint_caps.specs.declared.Rights.TheVariants.{R, M, Rm}
use Rattle.endpoint_caps.specs.declared.Cap.{Cap}
use Rattle.filter_table.specs.Listed.{ListedFilter}
use Rattle.filter_table.specs.Tables.{TableState, instructions_of}
use Rattle.world_events.specs.declared.event.Event.{Event}
use Rattle.world_events.specs.declared.event.Answer.{Answer}
use Rattle.world_events.specs.declared.event.Done.{Done}
use Rattle.world_events.specs.declared.fault.WorldFault.{WorldFault}
use Rattle.world_events.specs.declared.fault.WorldFault.TheVariants.{NoSuchCore, Nothing, NotReady, NotIdle, Spent, Outstanding, NoneWaiting, NoMemory}
use Rattle.trace_lines.specs.Lines as lines
use Rattle.trace_lines.specs.Lines.{Shown, said_of}
use Rattle.trace_lines.specs.Traces as read
use Rattle.trace_lines.specs.Words.{is_other}
use Rattle.sim_lines.specs.Events.{event_line, done_line, left_line}
use Rattle.sim_lines.specs.Tables.{rights_name, parent_word, cap_line, filter_line, total_line, table_text}
use Rattle.trace_text.specs.Reading.{Printed, Told, Table, NoTable, Left, printed_text, drawn_of, shown_of, shown_done, CanDraw, CanDrawDone, CanDrawPrinted}
use Rattle.trace_text.proofs.TextLemmas.{is_lf, Lacks, lacks_append, decimal_lf, words_then}
use Rattle.trace_text.proofs.DrawLemmas.{Adds, adds_none, adds_both, adds_all, adds_shown, adds_skipped, line_text, told_line_is, line_lf, done_line_says, missing_line_says, fault_line_says}

-- Events

event_adds : (e : Event) (t : Result Answer WorldFault) (x : Shown) → said_of (line_text e t) ≡ lines.Done x → Adds (event_line e t) (x ∷ [])
event_adds e t x says = subst (λ (l : List ℕ). Adds l (x ∷ [])) (sym (told_line_is e t)) (adds_shown (line_text e t) x (line_lf e t) says)

done_adds : (e : Event) (answer : Answer) → CanDraw e (Ok answer) → Adds (event_line e (Ok answer)) (shown_of e (Ok answer) ∷ [])
done_adds e answer can = event_adds e (Ok answer) (shown_of e (Ok answer)) (done_line_says e answer can)

missing_adds : (e : Event) → Adds (event_line e (Err NoSuchCore)) []
missing_adds e =
    subst (λ (l : List ℕ). Adds l []) (sym (told_line_is e (Err NoSuchCore))) (adds_skipped (line_text e (Err NoSuchCore)) (line_lf e (Err NoSuchCore)) (missing_line_says e))

pub told_adds : (e : Event) (t : Result Answer WorldFault) → CanDraw e t → Adds (event_line e t) (drawn_of (Told e t))
told_adds e (Ok answer) can = done_adds e answer can
told_adds e (Err NoSuchCore) can = missing_adds e
told_adds e (Err Nothing) can = event_adds e (Err Nothing) (shown_of e (Err Nothing)) (fault_line_says e Nothing can refl)
told_adds e (Err NotReady) can = event_adds e (Err NotReady) (shown_of e (Err NotReady)) (fault_line_says e NotReady can refl)
told_adds e (Err NotIdle) can = event_adds e (Err NotIdle) (shown_of e (Err NotIdle)) (fault_line_says e NotIdle can refl)
told_adds e (Err Spent) can = event_adds e (Err Spent) (shown_of e (Err Spent)) (fault_line_says e Spent can refl)
told_adds e (Err Outstanding) can = event_adds e (Err Outstanding) (shown_of e (Err Outstanding)) (fault_line_says e Outstanding can refl)
told_adds e (Err NoneWaiting) can = event_adds e (Err NoneWaiting) (shown_of e (Err NoneWaiting)) (fault_line_says e NoneWaiting can refl)
told_adds e (Err NoMemory) can = event_adds e (Err NoMemory) (shown_of e (Err NoMemory)) (fault_line_says e NoMemory can refl)

-- Other lines

other_line : (w rest : List ℕ) → 0 < length w → Lacks is_blank w → is_other w ≡ true → said_of (w ++ 32 ∷ rest) ≡ lines.Skipped
other_line w rest some none other =
    let skipped : lines.is_skipped (words_of (w ++ 32 ∷ rest)) ≡ true = ap lines.is_skipped (words_then w rest some none) ∙ (rw other refl) in
    rw skipped refl

other_adds : (w rest : List ℕ) → 0 < length w → Lacks is_blank w → Lacks is_lf w → is_other w ≡ true → Lacks is_lf rest → Adds ((w ++ 32 ∷ rest) ++ 10 ∷ []) []
other_adds w rest some none lacks other rest_lacks = adds_skipped (w ++ 32 ∷ rest) (lacks_append is_lf w (32 ∷ rest) lacks rest_lacks) (other_line w rest some none other)

and_then : (xs word more : List ℕ) → Lacks is_lf xs → Lacks is_lf word → Lacks is_lf more → Lacks is_lf (xs ++ word ++ more)
and_then xs word more first second third = lacks_append is_lf (xs ++ word) more (lacks_append is_lf xs word first second) third

rights_lf : (rights : Rights) → Lacks is_lf (rights_name rights)
rights_lf R = refl
rights_lf M = refl
rights_lf Rm = refl

parent_lf : (parent : Option ℕ) → Lacks is_lf (parent_word parent)
parent_lf None = refl
parent_lf (Some id) = decimal_lf id

abbrev cap_rest : Cap → List ℕ
cap_rest c =
    decimal c.id ++ codes " endpoint " ++ decimal c.endpoint ++ codes " holder " ++ decimal c.holder ++ codes " rights " ++ rights_name c.rights ++ codes " parent " ++ parent_word c.parent

cap_lf : (c : Cap) → Lacks is_lf (cap_rest c)
cap_lf c =
    let to_endpoint = decimal c.id ++ codes " endpoint " ++ decimal c.endpoint in
    let to_holder = to_endpoint ++ codes " holder " ++ decimal c.holder in
    let to_rights = to_holder ++ codes " rights " ++ rights_name c.rights in
    and_then to_rights (codes " parent ") (parent_word c.parent)
    (and_then to_holder (codes " rights ") (rights_name c.rights)
    (and_then to_endpoint (codes " holder ") (decimal c.holder)
    (and_then (decimal c.id) (codes " endpoint ") (decimal c.endpoint) (decimal_lf c.id) refl (decimal_lf c.endpoint)) refl (decimal_lf c.holder)) refl (rights_lf c.rights)) refl (parent_lf c.parent)

cap_adds : (c : Cap) → Adds (cap_line c) []
cap_adds c = other_adds (codes "cap") (cap_rest c) (omega arith) refl refl refl (cap_lf c)

abbrev filter_rest : ListedFilter → List ℕ
filter_rest f =
    decimal f.id ++ codes " owner " ++ decimal f.owner ++ codes " cap " ++ decimal f.cap ++ codes " endpoint " ++ decimal f.endpoint ++ codes " instructions " ++ decimal (length f.program)

filter_lf : (f : ListedFilter) → Lacks is_lf (filter_rest f)
filter_lf f =
    let to_owner = decimal f.id ++ codes " owner " ++ decimal f.owner in
    let to_cap = to_owner ++ codes " cap " ++ decimal f.cap in
    let to_endpoint = to_cap ++ codes " endpoint " ++ decimal f.endpoint in
    and_then to_endpoint (codes " instructions ") (decimal (length f.program))
    (and_then to_cap (codes " endpoint ") (decimal f.endpoint)
    (and_then to_owner (codes " cap ") (decimal f.cap)
    (and_then (decimal f.id) (codes " owner ") (decimal f.owner) (decimal_lf f.id) refl (decimal_lf f.owner)) refl (decimal_lf f.cap)) refl (decimal_lf f.endpoint)) refl (decimal_lf (length f.program))

filter_adds : (f : ListedFilter) → Adds (filter_line f) []
filter_adds f = other_adds (codes "filter") (filter_rest f) (omega arith) refl refl refl (filter_lf f)

abbrev total_rest : ℕ → TableState → List ℕ
total_rest core s =
    decimal core ++ codes ": version " ++ decimal s.version ++ codes " caps " ++ decimal (length s.caps.held) ++ codes " filters " ++ decimal (length s.filters) ++ codes " instructions " ++ decimal (instructions_of s.filters)

total_lf : (core : ℕ) (s : TableState) → Lacks is_lf (total_rest core s)
total_lf core s =
    let to_version = decimal core ++ codes ": version " ++ decimal s.version in
    let to_caps = to_version ++ codes " caps " ++ decimal (length s.caps.held) in
    let to_filters = to_caps ++ codes " filters " ++ decimal (length s.filters) in
    and_then to_filters (codes " instructions ") (decimal (instructions_of s.filters))
    (and_then to_caps (codes " filters ") (decimal (length s.filters))
    (and_then to_version (codes " caps ") (decimal (length s.caps.held))
    (and_then (decimal core) (codes ": version ") (decimal s.version) (decimal_lf core) refl (decimal_lf s.version)) refl (decimal_lf (length s.caps.held))) refl (decimal_lf (length s.filters))) refl (decimal_lf (instructions_of s.filters))

total_adds : (core : ℕ) (s : TableState) → Adds (total_line core s) []
total_adds core s = other_adds (codes "show") (total_rest core s) (omega arith) refl refl refl (total_lf core s)

caps_add : (caps : List Cap) → Adds (flat_map cap_line caps) []
caps_add [] = adds_none
caps_add (c ∷ caps) = adds_both (cap_line c) (flat_map cap_line caps) [] [] (cap_adds c) (caps_add caps)

filters_add : (filters : List ListedFilter) → Adds (flat_map filter_line filters) []
filters_add [] = adds_none
filters_add (f ∷ filters) = adds_both (filter_line f) (flat_map filter_line filters) [] [] (filter_adds f) (filters_add filters)

pub table_adds : (core : ℕ) (s : TableState) → Adds (table_text core s) []
table_adds core s =
    adds_both (total_line core s ++ flat_map cap_line s.caps.held) (flat_map filter_line s.filters) [] []
    (adds_both (total_line core s) (flat_map cap_line s.caps.held) [] [] (total_adds core s) (caps_add s.caps.held)) (filters_add s.filters)

pub no_table_adds : (core : ℕ) → Adds (printed_text (NoTable core)) []
no_table_adds core =
    let fault = codes ": fault NoSuchCore" in
    subst (λ (l : List ℕ). Adds l []) (append_assoc (codes "show " ++ decimal core) fault (10 ∷ []))
    (other_adds (codes "show") (decimal core ++ fault) (omega arith) refl refl refl (lacks_append is_lf (decimal core) fault (decimal_lf core) refl))

left_adds : (core number : ℕ) → Adds (left_line core number) []
left_adds core number = other_adds (codes "left") (decimal core ++ codes " " ++ decimal number) (omega arith) refl refl refl (and_then (decimal core) (codes " ") (decimal number) (decimal_lf core) refl (decimal_lf number))

-- All lines

printed_adds : (p : Printed) → CanDrawPrinted p → Adds (printed_text p) (drawn_of p)
printed_adds (Told event told) can = told_adds event told can
printed_adds (Table core s) can = table_adds core s
printed_adds (NoTable core) can = no_table_adds core
printed_adds (Left core number) can = left_adds core number

all_add : (printed : List Printed) → AllByRecursion CanDrawPrinted printed → Adds (flat_map printed_text printed) (flat_map drawn_of printed)
all_add [] all = adds_none
all_add (p ∷ printed) all = adds_both (printed_text p) (flat_map printed_text printed) (drawn_of p) (flat_map drawn_of printed) (printed_adds p all.0) (all_add printed all.1)

pub all_drawn : (printed : List Printed) → All CanDrawPrinted printed → read.trace_of (flat_map printed_text printed) ≡ Ok (flat_map drawn_of printed)
all_drawn printed all = adds_all (flat_map printed_text printed) (flat_map drawn_of printed) (all_add printed (recursion_from_All CanDrawPrinted printed all))

events_add : (events : List Done) → AllByRecursion CanDrawDone events → Adds (flat_map done_line events) (map shown_done events)
events_add [] all = adds_none
events_add (d ∷ events) all = adds_both (done_line d) (flat_map done_line events) (shown_done d ∷ []) (map shown_done events) (done_adds d.event d.answer all.0) (events_add events all.1)

lefts_add : (left : List (ℕ × ℕ)) → Adds (flat_map (λ l. left_line l.0 l.1) left) []
lefts_add [] = adds_none
lefts_add (l ∷ left) = adds_both (left_line l.0 l.1) (flat_map (λ l. left_line l.0 l.1) left) [] [] (left_adds l.0 l.1) (lefts_add left)

pub events_drawn : (events : List Done) (left : List (ℕ × ℕ)) → All CanDrawDone events → read.trace_of (flat_map done_line events ++ flat_map (λ l. left_line l.0 l.1) left) ≡ Ok (map shown_done events)
events_drawn events left all =
    let lefts = flat_map (λ l. left_line l.0 l.1) left in
    let both = adds_both (flat_map done_line events) lefts (map shown_done events) [] (events_add events (recursion_from_All CanDrawDone events all)) (lefts_add left) in
    adds_all (flat_map done_line events ++ lefts) (map shown_done events ++ []) both ∙ ap Ok (append-nil (map shown_done events))
