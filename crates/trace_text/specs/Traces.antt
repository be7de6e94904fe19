-- What a run printed, after its script and a line `trace`, and the script that this stands for.
use Rattle.std.specs.Prelude.{◌≡◌, ◌<◌, ◌^◌, ℕ, List, [], ◌∷◌, ◌++◌, codes, filter, map, Some}
use Rattle.std.specs.List.{flat_map}
use Rattle.world_events.specs.declared.event.Event.{Event}
use Rattle.world_events.specs.declared.event.Event.TheVariants.{Start, Submit, StartFor, Take, Rx}
use Rattle.world_events.specs.declared.event.Answer.{Answer}
use Rattle.world_events.specs.declared.event.Done.{Done}
use Rattle.world_events.specs.Memory.{lacked_memory}
use Rattle.mk_script.specs.declared.script.Item.{Item}
use Rattle.mk_script.specs.declared.script.Item.TheVariants as item
use Rattle.mk_script.specs.declared.script.Script.{Script}
use Rattle.mk_script.specs.Drafts.{counted}
use Rattle.mk_script.specs.Meanings.{is_request}
use Rattle.mk_script.specs.Threads.{received}
use Rattle.sim_lines.specs.Events.{done_line, left_line}

-- a run as text: `trace`, the line of each event, and the line of each packet that was left, by its core and its number
abbrev pub trace_of : List Done → List (ℕ × ℕ) → List ℕ
trace_of events left = codes "trace\n" ++ flat_map done_line events ++ flat_map (λ l. left_line l.0 l.1) left

-- what the line of an event asks for: the event once more, where a core that lacked memory lacks it again
abbrev pub item_of : Event → Answer → Item
item_of (Start op) answer = item.Begin
item_of (Submit core op) answer = item.Submit core
item_of (StartFor core) answer = item.StartFor core
item_of (Take to from short) answer = item.Apply (Take to from (lacked_memory answer))
item_of (Rx core number packet floor) answer = item.Apply (Rx core number packet floor)

abbrev pub trace_item : Done → Item
trace_item d = item_of d.event d.answer

-- the requests among items
abbrev pub asks_of : List Item → List Item
asks_of items = filter is_request items

-- an event can be found again by its words: its cores are numbers of 16 bits, and a packet is the one of its number, from 1,
-- among those that the script receives
abbrev pub IsNamedIn : List Event → Event → Type 0
IsNamedIn jobs (Start op) = Unit {0}
IsNamedIn jobs (Submit core op) = core < 2 ^ 16
IsNamedIn jobs (StartFor core) = core < 2 ^ 16
IsNamedIn jobs (Take to from short) = (to < 2 ^ 16) × (from < 2 ^ 16)
IsNamedIn jobs (Rx core number packet floor) = (core < 2 ^ 16) × (number < 2 ^ 64) × (counted jobs number ≡ Some (Rx core number packet floor))

abbrev pub IsNamed : List Item → Done → Type 0
IsNamed items d = IsNamedIn (received items) d.event

-- the last line ends in LF
abbrev pub EndsInLf : List ℕ → Type 0
EndsInLf text = (front : List ℕ) × (text ≡ front ++ 10 ∷ [])

-- the requests of a script, and then the events of a run, on the script's machine
abbrev pub traced_script : Script → List Done → Script
traced_script script events = record { limits = script.limits; budgets = script.budgets; items = asks_of script.items ++ map trace_item events }
