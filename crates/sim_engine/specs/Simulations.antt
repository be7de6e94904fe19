-- What a script does on the world, and what it prints: an event prints its line; a refused one changes nothing; settling
-- takes all messages, and begins all that was asked for.
use Rattle.std.specs.Prelude.{Bool, true, false, ◌≡◌, ◌≢◌, ◌<◌, ◌⊎◌, ℕ, Option, Some, None, Result, Ok, Err, List, [], ◌∷◌, ◌++◌, codes}
use Rattle.std.specs.List.{flat_map}
use Rattle.std.specs.Fmt.{decimal}
use Rattle.filter_table.specs.declared.operation.Op.{Op}
use Rattle.filter_table.specs.Tables.{table}
use Rattle.world_events.specs.declared.event.Event.{Event}
use Rattle.world_events.specs.declared.event.Event.TheVariants.{StartFor}
use Rattle.world_events.specs.declared.event.Answer.{Answer}
use Rattle.world_events.specs.declared.event.Done.{Done}
use Rattle.world_model.specs.Worlds.{World, Happens, version_at}
use Rattle.world_events.specs.declared.fault.WorldFault.{WorldFault}
use Rattle.world_events.specs.declared.fault.WorldFault.TheVariants.{NoMemory}
use Rattle.world_model.specs.Refusals.{WorldRefuses, Settles, AllQuiet, waiting_at}
use Rattle.sim_lines.specs.Events.{event_line, done_line}
use Rattle.sim_lines.specs.Tables.{table_text}
use Rattle.mk_script.specs.declared.script.Item.{Item}
use Rattle.mk_script.specs.declared.script.Item.TheVariants as item
use Rattle.sim_engine.specs.declared.requests.PendingRequest.{PendingRequest}
use Rattle.sim_engine.specs.declared.way.Way.{Way}
use Rattle.sim_engine.specs.declared.way.Way.TheVariants as way
use Rattle.sim_engine.specs.Pending.{FirstAt, NoneAt, left}
use Rattle.sim_engine.specs.Ways.{home_of, event_of, way_of}

-- the world, and the requests that were asked for and not begun, in order
pub record Simulation : Type 0 where
  pub world : World
  pub pending : List PendingRequest

abbrev pub sim : World → List (Option PendingRequest) → Simulation
sim w places = record { world = w; pending = left places }

-- nothing is asked for
abbrev pub just : World → Simulation
just w = record { world = w; pending = [] }

-- the event is done with this answer, or refused with this fault and nothing changes
abbrev pub Tells : World → Event → Result Answer WorldFault → World → Type 0
Tells w event (Ok answer) w' = Happens w event w' answer
Tells w event (Err fault) w' = (fault ≢ NoMemory) × WorldRefuses w event fault × (w' ≡ w)

-- an event's line
abbrev pub Applies : Simulation → Event → Simulation → List ℕ → Type 0
Applies s event s' text = (told : Result Answer WorldFault) × Tells s.world event told s'.world × (s'.pending ≡ s.pending) × (text ≡ event_line event told)

-- Beginning a request

abbrev pub nothing_line : Way → List ℕ
nothing_line way.Start = codes "start: fault Nothing\n"
nothing_line (way.Submit core) = codes "submit " ++ decimal core ++ codes ": fault Nothing\n"

-- the first request of the way's core is begun, and leaves the list where its event is done
pub data Begins (s : Simulation) (by : Way) (s' : Simulation) (text : List ℕ) : Type 0 where
  nothing : NoneAt (home_of by) s.pending → s' ≡ s → text ≡ nothing_line by → Begins s by s' text
  done : (first : PendingRequest) → FirstAt (home_of by) s.pending first s'.pending → (answer : Answer) → Tells s.world (event_of by first.op) (Ok answer) s'.world
      → text ≡ event_line (event_of by first.op) (Ok answer) → Begins s by s' text
  refused : (first : PendingRequest) → (rest : List PendingRequest) → FirstAt (home_of by) s.pending first rest → (fault : WorldFault) → Tells s.world (event_of by first.op) (Err fault) s'.world
      → s' ≡ s → text ≡ event_line (event_of by first.op) (Err fault) → Begins s by s' text

-- Settling

-- no core has a request waiting on core 0
abbrev pub NoneWaits : World → Type 0
NoneWaits w = (core : ℕ) → core < 64 → waiting_at w core ≡ None

-- what settling begins next, and what is pending without it: the request that the least core has waiting, else the first
pub data Next (s : Simulation) (event : Event) (rest : List PendingRequest) : Type 0 where
  waits : (core : ℕ) (op : Op) → waiting_at s.world core ≡ Some op → ((less : ℕ) → less < core → waiting_at s.world less ≡ None)
      → event ≡ StartFor core → rest ≡ s.pending → Next s event rest
  asked : (first : PendingRequest) → NoneWaits s.world → s.pending ≡ first ∷ rest
      → event ≡ event_of (way_of first.home) first.op → Next s event rest

pub record NothingLeft (s : Simulation) : Type 0 where
  pub none_waits : NoneWaits s.world
  pub none_pending : s.pending ≡ []

-- all messages are taken
pub record Quiets (w : World) (w' : World) (text : List ℕ) : Type 0 where
  pub taken : List Done
  pub settles : Settles w taken w'
  pub quiet : AllQuiet w'
  pub printed : text ≡ flat_map done_line taken

-- what is left is begun, one after the other, each followed by all messages, up to a fault
pub data Drains : Simulation → Simulation → List ℕ → Type 0 where
  ends : (s : Simulation) → NothingLeft s → Drains s s []
  stops : (s : Simulation) (event : Event) (rest : List PendingRequest) (fault : WorldFault) → Next s event rest → Tells s.world event (Err fault) s.world
      → Drains s s (event_line event (Err fault))
  goes_on : (s s' : Simulation) (event : Event) (rest : List PendingRequest) (answer : Answer) (begun quiet : World) (taken later : List ℕ)
      → Next s event rest → Tells s.world event (Ok answer) begun → Quiets begun quiet taken → Drains (record { world = quiet; pending = rest }) s' later
      → Drains s s' (event_line event (Ok answer) ++ taken ++ later)

-- something is begun, or what is left has come to its end
pub data BeginsNext (s s' : Simulation) (text : List ℕ) : Bool → Type 0 where
  begun : (event : Event) (rest : List PendingRequest) (answer : Answer) → Next s event rest → Tells s.world event (Ok answer) s'.world → s'.pending ≡ rest
      → text ≡ event_line event (Ok answer) → BeginsNext s s' text true
  last : Drains s s' text → BeginsNext s s' text false

pub record SettlesAll (s s' : Simulation) (text : List ℕ) : Type 0 where
  pub quiet : World
  pub taken : List ℕ
  pub later : List ℕ
  pub first : Quiets s.world quiet taken
  pub rest : Drains (record { world = quiet; pending = s.pending }) s' later
  pub printed : text ≡ taken ++ later

-- Showing

abbrev pub no_core_line : ℕ → List ℕ
no_core_line core = codes "show " ++ decimal core ++ codes ": fault NoSuchCore\n"

abbrev pub Shows : World → ℕ → List ℕ → Type 0
Shows w core text =
    ((version : ℕ) × (version_at w core ≡ Some version) × (text ≡ table_text core (table w.limits w.log version)))
    ⊎ ((version_at w core ≡ None) × (text ≡ no_core_line core))

-- Items

abbrev pub Does : Simulation → Item → Simulation → List ℕ → Type 0
Does s (item.Ask home op) s' text = (s' ≡ record s { pending = s.pending ++ record { home = home; op = op } ∷ [] }) × (text ≡ [])
Does s item.Begin s' text = Begins s way.Start s' text
Does s (item.Submit core) s' text = Begins s (way.Submit core) s' text
Does s (item.StartFor core) s' text = Applies s (StartFor core) s' text
Does s (item.Apply event) s' text = Applies s event s' text
Does s item.Settle s' text = SettlesAll s s' text
Does s (item.Show core) s' text = (s' ≡ s) × Shows s.world core text

-- the items in order, and all that they print
abbrev pub Performs : Simulation → List Item → Simulation → List ℕ → Type 0
Performs s [] s' text = (s' ≡ s) × (text ≡ [])
Performs s (item ∷ items) s' text = (mid : Simulation) × (now later : List ℕ) × Does s item mid now × Performs mid items s' later × (text ≡ now ++ later)
