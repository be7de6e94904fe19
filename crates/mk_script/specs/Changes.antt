-- What a reader knows of the lines so far, and what it adds. No public clause cites these.
use Rattle.std.specs.Prelude.{◌≡◌, ◌≤◌, ℕ, ◌^◌, ◌<◌, Bool, false, List, [], ◌∷◌, length, Option, None, vec_len}
use Rattle.std.specs.List.{flat_map, list_any}
use Rattle.bpf_insn.specs.declared.insn.Insn.{Insn}
use Rattle.filter_table.specs.Limits.{TableLimits}
use Rattle.pcap_reader.specs.declared.capture.CapturedPacket.{CapturedPacket}
use Rattle.world_events.specs.declared.event.Event.{Event}
use Rattle.mk_script.specs.declared.meaning.Meaning.{Meaning}
use Rattle.mk_script.specs.declared.meaning.Meaning.TheVariants.{Limits, Budgets, NamedProgram, NamedPacket, NamedCapture, Home, Does, Receives, Replays, Trace, Nothing}
use Rattle.mk_script.specs.declared.meaning.Draft.{Draft}
use Rattle.mk_script.specs.declared.meaning.Draft.TheVariants.{Whole, Assembler, Decimal, Savefile}
use Rattle.mk_script.specs.declared.reading.Reading.{Reading}
use Rattle.mk_script.specs.declared.script.Item.{Item}
use Rattle.mk_script.specs.declared.script.Item.TheVariants.{Apply}
use Rattle.mk_script.specs.DraftViews.{jobs_of}
use Rattle.mk_script.specs.Homes.{home_in}
use Rattle.mk_script.specs.Meanings as meanings
use Rattle.mk_script.specs.Names.{value_of}

-- an item that isn't a reception, and the events of one that is
abbrev pub asks_in : Item → List Item
asks_in (Apply event) = []
asks_in item = item ∷ []

abbrev pub events_in : Item → List Event
events_in (Apply event) = event ∷ []
events_in _ = []

-- this is known of lines that mean this, and they have done these items
pub record KnowsParts (limits : Option TableLimits) (budgets : List ℕ) (programs : List ℕ → Option (List Insn)) (packets : List ℕ → Option CapturedPacket) (captures : List ℕ → Option (List CapturedPacket)) (home : ℕ → ℕ) (acted : Bool)
    (jobs : meanings.Jobs) (items : List Item) (given : List meanings.Meaning) : Type 0 where
  pub same_limits : limits ≡ meanings.limits_behind given
  pub same_budgets : budgets ≡ flat_map meanings.budgets_in given
  pub same_programs : (name : List ℕ) → programs name ≡ meanings.named (flat_map meanings.programs_in given) name
  pub same_packets : (name : List ℕ) → packets name ≡ meanings.named (flat_map meanings.packets_in given) name
  pub same_captures : (name : List ℕ) → captures name ≡ meanings.named (flat_map meanings.captures_in given) name
  pub same_home : (domain : ℕ) → home domain ≡ meanings.home_from 0 given domain
  pub same_acted : acted ≡ list_any meanings.is_act given
  pub same_jobs : jobs ≡ meanings.jobs_behind given
  pub same_items : items ≡ meanings.items_of given

-- the reader knows what these lines mean, and has what they have done
abbrev pub Knows : Reading → List meanings.Meaning → Type 0
Knows r given = KnowsParts r.limits r.budgets.items (value_of r.programs) (value_of r.packets) (value_of r.captures) (home_in r.homes) r.acted (jobs_of r.received r.jobs) r.items.items given

-- a meaning that may follow what is known: limits and budgets are the first, a name is new, and receptions and `trace` stand before any `trace`
abbrev pub Follows : Reading → Meaning → Type 0
Follows r (Limits limits) = r.limits ≡ None
Follows r (Budgets budgets) = (r.budgets.items ≡ []) × (vec_len budgets ≤ 64)
Follows r (NamedProgram name program) = value_of r.programs name.now ≡ None
Follows r (NamedPacket name packet) = value_of r.packets name.now ≡ None
Follows r (NamedCapture name packets) = value_of r.captures name.now ≡ None
Follows r (Home domain core) = Unit {0}
Follows r (Does item) = Unit {0}
Follows r (Receives event) = r.jobs ≡ None
Follows r (Replays replay) = r.jobs ≡ None
Follows r Trace = (r.jobs ≡ None) × (r.acted ≡ false)
Follows r Nothing = Unit {0}

abbrev pub DraftFollows : Reading → Draft → Type 0
DraftFollows r (Whole meaning) = Follows r meaning
DraftFollows r (Assembler name text) = (value_of r.programs name.now ≡ None) × (length text.now < 2 ^ 32)
DraftFollows r (Decimal name text) = value_of r.programs name.now ≡ None
DraftFollows r (Savefile name bytes) = value_of r.captures name.now ≡ None
