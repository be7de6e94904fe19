-- What contracts see of meanings and drafts. No public clause cites these.
use Rattle.std.specs.Prelude.{◌≡◌, ◌⊎◌, ℕ, List, [], ◌∷◌, Option, Some, None, Result, Ok, Err}
use Rattle.std.specs.declared.vec.Vec.{Vec}
use Rattle.std.specs.declared.alloc.Global.{Global}
use Rattle.world_events.specs.declared.event.Event.{Event}
use Rattle.mk_script.specs.declared.meaning.Meaning.{Meaning}
use Rattle.mk_script.specs.declared.meaning.Meaning.TheVariants.{Limits, Budgets, NamedProgram, NamedPacket, NamedCapture, Home, Does, Receives, Replays, Trace, Nothing}
use Rattle.mk_script.specs.declared.meaning.Replay.{Replay}
use Rattle.mk_script.specs.declared.meaning.Draft.{Draft}
use Rattle.mk_script.specs.declared.meaning.Draft.TheVariants.{Whole, Assembler, Decimal, Savefile}
use Rattle.mk_script.specs.declared.fault.ScriptFaultKind.{ScriptFaultKind}
use Rattle.mk_script.specs.declared.fault.ScriptFaultKind.TheVariants.{NoMemory}
use Rattle.mk_script.specs.declared.settings.Settings.{Settings}
use Rattle.mk_script.specs.declared.reading.Reading.{Reading}
use Rattle.mk_script.specs.Meanings as meanings
use Rattle.mk_script.specs.Drafts as drafts
use Rattle.mk_script.specs.Names.{value_of}
use Rattle.mk_script.specs.Homes.{home_in}

-- the receptions of a capture's packets
abbrev pub events_of : Replay → List Event
events_of replay = drafts.replayed replay.cores replay.received replay.floor 0 replay.packets

abbrev pub meaning_of : Meaning → meanings.Meaning
meaning_of (Limits limits) = meanings.Limits limits
meaning_of (Budgets budgets) = meanings.Budgets budgets.items
meaning_of (NamedProgram name program) = meanings.NamedProgram name.now program
meaning_of (NamedPacket name packet) = meanings.NamedPacket name.now packet
meaning_of (NamedCapture name packets) = meanings.NamedCapture name.now packets
meaning_of (Home domain core) = meanings.Home domain core
meaning_of (Does item) = meanings.Does item
meaning_of (Receives event) = meanings.Receives (event ∷ [])
meaning_of (Replays replay) = meanings.Receives (events_of replay)
meaning_of Trace = meanings.Trace
meaning_of Nothing = meanings.Nothing

abbrev pub draft_of : Draft → drafts.Draft
draft_of (Whole meaning) = drafts.Whole (meaning_of meaning)
draft_of (Assembler name text) = drafts.Assembler name.now text.now
draft_of (Decimal name text) = drafts.Decimal name.now text.now
draft_of (Savefile name bytes) = drafts.Savefile name.now bytes.now

abbrev pub settings_of : Settings → drafts.Settings
settings_of s = record { files = s.files.now; threads = s.threads }

abbrev pub jobs_of : ℕ → Option (Vec Event Global) → meanings.Jobs
jobs_of received None = meanings.Counted received
jobs_of received (Some jobs) = meanings.Named jobs.items

-- what is known of a script that was read so far
abbrev pub known_of : Reading → meanings.Known
known_of r = record {
  limits = r.limits;
  budgets = r.budgets.items;
  programs = value_of r.programs;
  packets = value_of r.packets;
  captures = value_of r.captures;
  home = home_in r.homes;
  acted = r.acted;
  jobs = jobs_of r.received r.jobs;
}

-- the answer is this outcome by a view of it, unless memory ran out
abbrev pub Answered : {A B : Type 0} → (A → B) → Result A ScriptFaultKind → Result B ScriptFaultKind → Type 0
Answered view (Ok x) outcome = outcome ≡ Ok (view x)
Answered view (Err kind) outcome = (kind ≡ NoMemory) ⊎ (outcome ≡ Err kind)

abbrev pub identity : {A : Type 0} → A → A
identity x = x
