-- What `dump` shows of an input of any length while it is read.
use Rattle.std.specs.Prelude.{◌≡◌, ℕ, ◌<◌, ◌^◌, List, ◌++◌, length, Option, Bool}
use Rattle.capture_reader.specs.declared.entry.SeenEntry.{SeenEntry}
use Rattle.capture_reader.specs.declared.fault.ReadFault.{ReadFault}
use Rattle.capture_reader.specs.declared.feed.CaptureFeed.{CaptureFeed}
use Rattle.capture_reader.specs.Captures.{HasEntries}
use Rattle.capture_reader.specs.Entries.{EntryBytes}
use Rattle.capture_reader.specs.Holding.{HoldsAfter}
use Rattle.console.specs.declared.dumping.Place.{Place}
use Rattle.console.specs.Choosing.{chosen}
use Rattle.console.specs.Dumping.{dump_text, entry_lines}
use Rattle.console.specs.Faults.{fault_status}
use Rattle.console.specs.Running.{item_entries}
use Rattle.engine_io.specs.Reading.{BeginsWith}

-- the lines for what bytes hold, however many they are
abbrev pub ShowsEntries : Option ℕ → Bool → List ℕ → ℕ → List ℕ → Type 0
ShowsEntries link stamped input status text =
    (entries : List EntryBytes) × (fault : Option ReadFault) × HasEntries input entries fault × (text ≡ dump_text link stamped entries fault) × (status ≡ fault_status fault)

-- text is a front of what is shown of the bytes
abbrev pub LeavesDump : Option ℕ → Bool → List ℕ → List ℕ → Type 0
LeavesDump link stamped input text = (status : ℕ) × (whole : List ℕ) × ShowsEntries link stamped input status whole × BeginsWith text whole

-- the lines for entries, one place after another. No public clause cites these.
abbrev pub LinesTo : Option ℕ → Bool → List EntryBytes → Place → Place → List ℕ → Type 0
LinesTo link stamped entries old new shown =
    (more : List EntryBytes) → entry_lines stamped old.packets old.interfaces (chosen link (entries ++ more)) ≡ shown ++ entry_lines stamped new.packets new.interfaces (chosen link more)

pub record PrintsSeen (link : Option ℕ) (stamped : Bool) (item : Option SeenEntry) (old new : Place) (before after : List ℕ) : Type 0 where
  pub shown : List ℕ
  pub printed : after ≡ before ++ shown
  pub rest : LinesTo link stamped (item_entries item) old new shown

pub record PrintsOn (link : Option ℕ) (stamped : Bool) (bytes rest : List ℕ) (old new : CaptureFeed) (place place' : Place) (before after : List ℕ) : Type 0 where
  pub front : List ℕ
  pub entries : List EntryBytes
  pub shown : List ℕ
  pub parts : bytes ≡ front ++ rest
  pub printed : after ≡ before ++ shown
  pub adds : (given : List EntryBytes) (fed : List ℕ) → HoldsAfter old given fed → length (fed ++ front) < 2 ^ 64 → HoldsAfter new (given ++ entries) (fed ++ front)
  pub shows : LinesTo link stamped entries place place' shown
