-- Captures that an engine read: their entries, and what its source got.
use Rattle.std.specs.Prelude.{◌≡◌, ℕ, ◌++◌, ◌<◌, ◌≤◌, ◌^◌, List, map, All, length, Option, Some, None}
use Rattle.std.specs.Io.KnownBytes.{IsAtEnd}
use Rattle.capture_reader.specs.declared.fault.ReadFault.{ReadFault}
use Rattle.capture_reader.specs.declared.feed.CaptureFeed.{CaptureFeed}
use Rattle.capture_reader.specs.Entries.{EntryBytes}
use Rattle.capture_reader.specs.Captures.{HasEntries}
use Rattle.capture_reader.specs.Holding.{HoldsAfter}
use Rattle.console.specs.declared.captured.KeptEntry.{KeptEntry}
use Rattle.console.specs.declared.captured.Captured.{Captured}
use Rattle.engine_io.specs.declared.input.TheConstants.{INPUT_BYTES}
use Rattle.engine_io.specs.declared.source.Source.{Source}
use Rattle.engine_io.specs.Devices.{Gets}
use Rattle.engine_io.specs.Reading.{GotTooMany}

-- entries that were kept
abbrev pub entries_of : List KeptEntry → List EntryBytes
entries_of entries = map (λ kept. (kept.entry, kept.bytes)) entries

-- a feed was given these bytes, and its entries were kept
pub record HasKept (fed : List ℕ) (feed : CaptureFeed) (entries : List KeptEntry) : Type 0 where
  pub holds : HoldsAfter feed (entries_of entries) fed

-- a front of some bytes was taken, and its entries were kept after those before
pub record KeepsOn (bytes rest : List ℕ) (old new : CaptureFeed) (before after : List KeptEntry) : Type 0 where
  pub front : List ℕ
  pub parts : bytes ≡ front ++ rest
  pub keeps : (fed : List ℕ) → HasKept fed old before → length (fed ++ front) < 2 ^ 64 → HasKept (fed ++ front) new after

-- the fault of the bytes that a feed was given
abbrev pub EndsAs : CaptureFeed → Option ReadFault → Type 0
EndsAs feed fault = (given : List EntryBytes) (fed : List ℕ) → HoldsAfter feed given fed → HasEntries fed given fault

-- a source got just these bytes, which hold this capture, and then its reader was at its end, or it got more than 64 MiB
abbrev pub GaveCapture : {R : Type 0} → (R → Option (List ℕ)) → Source R → Source R → Option Captured → Type 0
GaveCapture remaining old new (Some c) =
    (given : List ℕ) × Gets remaining old new given × IsAtEnd (remaining new.inner) × (length given ≤ INPUT_BYTES) × HasEntries given (entries_of c.entries.items) c.fault
GaveCapture remaining old new None = GotTooMany remaining old new INPUT_BYTES

-- each is a byte
abbrev pub AreBytes : List ℕ → Type 0
AreBytes bytes = All (λ byte. byte < 256) bytes

-- one pair of a status and a text is shown at most
abbrev pub ShowsOne : (ℕ → List ℕ → Type 0) → Type 0
ShowsOne Shows = (status other : ℕ) (text more : List ℕ) → Shows status text → Shows other more → (status ≡ other) × (text ≡ more)
