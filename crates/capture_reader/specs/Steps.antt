-- How a feed goes on, by what it holds before and after.
use Rattle.std.specs.Prelude.{◌≡◌, ◌≢◌, ℕ, ◌^◌, ◌<◌, List, [], ◌∷◌, ◌++◌, length, Option, Some, Result, Ok, Err}
use Rattle.capture_reader.specs.declared.entry.SeenEntry.{SeenEntry}
use Rattle.capture_reader.specs.declared.entry.Found.{Found}
use Rattle.capture_reader.specs.declared.entry.Found.TheVariants.{SeenEntry as Seen, Held, Nothing}
use Rattle.capture_reader.specs.Entries.{EntryBytes}

-- an entry that was seen in place
abbrev pub seen_item : SeenEntry → EntryBytes
seen_item item = (item.entry, item.bytes.now)

-- what a step adds to the entries that were given, where so much is held after it
abbrev pub Adds : (List EntryBytes → List ℕ → Type 0) → Option EntryBytes → List EntryBytes → List ℕ → Found → Type 0
Adds Holds held given fed (Seen item) = Holds (given ++ seen_item item ∷ []) fed
Adds Holds held given fed Held = (entry : EntryBytes) × (held ≡ Some entry) × Holds (given ++ entry ∷ []) fed
Adds Holds held given fed Nothing = Holds given fed

-- of some bytes a front was taken, after which what was found is added
pub record Takes (Before After : List EntryBytes → List ℕ → Type 0) (held : Option EntryBytes) (bytes rest : List ℕ) (found : Found) : Type 0 where
  pub front : List ℕ
  pub parts : bytes ≡ front ++ rest
  pub adds : (given : List EntryBytes) (fed : List ℕ) → Before given fed → length (fed ++ front) < 2 ^ 64 → Adds After held given (fed ++ front) found

-- a front of some bytes was taken, or there is a fault in them after the entries that were given
abbrev pub AdvancesBy : {E : Type 0} → (List EntryBytes → List ℕ → Type 0) → (List EntryBytes → List ℕ → Type 0) → (List EntryBytes → List ℕ → E → Type 0) → Option EntryBytes
    → List ℕ → List ℕ → Result Found E → Type 0
AdvancesBy Before After Stopped held bytes rest (Ok found) = Takes Before After held bytes rest found
AdvancesBy Before After Stopped held bytes rest (Err fault) = (given : List EntryBytes) (fed : List ℕ) → Before given fed → length (fed ++ bytes) < 2 ^ 64 → Stopped given (fed ++ bytes) fault

-- some bytes were taken where there were any
abbrev pub IsShorter : List ℕ → List ℕ → Type 0
IsShorter bytes rest = bytes ≢ [] → length rest < length bytes
