-- Which entries of a capture are shown, and when their packets were seen.
use Rattle.std.specs.Prelude.{◌==◌, ℕ, List, [], ◌∷◌, ◌++◌, Option, Some, None, Bool, true, false, if◌then◌else◌}
use Rattle.capture_reader.specs.declared.entry.PacketTime.{PacketTime}
use Rattle.capture_reader.specs.declared.entry.Entry.{Entry}
use Rattle.capture_reader.specs.declared.entry.Entry.TheVariants.{Packet}
use Rattle.capture_reader.specs.Entries.{EntryBytes}
use Rattle.console.specs.declared.form.PacketForm.{PacketForm}
use Rattle.console.specs.declared.form.PacketForm.TheVariants.{Digits, Capture}

abbrev pub is_capture : PacketForm → Bool
is_capture (Digits link) = false
is_capture (Capture link) = true

-- a link type is the one that is named, if one is
abbrev pub is_link : Option ℕ → ℕ → Bool
is_link None link = true
is_link (Some one) link = link == one

abbrev pub is_chosen : Option ℕ → Entry → Bool
is_chosen one (Packet info) = is_link one info.link
is_chosen one entry = true

-- the entries but for the packets of other link types
abbrev pub chosen : Option ℕ → List EntryBytes → List EntryBytes
chosen one [] = []
chosen one (e ∷ entries) = (if is_chosen one e.0 then e ∷ [] else []) ++ chosen one entries

-- when the packets among entries were seen, in order
abbrev pub entry_times : Entry → List PacketTime
entry_times (Packet info) = info.time ∷ []
entry_times entry = []

abbrev pub times_in : List EntryBytes → List PacketTime
times_in [] = []
times_in (e ∷ entries) = entry_times e.0 ++ times_in entries
