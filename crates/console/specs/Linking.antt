-- The link types that the interfaces of a capture have (pcap-savefile(5) of libpcap; draft-ietf-opsawg-pcapng, "Interface Description
-- Block").
use Rattle.std.specs.Prelude.{◌≡◌, ◌≢◌, ℕ, List, [], ◌∷◌, ◌++◌}
use Rattle.std.specs.List.{Contains}
use Rattle.capture_reader.specs.declared.entry.Entry.{Entry}
use Rattle.capture_reader.specs.declared.entry.Entry.TheVariants.{Savefile, Interface}
use Rattle.capture_reader.specs.Entries.{EntryBytes, savefile_link}
use Rattle.console.specs.declared.link_types.LinkTypes.{LinkTypes}
use Rattle.console.specs.declared.link_types.LinkTypes.TheVariants.{None, One, Several}

-- the link type of an interface; a savefile is one interface
abbrev pub entry_links : Entry → List ℕ
entry_links (Savefile header) = savefile_link header ∷ []
entry_links (Interface interface) = interface.link ∷ []
entry_links entry = []

-- the link types of the interfaces among entries, in order
abbrev pub links_in : List EntryBytes → List ℕ
links_in [] = []
links_in (e ∷ entries) = entry_links e.0 ++ links_in entries

-- there is no link type, or all are one, or two differ
abbrev pub AreLinkTypes : List ℕ → LinkTypes → Type 0
AreLinkTypes links None = links ≡ []
AreLinkTypes links (One link) = Contains links link × ((other : ℕ) → Contains links other → other ≡ link)
AreLinkTypes links Several = (one : ℕ) × (other : ℕ) × Contains links one × Contains links other × (one ≢ other)
