-- Captures in pcapng, byte for byte as draft-ietf-opsawg-pcapng says.
use Rattle.std.specs.Prelude.{ℕ, List, [], ◌∷◌, Bool, true, false, Some, None, Ok, Err, pos}
use Rattle.pcapng_reader.specs.declared.block.InterfaceDescription.{InterfaceDescription}
use Rattle.pcapng_reader.specs.declared.block.PacketEntry.{PacketEntry}
use Rattle.pcapng_reader.specs.declared.block.Content.{Content}
use Rattle.pcapng_reader.specs.declared.block.Content.TheVariants.{Section, Interface}
use Rattle.pcapng_reader.specs.Grammar.{WholeBlock}
use Rattle.console.specs.declared.filter.CodeFault.TheVariants.{Link}
use Rattle.console.specs.Programs.{Programs}
use Rattle.keep_engine.specs.Keeping.{Part}
use Rattle.keep_engine.specs.declared.choice.Wanted.{Wanted}

-- a section header: its type, 28 bytes, the byte-order magic 0x1a2b3c4d, version 1.0, no section length (2^64 - 1), and 28 once more:
-- each number with the low byte first, or with the high one
abbrev pub little_section : List ℕ
little_section = 10 ∷ 13 ∷ 13 ∷ 10 ∷ 28 ∷ 0 ∷ 0 ∷ 0 ∷ 77 ∷ 60 ∷ 43 ∷ 26 ∷ 1 ∷ 0 ∷ 0 ∷ 0 ∷ 255 ∷ 255 ∷ 255 ∷ 255 ∷ 255 ∷ 255 ∷ 255 ∷ 255 ∷ 28 ∷ 0 ∷ 0 ∷ 0 ∷ []

abbrev pub big_section : List ℕ
big_section = 10 ∷ 13 ∷ 13 ∷ 10 ∷ 0 ∷ 0 ∷ 0 ∷ 28 ∷ 26 ∷ 43 ∷ 60 ∷ 77 ∷ 0 ∷ 1 ∷ 0 ∷ 0 ∷ 255 ∷ 255 ∷ 255 ∷ 255 ∷ 255 ∷ 255 ∷ 255 ∷ 255 ∷ 0 ∷ 0 ∷ 0 ∷ 28 ∷ []

-- an interface of Ethernet, 1, that takes 262144 bytes of a packet, with the option if_tsresol, 9: nanoseconds, 10^-9
abbrev pub interface : List ℕ
interface = 1 ∷ 0 ∷ 0 ∷ 0 ∷ 32 ∷ 0 ∷ 0 ∷ 0 ∷ 1 ∷ 0 ∷ 0 ∷ 0 ∷ 0 ∷ 0 ∷ 4 ∷ 0 ∷ 9 ∷ 0 ∷ 1 ∷ 0 ∷ 9 ∷ 0 ∷ 0 ∷ 0 ∷ 0 ∷ 0 ∷ 0 ∷ 0 ∷ 32 ∷ 0 ∷ 0 ∷ 0 ∷ []

-- an enhanced packet, 6, of interface 0, at 2^32 + 2 units, captured whole: 16 bytes of a frame of ARP
abbrev pub arp_block : List ℕ
arp_block = 6 ∷ 0 ∷ 0 ∷ 0 ∷ 48 ∷ 0 ∷ 0 ∷ 0 ∷ 0 ∷ 0 ∷ 0 ∷ 0 ∷ 1 ∷ 0 ∷ 0 ∷ 0 ∷ 2 ∷ 0 ∷ 0 ∷ 0 ∷ 16 ∷ 0 ∷ 0 ∷ 0 ∷ 16 ∷ 0 ∷ 0 ∷ 0 ∷ 255 ∷ 255 ∷ 255 ∷ 255 ∷ 255 ∷ 255 ∷ 0 ∷ 17 ∷ 34 ∷ 51 ∷ 68 ∷ 85 ∷ 8 ∷ 6 ∷ 0 ∷ 1 ∷ 48 ∷ 0 ∷ 0 ∷ 0 ∷ []

-- the same with 13 bytes captured of 16, and three bytes of padding
abbrev pub cut_block : List ℕ
cut_block = 6 ∷ 0 ∷ 0 ∷ 0 ∷ 48 ∷ 0 ∷ 0 ∷ 0 ∷ 0 ∷ 0 ∷ 0 ∷ 0 ∷ 1 ∷ 0 ∷ 0 ∷ 0 ∷ 2 ∷ 0 ∷ 0 ∷ 0 ∷ 13 ∷ 0 ∷ 0 ∷ 0 ∷ 16 ∷ 0 ∷ 0 ∷ 0 ∷ 255 ∷ 255 ∷ 255 ∷ 255 ∷ 255 ∷ 255 ∷ 0 ∷ 17 ∷ 34 ∷ 51 ∷ 68 ∷ 85 ∷ 8 ∷ 0 ∷ 0 ∷ 0 ∷ 48 ∷ 0 ∷ 0 ∷ 0 ∷ []

-- the same with the high byte first
abbrev pub big_cut_block : List ℕ
big_cut_block = 0 ∷ 0 ∷ 0 ∷ 6 ∷ 0 ∷ 0 ∷ 0 ∷ 48 ∷ 0 ∷ 0 ∷ 0 ∷ 0 ∷ 0 ∷ 0 ∷ 0 ∷ 1 ∷ 0 ∷ 0 ∷ 0 ∷ 2 ∷ 0 ∷ 0 ∷ 0 ∷ 13 ∷ 0 ∷ 0 ∷ 0 ∷ 16 ∷ 255 ∷ 255 ∷ 255 ∷ 255 ∷ 255 ∷ 255 ∷ 0 ∷ 17 ∷ 34 ∷ 51 ∷ 68 ∷ 85 ∷ 8 ∷ 0 ∷ 0 ∷ 0 ∷ 0 ∷ 0 ∷ 0 ∷ 48 ∷ []

-- a simple packet, 3, of 16 bytes: a frame of IP
abbrev pub simple_block : List ℕ
simple_block = 3 ∷ 0 ∷ 0 ∷ 0 ∷ 32 ∷ 0 ∷ 0 ∷ 0 ∷ 16 ∷ 0 ∷ 0 ∷ 0 ∷ 255 ∷ 255 ∷ 255 ∷ 255 ∷ 255 ∷ 255 ∷ 0 ∷ 17 ∷ 34 ∷ 51 ∷ 68 ∷ 85 ∷ 8 ∷ 0 ∷ 69 ∷ 0 ∷ 32 ∷ 0 ∷ 0 ∷ 0 ∷ []

-- What these say

abbrev pub begins : Bool → Content
begins big = Section (record { big = big; minor = 0 })

abbrev pub ethernet_in_nanoseconds : InterfaceDescription
ethernet_in_nanoseconds = record { link = 1; snaplen = 262144; resolution = 9; offset = pos 0 }

-- a packet of section 0 and interface 0, of which so many bytes of 16 were captured
abbrev pub enhanced : ℕ → PacketEntry
enhanced captured = record {
  section = 0;
  interface = 0;
  link = 1;
  time = Some (record { units = 4294967298; resolution = 9; offset = pos 0 });
  start = 28;
  captured = captured;
  original = 16;
}

-- a simple packet of so many bytes, which doesn't say when it was seen
abbrev pub simple : ℕ → PacketEntry
simple length_of = record { section = 0; interface = 0; link = 1; time = None; start = 12; captured = length_of; original = length_of }

-- these bytes at a place of the capture, and what they say
abbrev pub block : ℕ → List ℕ → Content → WholeBlock
block offset bytes content = record { offset = offset; bytes = bytes; content = content }

-- the section and its interface
abbrev pub head : List WholeBlock
head = block 0 little_section (begins false) ∷ block 28 interface (Interface ethernet_in_nanoseconds) ∷ []

-- What is kept

-- what the filter accepts, of any link type or of one, and what it refuses
abbrev pub accepted : Wanted
accepted = record { inverted = false; link = None }

abbrev pub accepted_of : ℕ → Wanted
accepted_of link = record { inverted = false; link = Some link }

abbrev pub refused : Wanted
refused = record { inverted = true; link = None }

-- what is kept of the section, its interface, and two blocks
abbrev pub of_two : Part → Part → List Part
of_two one other = Ok little_section ∷ Ok interface ∷ one ∷ other ∷ []

-- no program for any link type
abbrev pub no_program : Programs
no_program link = Err (Link link)
