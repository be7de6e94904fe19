-- What bytes after a savefile's header begin with (pcap-savefile(5) of libpcap).
use Rattle.std.specs.Prelude.{◌≡◌, ℕ, ◌+◌, ◌≤◌, ◌⊎◌, List, [], length, take, Bool, if◌then◌else◌, nat_lt, min}
use Rattle.pcap_reader.specs.Held.{seen_packet}
use Rattle.pcap_reader.specs.Savefile.{IsLong, IsPart, IsRecord, captured}
use Rattle.savefile_front.specs.declared.front.Front.{Front}
use Rattle.savefile_front.specs.declared.front.Front.TheVariants.{Record, Part, TooLong}

-- bytes begin with a whole record and this packet, or with a part of one, if with anything, or with one that is too long
abbrev pub IsFront : Bool → List ℕ → Front → Type 0
IsFront big bytes (Record length_of packet) = (length_of ≤ length bytes) × IsRecord big (take length_of bytes) (seen_packet packet)
IsFront big bytes Part = (bytes ≡ []) ⊎ IsPart big bytes
IsFront big bytes TooLong = IsLong big bytes

-- how many bytes the record has that bytes begin, as far as they say
abbrev pub length_in : Bool → List ℕ → ℕ
length_in big bytes = if nat_lt (length bytes) 16 then 16 else 16 + min (captured big bytes) 262144
