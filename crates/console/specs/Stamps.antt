-- When the packets of a capture were seen, and how that is shown.
use Rattle.std.specs.Prelude.{◌≡◌, ℕ, ◌-◌, ◌/◌, ◌^◌, ◌==◌, min, List, [], ◌++◌, length, take, replicate, codes, Option, if◌then◌else◌, ℤ, pos, int_lt, unsigned_abs}
use Rattle.std.specs.Fmt.{decimal}
use Rattle.pcapng_reader.specs.declared.time.Time.{Time}
use Rattle.pcapng_reader.specs.Times.{stamp_of}
use Rattle.capture_reader.specs.declared.entry.PacketTime.{PacketTime}
use Rattle.capture_reader.specs.declared.entry.PacketTime.TheVariants.{Seconds, Units, Unknown}
use Rattle.capture_reader.specs.declared.fault.ReadFault.{ReadFault}
use Rattle.capture_reader.specs.Entries.{EntryBytes}
use Rattle.capture_reader.specs.Captures.{HasEntries}
use Rattle.console.specs.Choosing.{chosen, times_in}

-- the times of the first n packets of a capture, of those of one link type, if one is named
abbrev pub AreStamps : Option ℕ → List ℕ → ℕ → List PacketTime → Type 0
AreStamps link input n stamps =
    (entries : List EntryBytes) × (fault : Option ReadFault) × HasEntries input entries fault × (stamps ≡ take n (times_in (chosen link entries)))

-- a number with zeros before it, up to a width
abbrev pub padded : ℕ → ℕ → List ℕ
padded width n = replicate (width - length (decimal n)) 48 ++ decimal n

-- parts of a second, with so many digits
abbrev pub parts_text : ℕ → ℕ → List ℕ
parts_text digits n = if digits == 0 then [] else codes "." ++ padded digits n

abbrev pub seconds_text : ℕ → ℕ → ℕ → List ℕ
seconds_text seconds digits parts = decimal seconds ++ parts_text digits parts

-- seconds and the parts after them as one number, which is below 0 before 1970
abbrev pub signed_text : ℤ → ℕ → ℕ → List ℕ
signed_text seconds digits parts =
    if int_lt seconds (pos 0) then codes "-" ++ (if parts == 0 then seconds_text (unsigned_abs seconds) digits 0 else seconds_text (unsigned_abs seconds - 1) digits (10 ^ digits - parts))
    else seconds_text (unsigned_abs seconds) digits parts

-- as many digits as the interface's resolution has, at most those of nanoseconds; powers of two have these
abbrev pub digits_of : ℕ → ℕ
digits_of resolution = min resolution 9

abbrev pub units_text : Time → List ℕ
units_text time = signed_text (stamp_of time).seconds (digits_of time.resolution) ((stamp_of time).nanoseconds / 10 ^ (9 - digits_of time.resolution))

-- of a savefile seconds, and 6 digits of microseconds or 9 of nanoseconds; no time is shown by a dash
abbrev pub stamp_text : PacketTime → List ℕ
stamp_text (Seconds seconds fraction nano) = seconds_text seconds (if nano then 9 else 6) fraction
stamp_text (Units time) = units_text time
stamp_text Unknown = codes "-"
