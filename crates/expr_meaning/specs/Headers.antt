-- Headers of IPv4 (RFC 791), IPv6 (RFC 8200) and what they carry.
use Rattle.std.specs.Prelude.{ℕ, ◌+◌}
use Rattle.filter_cond.specs.declared.number.Load.{Load}
use Rattle.expr_words.specs.declared.protocol.Protocol.{Protocol}
use Rattle.expr_meaning.specs.declared.carriage.Carriage.{Carriage}
use Rattle.expr_meaning.specs.declared.carriage.Carriage.TheVariants as by
use Rattle.expr_meaning.specs.declared.place.Place.{Place}
use Rattle.expr_meaning.specs.Carriages.{carriage_of}
use Rattle.expr_meaning.specs.Questions.{Question, Yes, And, Or, byte, half, is, bits}
use Rattle.expr_meaning.specs.Layers.{over}

-- IPv4 says at byte 9 what it carries
abbrev pub protocol_at : Place → Load
protocol_at place = byte (place.payload + 9)

-- IPv6 says at byte 6 what comes next, and so does its fragment header (44), at byte 0 of it
abbrev pub next_at : Place → Load
next_at place = byte (place.payload + 6)

abbrev pub carries4 : Place → ℕ → Question
carries4 place number = And (over place 0x0800) (is (protocol_at place) number)

abbrev pub next : Place → ℕ → Question
next place number = Or (is (next_at place) number) (And (is (next_at place) 44) (is (byte (place.payload + 40)) number))

abbrev pub carries6 : Place → ℕ → Question
carries6 place number = And (over place 0x86dd) (next place number)

abbrev pub carries : Place → ℕ → Question
carries place number = Or (carries4 place number) (carries6 place number)

-- a fragment's offset is 0: the header that IPv4 carries is in this packet
abbrev pub first_fragment : Place → Question
first_fragment place = bits (half (place.payload + 6)) 0x1fff 0

-- does the packet have the protocol?
abbrev pub has_by : Place → Carriage → Question
has_by place by.Frame = Yes
has_by place (by.Type number) = over place number
has_by place (by.Both number) = carries place number
has_by place (by.Ip number) = carries4 place number
has_by place (by.Ip6 number) = carries6 place number

abbrev pub has : Place → Protocol → Question
has place protocol = has_by place (carriage_of protocol)

-- is its header there, so that bytes of it may be asked for? Of what both carry, that in IPv4 is meant
abbrev pub begins4 : Place → ℕ → Question
begins4 place number = And (carries4 place number) (first_fragment place)

abbrev pub begins6 : Place → ℕ → Question
begins6 place number = And (over place 0x86dd) (is (next_at place) number)

abbrev pub there_by : Place → Carriage → Question
there_by place by.Frame = Yes
there_by place (by.Type number) = over place number
there_by place (by.Both number) = begins4 place number
there_by place (by.Ip number) = begins4 place number
there_by place (by.Ip6 number) = begins6 place number

abbrev pub there : Place → Protocol → Question
there place protocol = there_by place (carriage_of protocol)
