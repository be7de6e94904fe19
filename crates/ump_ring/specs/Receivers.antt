-- What contracts see of the end of a ring that receives.
use Rattle.std.specs.Prelude.{◌-◌, ℕ, Bool, true, false, List, length, take, Option, None, if◌then◌else◌}
use Rattle.rtrb.specs.Ring as ring
use Rattle.ump_ring.specs.declared.fault.LineFault.{LineFault}
use Rattle.ump_ring.specs.declared.receiver.Receiver.{Receiver}
use Rattle.ump_ring.specs.Lines.{messages_in}
use Rattle.ump_ring.specs.Reading.{sound_lines}
use Rattle.ump_ring.specs.Joiners.{message_shown}

-- every line that was received, the first one first
abbrev pub lines_received : Receiver → List (List ℕ)
lines_received r = ring.received r.consumer

-- the fault at which the receiver stopped
abbrev pub stopped : Receiver → Option LineFault
stopped r = r.joiner.fault

-- the last pull received a line
abbrev pub has_moved : Receiver → Bool
has_moved r = r.moved

-- the whole message that was received and not taken
abbrev pub message_kept : Receiver → Option (List ℕ)
message_kept r = if r.kept then message_shown r.joiner else None

-- the message whose last line was received last
abbrev pub message_last : Receiver → Option (List ℕ)
message_last r = message_shown r.joiner

abbrev pub kept_count : Bool → ℕ
kept_count false = 0
kept_count true = 1

-- every message that was taken, the first one first: those whose lines were all received, but for the one that is kept
abbrev pub messages_of : Bool → List (List ℕ) → List (List ℕ)
messages_of kept ms = take (length ms - kept_count kept) ms

abbrev pub messages_taken : Receiver → List (List ℕ)
messages_taken r = messages_of r.kept (messages_in (sound_lines r.joiner.fault (ring.received r.consumer)))

-- the same end of the same ring, before and after a call
abbrev pub SameReceiver : Receiver → Receiver → Type 0
SameReceiver old new = ring.SameConsumer old.consumer new.consumer

-- the lines in the ring that it knows of and has not received
abbrev pub lines_known : Receiver → List (List ℕ)
lines_known r = ring.known_items r.consumer

-- how many lines the ring holds
abbrev pub receiver_capacity : Receiver → ℕ
receiver_capacity r = ring.consumer_capacity r.consumer
