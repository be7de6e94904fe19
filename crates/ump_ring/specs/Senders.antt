-- What contracts see of the end of a ring that sends.
use Rattle.std.specs.Prelude.{◌++◌, ℕ, List, Option}
use Rattle.rtrb.specs.Ring as ring
use Rattle.ump_ring.specs.declared.sender.Sender.{Sender}
use Rattle.ump_ring.specs.Lines.{messages_in}
use Rattle.ump_ring.specs.Offered.{message_list, settled}
use Rattle.ump_ring.specs.Pieces.{going}

-- the message that is going out
abbrev pub current : Sender → Option (List ℕ)
current s = going s.message

-- every line that was pushed, the first one first
abbrev pub lines_sent : Sender → List (List ℕ)
lines_sent s = ring.sent s.producer

-- every message that was offered and taken, the first one first
abbrev pub messages_offered : Sender → List (List ℕ)
messages_offered s = messages_in (settled s.out (ring.sent s.producer)) ++ message_list (going s.message)

-- the same end of the same ring, before and after a call
abbrev pub SameSender : Sender → Sender → Type 0
SameSender old new = ring.SameProducer old.producer new.producer

-- how many free places of the ring it knows of
abbrev pub room_known : Sender → ℕ
room_known s = ring.known_free s.producer

-- how many lines the ring holds
abbrev pub sender_capacity : Sender → ℕ
sender_capacity s = ring.producer_capacity s.producer
