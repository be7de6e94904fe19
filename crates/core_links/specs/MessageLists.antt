-- What contracts see of a list of messages.
use Rattle.std.specs.Prelude.{ℕ, Bool, nat_lt, List, length, map, take, drop}
use Rattle.ump_ring.specs.Pieces.{bytes_of}
use Rattle.core_links.specs.declared.message_list.MessageList.{MessageList}

-- every message, the first one first
abbrev pub all_of : MessageList → List (List ℕ)
all_of m = map bytes_of m.messages.items

-- those that were read, and those that were not
abbrev pub read_of : MessageList → List (List ℕ)
read_of m = take m.read (all_of m)

abbrev pub unread_of : MessageList → List (List ℕ)
unread_of m = drop m.read (all_of m)

-- how many messages the list takes over its life, and whether it takes one more
abbrev pub capacity_of : MessageList → ℕ
capacity_of m = m.capacity

abbrev pub has_room : MessageList → Bool
has_room m = nat_lt (length (all_of m)) (capacity_of m)
