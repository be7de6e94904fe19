-- What lands in the room that a caller in C hands over.
use Rattle.std.specs.Prelude.{List, ◌++◌, length, take, drop}

-- the room with the items at its front, as many as it has room for: after them it is as it was
abbrev pub laid : {A : Type 0} → List A → List A → List A
laid items room = take (length room) items ++ drop (length items) room
