-- What a sender's fields say of the messages offered to it.
use Rattle.std.specs.Prelude.{◌-◌, ℕ, List, [], ◌∷◌, length, take, Option, Some, None}

-- the message, if there is one, as a list
abbrev pub message_list : Option (List ℕ) → List (List ℕ)
message_list None = []
message_list (Some m) = m ∷ []

-- the lines of the messages that are out as a whole
abbrev pub settled : ℕ → List (List ℕ) → List (List ℕ)
settled out lines = take (length lines - out) lines
