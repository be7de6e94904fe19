-- Channels as lists of messages.
use Rattle.std.specs.Prelude.{Option, Some, None, List, [], ◌∷◌}
use Rattle.monitor_messages.specs.declared.message.Message.{Message}

-- the oldest message, if there is one
abbrev pub first_of : List Message → Option Message
first_of [] = None
first_of (m ∷ ms) = Some m
