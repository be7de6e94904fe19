-- Messages carried by lines: each one's bytes under stamp 0, cut into lines that are numbered from 0.
use Rattle.std.specs.Prelude.{◌≡◌, ◌/◌, ◌-◌, ℕ, Option, unwrap_or, option_map, List, All, slice_get}
use Rattle.std.specs.List.{flat_map, filter_map}
use Rattle.monitor_messages.specs.declared.message.Message.{Message}
use Rattle.monitor_messages.specs.declared.message.Message.TheVariants.{Ack}
use Rattle.monitor_messages.specs.Coding.{coded, Coded}
use Rattle.monitor_messages.specs.Reading.{message_in}
use Rattle.ump_ring.specs.Lines.{IsMessage, lines_most, lines_of, messages_in}

-- the lines of a message
abbrev pub lines_for : Message → List (List ℕ)
lines_for m = lines_of (coded 0 m) 0

-- the message that has these bytes, if one has, whatever its stamp
abbrev pub message_with : List ℕ → Option Message
message_with bytes = option_map (λ found. found.1) (message_in bytes)

-- the messages that lines stand for
abbrev pub messages_of : List (List ℕ) → List Message
messages_of lines = filter_map message_with (messages_in lines)

-- a message that has bytes, which lines can carry
pub record IsCarried (m : Message) : Type 0 where
  pub has_bytes : Coded (coded 0 m) 0 m
  pub sized : IsMessage (coded 0 m)

-- the lines are those of the messages that they stand for, one message after another
pub record Carries (lines : List (List ℕ)) : Type 0 where
  pub cut : lines ≡ flat_map lines_for (messages_of lines)
  pub carried : All IsCarried (messages_of lines)

-- the one message that lines stand for
abbrev pub message_of : List (List ℕ) → Message
message_of lines = unwrap_or (slice_get (messages_of lines) 0) (Ack 0)

-- the lines are those of one message
pub record CarriesOne (lines : List (List ℕ)) : Type 0 where
  pub cut : lines ≡ lines_for (message_of lines)
  pub carried : IsCarried (message_of lines)

-- what is seen of a channel of lines: its messages, and how many more there is room for
pub record LineChannel : Type 0 where
  pub held : List Message
  pub spare : ℕ

-- as many messages are sure to fit as longest ones do
abbrev pub seen_channel : List (List ℕ) → ℕ → ℕ → LineChannel
seen_channel lines capacity len = record { held = messages_of lines; spare = (capacity - len) / lines_most }
