-- What a sender has sent of messages, by its fields. No public clause cites these.
use Rattle.std.specs.Prelude.{◌≡◌, ◌<◌, ◌++◌, ℕ, List, [], length, Option, Some, None, All}
use Rattle.std.specs.Option.{ForSome, ForNone}
use Rattle.ump_ring.specs.Offered.{settled}
use Rattle.ump_ring.specs.Lines.{IsMessage, lines_below, line_count, number_after, messages_in, stream}

-- the bytes of the message that is going out
abbrev pub bytes_going : Option (List ℕ) → List ℕ
bytes_going None = []
bytes_going (Some m) = m

-- the lines are those of whole messages, and then the first lines of the current one, all numbered from 0
pub record IsSending (message : Option (List ℕ)) (out number : ℕ) (lines : List (List ℕ)) : Type 0 where
  pub numbered : number ≡ number_after (length lines)
  pub whole : settled out lines ≡ stream 0 (messages_in (settled out lines))
  pub messages : All IsMessage (messages_in (settled out lines))
  pub split : lines ≡ settled out lines ++ lines_below (length (bytes_going message)) (bytes_going message) (length (settled out lines)) out
  pub going : ForSome message (λ m. IsMessage m × (out < line_count (length m)))
  pub idle : ForNone message (out ≡ 0)
