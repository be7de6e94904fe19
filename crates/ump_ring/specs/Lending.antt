-- What a look at a receiver leaves, and what a take leaves.
use Rattle.std.specs.Prelude.{◌≡◌, ◌≢◌, ◌++◌, ℕ, List, [], ⊤, Option, Some, None, Result, MatchResult}
use mathlib.Core.List.{IsPrefix}
use mathlib.Core.Option.{none}
use Rattle.std.specs.Borrow.{MutBor, Bor, Fml}
use denote.Follow.{follows_so}
use Rattle.ump_ring.specs.declared.fault.LineFault.{LineFault}
use Rattle.ump_ring.specs.declared.receiver.Receiver.{Receiver}
use Rattle.ump_ring.specs.contracts.receiver.Receiver.{the_row}
use Rattle.ump_ring.specs.Lines.{messages_in}
use Rattle.ump_ring.specs.Reading.{StopsAt}
use Rattle.ump_ring.specs.Joiners.{shown_items, shown_list}
use Rattle.ump_ring.specs.Receivers.{lines_received, lines_known, messages_taken, message_kept, stopped, SameReceiver}

abbrev pub Lent : Type 0
Lent = Result (Option (Bor (List ℕ))) LineFault

-- lines may have come. A fault is answered exactly where the receiver has stopped, which is at the last of them, and it stays
abbrev pub Answers : Receiver → Receiver → Lent → (Option (List ℕ) → Type 0) → Type 0
Answers old new lent P =
    SameReceiver old new × IsPrefix (lines_received old) (lines_received new) × (stopped old ≢ None → stopped new ≡ stopped old)
    × MatchResult lent
    (λ shown. (stopped new ≡ None) × (message_kept old ≢ None → shown_items shown ≡ message_kept old) × P (shown_items shown))
    (λ fault. (stopped new ≡ Some fault) × StopsAt fault (lines_received new) × (messages_taken new ≡ messages_taken old))

-- nothing is taken. What is shown is kept: with the messages taken it is all that came whole. Nothing is shown only where no line
-- is left in the ring that the receiver knows of
abbrev pub Looks : Receiver → Receiver → Lent → Type 0
Looks old new lent = Answers old new lent
    (λ shown. (messages_taken new ≡ messages_taken old) × (shown ≡ message_kept new)
    × (messages_taken new ++ shown_list shown ≡ messages_in (lines_received new))
    × (shown ≡ None → lines_known new ≡ []))

-- what is shown is taken, and so is all that came whole. Nothing is shown only where no line is left in the ring that the receiver
-- knows of
abbrev pub Takes : Receiver → Receiver → Lent → Type 0
Takes old new lent = Answers old new lent
    (λ shown. (messages_taken new ≡ messages_taken old ++ shown_list shown) × (message_kept new ≡ None)
    × (messages_taken new ≡ messages_in (lines_received new))
    × (shown ≡ None → lines_known new ≡ []))

-- once the borrow is over, the receiver is one that was looked at, or taken from, so
abbrev pub LendsLook : MutBor Receiver → Lent → Fml
LendsLook r lent = follows_so the_row the_row r.ghost_name none (λ _ _. ⊤) (λ n. Looks r.now n lent)

abbrev pub LendsTake : MutBor Receiver → Lent → Fml
LendsTake r lent = follows_so the_row the_row r.ghost_name none (λ _ _. ⊤) (λ n. Takes r.now n lent)
