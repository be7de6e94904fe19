-- Messages that are made ready to be sent.
-- No public clause cites these.
use Rattle.std.specs.Prelude.{◌≡◌, ◌≢◌, ◌<◌, ◌≤◌, ℕ, max, true, false, All, List, Option, None, Some, length, Vec}
use Rattle.std.specs.Global.{Global}
use Rattle.monitor_messages.specs.declared.message.Message.{Message}
use Rattle.monitor_messages.specs.declared.message.Message.TheVariants.{Vote, Ack}
use Rattle.monitor_messages.specs.Coding.{Coded}
use Rattle.world_model.specs.Cases.{Outgoing, nothing, to_all, to_one}
use Rattle.core_links.specs.Views.{LinkView}
use Rattle.ump_ring.specs.Lines.{message_most}
use Rattle.core_loop.specs.declared.refusal.Refusal.{Refusal}
use Rattle.core_loop.specs.declared.refusal.Refusal.TheVariants as refusal
use Rattle.core_loop.specs.declared.sending.Ready.{Ready}
use Rattle.core_loop.specs.declared.sending.Ready.TheVariants as ready

-- these bytes can be sent over a link
abbrev pub FitLink : List ℕ → Type 0
FitLink bytes = (1 ≤ length bytes) × (length bytes ≤ message_most)

-- these bytes fit in one line
abbrev pub FitOneLine : List ℕ → Type 0
FitOneLine bytes = (1 ≤ length bytes) × (length bytes ≤ 56)

abbrev pub CanBeHanded : Vec ℕ Global → Type 0
CanBeHanded piece = FitLink piece.items

-- they stand for this message under this stamp
abbrev pub IsPiece : ℕ → Message → Vec ℕ Global → Type 0
IsPiece stamp m piece = Coded piece.items stamp m

abbrev pub CanBeSent : Ready → Type 0
CanBeSent ready.Nothing = Unit {0}
CanBeSent (ready.ToAll pieces) = All FitLink pieces.items
CanBeSent (ready.ShortToAll bytes) = FitOneLine bytes.items
CanBeSent (ready.ShortToOne entry bytes) = FitOneLine bytes.items

-- what is ready stands for what core 0, with so many others, sends
abbrev pub IsMade : ℕ → ℕ → Outgoing → Ready → Type 0
IsMade others stamp nothing ready.Nothing = Unit {0}
IsMade others stamp (to_all m) (ready.ToAll pieces) = All (λ bytes. Coded bytes stamp m) pieces.items × (length pieces.items ≡ others)
IsMade others stamp (to_all m) (ready.ShortToAll bytes) = Coded bytes.items stamp m
IsMade others stamp (to_one entry m) ready.Nothing = others ≤ entry
IsMade others stamp (to_one entry m) (ready.ShortToOne entry' bytes) = (entry' ≡ entry) × (entry < others) × Coded bytes.items stamp m
IsMade others stamp out r = ⊥

-- what another core answers at once
abbrev pub IsShortAnswer : Message → Type 0
IsShortAnswer (Vote txn vote) = Unit {0}
IsShortAnswer (Ack txn) = Unit {0}
IsShortAnswer m = ⊥

-- a reply of another core can go over its link to core 0: it is a vote or an acknowledgement, and the link takes a message; or there is none
abbrev pub CanGoUp : Option Message → LinkView → Type 0
CanGoUp None v = Unit {0}
CanGoUp (Some m) v = IsShortAnswer m × (v.ready ≡ true)

-- why it doesn't go
abbrev pub CannotReply : ℕ → ℕ → Option Message → LinkView → Refusal → Type 0
CannotReply clock sent reply v refusal.NotReady = (reply ≢ None) × (v.ready ≡ false)
CannotReply clock sent reply v refusal.Spent = 18446744073709551615 ≤ max clock sent
CannotReply clock sent reply v refusal.NoMemory = ⊥
CannotReply clock sent reply v refusal.Stranger = ⊥
