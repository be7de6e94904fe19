-- What the marks of a core's links over rings say, in a bit for each of the first 64 peers.
-- No public clause cites these.
use Rattle.std.specs.Prelude.{◌≡◌, ◌<◌, ◌≤◌, ◌||◌, ℕ, Bool, false, cond, List, Option, Some, None, is_some, slice_index_or}
use Rattle.std.specs.Int.{bit_at}
use Rattle.ump_ring.specs.Senders.{current}
use Rattle.core_links.specs.declared.ring_links.Link.{Link}

-- there is a link
abbrev pub is_joined : Option Link → Bool
is_joined slot = is_some slot

-- a line moved over the link since the last pump began
abbrev pub has_moved : Option Link → Bool
has_moved None = false
has_moved (Some l) = l.moved

-- the next pump has something to do for the link: it says that a line moved, or something waits to be sent
abbrev pub is_due : Option Link → Bool
is_due None = false
is_due (Some l) = l.moved || is_some (current l.sender)

-- each bit says whether a line moved over that link
abbrev pub TellMoved : ℕ → List (Option Link) → Type 0
TellMoved bits slots = (p : ℕ) → p < 64 → bit_at bits p ≡ cond (has_moved (slice_index_or slots p None)) 1 0

-- for a link with no bit set there is nothing to do
abbrev pub TellDue : ℕ → List (Option Link) → Type 0
TellDue bits slots = (p : ℕ) → p < 64 → bit_at bits p ≡ 0 → is_due (slice_index_or slots p None) ≡ false

-- no link is to this peer or one above it
abbrev pub LieBelow : ℕ → List (Option Link) → Type 0
LieBelow span slots = (p : ℕ) → span ≤ p → is_joined (slice_index_or slots p None) ≡ false
