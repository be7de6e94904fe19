-- The ends of rings at which nothing is, as far as they know.
-- No public clause cites these.
use Rattle.std.specs.Prelude.{◌≡◌, ◌&&◌, ℕ, Bool, true, false, List, [], ◌∷◌, Option, Some, None, is_none, slice_index_or}
use Rattle.ump_ring.specs.Receivers.{message_kept, stopped, lines_known}
use Rattle.core_links.specs.declared.ring_links.Link.{Link}

abbrev pub is_nothing : {A : Type 0} → List A → Bool
is_nothing [] = true
is_nothing (x ∷ xs) = false

-- a receiver keeps no message, has not stopped, and knows of no line that it has not received
abbrev pub is_empty_end : Option Link → Bool
is_empty_end None = true
is_empty_end (Some l) = is_none (message_kept l.receiver) && (is_none (stopped l.receiver) && is_nothing (lines_known l.receiver))

-- so it is at each place
abbrev pub AreEmptyEnds : List (Option Link) → Type 0
AreEmptyEnds slots = (p : ℕ) → is_empty_end (slice_index_or slots p None) ≡ true
