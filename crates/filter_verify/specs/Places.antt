-- Sets of places, by their bits.
-- No public clause cites these.
use Rattle.std.specs.Prelude.{◌≡◌, ℕ, ◌/◌, ◌%◌, List, slice_index_or}
use Rattle.std.specs.Int.{bit_at}

-- the set with these words has the place
abbrev pub HasPlace : List ℕ → ℕ → Type 0
HasPlace set place = bit_at (slice_index_or set (place / 64) 0) (place % 64) ≡ 1
