-- What a note changes in the marks.
-- No public clause cites these.
use Rattle.std.specs.Prelude.{◌≡◌, ◌≢◌, ◌<◌, ◌||◌, ℕ, Bool, true, false}
use Rattle.std.specs.Int.{bit_at}
use Rattle.core_links.specs.declared.marks.Marks.{Marks}

-- a peer's bits are set where a line moved over its link, and where that or something to send is for the next pump. No other bit has changed
pub record Notes (peer : ℕ) (moved waits : Bool) (old new : Marks) : Type 0 where
  pub moves : moved ≡ true → peer < 64 → bit_at new.moved peer ≡ 1
  pub stays : moved ≡ false → new.moved ≡ old.moved
  pub due : (moved || waits) ≡ true → peer < 64 → bit_at new.due peer ≡ 1
  pub rests : (moved || waits) ≡ false → new.due ≡ old.due
  pub others : (p : ℕ) → p ≢ peer → (bit_at new.moved p ≡ bit_at old.moved p) × (bit_at new.due p ≡ bit_at old.due p)
