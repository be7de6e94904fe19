-- A file whose packets are taken where they lie. No public clause cites these.
use Rattle.std.specs.Prelude.{◌≡◌, ℕ, ◌^◌, ◌<◌, List, ◌++◌, length}
use Rattle.pcap_reader.specs.Held.{HoldsBehind}
use Rattle.pcap_reader.specs.declared.capture.CapturedPacket.{CapturedPacket}
use Rattle.pcap_reader.specs.declared.feed.Feed.{Feed}

-- the last bytes of a file
abbrev pub IsLastOf : List ℕ → List ℕ → Type 0
IsLastOf rest file = (front : List ℕ) × (file ≡ front ++ rest)

-- a feed took a front of some bytes, and the packets of it were added to those before
pub record SharesTo (bytes rest : List ℕ) (old new : Feed) (before after : List CapturedPacket) : Type 0 where
  pub front : List ℕ
  pub parts : bytes ≡ front ++ rest
  pub holds : (fed : List ℕ) → HoldsBehind before fed old → length (fed ++ front) < 2 ^ 64 → HoldsBehind after (fed ++ front) new
