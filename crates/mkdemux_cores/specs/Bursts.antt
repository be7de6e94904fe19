-- Packets that are received together.
use Rattle.std.specs.Prelude.{◌≡◌, ◌≢◌, ◌≤◌, ◌-◌, ◌++◌, ℕ, Some, List, [], ◌∷◌, length, take, drop, slice_get, sum}
use Rattle.filter_table.specs.declared.delivery.Kept.{Kept}
use Rattle.core_loop.specs.Receiving.{HasReceived, version_now}
use Rattle.core_machine.specs.Machines.{RingCore}
use Rattle.mkdemux_cores.specs.declared.answers.TheConstants.{DONE}
use Rattle.mkdemux_cores.specs.declared.bursts.Packet.{Packet}
use Rattle.mkdemux_cores.specs.Receipts.{IsNotReceived}

-- the core received the packets one after another, each as `mkdemux_receive` does: the endpoints of each stand after those of the one before, and so
-- many endpoints get it
pub data Receives : RingCore → List Packet → List ℕ → List Kept → RingCore → Type 0 where
  none : {core : RingCore} → Receives core [] [] [] core
  more : {old mid new : RingCore} {packets : List Packet} {counts : List ℕ} {kept last : List Kept} (packet : Packet)
      → Receives old packets counts kept mid → HasReceived mid new packet.bytes.now packet.original last
      → Receives old (packets ++ packet ∷ []) (counts ++ length last ∷ []) (kept ++ last) new

-- The first of these packets were received, at one version: all of them with the answer `DONE`, else the next one wasn't, for the reason that the
-- answer tells. What lies in the room and among the counts after theirs is as it was.
pub record IsBurst (old new : RingCore) (packets : List Packet) (answer done : ℕ) (room room_after : List Kept) (counts counts_after : List ℕ) : Type 0 where
  pub used : ℕ
  pub used_is : used ≡ sum (take done counts_after)
  pub receives : Receives old (take done packets) (take done counts_after) (take used room_after) new
  pub one_version : version_now new ≡ version_now old
  pub within : done ≤ length packets
  pub fits : used ≤ length room
  pub rest : drop used room_after ≡ drop used room
  pub rest_of_counts : drop done counts_after ≡ drop done counts
  pub all : answer ≡ DONE → done ≡ length packets
  pub refused : answer ≢ DONE → (packet : Packet) × (needed : ℕ) × (slice_get packets done ≡ Some packet)
      × IsNotReceived new packet.bytes.now packet.original (length room - used) answer needed
