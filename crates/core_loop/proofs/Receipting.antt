-- The receipt of a packet that lies in the caller's memory.
use Rattle.std.proofs.Common.{◌≡◌, ◌+◌, ◌++◌, ℕ, List, [], ◌∷◌, refl, ap, arith}
use Rattle.filter_table.specs.declared.delivery.Kept.{Kept}
use Rattle.filter_table.specs.Tables.{Accepting}
use Rattle.world_events.specs.declared.event.Answer.TheVariants.{Delivered}
use Rattle.world_histories.specs.declared.history.Stamped.{Stamped}
use Rattle.core_links.specs.Views.{LinkView}
use Rattle.core_loop.specs.declared.part.Part.{Part}
use Rattle.core_loop.specs.Keeping.{IsStanding, replica_of}
use Rattle.core_loop.specs.Receipts.{Receives}
use Rattle.core_loop.specs.Receiving.{receipt}
use Rattle.core_loop.proofs.Acting.{acts_stand, receives_act}
use Rattle.core_loop.proofs.Resting.{fits}

-- the receipt of a packet that lies elsewhere, as the event of a core that stands so
pub receipt_stands : (number cores clock stamp version : ℕ) (x : Part) (bytes : List ℕ) (original : ℕ) (kept : List Kept) (history : List Stamped) (v : ℕ → LinkView)
    → IsStanding x number cores clock history v → stamp ≡ clock + 1 → version ≡ (replica_of x).shown.version
    → Accepting (replica_of x).shown (record { bytes = bytes; original = original }) kept
    → IsStanding x number cores stamp (history ++ receipt number stamp version bytes original kept ∷ []) v
receipt_stands number cores clock stamp version x bytes original kept history v st next at accepting =
    let s = receipt number stamp version bytes original kept in
    let r : Receives number clock (replica_of x) s = record {
      job = record { number = 0; packet = record { bytes = bytes; original = original }; floor = 0 };
      is_event = refl;
      stamp_next = next;
      here = record { kept = kept; above_floor = omega arith; accepting = accepting; is_answer = ap (λ (n : ℕ). Delivered n kept) at };
    } in
    acts_stand x x number cores clock history s v v st (receives_act number cores clock x s v (fits x number cores clock history v st) r)
