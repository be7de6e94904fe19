-- What is written of the receivers of a packet that are told.
use Rattle.std.proofs.Common.{◌≡◌, ◌==◌, ◌≤◌, ◌∷◌, [], ℕ, Err, IfErr, IfOk, List, Ok, Result, arith, false, length, refl, slice_set, subst, sym, take}
use Rattle.std.proofs.lemmas.Bool.{false≢true}
use Rattle.bpf_insn.specs.Machine.{Packet}
use Rattle.filter_table.specs.declared.delivery.Kept.{Kept}
use Rattle.filter_table.specs.Tables.{Accepting, TableState}
use Rattle.core_loop.specs.declared.live.NotReceived.{NotReceived}
use Rattle.core_loop.specs.declared.live.NotReceived.TheVariants as no
use Rattle.core_loop.specs.Receiving.{AreTooMany, LacksRoom}

pub told : (s : TableState) (packet : Packet) (kept room : List Kept) (r : Result ℕ NotReceived) → Accepting s packet kept
    → IfOk r (λ count. (count ≤ length room) × (take count room ≡ kept)) → IfOk r (λ count. (count ≤ length room) × Accepting s packet (take count room))
told s packet kept room (Ok count) accepting written = (written.0, subst (Accepting s packet) (sym written.1) accepting)
told s packet kept room (Err why) accepting written = tt

pub too_many : (s : TableState) (bytes : List ℕ) (original : ℕ) (kept : List Kept) (room : ℕ) (why : NotReceived) → Accepting s (record { bytes = bytes; original = original }) kept
    → AreTooMany kept room why → LacksRoom s bytes original room why
too_many s bytes original kept room (no.NoRoom count) accepting many = (kept, accepting, many.0, many.1)
too_many s bytes original kept room no.NoMemory accepting many = tt
too_many s bytes original kept room (no.Stopped cause) accepting many = absurd many
too_many s bytes original kept room no.Spent accepting many = absurd many

pub told_why : (s : TableState) (bytes : List ℕ) (original : ℕ) (kept : List Kept) (room : ℕ) (r : Result ℕ NotReceived) → Accepting s (record { bytes = bytes; original = original }) kept
    → IfErr r (AreTooMany kept room) → IfErr r (LacksRoom s bytes original room)
told_why s bytes original kept room (Ok count) accepting many = tt
told_why s bytes original kept room (Err why) accepting many = too_many s bytes original kept room why accepting many

-- the first place of a room, once it is written
pub written_first : (room : List Kept) (kept : Kept) → (length room == 0) ≡ false → (1 ≤ length (slice_set room 0 kept)) × (take 1 (slice_set room 0 kept) ≡ kept ∷ [])
written_first [] kept some = absurd (false≢true (sym some))
written_first (one ∷ more) kept some = (omega arith, refl)
