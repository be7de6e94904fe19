-- What another core does with a message whose program gets no memory.
use Rattle.std.proofs.Common.{◌≡◌, ◌∙◌, ℕ, Bool, Some, List, sym, subst}
use Rattle.std.proofs.lemmas.Option.{same_Some}
use Rattle.bpf_insn.specs.declared.insn.Insn.{Insn}
use Rattle.filter_table.specs.declared.loading.Load.{Load}
use Rattle.filter_table.specs.declared.operation.Op.{Op}
use Rattle.monitor_messages.specs.declared.message.Message.TheVariants.{Prepare, Vote}
use Rattle.monitor_messages.specs.declared.loaded.Carrier.{Carrier}
use Rattle.monitor_messages.specs.declared.loaded.Carrier.TheVariants as carrier
use Rattle.monitor_messages.specs.Carrying.{CarriesProgram, loaded_message}
use Rattle.monitor_messages.specs.Coding.{Coded}
use Rattle.two_phase.specs.Participants.{Fits}
use Rattle.world_histories.specs.Histories.{Stamping}
use Rattle.core_links.specs.Views.{LinkView, first_of}
use Rattle.core_steps.specs.declared.other_core.OtherCore.{OtherCore}
use Rattle.core_steps.specs.declared.unread.Ballot.{Ballot}
use Rattle.core_steps.specs.declared.unread.Unread.TheVariants.{Stranger}
use Rattle.core_steps.specs.OtherCoreSteps.{AwaitsHere, Considers, other_place}
use Rattle.core_steps.specs.Unread.{CannotVote}
use Rattle.core_loop.specs.declared.part.Part.{Part}
use Rattle.core_loop.specs.declared.part.Part.TheVariants as part
use Rattle.core_loop.specs.declared.cause.Cause.TheVariants as cause
use Rattle.core_loop.specs.Carrying.{IsFirst}
use Rattle.core_loop.specs.Taking.{IsUnread, StopsAt}

-- the bytes that are shown bring the program
pub shown_carries : (v : LinkView) (bytes : List ℕ) → Some bytes ≡ first_of v.kept → IsUnread v → CarriesProgram bytes
shown_carries v bytes there unread = subst CarriesProgram (same_Some unread.0 bytes (sym unread.1 ∙ sym there)) unread.2

awaits_loaded : (core : OtherCore) (c : Carrier) (load : Load) (program : List Insn) → AwaitsHere core (loaded_message c load program) → Fits core.replica.shown core.replica.budget (other_place core) (loaded_message c load program)
awaits_loaded core (carrier.Prepare txn) load program awaits = awaits
awaits_loaded core carrier.Submit load program awaits = awaits

-- the message is read, and doesn't come next
pub stops_unread : (cores clock peer : ℕ) (p : Part) (core : OtherCore) (view : ℕ → LinkView) (bytes : List ℕ) → p ≡ part.OtherCore core → Some bytes ≡ first_of (view peer).kept
    → CannotVote (other_place core) core.replica.shown core.replica.budget bytes Stranger → StopsAt cores clock peer p view cause.Stranger
stops_unread cores clock peer p core view bytes is there refused =
    let m : Stamping = record { stamp = refused.0; message = loaded_message refused.1 refused.2 refused.3 } in
    let first : IsFirst (view peer) m = record { bytes = bytes; there = sym there; coded = refused.4 } in
    rw is (m, first, λ zero awaits. refused.5 (awaits_loaded core refused.1 refused.2 refused.3 awaits))

-- what a core considered
abbrev pub Voted : OtherCore → List ℕ → Ballot → Type 0
Voted core bytes ballot = (op : Op) × Coded bytes ballot.stamp (Prepare ballot.txn op) × ((short : Bool) → Considers short core (Prepare ballot.txn op) (Some (Vote ballot.txn ballot.vote)) core)

abbrev pub ballot_message : Ballot → Op → Stamping
ballot_message ballot op = record { stamp = ballot.stamp; message = Prepare ballot.txn op }

pub first_voted : (v : LinkView) (bytes : List ℕ) (core : OtherCore) (ballot : Ballot) → Some bytes ≡ first_of v.kept → (voted : Voted core bytes ballot) → IsFirst v (ballot_message ballot voted.0)
first_voted v bytes core ballot there voted = record { bytes = bytes; there = sym there; coded = voted.1 }

-- core 0 alone asks
pub stops_elsewhere : (cores clock peer : ℕ) (p : Part) (core : OtherCore) (view : ℕ → LinkView) (bytes : List ℕ) (ballot : Ballot) → p ≡ part.OtherCore core → Some bytes ≡ first_of (view peer).kept
    → Voted core bytes ballot → (peer ≡ 0 → ⊥) → StopsAt cores clock peer p view cause.Stranger
stops_elsewhere cores clock peer p core view bytes ballot is there voted other =
    rw is (ballot_message ballot voted.0, first_voted (view peer) bytes core ballot there voted, λ zero awaits. other zero)

pub can_cast : (view : ℕ → LinkView) (peer : ℕ) (bytes : List ℕ) (core own : OtherCore) (ballot : Ballot) → peer ≡ 0 → own ≡ core → Some bytes ≡ first_of (view peer).kept → Voted core bytes ballot
    → (op : Op) × IsFirst (view 0) (ballot_message ballot op) × ((short : Bool) → Considers short own (Prepare ballot.txn op) (Some (Vote ballot.txn ballot.vote)) own)
can_cast view peer bytes core own ballot zero same there voted =
    rw same (voted.0, subst (λ (p : ℕ). IsFirst (view p) (ballot_message ballot voted.0)) zero (first_voted (view peer) bytes core ballot there voted), voted.2)
