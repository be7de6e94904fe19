-- The vote on an operation whose program gets no memory, by the bytes of the Prepare.
use Rattle.std.specs.Prelude.{◌≡◌, ◌+◌, ℕ, Bool, None, List}
use Rattle.bpf_insn.specs.declared.insn.Insn.{Insn}
use Rattle.filter_table.specs.declared.loading.Load.{Load}
use Rattle.filter_table.specs.declared.operation.Op.{Op}
use Rattle.filter_table.specs.Tables.{TableState}
use Rattle.monitor_messages.specs.declared.message.Message.{Message}
use Rattle.monitor_messages.specs.declared.message.Message.TheVariants.{Prepare}
use Rattle.monitor_messages.specs.declared.loaded.Carrier.{Carrier}
use Rattle.monitor_messages.specs.Carrying.{loaded_message}
use Rattle.monitor_messages.specs.Coding.{Coded}
use Rattle.two_phase.specs.Participants.{ParticipantPlace, Casts, Fits, staged_by}
use Rattle.core_steps.specs.declared.unread.Ballot.{Ballot}
use Rattle.core_steps.specs.declared.unread.Unread.{Unread}
use Rattle.core_steps.specs.declared.unread.Unread.TheVariants.{BadMessage, Stranger}

-- the bytes are those of the Prepare that comes next, and a core with this place, table and budget may cast the vote and stages nothing
pub record IsBallot (place : ParticipantPlace) (s : TableState) (budget : ℕ) (bytes : List ℕ) (ballot : Ballot) : Type 0 where
  pub op : Op
  pub coded : Coded bytes ballot.stamp (Prepare ballot.txn op)
  pub not_voted : place.voted ≡ None
  pub next : ballot.txn ≡ place.last + 1
  pub casts : (short : Bool) → Casts short s budget op ballot.vote
  pub stages_none : place.staged ≡ staged_by ballot.vote op

-- the bytes are no message's, or those of one that brings a program and doesn't come next
abbrev pub CannotVote : ParticipantPlace → TableState → ℕ → List ℕ → Unread → Type 0
CannotVote place s budget bytes BadMessage = (stamp : ℕ) (m : Message) → Coded bytes stamp m → ⊥
CannotVote place s budget bytes Stranger =
    (stamp : ℕ) × (carrier : Carrier) × (load : Load) × (program : List Insn)
    × Coded bytes stamp (loaded_message carrier load program) × (Fits s budget place (loaded_message carrier load program) → ⊥)
