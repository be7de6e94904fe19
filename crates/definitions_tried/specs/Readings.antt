-- Events of two cores, with their answers.
use Rattle.std.specs.Prelude.{List, [], ◌∷◌, Some, false, true}
use Rattle.pcap_reader.specs.declared.capture.CapturedPacket.{CapturedPacket}
use Rattle.filter_table.specs.declared.operation.Op.{Op}
use Rattle.filter_table.specs.declared.operation.Op.TheVariants.{Create}
use Rattle.filter_table.specs.declared.operation.Made.TheVariants.{Cap}
use Rattle.filter_table.specs.declared.decision.Decision.TheVariants.{Committed, Refused}
use Rattle.filter_table.specs.declared.decision.Veto.TheVariants as veto
use Rattle.filter_table.specs.declared.decision.Vote.TheVariants as vote
use Rattle.world_events.specs.declared.event.Answer.{Answer}
use Rattle.world_events.specs.declared.event.Answer.TheVariants.{Prepared, Submitted, TookAck, TookCommit, TookPrepare, TookSubmit, TookVote}
use Rattle.world_events.specs.declared.event.Done.{Done}
use Rattle.world_events.specs.declared.event.Event.{Event}
use Rattle.world_events.specs.declared.event.Event.TheVariants.{Start, StartFor, Submit, Take}

abbrev pub done : Event → Answer → Done
done event answer = record { event = event; answer = answer }

abbrev pub no_bytes : CapturedPacket
no_bytes = record { bytes = []; original = 0 }

abbrev pub create : Op
create = Create 1 7

-- core 1 asks, and all commit
abbrev pub submitted : List Done
submitted =
    done (Submit 1 create) Submitted
    ∷ done (Take 0 1 false) TookSubmit
    ∷ done (StartFor 1) (Prepared 1)
    ∷ done (Take 1 0 false) (TookPrepare 1 vote.Yes)
    ∷ done (Take 0 1 false) (TookVote 1 vote.Yes (Some (Committed 1 (Cap 1))))
    ∷ done (Take 1 0 false) (TookCommit 1 1)
    ∷ done (Take 0 1 false) (TookAck 1)
    ∷ []

-- core 0 asks, and core 1 has no memory
abbrev pub vetoed : List Done
vetoed =
    done (Start create) (Prepared 1)
    ∷ done (Take 1 0 true) (TookPrepare 1 vote.NoMemory)
    ∷ done (Take 0 1 false) (TookVote 1 vote.NoMemory (Some (Refused 1 veto.NoMemory)))
    ∷ []
