-- The line of an event: what the event is, and its answer or its fault.
use Rattle.std.specs.Prelude.{ℕ, Option, Some, None, Result, Ok, Err, List, [], ◌∷◌, ◌++◌, codes}
use Rattle.std.specs.List.{flat_map}
use Rattle.std.specs.Fmt.{decimal}
use Rattle.filter_table.specs.declared.delivery.Kept.{Kept}
use Rattle.filter_table.specs.declared.decision.Decision.{Decision}
use Rattle.world_events.specs.declared.event.Event.{Event}
use Rattle.world_events.specs.declared.event.Event.TheVariants.{Start, Submit, StartFor, Take, Rx}
use Rattle.world_events.specs.declared.event.Answer.{Answer}
use Rattle.world_events.specs.declared.event.Done.{Done}
use Rattle.world_events.specs.declared.event.Answer.TheVariants.{Prepared, Decided, Submitted, TookPrepare, TookVote, TookCommit, TookAbort, TookAck, TookSubmit, TookReply, Delivered}
use Rattle.world_events.specs.declared.fault.WorldFault.{WorldFault}
use Rattle.world_events.specs.declared.fault.WorldFault.TheVariants.{NoSuchCore, Nothing, NotReady, NotIdle, Spent, Outstanding, NoneWaiting, NoMemory}
use Rattle.sim_lines.specs.Decisions.{decision_words, vote_name}

-- the event: its word, and its cores or the core and the packet's number
abbrev pub event_words : Event → List ℕ
event_words (Start op) = codes "start"
event_words (Submit core op) = codes "submit " ++ decimal core
event_words (StartFor core) = codes "startfor " ++ decimal core
event_words (Take to from short) = codes "take " ++ decimal to ++ codes " " ++ decimal from
event_words (Rx core number packet floor) = codes "rx " ++ decimal core ++ codes " " ++ decimal number

-- the decision that the last vote brings
abbrev pub decided_words : Option Decision → List ℕ
decided_words None = []
decided_words (Some decision) = codes " " ++ decision_words decision

-- an endpoint and how many bytes it keeps
abbrev pub kept_word : Kept → List ℕ
kept_word k = codes " " ++ decimal k.endpoint ++ codes "=" ++ decimal k.kept

-- the endpoints that get the packet
abbrev pub kept_words : List Kept → List ℕ
kept_words [] = codes " none"
kept_words (k ∷ kept) = flat_map kept_word (k ∷ kept)

abbrev pub answer_words : Answer → List ℕ
answer_words (Prepared txn) = codes "prepared " ++ decimal txn
answer_words (Decided decision) = decision_words decision
answer_words Submitted = codes "sent"
answer_words (TookPrepare txn vote) = codes "prepare " ++ decimal txn ++ codes " " ++ vote_name vote
answer_words (TookVote txn vote decided) = codes "vote " ++ decimal txn ++ codes " " ++ vote_name vote ++ decided_words decided
answer_words (TookCommit txn version) = codes "commit " ++ decimal txn ++ codes " version " ++ decimal version
answer_words (TookAbort txn version) = codes "abort " ++ decimal txn ++ codes " version " ++ decimal version
answer_words (TookAck txn) = codes "ack " ++ decimal txn
answer_words TookSubmit = codes "submit"
answer_words (TookReply decision) = codes "reply " ++ decision_words decision
answer_words (Delivered version kept) = codes "version " ++ decimal version ++ kept_words kept

abbrev pub fault_name : WorldFault → List ℕ
fault_name NoSuchCore = codes "NoSuchCore"
fault_name Nothing = codes "Nothing"
fault_name NotReady = codes "NotReady"
fault_name NotIdle = codes "NotIdle"
fault_name Spent = codes "Spent"
fault_name Outstanding = codes "Outstanding"
fault_name NoneWaiting = codes "NoneWaiting"
fault_name NoMemory = codes "NoMemory"

abbrev pub told_words : Result Answer WorldFault → List ℕ
told_words (Ok answer) = answer_words answer
told_words (Err fault) = codes "fault " ++ fault_name fault

-- the line
abbrev pub event_line : Event → Result Answer WorldFault → List ℕ
event_line event told = event_words event ++ codes ": " ++ told_words told ++ codes "\n"

-- that of an event that was done
abbrev pub done_line : Done → List ℕ
done_line d = event_line d.event (Ok d.answer)

-- the line of a job of this core and of this number that was left
abbrev pub left_line : ℕ → ℕ → List ℕ
left_line core number = codes "left " ++ decimal core ++ codes " " ++ decimal number ++ codes "\n"
