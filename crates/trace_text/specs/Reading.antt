-- What `draw` reads of the lines that `sim` and `run` print, in the words of events and answers.
use Rattle.std.specs.Prelude.{◌<◌, ◌==◌, ◌||◌, ℕ, zero, suc, Bool, true, false, Option, Some, None, Result, Ok, Err, List, [], ◌∷◌, ◌++◌, codes}
use Rattle.std.specs.Fmt.{decimal}
use Rattle.std.specs.List.{before_first}
use Rattle.filter_table.specs.Tables.{TableState}
use Rattle.filter_table.specs.declared.decision.Vote.{Vote}
use Rattle.filter_table.specs.declared.decision.Vote.TheVariants as vote
use Rattle.filter_table.specs.declared.decision.Decision.{Decision}
use Rattle.filter_table.specs.declared.decision.Decision.TheVariants.{Committed, Refused}
use Rattle.world_events.specs.declared.event.Event.{Event}
use Rattle.world_events.specs.declared.event.Event.TheVariants.{Start, Submit, StartFor, Take, Rx}
use Rattle.world_events.specs.declared.event.Answer.{Answer}
use Rattle.world_events.specs.declared.event.Answer.TheVariants.{Prepared, Decided, Submitted, TookPrepare, TookVote, TookCommit, TookAbort, TookAck, TookSubmit, TookReply, Delivered}
use Rattle.world_events.specs.declared.event.Done.{Done}
use Rattle.world_events.specs.declared.fault.WorldFault.{WorldFault}
use Rattle.world_events.specs.declared.fault.WorldFault.TheVariants.{NoSuchCore}
use Rattle.trace_lines.specs.declared.event.Act.{Act}
use Rattle.trace_lines.specs.declared.event.Act.TheVariants as act
use Rattle.trace_lines.specs.declared.event.TraceAnswer.{TraceAnswer}
use Rattle.trace_lines.specs.declared.event.TraceAnswer.TheVariants as told
use Rattle.trace_lines.specs.Lines.{Shown}
use Rattle.sim_lines.specs.Events.{event_line, left_line}
use Rattle.sim_lines.specs.Tables.{table_text}

-- An event and its answer

-- what is done; core 0 takes from another core, and each other core from core 0
abbrev pub act_of : Event → Act
act_of (Start op) = act.Start
act_of (Submit core op) = act.Submit core
act_of (StartFor core) = act.StartFor core
act_of (Take zero from short) = act.TakeUp from
act_of (Take (suc entry) from short) = act.TakeDown (suc entry)
act_of (Rx core number packet floor) = act.Rx core

-- a request that is decided at once
abbrev pub decision_told : Decision → TraceAnswer
decision_told (Committed version made) = told.Committed
decision_told (Refused core why) = told.Refused

-- a vote, the last or not
abbrev pub vote_told : Option Decision → TraceAnswer
vote_told None = told.Vote
vote_told (Some (Committed version made)) = told.VoteCommits
vote_told (Some (Refused core why)) = told.VoteRefuses

abbrev pub told_of : Answer → TraceAnswer
told_of (Prepared txn) = told.Prepared
told_of (Decided decision) = decision_told decision
told_of Submitted = told.Sent
told_of (TookPrepare txn vote) = told.Prepare
told_of (TookVote txn vote decided) = vote_told decided
told_of (TookCommit txn version) = told.Commit
told_of (TookAbort txn version) = told.Abort
told_of (TookAck txn) = told.Ack
told_of TookSubmit = told.Submit
told_of (TookReply decision) = told.Reply
told_of (Delivered version kept) = told.Delivered

-- whether a request is refused or vetoed

abbrev pub refuses : Decision → Bool
refuses (Committed version made) = false
refuses (Refused core why) = true

abbrev pub refused : Option Decision → Bool
refused None = false
refused (Some decision) = refuses decision

abbrev pub vetoes : Vote → Bool
vetoes vote.Yes = false
vetoes vote.Budget = true
vetoes vote.NoMemory = true

abbrev pub says_no : Answer → Bool
says_no (Decided decision) = refuses decision
says_no (TookPrepare txn vote) = vetoes vote
says_no (TookVote txn vote decided) = vetoes vote || refused decided
says_no (TookAbort txn version) = true
says_no (TookReply decision) = refuses decision
says_no answer = false

-- the version that the core comes to by committing, or no bytes

abbrev pub version_in : Decision → List ℕ
version_in (Committed version made) = decimal version
version_in (Refused core why) = []

abbrev pub version_of : Answer → List ℕ
version_of (Decided decision) = version_in decision
version_of (TookVote txn vote (Some decision)) = version_in decision
version_of (TookCommit txn version) = decimal version
version_of answer = []

-- what stands before the line feed of the event's line
abbrev pub text_of : Event → Result Answer WorldFault → List ℕ
text_of event told = before_first (λ b. b == 10) (event_line event told)

-- the event that is drawn: it was done, or it wasn't and its core stays as it was
abbrev pub shown_of : Event → Result Answer WorldFault → Shown
shown_of event (Ok answer) = record { event = record { act = act_of event; told = told_of answer }; no = says_no answer; version = version_of answer; text = text_of event (Ok answer) }
shown_of event (Err fault) = record { event = record { act = act_of event; told = told.Fault }; no = true; version = []; text = text_of event (Err fault) }

-- Which events can be drawn

-- its cores are among the 64 that a machine may have, and a message is taken by core 0 or from it
abbrev pub IsAtCores : Event → Type 0
IsAtCores (Start op) = Unit {0}
IsAtCores (Submit core op) = core < 64
IsAtCores (StartFor core) = core < 64
IsAtCores (Take zero (suc entry) short) = suc entry < 64
IsAtCores (Take (suc entry) zero short) = suc entry < 64
IsAtCores (Take to from short) = ⊥
IsAtCores (Rx core number packet floor) = core < 64

-- it is answered as such an event is
abbrev pub IsAnswered : Event → Answer → Type 0
IsAnswered (Start op) (Prepared txn) = Unit {0}
IsAnswered (Start op) (Decided decision) = Unit {0}
IsAnswered (Submit core op) Submitted = Unit {0}
IsAnswered (StartFor core) (Prepared txn) = Unit {0}
IsAnswered (StartFor core) (Decided decision) = Unit {0}
IsAnswered (Take zero from short) (TookVote txn vote decided) = Unit {0}
IsAnswered (Take zero from short) (TookAck txn) = Unit {0}
IsAnswered (Take zero from short) TookSubmit = Unit {0}
IsAnswered (Take (suc entry) from short) (TookPrepare txn vote) = Unit {0}
IsAnswered (Take (suc entry) from short) (TookCommit txn version) = Unit {0}
IsAnswered (Take (suc entry) from short) (TookAbort txn version) = Unit {0}
IsAnswered (Take (suc entry) from short) (TookReply decision) = Unit {0}
IsAnswered (Rx core number packet floor) (Delivered version kept) = Unit {0}
IsAnswered event answer = ⊥

-- an event at a core that isn't there is skipped, so that it may have any cores
abbrev pub CanDraw : Event → Result Answer WorldFault → Type 0
CanDraw event (Ok answer) = IsAtCores event × IsAnswered event answer
CanDraw event (Err NoSuchCore) = Unit {0}
CanDraw event (Err fault) = IsAtCores event

-- Events that were done

abbrev pub shown_done : Done → Shown
shown_done d = shown_of d.event (Ok d.answer)

abbrev pub CanDrawDone : Done → Type 0
CanDrawDone d = CanDraw d.event (Ok d.answer)

-- All that is printed

-- an event that was done or not, a core's table, a core that isn't there to be shown, or a packet that was left
pub data Printed : Type 0 where
  Told : Event → Result Answer WorldFault → Printed
  Table : ℕ → TableState → Printed
  NoTable : ℕ → Printed
  Left : ℕ → ℕ → Printed

abbrev pub printed_text : Printed → List ℕ
printed_text (Told event told) = event_line event told
printed_text (Table core s) = table_text core s
printed_text (NoTable core) = codes "show " ++ decimal core ++ codes ": fault NoSuchCore\n"
printed_text (Left core number) = left_line core number

-- what is drawn of it
abbrev pub drawn_of : Printed → List Shown
drawn_of (Told event (Err NoSuchCore)) = []
drawn_of (Told event told) = shown_of event told ∷ []
drawn_of other = []

abbrev pub CanDrawPrinted : Printed → Type 0
CanDrawPrinted (Told event told) = CanDraw event told
CanDrawPrinted other = Unit {0}
