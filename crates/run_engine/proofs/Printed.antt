-- The line of an event doesn't say whether a take was short of memory.
use Rattle.std.proofs.Common.{◌≡◌, refl}
use Rattle.filter_table.specs.declared.decision.Vote.TheVariants.{Yes, Budget, NoMemory}
use Rattle.world_events.specs.declared.event.Event.{Event}
use Rattle.world_events.specs.declared.event.Event.TheVariants.{Start, Submit, StartFor, Take, Rx}
use Rattle.world_events.specs.declared.event.Answer.{Answer}
use Rattle.world_events.specs.declared.event.Answer.TheVariants as answer
use Rattle.world_histories.specs.Merging.{as_short}
use Rattle.sim_lines.specs.Events.{event_words}

same_words : (e : Event) (a : Answer) → event_words (as_short e a) ≡ event_words e
same_words (Take to from short) (answer.TookPrepare txn Yes) = refl
same_words (Take to from short) (answer.TookPrepare txn Budget) = refl
same_words (Take to from short) (answer.TookPrepare txn NoMemory) = refl
same_words (Take to from short) (answer.Prepared txn) = refl
same_words (Take to from short) (answer.Decided decision) = refl
same_words (Take to from short) answer.Submitted = refl
same_words (Take to from short) (answer.TookVote txn vote decided) = refl
same_words (Take to from short) (answer.TookCommit txn version) = refl
same_words (Take to from short) (answer.TookAbort txn version) = refl
same_words (Take to from short) (answer.TookAck txn) = refl
same_words (Take to from short) answer.TookSubmit = refl
same_words (Take to from short) (answer.TookReply decision) = refl
same_words (Take to from short) (answer.Delivered version kept) = refl
same_words (Start op) a = refl
same_words (Submit core op) a = refl
same_words (StartFor core) a = refl
same_words (Rx core number packet floor) a = refl
