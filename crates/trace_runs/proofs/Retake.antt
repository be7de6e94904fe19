-- An event as a trace tells it.
use Rattle.std.proofs.Common.{ℕ, zero, suc, Bool, Option, refl, sym, subst}
use Rattle.filter_table.specs.declared.operation.Op.{Op}
use Rattle.filter_table.specs.Tables.{TableState}
use Rattle.monitor_messages.specs.declared.message.Message.{Message}
use Rattle.monitor_messages.specs.declared.message.Message.TheVariants as message
use Rattle.filter_table.specs.declared.decision.Vote.{Vote}
use Rattle.filter_table.specs.declared.decision.Vote.TheVariants as vote
use Rattle.two_phase.specs.Participants.{ParticipantPlace, Answers, Casts}
use Rattle.world_events.specs.declared.event.Event.{Event}
use Rattle.world_events.specs.declared.event.Event.TheVariants.{Start, Submit, StartFor, Take, Rx}
use Rattle.world_events.specs.declared.event.Answer.{Answer}
use Rattle.world_events.specs.declared.event.Answer.TheVariants.{TookPrepare}
use Rattle.world_model.specs.Cases.{Took, TakesDownAt}
use Rattle.world_model.specs.Worlds.{World, Happens}
use Rattle.world_events.specs.Memory.{lacked_memory}
use Rattle.trace_runs.specs.Traces.{retold}

-- the vote that was cast can be cast where the core is short of memory exactly if it voted so
recast : (short : Bool) (s : TableState) (budget : ℕ) (op : Op) (txn : ℕ) (v : Vote) → Casts short s budget op v → Casts (lacked_memory (TookPrepare txn v)) s budget op v
recast short s budget op txn vote.Yes c = (c.0, c.1, refl)
recast short s budget op txn vote.Budget c = c
recast short s budget op txn vote.NoMemory c = c

reanswers : (short : Bool) (s : TableState) (budget version : ℕ) (place place' : ParticipantPlace) (m reply : Message) (answer : Answer) → Answers short s budget place m place' reply → Took m reply version answer
    → Answers (lacked_memory answer) s budget place m place' reply
reanswers short s budget version place place' (message.Prepare txn op) (message.Vote n v) answer a t =
    let c : Casts (lacked_memory answer) s budget op v = subst (λ (x : Answer). Casts (lacked_memory x) s budget op v) (sym t) (recast short s budget op txn v a.2) in
    (a.0, a.1, c, a.3, a.4)
reanswers short s budget version place place' (message.Commit txn) (message.Ack n) answer a t = a
reanswers short s budget version place place' (message.Abort txn) (message.Ack n) answer a t = a
reanswers short s budget version place place' m reply answer a t = absurd a

retaken : (short : Bool) (s : TableState) (budget version : ℕ) (place place' : ParticipantPlace) (out out' : Bool) (m : Message) (committed : Option Op) (answer : Answer)
    → TakesDownAt short s budget version place out m place' out' committed answer → TakesDownAt (lacked_memory answer) s budget version place out m place' out' committed answer
retaken short s budget version place place' out out' (message.Reply d) committed answer h = h
retaken short s budget version place place' out out' (message.Prepare txn op) committed answer h =
    record { reply = h.reply; answers = reanswers short s budget _ place place' (message.Prepare txn op) h.reply answer h.answers h.is_answer; same_outstanding = h.same_outstanding; is_committed = h.is_committed; is_answer = h.is_answer }
retaken short s budget version place place' out out' (message.Commit txn) committed answer h =
    record { reply = h.reply; answers = reanswers short s budget _ place place' (message.Commit txn) h.reply answer h.answers h.is_answer; same_outstanding = h.same_outstanding; is_committed = h.is_committed; is_answer = h.is_answer }
retaken short s budget version place place' out out' (message.Abort txn) committed answer h =
    record { reply = h.reply; answers = reanswers short s budget _ place place' (message.Abort txn) h.reply answer h.answers h.is_answer; same_outstanding = h.same_outstanding; is_committed = h.is_committed; is_answer = h.is_answer }
retaken short s budget version place place' out out' (message.Vote txn v) committed answer h = absurd h.answers
retaken short s budget version place place' out out' (message.Ack txn) committed answer h = absurd h.answers
retaken short s budget version place place' out out' (message.Submit op) committed answer h = absurd h.answers

-- the event as a trace tells it happens as well, with its answer
pub happens_retold : (w w' : World) (event : Event) (answer : Answer) → Happens w event w' answer → Happens w (retold event answer) w' answer
happens_retold w w' (Start op) answer h = h
happens_retold w w' (Submit core op) answer h = h
happens_retold w w' (StartFor core) answer h = h
happens_retold w w' (Rx core number packet floor) answer h = h
happens_retold w w' (Take zero (suc i) short) answer h = h
happens_retold w w' (Take (suc i) zero short) answer h = record {
  peer = h.peer;
  is_peer = h.is_peer;
  m = h.m;
  rest = h.rest;
  oldest = h.oldest;
  place = h.place;
  outstanding = h.outstanding;
  committed = h.committed;
  here = retaken short _ h.peer.budget h.peer.version h.peer.place h.place h.peer.outstanding h.outstanding h.m h.committed answer h.here;
  next = h.next;
}
happens_retold w w' event answer h = absurd h
