-- How another core takes a message.
use Rattle.std.proofs.Common.{◌≡◌, ◌∙◌, ℕ, Bool, false, Option, None, Some, Result, Ok, Err, refl, ap, subst}
use Rattle.std.specs.Prelude.{IfOk, OnOk, OnErr}
use Rattle.filter_table.specs.declared.operation.Op.{Op}
use Rattle.filter_table.specs.Tables.{TableState}
use Rattle.filter_table.proofs.Tables.{version-after}
use Rattle.monitor_messages.specs.declared.message.Message.{Message}
use Rattle.monitor_messages.specs.declared.message.Message.TheVariants as message
use Rattle.filter_table.specs.declared.decision.Vote.{Vote}
use Rattle.filter_table.specs.declared.decision.Vote.TheVariants as vote
use Rattle.two_phase.specs.declared.step.Stranger.{Stranger}
use Rattle.monitor_2pc.specs.Places.{after_commit}
use Rattle.two_phase.specs.Participants.{ParticipantPlace, ParticipantState, StagedByVote, Answers, Fits, staged_by}
use Rattle.world_events.specs.declared.event.Answer.TheVariants.{TookPrepare, TookCommit}
use Rattle.world_model.specs.Cases.{raised}
use Rattle.core_steps.specs.declared.other_core.OtherCore.{OtherCore}
use Rattle.core_steps.specs.OtherCoreSteps.{IsBetweenSteps, Considers, TakesDown, other_place}

pub version_commit : (s : TableState) (o : Option Op) → (after_commit s o).version ≡ raised s.version o
version_commit s None = refl
version_commit s (Some op) = version-after s op

-- Commit is answered the same whether memory is short or not
commit_any : (short : Bool) (s : TableState) (b txn : ℕ) (place place' : ParticipantPlace) (reply : Message) → Answers false s b place (message.Commit txn) place' reply → Answers short s b place (message.Commit txn) place' reply
commit_any short s b txn place place' (message.Ack n) a = a
commit_any short s b txn place place' reply a = absurd a

pub commit_taken : (short : Bool) (core : OtherCore) (m : Message) (reply : Option Message) (own own' : OtherCore) (txn version : ℕ) (r : Result Message Stranger) → m ≡ message.Commit txn → Considers short core m reply own
    → IfOk r (Answers false own.replica.shown own.replica.budget (other_place own) (message.Commit txn) (other_place own'))
    → OnOk r (own'.replica.shown ≡ after_commit own.replica.shown own.replica.staged) → own'.replica.budget ≡ own.replica.budget → IsBetweenSteps own' → own'.participant.outstanding ≡ own.participant.outstanding
    → OnErr r (Fits own.replica.shown own.replica.budget (other_place own) (message.Commit txn) → ⊥) → version ≡ own'.replica.shown.version
    → TakesDown short core m own' (TookCommit txn version)
commit_taken short core m reply own own' txn version r is h answered shown budget between outstanding stranger numbered =
    rw is (by_reply reply (subst (λ (x : Message). Considers short core x reply own) is h))
  where
    by_result : (r : Result Message Stranger) → own ≡ core → Fits own.replica.shown own.replica.budget (other_place own) (message.Commit txn) → IfOk r (Answers false own.replica.shown own.replica.budget (other_place own) (message.Commit txn) (other_place own'))
        → OnOk r (own'.replica.shown ≡ after_commit own.replica.shown own.replica.staged) → OnErr r (Fits own.replica.shown own.replica.budget (other_place own) (message.Commit txn) → ⊥)
        → TakesDown short own (message.Commit txn) own' (TookCommit txn version)
    by_result (Ok sent) same fits a next strange = record {
      committed = own.replica.staged;
      here = record {
        reply = sent;
        answers = commit_any short own.replica.shown own.replica.budget txn (other_place own) (other_place own') sent a;
        same_outstanding = outstanding;
        is_committed = refl;
        is_answer = ap (TookCommit txn) (numbered ∙ (ap (λ (s : TableState). s.version) next ∙ version_commit own.replica.shown own.replica.staged));
      };
      shown_next = next;
      same_budget = budget;
      between = between;
    }
    by_result (Err e) same fits a next strange = absurd (strange fits)

    by_reply : (reply : Option Message) → Considers short core (message.Commit txn) reply own → TakesDown short core (message.Commit txn) own' (TookCommit txn version)
    by_reply (Some (message.Ack n)) x =
        let fits : Fits own.replica.shown own.replica.budget (other_place own) (message.Commit txn) = rw (x.2) (x.0, x.1) in
        subst (λ (c : OtherCore). TakesDown short c (message.Commit txn) own' (TookCommit txn version)) (x.2) (by_result r (x.2) fits answered shown stranger)
    by_reply other x = absurd x

-- what a vote leaves staged
between_vote : (v : Vote) (op : Op) → StagedByVote (Some v) (staged_by v op)
between_vote vote.Yes op = refl
between_vote vote.Budget op = refl
between_vote vote.NoMemory op = refl

-- a vote that is cast
pub prepare_taken : (short : Bool) (core own : OtherCore) (cast : ParticipantState) (txn : ℕ) (op : Op) (v : Vote) → Considers short core (message.Prepare txn op) (Some (message.Vote txn v)) own
    → cast ≡ record own.participant { last = txn; voted = Some v } → TakesDown short core (message.Prepare txn op) (record own { participant = cast }) (TookPrepare txn v)
prepare_taken short core own cast txn op v h next = rw (next, h.3) (record {
  committed = None;
  here = record { reply = message.Vote txn v; answers = (h.0, h.1, h.2, refl, refl); same_outstanding = refl; is_committed = refl; is_answer = refl };
  shown_next = refl;
  same_budget = refl;
  between = between_vote v op;
})
