-- How a vote is heard.
use Rattle.std.proofs.Common.{◌≡◌, ◌+◌, ◌-◌, ◌<◌, ℕ, suc, Bool, false, Option, Some, None, List, length, replicate, slice_get, slice_set, refl, sym, ap, subst, ◌∙◌, arith}
use Rattle.std.proofs.lemmas.List.{length-set}
use Rattle.filter_table.specs.declared.operation.Op.{Op}
use Rattle.table_replica.specs.Shown.{ReplicaState}
use Rattle.filter_table.specs.Tables.{TableState, after, made}
use Rattle.filter_table.specs.declared.decision.Vote.{Vote}
use Rattle.filter_table.specs.declared.decision.Decision.{Decision}
use Rattle.filter_table.specs.declared.decision.Decision.TheVariants.{Committed, Refused}
use Rattle.monitor_2pc.specs.declared.coordinator.Wait.{Wait}
use Rattle.monitor_2pc.specs.declared.coordinator.Wait.TheVariants.{Votes}
use Rattle.two_phase.specs.declared.step.Say.TheVariants.{Commit, Abort}
use Rattle.two_phase.specs.declared.step.Step.{Step}
use Rattle.monitor_2pc.specs.declared.tally.Tally.{Tally}
use Rattle.monitor_2pc.specs.declared.tally.Tally.TheVariants.{Open, AllYes, Against}
use Rattle.monitor_2pc.specs.Places.{after_commit}
use Rattle.two_phase.specs.Coordinators.{Phase, Idle, Voting, Acking, CoordinatorPlace, CoordinatorState, coordinator_place, StagedByPhase, Tallies, waits, commits_all, aborts_all, Hears, with_decided, step, veto_by}
use Rattle.monitor_2pc.specs.Tallying.{Tallied}
use Rattle.monitor_2pc.specs.Waiting.{phase_of, KeepsDecided}
use Rattle.monitor_2pc.proofs.Starts.{shown_by, placed}

voting_op : (phase : Phase) (votes : List (Option Vote)) (staged : Option Op) → phase ≡ Voting votes → StagedByPhase phase staged → (op : Op) × (staged ≡ Some op)
voting_op Idle votes staged e h = absurd cc
voting_op (Voting others) votes (Some op) e h = (op, refl)
voting_op (Voting others) votes None e h = absurd cc
voting_op (Acking acks) votes staged e h = absurd cc

-- nothing is decided while core 0 waits for votes
pub undecided : (wait : Wait) (waiting : List (Option Op)) (last : ℕ) (phase : Phase) (asker : Option ℕ) (decided : Option Decision) (own : CoordinatorState) → wait ≡ Votes → KeepsDecided wait asker decided → shown_by last phase waiting asker decided ≡ own
    → (shown_by last phase waiting asker decided).requests ≡ with_decided own.requests None
undecided wait waiting last phase asker decided own is keeps view =
    let none : decided ≡ None = rw is at keeps in
    subst (λ (o : CoordinatorState). (shown_by last phase waiting asker decided).requests ≡ with_decided o.requests None) view (rw none refl)

-- the vote of a core is heard, and the replica shows then what was committed
abbrev pub HeardVote : TableState → CoordinatorState → Option Op → ℕ → ℕ → Vote → CoordinatorPlace → Step → TableState → Type 0
HeardVote s own staged from txn v place' told shown' =
    (entry : ℕ) × (committed : Option Op) × (from ≡ suc entry) × Hears s (coordinator_place own staged) entry txn v place' committed told × (shown' ≡ after_commit s committed)

-- what is known when a vote has been put in
pub record PutIn (own : CoordinatorState) (staged : Option Op) (from at txn : ℕ) (v : Vote) (last : ℕ) (wait : Wait) (votes new : List (Option Vote)) (acks : List Bool) (waiting : List (Option Op)) (asker : Option ℕ) (decided : Option Decision) (tally : Tally) : Type 0 where
  pub view : shown_by last (phase_of wait votes acks) waiting asker decided ≡ own
  pub votes_awaited : wait ≡ Votes
  pub staged_there : StagedByPhase own.phase staged
  pub number : txn ≡ last
  pub above : 0 < from
  pub place : at ≡ from
  pub here : slice_get votes (at - 1) ≡ Some None
  pub put : new ≡ slice_set votes (at - 1) (Some v)
  pub tallied : Tallied new tally
  pub as_many : length votes ≡ length waiting

phase_is : (last : ℕ) (wait : Wait) (votes : List (Option Vote)) (acks : List Bool) (waiting : List (Option Op)) (asker : Option ℕ) (decided : Option Decision) (own : CoordinatorState) → shown_by last (phase_of wait votes acks) waiting asker decided ≡ own → wait ≡ Votes → own.phase ≡ Voting votes
phase_is last wait votes acks waiting asker decided own view is = sym (ap (λ (o : CoordinatorState). o.phase) view) ∙ ap (λ (w : Wait). phase_of w votes acks) is

hears : (s : TableState) (own : CoordinatorState) (staged : Option Op) (from at txn : ℕ) (v : Vote) (last : ℕ) (wait : Wait) (votes new : List (Option Vote)) (acks : List Bool) (waiting : List (Option Op)) (asker : Option ℕ) (decided : Option Decision) (tally : Tally) (place' : CoordinatorPlace) (committed : Option Op) (told : Step) (shown' : TableState) (op : Op)
    → PutIn own staged from at txn v last wait votes new acks waiting asker decided tally → staged ≡ Some op
    → Tallies s txn op (slice_set votes (at - 1) (Some v)) place' committed told → shown' ≡ after_commit s committed
    → HeardVote s own staged from txn v place' told shown'
hears s own staged from at txn v last wait votes new acks waiting asker decided tally place' committed told shown' op put on tallies shown =
    let p1 = put.place in
    let p2 = put.above in (
      at - 1,
      committed,
      omega arith,
      record {
        votes = votes;
        op = op;
        voting = phase_is last wait votes acks waiting asker decided own put.view put.votes_awaited;
        on_op = on;
        number = put.number ∙ ap (λ (o : CoordinatorState). o.last) put.view;
        first_vote = put.here;
        tallies = tallies;
      },
      shown,
    )

votes_then : (own : CoordinatorState) (staged : Option Op) (from at txn : ℕ) (v : Vote) (last : ℕ) (wait : Wait) (votes new : List (Option Vote)) (acks : List Bool) (waiting : List (Option Op)) (asker : Option ℕ) (decided : Option Decision) (tally : Tally)
    → PutIn own staged from at txn v last wait votes new acks waiting asker decided tally → new ≡ slice_set votes (at - 1) (Some v)
votes_then own staged from at txn v last wait votes new acks waiting asker decided tally put = put.put

open_place : (last txn : ℕ) (wait : Wait) (full now : List (Option Vote)) (acks : List Bool) (staged : Option Op) (op : Op) → full ≡ now → wait ≡ Votes → txn ≡ last → staged ≡ Some op → placed last (phase_of wait full acks) staged ≡ placed txn (Voting now) (Some op)
open_place last txn wait full now acks staged op f w n o = rw (f, w, n, o) refl

pub heard_open : (s : TableState) (own : CoordinatorState) (staged : Option Op) (from at txn : ℕ) (v : Vote) (last : ℕ) (wait : Wait) (votes new : List (Option Vote)) (acks : List Bool) (waiting : List (Option Op)) (asker : Option ℕ) (decided : Option Decision)
    → PutIn own staged from at txn v last wait votes new acks waiting asker decided Open
    → HeardVote s own staged from txn v (placed last (phase_of wait new acks) staged) (step txn None None) s
heard_open s own staged from at txn v last wait votes new acks waiting asker decided put =
    let o = voting_op own.phase votes staged (phase_is last wait votes acks waiting asker decided own put.view put.votes_awaited) put.staged_there in
    let then = votes_then own staged from at txn v last wait votes new acks waiting asker decided Open put in
    let full : new ≡ slice_set votes (at - 1) (Some v) = put.put in
    let missing = subst (λ (w : List (Option Vote)). Tallied w Open) then put.tallied in
    let place_is = open_place last txn wait new (slice_set votes (at - 1) (Some v)) acks staged o.0 full put.votes_awaited put.number o.1 in
    hears s own staged from at txn v last wait votes new acks waiting asker decided Open _ None (step txn None None) s o.0 put o.1 (waits missing.0 missing.1 place_is refl refl) refl

-- core 0 once it has decided
abbrev pub deciding : CoordinatorState → Option Decision → CoordinatorState
deciding own decided = record own { phase = Acking (replicate own.others false); requests = with_decided own.requests decided }

abbrev between : ℕ → Wait → List (Option Vote) → List (Option Vote) → List Bool → List (Option Op) → Option ℕ → Option Decision → CoordinatorState
between last wait votes new acks waiting asker decided = shown_by last (phase_of wait new acks) waiting asker decided

decided_place : (last txn at : ℕ) (v : Vote) (wait : Wait) (votes new : List (Option Vote)) (acks : List Bool) (waiting : List (Option Op)) (asker : Option ℕ) (decided : Option Decision) (own' : CoordinatorState) (staged' : Option Op) (d : Option Decision)
    → txn ≡ last → length votes ≡ length waiting → own' ≡ deciding (between last wait votes new acks waiting asker decided) d → staged' ≡ None
    → coordinator_place own' staged' ≡ placed txn (Acking (replicate (length (slice_set votes (at - 1) (Some v))) false)) None
decided_place last txn at v wait votes new acks waiting asker decided own' staged' d number many is none =
    let size : length (slice_set votes (at - 1) (Some v)) ≡ length waiting = length-set votes (at - 1) (Some v) ∙ many in
    rw (is, none, size, number) refl

pub heard_all : (s : TableState) (own : CoordinatorState) (staged : Option Op) (from at txn : ℕ) (v : Vote) (last : ℕ) (wait : Wait) (votes new : List (Option Vote)) (acks : List Bool) (waiting : List (Option Op)) (asker : Option ℕ) (decided : Option Decision) (own' : CoordinatorState) (r r' : ReplicaState) (told : Step)
    → PutIn own staged from at txn v last wait votes new acks waiting asker decided AllYes
    → r.shown ≡ s → r.staged ≡ staged
    → ((op : Op) × (r.staged ≡ Some op) × (told ≡ step txn (Some Commit) (Some (Committed (r.shown.version + 1) (made r.shown op)))) × (r' ≡ record { budget = r.budget; shown = after r.shown op; staged = None }))
    → own' ≡ deciding (between last wait votes new acks waiting asker decided) told.decided
    → HeardVote s own staged from txn v (coordinator_place own' r'.staged) told r'.shown
heard_all s own staged from at txn v last wait votes new acks waiting asker decided own' r r' told put shown on commits is =
    let then = votes_then own staged from at txn v last wait votes new acks waiting asker decided AllYes put in
    let all = subst (λ (w : List (Option Vote)). Tallied w AllYes) then put.tallied in
    let tells : told ≡ step txn (Some Commit) (Some (Committed (s.version + 1) (made s commits.0))) = commits.2 ∙ rw shown refl in
    let gone : r'.staged ≡ None = ap (λ (x : ReplicaState). x.staged) commits.3 in
    let new_shown : r'.shown ≡ after s commits.0 = ap (λ (x : ReplicaState). x.shown) commits.3 ∙ rw shown refl in
    hears s own staged from at txn v last wait votes new acks waiting asker decided AllYes _ (Some commits.0) told r'.shown commits.0 put (sym on ∙ commits.1)
    (commits_all all (decided_place last txn at v wait votes new acks waiting asker decided own' r'.staged told.decided put.number put.as_many is gone) refl tells) new_shown

pub heard_against : (s : TableState) (own : CoordinatorState) (staged : Option Op) (from at txn : ℕ) (v : Vote) (last : ℕ) (wait : Wait) (votes new : List (Option Vote)) (acks : List Bool) (waiting : List (Option Op)) (asker : Option ℕ) (decided : Option Decision) (own' : CoordinatorState) (r r' : ReplicaState) (told : Step) (core : ℕ) (against : Vote)
    → PutIn own staged from at txn v last wait votes new acks waiting asker decided (Against core against)
    → r.shown ≡ s → told ≡ step txn (Some Abort) (Some (Refused core (veto_by against))) → r' ≡ record r { staged = None }
    → own' ≡ deciding (between last wait votes new acks waiting asker decided) told.decided
    → HeardVote s own staged from txn v (coordinator_place own' r'.staged) told r'.shown
heard_against s own staged from at txn v last wait votes new acks waiting asker decided own' r r' told core against put shown tells dropped is =
    let o = voting_op own.phase votes staged (phase_is last wait votes acks waiting asker decided own put.view put.votes_awaited) put.staged_there in
    let then = votes_then own staged from at txn v last wait votes new acks waiting asker decided (Against core against) put in
    let least = subst (λ (w : List (Option Vote)). Tallied w (Against core against)) then put.tallied in
    let gone : r'.staged ≡ None = ap (λ (x : ReplicaState). x.staged) dropped in
    let same : r'.shown ≡ s = ap (λ (x : ReplicaState). x.shown) dropped ∙ shown in
    hears s own staged from at txn v last wait votes new acks waiting asker decided (Against core against) _ None told r'.shown o.0 put o.1
    (aborts_all core against least.0 least.1 (decided_place last txn at v wait votes new acks waiting asker decided own' r'.staged told.decided put.number put.as_many is gone) refl tells) same
