-- A small computation, written out: two cores commit a create, so that the definitions are met by some histories.
use Rattle.std.proofs.Common.{◌≡◌, ◌≤◌, ℕ, zero, suc, false, Option, Some, None, List, [], ◌∷◌, slice_get, refl, subst, lit<, lit≤}
use Rattle.filter_table.specs.declared.operation.Op.{Op}
use Rattle.filter_table.specs.declared.operation.Op.TheVariants.{Create}
use Rattle.filter_table.specs.declared.operation.Made.TheVariants.{Cap}
use Rattle.filter_table.specs.Limits.{default_limits}
use Rattle.filter_table.specs.Tables.{empty_table, table, after, made, instructions, Allowed}
use Rattle.monitor_messages.specs.declared.message.Message.{Message}
use Rattle.monitor_messages.specs.declared.message.Message.TheVariants as message
use Rattle.filter_table.specs.declared.decision.Vote.{Vote}
use Rattle.filter_table.specs.declared.decision.Vote.TheVariants as vote
use Rattle.filter_table.specs.declared.decision.Decision.{Decision}
use Rattle.filter_table.specs.declared.decision.Decision.TheVariants.{Committed}
use Rattle.two_phase.specs.declared.step.Say.TheVariants as say
use Rattle.two_phase.specs.Coordinators.{Phase, Idle, Voting, Acking, prepared, commits_all}
use Rattle.world_events.specs.declared.event.Event.{Event}
use Rattle.world_events.specs.declared.event.Event.TheVariants.{Start, Take}
use Rattle.world_events.specs.declared.event.Answer.{Answer}
use Rattle.world_events.specs.declared.event.Answer.TheVariants.{Prepared, TookPrepare, TookVote, TookCommit, TookAck}
use Rattle.world_model.specs.Cases.{nothing, to_all}
use Rattle.world_histories.specs.declared.history.Stamped.{Stamped}
use Rattle.world_histories.specs.Histories.{Stamping, Sending, Core0State, core0_first, Step0, History0, OtherState, other_first, StepOther, HistoryOther, TakesInOrder, Computation}

create_7 : Op
create_7 = Create 1 7

at : ℕ → Event → Answer → Stamped
at stamp event answer = record { stamp = stamp; done = record { event = event; answer = answer } }

-- start; take 1 0; take 0 1; take 1 0; take 0 1, each with its stamp
of_core0 : List Stamped
unfolding create_7 at
of_core0 = at 1 (Start create_7) (Prepared 1) ∷ at 3 (Take 0 1 false) (TookVote 1 vote.Yes (Some (Committed 1 (Cap 1)))) ∷ at 5 (Take 0 1 false) (TookAck 1) ∷ []

of_core1 : List Stamped
unfolding at
of_core1 = at 2 (Take 1 0 false) (TookPrepare 1 vote.Yes) ∷ at 4 (Take 1 0 false) (TookCommit 1 1) ∷ []

allowed_first : Allowed (empty_table default_limits) 9 create_7 None
unfolding Allowed create_7
allowed_first = refl

-- core 0 with this clock, after the operation's commit or before it
core_0 : ℕ → ℕ → Phase → Option Op → Option Decision → List Op → Core0State
core_0 clock last phase staged decided log = record { limits = default_limits; clock = clock; place = record { last = last; phase = phase; staged = staged }; requests = record { waiting = None ∷ []; asker = None; decided = decided }; log = log }

core_1 : ℕ → ℕ → Option Vote → Option Op → List Op → OtherState
core_1 clock last v staged log = record { limits = default_limits; clock = clock; place = record { last = last; voted = v; staged = staged }; outstanding = false; log = log }

message_at : ℕ → Message → Stamping
message_at stamp m = record { stamp = stamp; message = m }

all_yes : (i : ℕ) (v : Option Vote) → slice_get (Some vote.Yes ∷ []) i ≡ Some v → v ≡ Some vote.Yes
all_yes zero v e = cc
all_yes (suc i) v e = cc

step_1 : Step0 1 9 (core0_first default_limits 1) 1 (Start create_7) None (core_0 1 1 (Voting (None ∷ [])) (Some create_7) None []) (Prepared 1) (to_all (message.Prepare 1 create_7))
unfolding create_7 core_0 table
step_1 = record {
  ticks = refl;
  does = record {
    place = record { last = 1; phase = Voting (None ∷ []); staged = Some create_7 };
    committed = None;
    told = record { txn = 1; say = Some say.Prepare; decided = None; reply = None };
    here = record { can_start = (refl, lit< tt); starts = prepared allowed_first (lit< tt) refl refl refl; is_answer = refl };
    next = refl;
    sends = refl;
  };
}

step_2 : Step0 1 9 (core_0 1 1 (Voting (None ∷ [])) (Some create_7) None []) 3 (Take 0 1 false) (Some (message_at 2 (message.Vote 1 vote.Yes)))
    (core_0 3 1 (Acking (false ∷ [])) None (Some (Committed 1 (Cap 1))) (create_7 ∷ [])) (TookVote 1 vote.Yes (Some (Committed 1 (Cap 1)))) (to_all (message.Commit 1))
unfolding create_7 core_0 message_at table made
step_2 = record {
  ticks = refl;
  does = record {
    place = record { last = 1; phase = Acking (false ∷ []); staged = None };
    requests = record { waiting = None ∷ []; asker = None; decided = Some (Committed 1 (Cap 1)) };
    committed = Some create_7;
    told = record { txn = 1; say = Some say.Commit; decided = Some (Committed 1 (Cap 1)); reply = None };
    here = record {
      hears = record {
        votes = None ∷ [];
        op = create_7;
        voting = refl;
        on_op = refl;
        number = refl;
        first_vote = refl;
        tallies = commits_all all_yes refl refl refl;
      };
      requests_next = refl;
      is_answer = refl;
    };
    next = refl;
    sends = refl;
  };
}

step_3 : Step0 1 9 (core_0 3 1 (Acking (false ∷ [])) None (Some (Committed 1 (Cap 1))) (create_7 ∷ [])) 5 (Take 0 1 false) (Some (message_at 4 (message.Ack 1)))
    (core_0 5 1 Idle None None (create_7 ∷ [])) (TookAck 1) nothing
unfolding core_0 message_at
step_3 = record {
  ticks = refl;
  does = record {
    place = record { last = 1; phase = Idle; staged = None };
    requests = record { waiting = None ∷ []; asker = None; decided = None };
    committed = None;
    told = record { txn = 1; say = None; decided = None; reply = None };
    here = record {
      hears = record { acks = false ∷ []; acking = refl; number = refl; first_ack = refl; next = refl; requests_next = refl; tells = refl };
      none_committed = refl;
      is_answer = refl;
    };
    next = refl;
    sends = refl;
  };
}

fits_first : instructions (after (empty_table default_limits) create_7) ≤ 9
unfolding instructions after create_7
fits_first = lit≤ tt

own_1 : StepOther 0 9 (other_first default_limits) 2 (Take 1 0 false) (Some (message_at 1 (message.Prepare 1 create_7))) (core_1 2 1 (Some vote.Yes) (Some create_7) []) (TookPrepare 1 vote.Yes)
unfolding core_1 message_at table
own_1 = record {
  ticks = refl;
  does = (
    refl,
    record {
      place = record { last = 1; voted = Some vote.Yes; staged = Some create_7 };
      outstanding = false;
      committed = None;
      here = record { reply = message.Vote 1 vote.Yes; answers = (refl, refl, (allowed_first, fits_first, refl), refl, refl); same_outstanding = refl; is_committed = refl; is_answer = refl };
      next = refl;
    },
  );
}

own_2 : StepOther 0 9 (core_1 2 1 (Some vote.Yes) (Some create_7) []) 4 (Take 1 0 false) (Some (message_at 3 (message.Commit 1))) (core_1 4 1 None None (create_7 ∷ [])) (TookCommit 1 1)
unfolding core_1 message_at
own_2 = record {
  ticks = refl;
  does = (
    refl,
    record {
      place = record { last = 1; voted = None; staged = None };
      outstanding = false;
      committed = Some create_7;
      here = record { reply = message.Ack 1; answers = (refl, refl, refl, refl); same_outstanding = refl; is_committed = refl; is_answer = refl };
      next = refl;
    },
  );
}

sendings : List Sending
unfolding create_7
sendings = record { stamp = 1; sent = to_all (message.Prepare 1 create_7) } ∷ record { stamp = 3; sent = to_all (message.Commit 1) } ∷ record { stamp = 5; sent = nothing } ∷ []

takings : List (ℕ × Stamping)
unfolding message_at
takings = (0, message_at 2 (message.Vote 1 vote.Yes)) ∷ (0, message_at 4 (message.Ack 1)) ∷ []

history_0 : History0 1 9 (core0_first default_limits 1) of_core0 (core_0 5 1 Idle None None (create_7 ∷ [])) sendings takings
unfolding of_core0 sendings takings
history_0 = (
  _,
  _,
  _,
  record { stamp = 3; sent = to_all (message.Commit 1) } ∷ record { stamp = 5; sent = nothing } ∷ [],
  (0, message_at 2 (message.Vote 1 vote.Yes)) ∷ (0, message_at 4 (message.Ack 1)) ∷ [],
  step_1,
  (
    _,
    _,
    _,
    record { stamp = 5; sent = nothing } ∷ [],
    (0, message_at 4 (message.Ack 1)) ∷ [],
    step_2,
    (_, _, _, [], [], step_3, (refl, refl, refl), refl, refl),
    refl,
    refl,
  ),
  refl,
  refl,
)

history_1 : HistoryOther 0 9 (other_first default_limits) of_core1 (core_1 4 1 None None (create_7 ∷ [])) (message_at 1 (message.Prepare 1 create_7) ∷ message_at 3 (message.Commit 1) ∷ [])
unfolding of_core1
history_1 = (_, _, message_at 3 (message.Commit 1) ∷ [], own_1, (_, _, [], own_2, (refl, refl), refl), refl)

in_order : TakesInOrder 0 default_limits 9 sendings takings of_core1 (core_1 4 1 None None (create_7 ∷ []))
unfolding sendings takings of_core1 at message_at create_7
in_order = record {
  taken = message_at 1 (message.Prepare 1 create_7) ∷ message_at 3 (message.Commit 1) ∷ [];
  is_history = history_1;
  down = ([], refl);
  up = ([], refl);
}

two_cores_create : Computation default_limits 9 (9 ∷ []) of_core0 (of_core1 ∷ []) (core_0 5 1 Idle None None (create_7 ∷ [])) (core_1 4 1 None None (create_7 ∷ []) ∷ [])
two_cores_create = record {
  cores = refl;
  all_end = refl;
  sent = sendings;
  taken = takings;
  of_core0 = history_0;
  of_other = by_core;
}
  where
    by_core : (i b : ℕ) (h : List Stamped) (d : OtherState) → slice_get (9 ∷ []) i ≡ Some b → slice_get (of_core1 ∷ []) i ≡ Some h → slice_get (core_1 4 1 None None (create_7 ∷ []) ∷ []) i ≡ Some d → TakesInOrder i default_limits b sendings takings h d
    by_core zero b h d at_b at_h at_d =
        let e : 9 ≡ b = cc in
        let f : of_core1 ≡ h = cc in
        let g : core_1 4 1 None None (create_7 ∷ []) ≡ d = cc in
        subst (λ (x : ℕ). TakesInOrder 0 default_limits x sendings takings h d) e (subst (λ (x : List Stamped). TakesInOrder 0 default_limits 9 sendings takings x d) f (subst (λ (x : OtherState). TakesInOrder 0 default_limits 9 sendings takings of_core1 x) g in_order))
    by_core (suc i) b h d at_b at_h at_d = absurd (cc)
