-- What core 0 sends with a step.
use Rattle.std.proofs.Common.{◌≡◌, ◌≢◌, ◌-◌, ◌∙◌, Bool, ℕ, zero, suc, Option, None, Some, List, refl, ap, subst, arith}
use Rattle.filter_table.specs.declared.operation.Op.{Op}
use Rattle.filter_table.specs.declared.operation.StageFault.{StageFault}
use Rattle.filter_table.specs.Tables.{TableState}
use Rattle.monitor_messages.specs.declared.message.Message.TheVariants as message
use Rattle.filter_table.specs.declared.decision.Vote.{Vote}
use Rattle.filter_table.specs.declared.decision.Decision.{Decision}
use Rattle.two_phase.specs.declared.step.Say.{Say}
use Rattle.two_phase.specs.declared.step.Say.TheVariants.{Commit, Abort}
use Rattle.two_phase.specs.declared.step.Step.{Step}
use Rattle.two_phase.specs.Coordinators.{CoordinatorPlace, Requests, Tallies, waits, commits_all, aborts_all, HearsAck}
use Rattle.two_phase.specs.Coordinators as coordinators
use Rattle.monitor_2pc.specs.Starting.{asked_by}
use Rattle.world_model.specs.Cases.{Outgoing, nothing, to_all, to_one, outgoing, as_reply}
use Rattle.two_phase.specs.Coordinators.{Phase, Idle, Voting, Acking, StagedByPhase, coordinator_place}
use Rattle.core_steps.specs.declared.core0.Core0.{Core0}
use Rattle.core_steps.specs.declared.core0.Told.{Told}
use Rattle.core_steps.specs.Core0Steps.{asks, start_sends, core0_place, BetweenSteps, TakesUp}

-- with a vote

abbrev pub said_by : ℕ → Option Say → Outgoing
said_by txn (Some Commit) = to_all (message.Commit txn)
said_by txn (Some Abort) = to_all (message.Abort txn)
said_by txn said = nothing

pub vote_sent : (s : TableState) (last : ℕ) (op : Op) (votes : List (Option Vote)) (place : CoordinatorPlace) (committed : Option Op) (told : Step) → Tallies s last op votes place committed told → outgoing told place ≡ said_by last told.say
vote_sent s last op votes place committed told (waits i at p c t) = rw t refl
vote_sent s last op votes place committed told (commits_all all p c t) = rw t refl
vote_sent s last op votes place committed told (aborts_all core against least full p c t) = rw t refl

-- with an acknowledgement

pub ack_sent : (place : CoordinatorPlace) (requests : Requests) (entry txn : ℕ) (place' : CoordinatorPlace) (requests' : Requests) (told : Step) → HearsAck place requests entry txn place' requests' told → outgoing told place' ≡ as_reply told.reply
ack_sent place requests entry txn place' requests' told h = rw h.tells refl

pub none_staged : (phase : Phase) (acks : List Bool) (staged : Option Op) → phase ≡ Acking acks → StagedByPhase phase staged → staged ≡ None
none_staged Idle acks staged e h = h
none_staged (Voting votes) acks staged e h = absurd cc
none_staged (Acking others) acks staged e h = h

pub ack_replies : (core : Core0) (from txn : ℕ) (after : Core0) (told : Told) (reply : Option (ℕ × Decision)) → BetweenSteps core → TakesUp core from (message.Ack txn) after told
    → ((entry n : ℕ) (place : CoordinatorPlace) (requests : Requests) (t : Step) → from ≡ suc entry → HearsAck (coordinator_place core.coordinator None) core.coordinator.requests entry n place requests t → t.reply ≡ reply)
    → outgoing told.step (core0_place after) ≡ as_reply reply
ack_replies core from txn after told reply between h tells =
    let x = h.here.hears in
    let none : core.replica.staged ≡ None = none_staged core.coordinator.phase x.acks core.replica.staged x.acking between.staged in
    let hears = subst (λ (staged : Option Op). HearsAck (coordinator_place core.coordinator staged) core.coordinator.requests h.entry txn (core0_place after) after.coordinator.requests told.step) none x in
    ack_sent (core0_place core) core.coordinator.requests h.entry txn (core0_place after) after.coordinator.requests told.step x ∙ ap as_reply (tells h.entry txn (core0_place after) after.coordinator.requests told.step h.is_core hears)

pub reply_to_one : (core at : ℕ) (decision : Decision) → core ≢ 0 → at ≡ core → as_reply (Some (core, decision)) ≡ to_one (at - 1) (message.Reply decision)
reply_to_one zero at decision some e = absurd (some refl)
reply_to_one (suc entry) at decision some e = let same : at - 1 ≡ entry = omega (arith, e) in rw same refl

-- with a start

-- it was staged, and the others are asked
pub start_asked : (others : ℕ) (s : TableState) (b : ℕ) (place place' : CoordinatorPlace) (op : Op) (committed : Option Op) (told : Step) → coordinators.Starts others s b place op place' committed told → told.say ≡ asked_by None others → outgoing told place' ≡ asks others place.last op
start_asked zero s b place place' op committed told (coordinators.refused f a p c t) says = rw t refl
start_asked zero s b place place' op committed told (coordinators.unstaged f p c t) says = rw t refl
start_asked zero s b place place' op committed told (coordinators.alone a n p c t) says = rw t refl
start_asked zero s b place place' op committed told (coordinators.prepared a n p c t) says = absurd (omega (arith, n))
start_asked (suc others) s b place place' op committed told (coordinators.refused f a p c t) says = absurd (let x = ap (λ (y : Step). y.say) t in cc)
start_asked (suc others) s b place place' op committed told (coordinators.unstaged f p c t) says = absurd (let x = ap (λ (y : Step). y.say) t in cc)
start_asked (suc others) s b place place' op committed told (coordinators.alone a n p c t) says = absurd (let x = ap (λ (y : Step). y.say) t in cc)
start_asked (suc others) s b place place' op committed told (coordinators.prepared a n p c t) says = rw (t, p) refl

-- it was refused
pub start_silent : (others : ℕ) (s : TableState) (b : ℕ) (place place' : CoordinatorPlace) (op : Op) (committed : Option Op) (told : Step) → coordinators.Starts others s b place op place' committed told → told.say ≡ None → outgoing told place' ≡ nothing
start_silent others s b place place' op committed told (coordinators.refused f a p c t) says = rw t refl
start_silent others s b place place' op committed told (coordinators.unstaged f p c t) says = rw t refl
start_silent others s b place place' op committed told (coordinators.alone a n p c t) says = rw t refl
start_silent others s b place place' op committed told (coordinators.prepared a n p c t) says = absurd (let x = ap (λ (y : Step). y.say) t in cc)

pub start_sent : (core : Core0) (s : TableState) (b : ℕ) (place place' : CoordinatorPlace) (op : Op) (committed : Option Op) (told : Step) (refusal : Option StageFault) → coordinators.Starts core.coordinator.others s b place op place' committed told → core.coordinator.last ≡ place.last
    → told.say ≡ asked_by refusal core.coordinator.others → outgoing told place' ≡ start_sends core op refusal
start_sent core s b place place' op committed told None starts last says = rw last (start_asked core.coordinator.others s b place place' op committed told starts says)
start_sent core s b place place' op committed told (Some fault) starts last says = start_silent core.coordinator.others s b place place' op committed told starts says
