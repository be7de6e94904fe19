-- From one world an event has one answer, where no core is out of memory.
use Rattle.std.proofs.Common.{◌≡◌, ◌+◌, ◌<◌, ◌⊎◌, inl, inr, ℕ, zero, suc, Bool, true, false, Option, Some, None, List, ◌∷◌, slice_get, slice_set, refl, ap, sym, ◌∙◌, subst, arith}
use Rattle.bpf_insn.specs.declared.insn.Insn.{Insn}
use Rattle.filter_verify.proofs.Reasons.{Refuses-sound}
use Rattle.filter_verify.proofs.OneReason.{Refuses-same}
use Rattle.endpoint_caps.specs.Capabilities.{first}
use Rattle.pcap_reader.specs.declared.capture.CapturedPacket.{CapturedPacket}
use Rattle.filter_table.specs.declared.operation.Op.{Op}
use Rattle.filter_table.specs.declared.operation.StageFault.{StageFault}
use Rattle.filter_table.specs.Tables.{TableState, table, tests, program_of, Verifies, AnswersFirst, Allowed, made}
use Rattle.filter_table.proofs.Lists.{three}
use Rattle.monitor_messages.specs.declared.message.Message.{Message}
use Rattle.monitor_messages.specs.declared.message.Message.TheVariants as message
use Rattle.filter_table.specs.declared.decision.Vote.{Vote}
use Rattle.filter_table.specs.declared.decision.Vote.TheVariants as vote
use Rattle.filter_table.specs.declared.decision.Decision.{Decision}
use Rattle.filter_table.specs.declared.decision.Decision.TheVariants.{Committed, Refused}
use Rattle.two_phase.specs.declared.step.Step.{Step}
use Rattle.two_phase.specs.Participants.{ParticipantPlace, Answers, Casts}
use Rattle.two_phase.specs.Coordinators.{CoordinatorPlace, Requests, veto_of, Starts, refused, unstaged, alone, prepared, LeastNo, Tallies, waits, commits_all, aborts_all}
use Rattle.world_events.specs.declared.event.Event.{Event}
use Rattle.world_events.specs.declared.event.Event.TheVariants.{Start, Submit, StartFor, Take, Rx}
use Rattle.world_events.specs.declared.event.Answer.{Answer}
use Rattle.world_events.specs.declared.event.Answer.TheVariants.{Prepared, Decided, TookPrepare, TookVote, TookCommit, TookAbort, Delivered}
use Rattle.world_model.specs.Cases.{raised, captured, start_told, TakesUpAt, TakesDownAt, Took, ReceivesAt}
use Rattle.world_model.specs.Worlds.{Peer, World, newest, HappensStart, HappensStartFor, HappensUp, HappensDown, HappensRx, Happens}
use Rattle.world_events.specs.Memory.{lacked_memory, IsRefusedForMemory, LacksMemory}
use Rattle.world_progress.proofs.Receivers.{receivers_once}

-- Whether an operation is allowed

verified_once : (program : Option (List Insn)) (x y : Option StageFault) → Verifies program x → Verifies program y → x ≡ y
verified_once None x y a b = a ∙ sym b
verified_once (Some program) x y (inl a) (inl b) = a.1 ∙ sym b.1
verified_once (Some program) x y (inl a) (inr b) = absurd (Refuses-sound program b.0 a.0 b.1)
verified_once (Some program) x y (inr a) (inl b) = absurd (Refuses-sound program a.0 b.0 a.1)
verified_once (Some program) x y (inr a) (inr b) = let same = Refuses-same program a.0 b.0 a.1 b.1 in a.2 ∙ rw (same.0, same.1) (sym b.2)

answers_once : (f : Option StageFault) (op : Op) (x y : Option StageFault) → AnswersFirst f op x → AnswersFirst f op y → x ≡ y
answers_once (Some fault) op x y a b = a ∙ sym b
answers_once None op x y a b = verified_once (program_of op) x y a b

allowed_once : (s : TableState) (budget : ℕ) (op : Op) (x y : Option StageFault) → Allowed s budget op x → Allowed s budget op y → x ≡ y
unfolding Allowed
allowed_once s budget op x y a b = answers_once (first (tests s budget op)) op x y a b

-- A start

-- the answer to a request that is allowed
abbrev begins_with : ℕ → TableState → CoordinatorPlace → Op → Answer
begins_with zero s place op = Decided (Committed (s.version + 1) (made s op))
begins_with (suc n) s place op = Prepared (place.last + 1)

-- what a start that had memory tells
data StartCase (others : ℕ) (s : TableState) (budget : ℕ) (place : CoordinatorPlace) (op : Op) (answer : Answer) : Type 0 where
  refuses : (fault : StageFault) → Allowed s budget op (Some fault) → answer ≡ Decided (Refused 0 (veto_of fault)) → StartCase others s budget place op answer
  allows : Allowed s budget op None → answer ≡ begins_with others s place op → StartCase others s budget place op answer

told_as : (answer : Answer) (told told' : Step) → answer ≡ start_told told.txn told.decided → told ≡ told' → answer ≡ start_told told'.txn told'.decided
told_as answer told told' a t = a ∙ ap (λ (x : Step). start_told x.txn x.decided) t

start_case : (others : ℕ) (s : TableState) (budget : ℕ) (place place' : CoordinatorPlace) (op : Op) (committed : Option Op) (told : Step) (answer : Answer)
    → answer ≡ start_told told.txn told.decided → (IsRefusedForMemory answer → ⊥) → Starts others s budget place op place' committed told → StartCase others s budget place op answer
start_case others s budget place place' op committed told answer a had (refused fault allowed p c t) = refuses fault allowed (told_as answer told _ a t)
start_case others s budget place place' op committed told answer a had (unstaged none p c t) =
    absurd (had (subst IsRefusedForMemory (sym (told_as answer told _ a t)) tt))
start_case zero s budget place place' op committed told answer a had (alone allowed none p c t) = allows allowed (told_as answer told _ a t)
start_case (suc n) s budget place place' op committed told answer a had (alone allowed none p c t) = absurd (omega (arith, none))
start_case zero s budget place place' op committed told answer a had (prepared allowed some p c t) = absurd (omega (arith, some))
start_case (suc n) s budget place place' op committed told answer a had (prepared allowed some p c t) = allows allowed (told_as answer told _ a t)

case_once : (others : ℕ) (s : TableState) (budget : ℕ) (place : CoordinatorPlace) (op : Op) (a1 a2 : Answer) → StartCase others s budget place op a1 → StartCase others s budget place op a2 → a1 ≡ a2
case_once others s budget place op a1 a2 (refuses f allowed e) (refuses f' allowed' e') =
    let same : Some f ≡ Some f' = allowed_once s budget op (Some f) (Some f') allowed allowed' in
    let is : f ≡ f' = cc in
    e ∙ (ap (λ (x : StageFault). Decided (Refused 0 (veto_of x))) is ∙ sym e')
case_once others s budget place op a1 a2 (refuses f allowed e) (allows allowed' e') = absurd (let x = allowed_once s budget op (Some f) None allowed allowed' in cc)
case_once others s budget place op a1 a2 (allows allowed e) (refuses f' allowed' e') = absurd (let x = allowed_once s budget op None (Some f') allowed allowed' in cc)
case_once others s budget place op a1 a2 (allows allowed e) (allows allowed' e') = e ∙ sym e'

start_answer : (w w1 w2 : World) (op : Op) (a1 a2 : Answer) → HappensStart w op w1 a1 → HappensStart w op w2 a2 → (IsRefusedForMemory a1 → ⊥) → (IsRefusedForMemory a2 → ⊥) → a1 ≡ a2
start_answer w w1 w2 op a1 a2 x y had1 had2 = case_once _ (newest w) w.budget w.place op a1 a2
    (start_case _ (newest w) w.budget w.place x.place op x.committed x.told a1 x.here.is_answer had1 x.here.starts)
    (start_case _ (newest w) w.budget w.place y.place op y.committed y.told a2 y.here.is_answer had2 y.here.starts)

start_for_answer : (w w1 w2 : World) (entry : ℕ) (a1 a2 : Answer) → HappensStartFor w entry w1 a1 → HappensStartFor w entry w2 a2 → (IsRefusedForMemory a1 → ⊥) → (IsRefusedForMemory a2 → ⊥) → a1 ≡ a2
start_for_answer w w1 w2 entry a1 a2 x y had1 had2 = case_once _ (newest w) w.budget w.place y.here.starts.op a1 a2
    (subst (λ (op : Op). StartCase _ (newest w) w.budget w.place op a1) op_same
    (start_case _ (newest w) w.budget w.place x.place x.here.starts.op x.committed x.here.starts.begun a1 (x.here.is_answer ∙ ap (λ (t : Step). start_told t.txn t.decided) x.here.starts.tells) had1 x.here.starts.starts))
    (start_case _ (newest w) w.budget w.place y.place y.here.starts.op y.committed y.here.starts.begun a2 (y.here.is_answer ∙ ap (λ (t : Step). start_told t.txn t.decided) y.here.starts.tells) had2 y.here.starts.starts)
  where
    op_same : x.here.starts.op ≡ y.here.starts.op
    op_same = let a = x.here.starts.is_waiting in let b = y.here.starts.is_waiting in cc

-- Votes

-- the least core that voted against
record SameNo (core core' : ℕ) (against against' : Vote) : Type 0 where
  same_core : core ≡ core'
  same_against : against ≡ against'

least_once : (votes : List (Option Vote)) (core core' : ℕ) (against against' : Vote) → LeastNo votes core against → LeastNo votes core' against' → SameNo core core' against against'
least_once votes core core' against against' l m = by_order (three l.entry m.entry)
  where
    by_order : (l.entry < m.entry) ⊎ ((l.entry ≡ m.entry) ⊎ (m.entry < l.entry)) → SameNo core core' against against'
    by_order (inl lt) = absurd (l.not_yes (let a = l.said in let b = m.yes_before l.entry lt in cc))
    by_order (inr (inl e)) = record {
      same_core = l.is_core ∙ (ap suc e ∙ sym m.is_core);
      same_against = let a : slice_get votes m.entry ≡ Some (Some against) = subst (λ (i : ℕ). slice_get votes i ≡ Some (Some against)) e l.said in let b = m.said in cc;
    }
    by_order (inr (inr lt)) = absurd (m.not_yes (let a = m.said in let b = l.yes_before m.entry lt in cc))

all_yes : (votes : List (Option Vote)) (core : ℕ) (against : Vote) → ((i : ℕ) (v : Option Vote) → slice_get votes i ≡ Some v → v ≡ Some vote.Yes) → LeastNo votes core against → ⊥
all_yes votes core against all l = l.not_yes (let e = all l.entry (Some against) l.said in cc)

told_decides : (told told' : Step) (decided : Option Decision) → told ≡ told' → told'.decided ≡ decided → told.decided ≡ decided
told_decides told told' decided t d = ap (λ (x : Step). x.decided) t ∙ d

tally_once : (s : TableState) (last : ℕ) (op : Op) (votes : List (Option Vote)) (p1 p2 : CoordinatorPlace) (c1 c2 : Option Op) (t1 t2 : Step) → Tallies s last op votes p1 c1 t1 → Tallies s last op votes p2 c2 t2 → t1.decided ≡ t2.decided
tally_once s last op votes p1 p2 c1 c2 t1 t2 (waits i n p c t) (waits i' n' p' c' t') = told_decides t1 _ None t refl ∙ sym (told_decides t2 _ None t' refl)
tally_once s last op votes p1 p2 c1 c2 t1 t2 (waits i n p c t) (commits_all all p' c' t') = absurd (let e = all i None n in cc)
tally_once s last op votes p1 p2 c1 c2 t1 t2 (waits i n p c t) (aborts_all core against l none p' c' t') = absurd (none i n)
tally_once s last op votes p1 p2 c1 c2 t1 t2 (commits_all all p c t) (waits i' n' p' c' t') = absurd (let e = all i' None n' in cc)
tally_once s last op votes p1 p2 c1 c2 t1 t2 (commits_all all p c t) (commits_all all' p' c' t') =
    told_decides t1 _ (Some (Committed (s.version + 1) (made s op))) t refl ∙ sym (told_decides t2 _ (Some (Committed (s.version + 1) (made s op))) t' refl)
tally_once s last op votes p1 p2 c1 c2 t1 t2 (commits_all all p c t) (aborts_all core against l none p' c' t') = absurd (all_yes votes core against all l)
tally_once s last op votes p1 p2 c1 c2 t1 t2 (aborts_all core against l none p c t) (waits i' n' p' c' t') = absurd (none i' n')
tally_once s last op votes p1 p2 c1 c2 t1 t2 (aborts_all core against l none p c t) (commits_all all p' c' t') = absurd (all_yes votes core against all l)
tally_once s last op votes p1 p2 c1 c2 t1 t2 (aborts_all core against l none p c t) (aborts_all core' against' l' none' p' c' t') =
    let same = least_once votes core core' against against' l l' in
    ap (λ (x : Step). x.decided) t ∙ (rw (same.same_core, same.same_against) (sym (ap (λ (x : Step). x.decided) t')))

-- What core 0 takes

up_case : (s : TableState) (place p1 p2 : CoordinatorPlace) (requests r1 r2 : Requests) (i : ℕ) (m : Message) (c1 c2 : Option Op) (t1 t2 : Step) (a1 a2 : Answer)
    → TakesUpAt s place requests i m p1 r1 c1 t1 a1 → TakesUpAt s place requests i m p2 r2 c2 t2 a2 → a1 ≡ a2
up_case s place p1 p2 requests r1 r2 i (message.Vote txn v) c1 c2 t1 t2 a1 a2 a b =
    let votes : a.hears.votes ≡ b.hears.votes = (let x = a.hears.voting in let y = b.hears.voting in cc) in
    let op : a.hears.op ≡ b.hears.op = (let x = a.hears.on_op in let y = b.hears.on_op in cc) in
    let x : Tallies s txn b.hears.op (slice_set b.hears.votes i (Some v)) p1 c1 t1 =
    subst (λ (o : Op). Tallies s txn o (slice_set b.hears.votes i (Some v)) p1 c1 t1) op
    (subst (λ (vs : List (Option Vote)). Tallies s txn a.hears.op (slice_set vs i (Some v)) p1 c1 t1) votes a.hears.tallies) in
    a.is_answer ∙ (ap (TookVote txn v) (tally_once s txn b.hears.op (slice_set b.hears.votes i (Some v)) p1 p2 c1 c2 t1 t2 x b.hears.tallies) ∙ sym b.is_answer)
up_case s place p1 p2 requests r1 r2 i (message.Ack txn) c1 c2 t1 t2 a1 a2 a b = a.is_answer ∙ sym b.is_answer
up_case s place p1 p2 requests r1 r2 i (message.Submit op) c1 c2 t1 t2 a1 a2 a b = a.is_answer ∙ sym b.is_answer
up_case s place p1 p2 requests r1 r2 i m c1 c2 t1 t2 a1 a2 a b = absurd a

up_answer : (w w1 w2 : World) (i : ℕ) (a1 a2 : Answer) → HappensUp w i w1 a1 → HappensUp w i w2 a2 → a1 ≡ a2
up_answer w w1 w2 i a1 a2 a b = up_case (newest w) w.place a.place b.place w.requests a.requests b.requests i b.m a.committed b.committed a.told b.told a1 a2
    (subst (λ (x : Message). TakesUpAt (newest w) w.place w.requests i x a.place a.requests a.committed a.told a1) m a.here) b.here
  where
    peer : a.peer ≡ b.peer
    peer = let x = a.is_peer in let y = b.is_peer in cc

    front : a.m ∷ a.rest ≡ b.m ∷ b.rest
    front = sym a.oldest ∙ (ap (λ (p : Peer). p.up) peer ∙ b.oldest)

    m : a.m ≡ b.m
    m = cc

-- What another core takes

-- a vote where memory isn't lacking
casts_once : (short : Bool) (s : TableState) (budget : ℕ) (op : Op) (v v' : Vote) → Casts short s budget op v → Casts short s budget op v' → (v ≡ vote.NoMemory → short ≡ true) → (v' ≡ vote.NoMemory → short ≡ true) → v ≡ v'
casts_once short s budget op vote.Yes vote.Yes c c' had had' = refl
casts_once short s budget op vote.Yes vote.Budget c c' had had' = absurd (omega (arith, c.1, c'.1))
casts_once short s budget op vote.Yes vote.NoMemory c c' had had' = absurd (let e = had' refl in let f = c.2 in cc)
casts_once short s budget op vote.Budget vote.Yes c c' had had' = absurd (omega (arith, c.1, c'.1))
casts_once short s budget op vote.Budget vote.Budget c c' had had' = refl
casts_once short s budget op vote.Budget vote.NoMemory c c' had had' = absurd (omega (arith, c.1, c'.1))
casts_once short s budget op vote.NoMemory vote.Yes c c' had had' = absurd (let e = had refl in let f = c'.2 in cc)
casts_once short s budget op vote.NoMemory vote.Budget c c' had had' = absurd (omega (arith, c.1, c'.1))
casts_once short s budget op vote.NoMemory vote.NoMemory c c' had had' = refl

-- the event says of a vote NoMemory that the core is short of memory
had_told : (short : Bool) (txn : ℕ) (v : Vote) (answer : Answer) → answer ≡ TookPrepare txn v → ((short ≡ false) × (lacked_memory answer ≡ true) → ⊥) → v ≡ vote.NoMemory → short ≡ true
had_told true txn v answer e had is = refl
had_told false txn v answer e had is = absurd (had (refl, rw (e, is) refl))

prepare_answer : (short : Bool) (s : TableState) (budget v1 v2 : ℕ) (place p1 p2 : ParticipantPlace) (txn : ℕ) (op : Op) (reply1 reply2 : Message) (a1 a2 : Answer)
    → Answers short s budget place (message.Prepare txn op) p1 reply1 → Took (message.Prepare txn op) reply1 v1 a1
    → Answers short s budget place (message.Prepare txn op) p2 reply2 → Took (message.Prepare txn op) reply2 v2 a2
    → ((short ≡ false) × (lacked_memory a1 ≡ true) → ⊥) → ((short ≡ false) × (lacked_memory a2 ≡ true) → ⊥) → a1 ≡ a2
prepare_answer short s budget v1 v2 place p1 p2 txn op (message.Vote n1 x) (message.Vote n2 y) a1 a2 a t a' t' had1 had2 =
    t ∙ (ap (TookPrepare txn) (casts_once short s budget op x y a.2 a'.2 (had_told short txn x a1 t had1) (had_told short txn y a2 t' had2)) ∙ sym t')
prepare_answer short s budget v1 v2 place p1 p2 txn op (message.Vote n1 x) reply2 a1 a2 a t a' t' had1 had2 = absurd a'
prepare_answer short s budget v1 v2 place p1 p2 txn op reply1 reply2 a1 a2 a t a' t' had1 had2 = absurd a

down_case : (short : Bool) (s : TableState) (budget version : ℕ) (place p1 p2 : ParticipantPlace) (out o1 o2 : Bool) (m : Message) (c1 c2 : Option Op) (a1 a2 : Answer)
    → TakesDownAt short s budget version place out m p1 o1 c1 a1 → TakesDownAt short s budget version place out m p2 o2 c2 a2
    → ((short ≡ false) × (lacked_memory a1 ≡ true) → ⊥) → ((short ≡ false) × (lacked_memory a2 ≡ true) → ⊥) → a1 ≡ a2
down_case short s budget version place p1 p2 out o1 o2 (message.Reply d) c1 c2 a1 a2 x y had1 had2 = x.is_answer ∙ sym y.is_answer
down_case short s budget version place p1 p2 out o1 o2 (message.Prepare txn op) c1 c2 a1 a2 x y had1 had2 =
    prepare_answer short s budget _ _ place p1 p2 txn op x.reply y.reply a1 a2 x.answers x.is_answer y.answers y.is_answer had1 had2
down_case short s budget version place p1 p2 out o1 o2 (message.Commit txn) c1 c2 a1 a2 x y had1 had2 =
    x.is_answer ∙ (ap (λ (c : Option Op). TookCommit txn (raised version c)) (x.is_committed ∙ sym y.is_committed) ∙ sym y.is_answer)
down_case short s budget version place p1 p2 out o1 o2 (message.Abort txn) c1 c2 a1 a2 x y had1 had2 =
    x.is_answer ∙ (ap (λ (c : Option Op). TookAbort txn (raised version c)) (x.is_committed ∙ sym y.is_committed) ∙ sym y.is_answer)
down_case short s budget version place p1 p2 out o1 o2 (message.Vote txn v) c1 c2 a1 a2 x y had1 had2 = absurd x.answers
down_case short s budget version place p1 p2 out o1 o2 (message.Ack txn) c1 c2 a1 a2 x y had1 had2 = absurd x.answers
down_case short s budget version place p1 p2 out o1 o2 (message.Submit op) c1 c2 a1 a2 x y had1 had2 = absurd x.answers

down_answer : (w w1 w2 : World) (i : ℕ) (short : Bool) (a1 a2 : Answer) → HappensDown w i short w1 a1 → HappensDown w i short w2 a2
    → ((short ≡ false) × (lacked_memory a1 ≡ true) → ⊥) → ((short ≡ false) × (lacked_memory a2 ≡ true) → ⊥) → a1 ≡ a2
down_answer w w1 w2 i short a1 a2 a b had1 had2 =
    down_case short (newest w) b.peer.budget b.peer.version b.peer.place a.place b.place b.peer.outstanding a.outstanding b.outstanding b.m a.committed b.committed a1 a2 at_b b.here had1 had2
  where
    peer : a.peer ≡ b.peer
    peer = let x = a.is_peer in let y = b.is_peer in cc

    front : a.m ∷ a.rest ≡ b.m ∷ b.rest
    front = sym a.oldest ∙ (ap (λ (p : Peer). p.down) peer ∙ b.oldest)

    m : a.m ≡ b.m
    m = cc

    at_b : TakesDownAt short (newest w) b.peer.budget b.peer.version b.peer.place b.peer.outstanding b.m a.place a.outstanding a.committed a1
    at_b = subst (λ (p : Peer). TakesDownAt short (newest w) p.budget p.version p.place p.outstanding b.m a.place a.outstanding a.committed a1) peer
        (subst (λ (x : Message). TakesDownAt short (newest w) a.peer.budget a.peer.version a.peer.place a.peer.outstanding x a.place a.outstanding a.committed a1) m a.here)

-- What a core receives

receipt_once : (s : TableState) (version : ℕ) (packet : CapturedPacket) (floor : ℕ) (a1 a2 : Answer) → ReceivesAt s version packet floor a1 → ReceivesAt s version packet floor a2 → a1 ≡ a2
receipt_once s version packet floor a1 a2 a b = a.is_answer ∙ (ap (Delivered version) (receivers_once s.caps.held s.filters (captured packet) a.kept b.kept a.accepting b.accepting) ∙ sym b.is_answer)

rx_answer : (w w1 w2 : World) (core : ℕ) (packet : CapturedPacket) (floor : ℕ) (a1 a2 : Answer) → HappensRx w core packet floor w1 a1 → HappensRx w core packet floor w2 a2 → a1 ≡ a2
rx_answer w w1 w2 core packet floor a1 a2 a b =
    let version : a.version ≡ b.version = (let x = a.is_version in let y = b.is_version in cc) in
    receipt_once (table w.limits w.log b.version) b.version packet floor a1 a2 (subst (λ (v : ℕ). ReceivesAt (table w.limits w.log v) v packet floor a1) version a.here) b.here

-- All events

pub one_answer : (w w1 w2 : World) (event : Event) (a1 a2 : Answer) → Happens w event w1 a1 → Happens w event w2 a2 → (LacksMemory event a1 → ⊥) → (LacksMemory event a2 → ⊥) → a1 ≡ a2
one_answer w w1 w2 (Start op) a1 a2 x y had1 had2 = start_answer w w1 w2 op a1 a2 x y had1 had2
one_answer w w1 w2 (Submit (suc i) op) a1 a2 x y had1 had2 = x.here.is_answer ∙ sym y.here.is_answer
one_answer w w1 w2 (StartFor (suc i)) a1 a2 x y had1 had2 = start_for_answer w w1 w2 i a1 a2 x y had1 had2
one_answer w w1 w2 (Take zero (suc i) short) a1 a2 x y had1 had2 = up_answer w w1 w2 i a1 a2 x y
one_answer w w1 w2 (Take (suc i) zero short) a1 a2 x y had1 had2 = down_answer w w1 w2 i short a1 a2 x y had1 had2
one_answer w w1 w2 (Rx core number packet floor) a1 a2 x y had1 had2 = rx_answer w w1 w2 core packet floor a1 a2 x y
one_answer w w1 w2 event a1 a2 x y had1 had2 = absurd x
