-- How a request comes in, and how it is begun.
use Rattle.std.proofs.Common.{◌≡◌, ◌≢◌, ◌+◌, ◌-◌, ◌<◌, ℕ, suc, Bool, false, Option, Some, None, List, length, replicate, slice_get, slice_set, refl, sym, ap, subst, ◌∙◌, arith}
use Rattle.std.specs.Prelude.{◌==◌, Result, Ok, Err, IfErr, OnOk, OnErr}
use Rattle.std.specs.Result.{result_err}
use Rattle.monitor_2pc.specs.Starting.{WasStaged}
use Rattle.std.specs.Option.{option_eq}
use Rattle.std.proofs.lemmas.List.{length-set}
use Rattle.std.proofs.lemmas.Bool.Decides.{nat_tests}
use Rattle.filter_table.specs.declared.operation.Op.{Op}
use Rattle.filter_table.specs.declared.operation.StageFault.{StageFault}
use Rattle.filter_table.specs.declared.operation.StageFault.TheVariants as stage_fault
use Rattle.table_replica.specs.Shown.{ReplicaState}
use Rattle.filter_table.specs.Staging.{CannotStage}
use Rattle.filter_table.specs.Tables.{TableState, after, made, Allowed}
use Rattle.filter_table.specs.declared.decision.Veto.{Veto}
use Rattle.filter_table.specs.declared.decision.Decision.{Decision}
use Rattle.filter_table.specs.declared.decision.Decision.TheVariants.{Committed, Refused}
use Rattle.filter_table.specs.declared.decision.Vote.{Vote}
use Rattle.monitor_2pc.specs.declared.coordinator.Wait.{Wait}
use Rattle.monitor_2pc.specs.declared.coordinator.Wait.TheVariants.{Nothing, Votes, Acks}
use Rattle.two_phase.specs.declared.step.Step.{Step}
use Rattle.monitor_2pc.specs.Waiting.{phase_of, KeepsDecided}
use Rattle.monitor_2pc.specs.Places.{after_commit}
use Rattle.two_phase.specs.Coordinators.{Phase, Idle, Voting, CoordinatorPlace, CoordinatorState, Requests, coordinator_place, CanSubmit, with_waiting, Starts, refused, unstaged, alone, prepared, StartsFor, reply_to, asker_after, step, veto_of}

-- Requests that wait

not_asker : (asker : Option ℕ) (from : ℕ) → option_eq ◌==◌ asker (Some from) ≡ false → asker ≢ Some from
not_asker None from e a = cc
not_asker (Some core) from e a = let is : core ≡ from = cc in grind (arith, nat_tests, e, is)

-- what the fields of core 0 show
abbrev pub shown_by : ℕ → Phase → List (Option Op) → Option ℕ → Option Decision → CoordinatorState
shown_by last phase waiting asker decided = record { others = length waiting; last = last; phase = phase; requests = record { waiting = waiting; asker = asker; decided = decided } }

pub keeps : (last : ℕ) (phase : Phase) (waiting : List (Option Op)) (asker : Option ℕ) (decided : Option Decision) (own : CoordinatorState) (from at : ℕ) (op : Op) (new : List (Option Op))
    → shown_by last phase waiting asker decided ≡ own → 0 < from → at ≡ from → option_eq ◌==◌ asker (Some from) ≡ false
    → slice_get waiting (at - 1) ≡ Some None → new ≡ slice_set waiting (at - 1) (Some op)
    → (entry : ℕ) × (from ≡ suc entry) × CanSubmit own.requests entry × (shown_by last phase new asker decided ≡ record own { requests = with_waiting own.requests entry op })
keeps last phase waiting asker decided own from at op new view above place other free kept =
    let entry_is : from ≡ suc (at - 1) = omega arith in
    let here : slice_get waiting (at - 1) ≡ Some None = free in
    let under : asker ≢ Some (suc (at - 1)) = subst (λ (n : ℕ). asker ≢ Some n) entry_is (not_asker asker from other) in
    let full : new ≡ slice_set waiting (at - 1) (Some op) = kept in
    let same : shown_by last phase new asker decided ≡ record (shown_by last phase waiting asker decided) { requests = with_waiting (shown_by last phase waiting asker decided).requests (at - 1) op } =
    rw (full, length-set waiting (at - 1) (Some op)) refl in (
      at - 1,
      entry_is,
      subst (λ (o : CoordinatorState). CanSubmit o.requests (at - 1)) view (record { none_waiting = here; none_under_way = under }),
      subst (λ (o : CoordinatorState). shown_by last phase new asker decided ≡ record o { requests = with_waiting o.requests (at - 1) op }) view same,
    )

-- Requests that are begun

pub starts_refused : (others : ℕ) (s : TableState) (budget : ℕ) (op : Op) (staged : Option Op) (fault : StageFault) (place place' : CoordinatorPlace) (why : Veto) (txn : ℕ)
    → staged ≡ None → CannotStage s budget op staged fault → place' ≡ place → why ≡ veto_of fault → txn ≡ place.last
    → Starts others s budget place op place' None (record { txn = txn; say = None; decided = Some (Refused 0 why); reply = None })
starts_refused others s budget op staged stage_fault.AlreadyStaged place place' why txn free cannot same because number = absurd (let h = rw free at cannot in cc)
starts_refused others s budget op staged (stage_fault.Rule fault) place place' why txn free cannot same because number = refused (stage_fault.Rule fault) cannot.1 same refl (rw (because, number) refl)
starts_refused others s budget op staged stage_fault.Budget place place' why txn free cannot same because number = refused stage_fault.Budget cannot.1 same refl (rw (because, number) refl)
starts_refused others s budget op staged stage_fault.NoMemory place place' why txn free cannot same because number = unstaged cannot.1 same refl (rw (because, number) refl)

-- the step that commits what is staged, and the replica then
abbrev pub CommitsStep : ℕ → ReplicaState → Step → ReplicaState → Type 0
CommitsStep txn r told r' =
    (op : Op) × (r.staged ≡ Some op) × (told ≡ step txn None (Some (Committed (r.shown.version + 1) (made r.shown op))))
    × (r' ≡ record { budget = r.budget; shown = after r.shown op; staged = None })

abbrev pub placed : ℕ → Phase → Option Op → CoordinatorPlace
placed last phase staged = record { last = last; phase = phase; staged = staged }

pub starts_alone : (others : ℕ) (s : TableState) (budget last : ℕ) (op : Op) (place place' : CoordinatorPlace) (r r' : ReplicaState) (told : Step)
    → Allowed s budget op None → others ≡ 0 → r.shown ≡ s → r.staged ≡ Some op → last ≡ place.last
    → place' ≡ record { last = last + 1; phase = Idle; staged = r'.staged } → CommitsStep (last + 1) r told r'
    → (committed : Option Op) × Starts others s budget place op place' committed told × (r'.shown ≡ after_commit s committed)
starts_alone others s budget last op place place' r r' told allowed one shown staged number next commits =
    let same : commits.0 ≡ op = cc (commits.1, staged) in
    let gone : r'.staged ≡ None = ap (λ (x : ReplicaState). x.staged) commits.3 in
    let new : r'.shown ≡ after s op = ap (λ (x : ReplicaState). x.shown) commits.3 ∙ rw (same, shown) refl in
    let tells : told ≡ step (place.last + 1) None (Some (Committed (s.version + 1) (made s op))) = commits.2 ∙ rw (same, shown, number) refl in
    let place_is : place' ≡ record { last = place.last + 1; phase = Idle; staged = None } = next ∙ rw (gone, number) refl in
    (Some op, alone allowed one place_is refl tells, new)

-- Requests of other cores that are begun

at_rest : (wait : Wait) (votes : List (Option Vote)) (acks : List Bool) (asker : Option ℕ) (decided : Option Decision) → phase_of wait votes acks ≡ Idle → KeepsDecided wait asker decided → (asker ≡ None) × (decided ≡ None)
at_rest Nothing votes acks asker decided idle keeps = keeps
at_rest Votes votes acks asker decided idle keeps = absurd cc
at_rest Acks votes acks asker decided idle keeps = absurd cc

no_reply : (others : ℕ) (s : TableState) (budget : ℕ) (place : CoordinatorPlace) (op : Op) (place' : CoordinatorPlace) (committed : Option Op) (told : Step) → Starts others s budget place op place' committed told → told.reply ≡ None
no_reply others s budget place op place' committed told (refused fault allowed same none tells) = ap (λ (t : Step). t.reply) tells
no_reply others s budget place op place' committed told (unstaged passed same none tells) = ap (λ (t : Step). t.reply) tells
no_reply others s budget place op place' committed told (alone allowed one same none tells) = ap (λ (t : Step). t.reply) tells
no_reply others s budget place op place' committed told (prepared allowed more same none tells) = ap (λ (t : Step). t.reply) tells

-- what core 0 keeps once the operation has left the waiting list
abbrev pub left : List (Option Op) → Option ℕ → Requests
left waiting asker = record { waiting = waiting; asker = asker; decided = None }

abbrev pub replying : Step → Option (ℕ × Decision) → Step
replying begun reply = record begun { reply = reply }

starts_for : (s : TableState) (budget last : ℕ) (phase : Phase) (waiting taken : List (Option Op)) (asker : Option ℕ) (decided : Option Decision) (own : CoordinatorState) (staged : Option Op) (from at : ℕ) (op : Op) (place' : CoordinatorPlace) (requests' : Requests) (committed : Option Op) (begun told : Step)
    → shown_by last phase waiting asker decided ≡ own → 0 < from → at ≡ from
    → slice_get waiting (at - 1) ≡ Some (Some op) → taken ≡ slice_set waiting (at - 1) None
    → Starts (length taken) s budget (placed last phase staged) op place' committed begun
    → requests' ≡ left taken (asker_after from begun.decided)
    → told ≡ replying begun (reply_to from begun.decided)
    → (entry : ℕ) × (from ≡ suc entry) × StartsFor own.others s budget (coordinator_place own staged) own.requests entry place' requests' committed told
starts_for s budget last phase waiting taken asker decided own staged from at op place' requests' committed begun told view above place here out starts next tells =
    let entry_is : from ≡ suc (at - 1) = omega arith in
    let there : slice_get waiting (at - 1) ≡ Some (Some op) = here in
    let full : taken ≡ slice_set waiting (at - 1) None = out in
    let many : length taken ≡ length waiting = ap length full ∙ length-set waiting (at - 1) None in
    let begins : Starts (length waiting) s budget (placed last phase staged) op place' committed begun = subst (λ (n : ℕ). Starts n s budget (placed last phase staged) op place' committed begun) many starts in
    let for_fields : StartsFor (length waiting) s budget (placed last phase staged) (record { waiting = waiting; asker = asker; decided = decided }) (at - 1) place' requests' committed told = record {
      op = op;
      is_waiting = there;
      begun = begun;
      starts = begins;
      next = next ∙ (ap (λ (w : List (Option Op)). left w (asker_after from begun.decided)) full ∙ ap (λ (n : ℕ). left (slice_set waiting (at - 1) None) (asker_after n begun.decided)) entry_is);
      tells = tells ∙ ap (λ (n : ℕ). replying begun (reply_to n begun.decided)) entry_is;
    } in
    (at - 1, entry_is, subst (λ (o : CoordinatorState). StartsFor o.others s budget (coordinator_place o staged) o.requests (at - 1) place' requests' committed told) view for_fields)

-- what begin tells, of core 0 whose waiting list lacks the operation already
abbrev pub Begins : TableState → ℕ → ℕ → Phase → List (Option Op) → Option Op → Op → CoordinatorState → Option Op → Step → TableState → Type 0
Begins s budget last phase waiting staged op new staged' begun shown' =
    (committed : Option Op) × Starts (length waiting) s budget (placed last phase staged) op (coordinator_place new staged') committed begun × (shown' ≡ after_commit s committed)

abbrev pub StartsForSome : TableState → ℕ → CoordinatorState → Option Op → ℕ → CoordinatorState → Option Op → Step → TableState → Type 0
StartsForSome s budget own staged from own' staged' told shown' =
    (entry : ℕ) × (committed : Option Op) × (from ≡ suc entry) × StartsFor own.others s budget (coordinator_place own staged) own.requests entry (coordinator_place own' staged') own'.requests committed told × (shown' ≡ after_commit s committed)

-- a decision at once goes to the core
pub starts_for_decided : (s : TableState) (budget last : ℕ) (wait : Wait) (votes : List (Option Vote)) (acks : List Bool) (waiting taken : List (Option Op)) (asker : Option ℕ) (decided : Option Decision) (own new own' : CoordinatorState) (staged staged' : Option Op) (from at : ℕ) (op : Op) (begun told : Step) (shown' : TableState) (decision : Decision)
    → shown_by last (phase_of wait votes acks) waiting asker decided ≡ own → own.phase ≡ Idle → KeepsDecided wait asker decided → 0 < from → at ≡ from
    → slice_get waiting (at - 1) ≡ Some (Some op) → taken ≡ slice_set waiting (at - 1) None
    → Begins s budget last (phase_of wait votes acks) taken staged op new staged' begun shown'
    → new.requests ≡ record { waiting = taken; asker = asker; decided = decided }
    → begun.decided ≡ Some decision → told ≡ replying begun (Some (from, decision)) → own' ≡ new
    → StartsForSome s budget own staged from own' staged' told shown'
starts_for_decided s budget last wait votes acks waiting taken asker decided own new own' staged staged' from at op begun told shown' decision view idle kept above place here out begins same now tells is =
    let rest = at_rest wait votes acks asker decided (ap (λ (o : CoordinatorState). o.phase) view ∙ idle) kept in
    let next : new.requests ≡ left taken (asker_after from begun.decided) = same ∙ rw (rest.0, rest.1, now) refl in
    let r = starts_for s budget last (phase_of wait votes acks) waiting taken asker decided own staged from at op (coordinator_place new staged') new.requests begins.0 begun told view above place here out begins.1 next (tells ∙ rw now refl) in
    subst (λ (o : CoordinatorState). StartsForSome s budget own staged from o staged' told shown') (sym is) (r.0, begins.0, r.1, r.2, begins.2)

-- else the operation is under way for it
pub starts_for_asked : (s : TableState) (budget last : ℕ) (wait : Wait) (votes : List (Option Vote)) (acks : List Bool) (waiting taken : List (Option Op)) (asker : Option ℕ) (decided : Option Decision) (own new own' : CoordinatorState) (staged staged' : Option Op) (from at : ℕ) (op : Op) (begun told : Step) (shown' : TableState)
    (last2 : ℕ) (phase2 : Phase) (waiting2 : List (Option Op)) (asker2 : Option ℕ) (decided2 : Option Decision)
    → shown_by last (phase_of wait votes acks) waiting asker decided ≡ own → own.phase ≡ Idle → KeepsDecided wait asker decided → 0 < from → at ≡ from
    → slice_get waiting (at - 1) ≡ Some (Some op) → taken ≡ slice_set waiting (at - 1) None
    → Begins s budget last (phase_of wait votes acks) taken staged op new staged' begun shown'
    → new.requests ≡ record { waiting = taken; asker = asker; decided = decided }
    → begun.decided ≡ None → told ≡ begun → shown_by last2 phase2 waiting2 asker2 decided2 ≡ new → own' ≡ shown_by last2 phase2 waiting2 (Some from) decided2
    → StartsForSome s budget own staged from own' staged' told shown'
starts_for_asked s budget last wait votes acks waiting taken asker decided own new own' staged staged' from at op begun told shown' last2 phase2 waiting2 asker2 decided2 view idle kept above place here out begins same now tells view2 is =
    let rest = at_rest wait votes acks asker decided (ap (λ (o : CoordinatorState). o.phase) view ∙ idle) kept in
    let silent : begun.reply ≡ None = no_reply _ _ _ _ _ _ _ _ begins.1 in
    let waits : waiting2 ≡ taken = ap (λ (o : CoordinatorState). o.requests.waiting) view2 ∙ ap (λ (r : Requests). r.waiting) same in
    let undecided : decided2 ≡ None = ap (λ (o : CoordinatorState). o.requests.decided) view2 ∙ (ap (λ (r : Requests). r.decided) same ∙ rest.1) in
    let next : record { waiting = waiting2; asker = Some from; decided = decided2 } ≡ left taken (asker_after from begun.decided) = rw (waits, undecided, now) refl in
    let told_is : told ≡ replying begun (reply_to from begun.decided) = tells ∙ rw now (sym (rw silent refl)) in
    let r = starts_for s budget last (phase_of wait votes acks) waiting taken asker decided own staged from at op (coordinator_place new staged') (record { waiting = waiting2; asker = Some from; decided = decided2 }) begins.0 begun told view above place here out begins.1 next told_is in
    let place_is : coordinator_place new staged' ≡ coordinator_place (shown_by last2 phase2 waiting2 (Some from) decided2) staged' = sym (ap (λ (o : CoordinatorState). coordinator_place o staged') view2) in
    subst (λ (o : CoordinatorState). StartsForSome s budget own staged from o staged' told shown') (sym is)
    (r.0, begins.0, r.1, subst (λ (p : CoordinatorPlace). StartsFor own.others s budget (coordinator_place own staged) own.requests r.0 p (record { waiting = waiting2; asker = Some from; decided = decided2 }) begins.0 told) place_is r.2, begins.2)

-- where nothing is decided, core 0 waits for votes, and for no other core than before
asking : (others : ℕ) (s : TableState) (budget : ℕ) (place : CoordinatorPlace) (op : Op) (place' : CoordinatorPlace) (committed : Option Op) (told : Step) → Starts others s budget place op place' committed told → told.decided ≡ None → place'.phase ≡ Voting (replicate others None)
asking others s budget place op place' committed told (refused fault allowed same none tells) e = absurd (let x = ap (λ (t : Step). t.decided) tells in cc)
asking others s budget place op place' committed told (unstaged passed same none tells) e = absurd (let x = ap (λ (t : Step). t.decided) tells in cc)
asking others s budget place op place' committed told (alone allowed one same none tells) e = absurd (let x = ap (λ (t : Step). t.decided) tells in cc)
asking others s budget place op place' committed told (prepared allowed more same none tells) e = ap (λ (p : CoordinatorPlace). p.phase) same

voting_keeps : (wait : Wait) (votes vs : List (Option Vote)) (acks : List Bool) (asker asker' : Option ℕ) (decided : Option Decision) → phase_of wait votes acks ≡ Voting vs → KeepsDecided wait asker decided → KeepsDecided wait asker' decided
voting_keeps Nothing votes vs acks asker asker' decided e k = absurd cc
voting_keeps Votes votes vs acks asker asker' decided e k = k
voting_keeps Acks votes vs acks asker asker' decided e k = k

pub asked_keeps : (others : ℕ) (s : TableState) (budget : ℕ) (place : CoordinatorPlace) (op : Op) (own : CoordinatorState) (staged committed : Option Op) (told : Step) (last : ℕ) (wait : Wait) (votes : List (Option Vote)) (acks : List Bool) (waiting : List (Option Op)) (asker asker' : Option ℕ) (decided : Option Decision)
    → Starts others s budget place op (coordinator_place own staged) committed told → told.decided ≡ None → shown_by last (phase_of wait votes acks) waiting asker decided ≡ own → KeepsDecided wait asker decided → KeepsDecided wait asker' decided
asked_keeps others s budget place op own staged committed told last wait votes acks waiting asker asker' decided starts none view keeps =
    voting_keeps wait votes (replicate others None) acks asker asker' decided (ap (λ (o : CoordinatorState). o.phase) view ∙ asking others s budget place op (coordinator_place own staged) committed told starts none) keeps

-- what a replica that has nothing staged answers where it is asked to stage an operation
pub was_staged : {T : Type 0} (r r' : ReplicaState) (op : Op) (result : Result T StageFault)
    → OnOk result (Allowed r.shown r.budget op None) → OnOk result (r'.staged ≡ Some op) → IfErr result (CannotStage r.shown r.budget op r.staged) → OnErr result (r'.staged ≡ r.staged)
    → r'.shown ≡ r.shown → r'.budget ≡ r.budget → r.staged ≡ None → WasStaged r' op (result_err result)
was_staged r r' op (Ok x) allowed staged cannot same shown budget none = (staged, rw (shown, budget) allowed)
was_staged r r' op (Err fault) allowed staged cannot same shown budget none = (same ∙ none, rw (shown, budget, ← none) cannot)
