-- Events in the order of the steps that did them, and in the order of a run.
use Rattle.std.proofs.Common.{All, ◌≡◌, ◌==◌, ◌+◌, ◌++◌, ◌∷◌, ◌⊎◌, inl, inr, ℕ, Bool, true, false, cond, Option, Some, None, List, [], length, slice_get, refl, ap, sym, ◌∙◌, subst, arith, append_assoc}
use Rattle.std.specs.Prelude.{fold, count_by, option_to_list, if◌then◌else◌}
use Rattle.std.proofs.lemmas.List.{append-nil, length-append}
use Rattle.std.specs.List.{AllZip}
use Rattle.std.proofs.lemmas.List.Elements.{All-nil, All-cons}
use Rattle.std.proofs.lemmas.List.Concat.{flat_map-append}
use Rattle.std.proofs.lemmas.List.Sums.{sum_by-append}
use Rattle.filter_table.specs.declared.operation.Op.{Op}
use Rattle.filter_table.proofs.Positions.{get_at, get_front}
use Rattle.world_events.specs.declared.event.Event.{Event}
use Rattle.world_events.specs.declared.event.Event.TheVariants.{Start, Submit, StartFor, Take, Rx}
use Rattle.world_events.specs.declared.event.Done.{Done}
use Rattle.world_model.specs.Readings.{commits_at}
use Rattle.world_model.proofs.Lists.{same_or_not}
use Rattle.world_model.proofs.Submissions.{eq_self, eq_other}
use Rattle.world_histories.specs.Merging.{core_of}
use Rattle.world_histories.specs.Answers.{begins_for}
use Rattle.world_histories.proofs.Lists.{get_next}
use Rattle.world_histories.proofs.Requests.{submits_by, submits_of, begins_of}
use Rattle.core_machine.specs.declared.step.CoreStep.{CoreStep}
use Rattle.core_machine.specs.declared.step.StepOutcome.{StepOutcome}
use Rattle.core_machine.specs.Steps.{IsOf, did, of_core}
use Rattle.headline.specs.Headline.{begun_by, begun_in}
use Rattle.world_model.specs.Committed.{Told, nothing_told, asked, committing, told_with, log_of}
use Rattle.headline.specs.Served.{events_of}
use Rattle.headline.specs.Decided.{events_at}
use Rattle.headline.specs.Starts.{started_for, submitted_by, submitted_in, StartOneByOne}

-- The events of a core

pub at_own_first : (core : ℕ) (x : Done) (xs : List Done) → core_of x.event ≡ core → events_at core (x ∷ xs) ≡ x ∷ events_at core xs
at_own_first core x xs e = ap (λ (b : Bool). cond b (x ∷ events_at core xs) (events_at core xs)) (ap (λ (n : ℕ). n == core) e ∙ eq_self core)

pub at_other_first : (core : ℕ) (x : Done) (xs : List Done) → (core_of x.event ≡ core → ⊥) → events_at core (x ∷ xs) ≡ events_at core xs
at_other_first core x xs ne = ap (λ (b : Bool). cond b (x ∷ events_at core xs) (events_at core xs)) (eq_other (core_of x.event) core ne)

pub at_more : (core : ℕ) (xs ys : List Done) → events_at core (xs ++ ys) ≡ events_at core xs ++ events_at core ys
at_more core [] ys = refl
at_more core (x ∷ xs) ys = by_test (core_of x.event == core) (at_more core xs ys)
  where
    by_test : (b : Bool) → events_at core (xs ++ ys) ≡ events_at core xs ++ events_at core ys → cond b (x ∷ events_at core (xs ++ ys)) (events_at core (xs ++ ys)) ≡ (cond b (x ∷ events_at core xs) (events_at core xs)) ++ events_at core ys
    by_test true rest = ap (λ (zs : List Done). x ∷ zs) rest
    by_test false rest = rest

-- all of them are of the core
abbrev pub AllOf : ℕ → List Done → Type 0
AllOf core [] = Unit {0}
AllOf core (d ∷ ds) = (core_of d.event ≡ core) × AllOf core ds

all_front : (core : ℕ) (xs ys : List Done) → AllOf core (xs ++ ys) → AllOf core xs
all_front core [] ys h = tt
all_front core (x ∷ xs) ys h = (h.0, all_front core xs ys h.1)

all_rest : (core : ℕ) (xs ys : List Done) → AllOf core (xs ++ ys) → AllOf core ys
all_rest core [] ys h = h
all_rest core (x ∷ xs) ys h = all_rest core xs ys h.1

pub all_at : (core : ℕ) (xs : List Done) → AllOf core (events_at core xs)
all_at core [] = tt
all_at core (x ∷ xs) = by_core (same_or_not (core_of x.event) core) (all_at core xs)
  where
    by_core : ((core_of x.event ≡ core) ⊎ (core_of x.event ≡ core → ⊥)) → AllOf core (events_at core xs) → AllOf core (events_at core (x ∷ xs))
    by_core (inl e) rest = subst (AllOf core) (sym (at_own_first core x xs e)) (e, rest)
    by_core (inr ne) rest = subst (AllOf core) (sym (at_other_first core x xs ne)) rest

at_own : (core : ℕ) (xs : List Done) → AllOf core xs → events_at core xs ≡ xs
at_own core [] h = refl
at_own core (x ∷ xs) h = at_own_first core x xs h.0 ∙ ap (λ (ys : List Done). x ∷ ys) (at_own core xs h.1)

at_other : (core other : ℕ) (xs : List Done) → (other ≡ core → ⊥) → AllOf other xs → events_at core xs ≡ []
at_other core other [] ne h = refl
at_other core other (x ∷ xs) ne h = at_other_first core x xs (λ e. ne (sym h.0 ∙ e)) ∙ at_other core other xs ne h.1

-- the events of the first step, where each core's are its own
own_first : (s : CoreStep) (o : StepOutcome) (steps : List CoreStep) (outcomes : List StepOutcome) → ((c : ℕ) → AllOf c (of_core (did c) c (s ∷ steps) (o ∷ outcomes))) → AllOf s.core (did s.core s.task o)
own_first s o steps outcomes own = all_front s.core (did s.core s.task o) (of_core (did s.core) s.core steps outcomes)
    (subst (λ (b : Bool). AllOf s.core ((if b then did s.core s.task o else []) ++ of_core (did s.core) s.core steps outcomes)) (eq_self s.core) (own s.core))

own_rest : (s : CoreStep) (o : StepOutcome) (steps : List CoreStep) (outcomes : List StepOutcome) → ((c : ℕ) → AllOf c (of_core (did c) c (s ∷ steps) (o ∷ outcomes))) → (c : ℕ) → AllOf c (of_core (did c) c steps outcomes)
own_rest s o steps outcomes own c = all_rest c (if s.core == c then did c s.task o else []) (of_core (did c) c steps outcomes) (own c)

-- each step tells events of its core
pub steps_own : (steps : List CoreStep) (outcomes : List StepOutcome) → AllZip (λ (s : CoreStep) (o : StepOutcome). IsOf s.task o) steps outcomes → ((c : ℕ) → AllOf c (of_core (did c) c steps outcomes))
    → AllZip (λ (s : CoreStep) (o : StepOutcome). All (λ (d : Done). core_of d.event ≡ s.core) (did s.core s.task o)) steps outcomes
steps_own [] [] along own = tt
steps_own [] (o ∷ outcomes) along own = absurd along
steps_own (s ∷ steps) [] along own = absurd along
steps_own (s ∷ steps) (o ∷ outcomes) along own = (all_of s.core (did s.core s.task o) (own_first s o steps outcomes own), steps_own steps outcomes along.1 (own_rest s o steps outcomes own))
  where
    all_of : (core : ℕ) (xs : List Done) → AllOf core xs → All (λ (d : Done). core_of d.event ≡ core) xs
    all_of core [] h = All-nil (λ (d : Done). core_of d.event ≡ core)
    all_of core (x ∷ xs) h = All-cons (λ (d : Done). core_of d.event ≡ core) x xs h.0 (all_of core xs h.1)

-- the events of all steps, by core
pub steps_at : (steps : List CoreStep) (outcomes : List StepOutcome) → ((c : ℕ) → AllOf c (of_core (did c) c steps outcomes)) → (core : ℕ) → events_at core (events_of steps outcomes) ≡ of_core (did core) core steps outcomes
steps_at [] outcomes own core = refl
steps_at (s ∷ steps) [] own core = refl
steps_at (s ∷ steps) (o ∷ outcomes) own core =
    at_more core (did s.core s.task o) (events_of steps outcomes) ∙ by_core (same_or_not s.core core) (steps_at steps outcomes (own_rest s o steps outcomes own) core)
  where
    by_core : ((s.core ≡ core) ⊎ (s.core ≡ core → ⊥)) → events_at core (events_of steps outcomes) ≡ of_core (did core) core steps outcomes
        → events_at core (did s.core s.task o) ++ events_at core (events_of steps outcomes) ≡ (if s.core == core then did core s.task o else []) ++ of_core (did core) core steps outcomes
    by_core (inl e) rest =
        let front : events_at core (did s.core s.task o) ≡ did core s.task o = subst (λ (n : ℕ). events_at n (did s.core s.task o) ≡ did n s.task o) e (at_own s.core (did s.core s.task o) (own_first s o steps outcomes own)) in
        let test : (s.core == core) ≡ true = ap (λ (n : ℕ). n == core) e ∙ eq_self core in
        rw (front, rest, test) refl
    by_core (inr ne) rest =
        let front : events_at core (did s.core s.task o) ≡ [] = at_other core s.core (did s.core s.task o) ne (own_first s o steps outcomes own) in
        let test : (s.core == core) ≡ false = eq_other s.core core ne in
        rw (front, rest, test) refl

-- What is counted of a core

-- of other cores nothing is counted
abbrev pub Silent : (Done → Bool) → ℕ → List Done → Type 0
Silent p core [] = Unit {0}
Silent p core (d ∷ ds) = ((core_of d.event ≡ core → ⊥) → p d ≡ false) × Silent p core ds

pub silent_front : (p : Done → Bool) (core : ℕ) (xs ys : List Done) → Silent p core (xs ++ ys) → Silent p core xs
silent_front p core [] ys h = tt
silent_front p core (x ∷ xs) ys h = (h.0, silent_front p core xs ys h.1)

pub count_first : (p : Done → Bool) (x : Done) (xs : List Done) → count_by p (x ∷ xs) ≡ cond (p x) 1 0 + count_by p xs
count_first p x xs = omega (arith, sum_by-append (λ (y : Done). cond (p y) 1 0) (x ∷ []) xs)

pub count_at : (p : Done → Bool) (core : ℕ) (xs : List Done) → Silent p core xs → count_by p xs ≡ count_by p (events_at core xs)
count_at p core [] h = refl
count_at p core (x ∷ xs) h = by_core (same_or_not (core_of x.event) core) (count_at p core xs h.1)
  where
    by_core : ((core_of x.event ≡ core) ⊎ (core_of x.event ≡ core → ⊥)) → count_by p xs ≡ count_by p (events_at core xs) → count_by p (x ∷ xs) ≡ count_by p (events_at core (x ∷ xs))
    by_core (inl e) rest = omega (arith, count_first p x xs, count_first p x (events_at core xs), rest, ap (λ (ys : List Done). count_by p ys) (at_own_first core x xs e))
    by_core (inr ne) rest = omega (arith, count_first p x xs, ap {B = ℕ} (λ (b : Bool). cond b 1 0) (h.0 ne), rest, ap (λ (ys : List Done). count_by p ys) (at_other_first core x xs ne))

submits_silent : (core : ℕ) (xs : List Done) → Silent (λ (d : Done). submits_by core d.event) core xs
submits_silent core [] = tt
submits_silent core (x ∷ xs) = (other x.event, submits_silent core xs)
  where
    other : (e : Event) → (core_of e ≡ core → ⊥) → submits_by core e ≡ false
    other (Submit from op) ne = eq_other from core ne
    other (Start op) ne = refl
    other (StartFor from) ne = refl
    other (Take to from short) ne = refl
    other (Rx to number packet floor) ne = refl

starts_silent : (core : ℕ) (xs : List Done) → Silent (λ (d : Done). begins_for core d.event) 0 xs
starts_silent core [] = tt
starts_silent core (x ∷ xs) = (other x.event, starts_silent core xs)
  where
    other : (e : Event) → (core_of e ≡ 0 → ⊥) → begins_for core e ≡ false
    other (StartFor from) ne = absurd (ne refl)
    other (Start op) ne = refl
    other (Submit from op) ne = refl
    other (Take to from short) ne = refl
    other (Rx to number packet floor) ne = refl

-- two lists with the same events of each core
abbrev pub SameParts : List Done → List Done → Type 0
SameParts xs ys = (core : ℕ) → events_at core xs ≡ events_at core ys

pub submits_parts : (core : ℕ) (xs ys : List Done) → SameParts xs ys → submits_of core xs ≡ submits_of core ys
submits_parts core xs ys same =
    let p : Done → Bool = λ d. submits_by core d.event in
    count_at p core xs (submits_silent core xs) ∙ (ap (λ (zs : List Done). count_by p zs) (same core) ∙ sym (count_at p core ys (submits_silent core ys)))

pub starts_parts : (core : ℕ) (xs ys : List Done) → SameParts xs ys → begins_of core xs ≡ begins_of core ys
starts_parts core xs ys same =
    let p : Done → Bool = λ d. begins_for core d.event in
    count_at p 0 xs (starts_silent core xs) ∙ (ap (λ (zs : List Done). count_by p zs) (same 0) ∙ sym (count_at p 0 ys (starts_silent core ys)))

-- The log, by the events of each core

-- what a core begins are events of its own
pub begun_at : (core : ℕ) (xs : List Done) → begun_in core xs ≡ begun_in core (events_at core xs)
begun_at core [] = refl
begun_at core (x ∷ xs) = by_core (same_or_not (core_of x.event) core) (begun_at core xs)
  where
    other : (e : Event) → (core_of e ≡ core → ⊥) → begun_by core e ≡ []
    other (Start op) ne = ap (λ (b : Bool). cond b (op ∷ []) []) (eq_other 0 core ne)
    other (Submit from op) ne = ap (λ (b : Bool). cond b (op ∷ []) []) (eq_other from core ne)
    other (StartFor from) ne = refl
    other (Take to from short) ne = refl
    other (Rx to number packet floor) ne = refl

    by_core : ((core_of x.event ≡ core) ⊎ (core_of x.event ≡ core → ⊥)) → begun_in core xs ≡ begun_in core (events_at core xs) → begun_in core (x ∷ xs) ≡ begun_in core (events_at core (x ∷ xs))
    by_core (inl e) rest = ap (λ (ops : List Op). begun_by core x.event ++ ops) rest ∙ ap (begun_in core) (sym (at_own_first core x xs e))
    by_core (inr ne) rest = ap (λ (ops : List Op). ops ++ begun_in core xs) (other x.event ne) ∙ (rest ∙ ap (begun_in core) (sym (at_other_first core x xs ne)))

submitted_at : (core : ℕ) (xs : List Done) → submitted_in core xs ≡ submitted_in core (events_at core xs)
submitted_at core [] = refl
submitted_at core (x ∷ xs) = by_core (same_or_not (core_of x.event) core) (submitted_at core xs)
  where
    other : (e : Event) → (core_of e ≡ core → ⊥) → submitted_by core e ≡ []
    other (Submit from op) ne = ap (λ (b : Bool). cond b (op ∷ []) []) (eq_other from core ne)
    other (Start op) ne = refl
    other (StartFor from) ne = refl
    other (Take to from short) ne = refl
    other (Rx to number packet floor) ne = refl

    by_core : ((core_of x.event ≡ core) ⊎ (core_of x.event ≡ core → ⊥)) → submitted_in core xs ≡ submitted_in core (events_at core xs) → submitted_in core (x ∷ xs) ≡ submitted_in core (events_at core (x ∷ xs))
    by_core (inl e) rest = ap (λ (ops : List Op). submitted_by core x.event ++ ops) rest ∙ ap (submitted_in core) (sym (at_own_first core x xs e))
    by_core (inr ne) rest = ap (λ (ops : List Op). ops ++ submitted_in core xs) (other x.event ne) ∙ (rest ∙ ap (submitted_in core) (sym (at_other_first core x xs ne)))

pub submitted_count : (core : ℕ) (xs : List Done) → submits_of core xs ≡ length (submitted_in core xs)
submitted_count core [] = refl
submitted_count core (x ∷ xs) = by_event x.event (submitted_count core xs) (count_first (λ (d : Done). submits_by core d.event) x xs)
  where
    by_event : (e : Event) → submits_of core xs ≡ length (submitted_in core xs) → submits_of core (x ∷ xs) ≡ cond (submits_by core e) 1 0 + submits_of core xs → submits_of core (x ∷ xs) ≡ length (submitted_by core e ++ submitted_in core xs)
    by_event (Submit from op) rest first = by_test (from == core) first
      where
        by_test : (b : Bool) → submits_of core (x ∷ xs) ≡ cond b 1 0 + submits_of core xs → submits_of core (x ∷ xs) ≡ length ((cond b (op ∷ []) []) ++ submitted_in core xs)
        by_test true f = omega (arith, f, rest)
        by_test false f = omega (arith, f, rest)
    by_event (Start op) rest first = omega (arith, first, rest)
    by_event (StartFor from) rest first = omega (arith, first, rest)
    by_event (Take to from short) rest first = omega (arith, first, rest)
    by_event (Rx to number packet floor) rest first = omega (arith, first, rest)

-- no commit of core 0 is an event of another core
abbrev pub commits0 : Done → Bool
commits0 d = commits_at 0 d.event d.answer

-- what core 0 started last, where each core submits these in all
abbrev starts : (ℕ → List Op) → List Done → Option Op → Event → Option Op
starts submits before started (Start op) = Some op
starts submits before started (StartFor core) = slice_get (submits core) (started_for core before)
starts submits before started event = started

abbrev commits : Bool → Option Op → List Op → List Op
commits true started committed = committed ++ option_to_list started
commits false started committed = committed

-- what core 0 commits with its events, where each core submits these in all
log_by : (ℕ → List Op) → List Done → Option Op → List Op → List Done → List Op
log_by submits before started committed [] = committed
log_by submits before started committed (d ∷ ds) =
    log_by submits (before ++ d ∷ []) (starts submits before started d.event) (commits (commits0 d) (starts submits before started d.event) committed) ds

committing_started : (b : Bool) (t : Told) → (committing b t).started ≡ t.started
committing_started true t = refl
committing_started false t = refl

committing_submitted : (b : Bool) (t : Told) → (committing b t).submitted ≡ t.submitted
committing_submitted true t = refl
committing_submitted false t = refl

committing_committed : (b : Bool) (t : Told) → (committing b t).committed ≡ commits b t.started t.committed
committing_committed true t = refl
committing_committed false t = refl

asked_committed : (t : Told) (event : Event) → (asked t event).committed ≡ t.committed
asked_committed t (Start op) = refl
asked_committed t (Submit from op) = refl
asked_committed t (StartFor from) = refl
asked_committed t (Take to from short) = refl
asked_committed t (Rx to number packet floor) = refl

asked_other : (t : Told) (event : Event) → (core_of event ≡ 0 → ⊥) → (asked t event).started ≡ t.started
asked_other t (Start op) ne = absurd (ne refl)
asked_other t (StartFor from) ne = absurd (ne refl)
asked_other t (Submit from op) ne = refl
asked_other t (Take to from short) ne = refl
asked_other t (Rx to number packet floor) ne = refl

-- what events tell that each core submitted last
abbrev Knows : List Done → Told → Type 0
Knows before t = (core n : ℕ) → length (submitted_in core before) ≡ n + 1 → t.submitted core ≡ slice_get (submitted_in core before) n

knows_more : (before : List Done) (t : Told) (d : Done) → Knows before t → Knows (before ++ d ∷ []) (told_with t d)
knows_more before t d knows core n long =
    ap (λ (f : ℕ → Option Op). f core) (committing_submitted (commits0 d) (asked t d.event)) ∙ (by_event d.event (subst (λ (ops : List Op). length ops ≡ n + 1) is long) ∙ ap (λ (ops : List Op). slice_get ops n) (sym is))
  where
    is : submitted_in core (before ++ d ∷ []) ≡ submitted_in core before ++ submitted_by core d.event
    is = flat_map-append (λ (x : Done). submitted_by core x.event) before (d ∷ []) ∙ ap (λ (ops : List Op). submitted_in core before ++ ops) (append-nil (submitted_by core d.event))

    same : length (submitted_in core before ++ []) ≡ n + 1 → t.submitted core ≡ slice_get (submitted_in core before ++ []) n
    same l = subst (λ (ops : List Op). length ops ≡ n + 1 → t.submitted core ≡ slice_get ops n) (sym (append-nil (submitted_in core before))) (knows core n) l

    by_event : (e : Event) → length (submitted_in core before ++ submitted_by core e) ≡ n + 1 → (asked t e).submitted core ≡ slice_get (submitted_in core before ++ submitted_by core e) n
    by_event (Submit from op) l = by_test (from == core) l
      where
        by_test : (b : Bool) → length (submitted_in core before ++ cond b (op ∷ []) []) ≡ n + 1 → cond b (Some op) (t.submitted core) ≡ slice_get (submitted_in core before ++ cond b (op ∷ []) []) n
        by_test true h =
            let at : n ≡ length (submitted_in core before) = omega (arith, h, length-append (submitted_in core before) (op ∷ [])) in
            sym (ap (λ (k : ℕ). slice_get (submitted_in core before ++ op ∷ []) k) at ∙ get_next (submitted_in core before) op [])
        by_test false h = same h
    by_event (Start op) l = same l
    by_event (StartFor from) l = same l
    by_event (Take to from short) l = same l
    by_event (Rx to number packet floor) l = same l

log_is : (submits : ℕ → List Op) (before rest : List Done) (t : Told) → ((core : ℕ) → submits core ≡ submitted_in core (before ++ rest)) → StartOneByOne (before ++ rest) → Silent commits0 0 rest → Knows before t
    → (fold told_with t rest).committed ≡ log_by submits (events_at 0 before) t.started t.committed (events_at 0 rest)
unfolding log_by
log_is submits before [] t all order quiet knows = refl
log_is submits before (d ∷ rest) t all order quiet knows =
    log_is submits (before ++ d ∷ []) rest (told_with t d) (λ core. all core ∙ ap (submitted_in core) (sym along)) (subst StartOneByOne (sym along) order) quiet.1 (knows_more before t d knows)
    ∙ by_core (same_or_not (core_of d.event) 0)
  where
    along : (before ++ d ∷ []) ++ rest ≡ before ++ d ∷ rest
    along = append_assoc before (d ∷ []) rest

    started_there : (core : ℕ) → d.event ≡ StartFor core → t.submitted core ≡ slice_get (submits core) (started_for core (events_at 0 before))
    started_there core is =
        let n = started_for core before in
        let counted : length (submitted_in core before) ≡ n + 1 = order before rest core d.answer (ap (λ (e : Event). before ++ record { event = e; answer = d.answer } ∷ rest) is) in
        let x = get_at (submitted_in core before) n (omega (arith, counted)) in
        let whole : submits core ≡ submitted_in core before ++ submitted_in core (d ∷ rest) = all core ∙ flat_map-append (λ (y : Done). submitted_by core y.event) before (d ∷ rest) in
        let there : slice_get (submits core) n ≡ Some x.0 = ap (λ (ops : List Op). slice_get ops n) whole ∙ get_front (submitted_in core before) (submitted_in core (d ∷ rest)) n x.0 x.1 in
        let same : n ≡ started_for core (events_at 0 before) = count_at (λ (y : Done). begins_for core y.event) 0 before (starts_silent core before) in
        knows core n counted ∙ (x.1 ∙ (sym there ∙ ap (λ (k : ℕ). slice_get (submits core) k) same))

    by_event : (e : Event) → ((core : ℕ) → e ≡ StartFor core → t.submitted core ≡ slice_get (submits core) (started_for core (events_at 0 before))) → (asked t e).started ≡ starts submits (events_at 0 before) t.started e
    by_event (Start op) there = refl
    by_event (StartFor core) there = there core refl
    by_event (Submit from op) there = refl
    by_event (Take to from short) there = refl
    by_event (Rx to number packet floor) there = refl

    by_core : ((core_of d.event ≡ 0) ⊎ (core_of d.event ≡ 0 → ⊥))
        → log_by submits (events_at 0 (before ++ d ∷ [])) (told_with t d).started (told_with t d).committed (events_at 0 rest) ≡ log_by submits (events_at 0 before) t.started t.committed (events_at 0 (d ∷ rest))
    by_core (inl own) =
        let started : (told_with t d).started ≡ starts submits (events_at 0 before) t.started d.event = committing_started (commits0 d) (asked t d.event) ∙ by_event d.event started_there in
        let committed : (told_with t d).committed ≡ commits (commits0 d) (starts submits (events_at 0 before) t.started d.event) t.committed =
        committing_committed (commits0 d) (asked t d.event) ∙ (ap (λ (o : Option Op). commits (commits0 d) o (asked t d.event).committed) (by_event d.event started_there)
        ∙ ap (commits (commits0 d) (starts submits (events_at 0 before) t.started d.event)) (asked_committed t d.event)) in
        let front : events_at 0 (before ++ d ∷ []) ≡ events_at 0 before ++ d ∷ [] = at_more 0 before (d ∷ []) ∙ ap (λ (ds : List Done). events_at 0 before ++ ds) (at_own_first 0 d [] own) in
        ap (λ (ds : List Done). log_by submits ds (told_with t d).started (told_with t d).committed (events_at 0 rest)) front
        ∙ (ap (λ (o : Option Op). log_by submits (events_at 0 before ++ d ∷ []) o (told_with t d).committed (events_at 0 rest)) started
        ∙ (ap (λ (ops : List Op). log_by submits (events_at 0 before ++ d ∷ []) (starts submits (events_at 0 before) t.started d.event) ops (events_at 0 rest)) committed
        ∙ ap (log_by submits (events_at 0 before) t.started t.committed) (sym (at_own_first 0 d rest own))))
    by_core (inr ne) =
        let started : (told_with t d).started ≡ t.started = committing_started (commits0 d) (asked t d.event) ∙ asked_other t d.event ne in
        let committed : (told_with t d).committed ≡ t.committed = committing_committed (commits0 d) (asked t d.event) ∙ (ap (λ (b : Bool). commits b (asked t d.event).started (asked t d.event).committed) (quiet.0 ne) ∙ asked_committed t d.event) in
        let front : events_at 0 (before ++ d ∷ []) ≡ events_at 0 before = at_more 0 before (d ∷ []) ∙ (ap (λ (ds : List Done). events_at 0 before ++ ds) (at_other_first 0 d [] ne) ∙ append-nil (events_at 0 before)) in
        ap (λ (ds : List Done). log_by submits ds (told_with t d).started (told_with t d).committed (events_at 0 rest)) front
        ∙ (ap (λ (o : Option Op). log_by submits (events_at 0 before) o (told_with t d).committed (events_at 0 rest)) started
        ∙ (ap (λ (ops : List Op). log_by submits (events_at 0 before) t.started ops (events_at 0 rest)) committed
        ∙ ap (log_by submits (events_at 0 before) t.started t.committed) (sym (at_other_first 0 d rest ne))))

-- it is the events of each core that tell the log
pub log_parts : (xs ys : List Done) → SameParts xs ys → StartOneByOne xs → StartOneByOne ys → Silent commits0 0 xs → Silent commits0 0 ys → log_of xs ≡ log_of ys
log_parts xs ys same order order' quiet quiet' =
    let submits : ℕ → List Op = λ core. submitted_in core xs in
    log_is submits [] xs nothing_told (λ core. refl) order quiet (λ core n long. absurd (omega (arith, long)))
    ∙ (ap (log_by submits [] None []) (same 0)
    ∙ sym (log_is submits [] ys nothing_told (λ core. submitted_at core xs ∙ (ap (submitted_in core) (same core) ∙ sym (submitted_at core ys))) order' quiet' (λ core n long. absurd (omega (arith, long)))))
