-- What settling begins: it comes to an end, and is the same twice.
use Rattle.std.proofs.Common.{◌≡◌, ◌<◌, ◌+◌, ◌⊎◌, inl, inr, ℕ, zero, suc, Option, Some, None, List, [], ◌∷◌, ◌++◌, length, slice_get, refl, ap, sym, ◌∙◌, subst, arith}
use Rattle.std.specs.Prelude.{Ok, Err, option_and_then}
use Rattle.std.specs.List.{All}
use Rattle.std.proofs.lemmas.Bool.{cases_lt}
use Rattle.std.proofs.lemmas.Option.{slice_get_within}
use Rattle.filter_table.specs.Limits.{TableLimits}
use Rattle.filter_table.specs.declared.operation.Op.{Op}
use Rattle.world_events.specs.declared.event.Event.{Event}
use Rattle.world_events.specs.declared.event.Event.TheVariants.{StartFor}
use Rattle.world_events.specs.declared.event.Answer.{Answer}
use Rattle.world_events.specs.declared.fault.WorldFault.{WorldFault}
use Rattle.world_events.specs.Memory.{LacksMemory, HadMemory}
use Rattle.world_model.specs.Worlds.{World}
use Rattle.world_model.proofs.RunLaws.{run_agrees}
use Rattle.world_model.specs.Refusals.{Reached, waiting_at}
use Rattle.sim_lines.specs.Events.{event_line}
use Rattle.sim_engine.specs.declared.requests.PendingRequest.{PendingRequest}
use Rattle.sim_engine.specs.Settling.{most_left}
use Rattle.sim_engine.specs.Simulations.{Simulation, Tells, Next, waits, asked, NoneWaits, NothingLeft, Quiets, Drains, ends, stops, goes_on}
use Rattle.sim_engine.specs.Ways.{event_of, way_of}
use Rattle.sim_engine.proofs.Departing.{Compared, same, compared_as, compared_texts, compared_then}
use Rattle.sim_engine.proofs.Settling.{begun_leaves}
use Rattle.sim_engine.proofs.Twice.{Told, is_done, is_refused, told_amply, quiets_amply, reached_more, reached_settled, not_refused, told_twice, quieted_twice}

-- What is next

-- the least core below this one that has a request waiting
record LeastWaiting (w : World) : Type 0 where
  pub core : ℕ
  pub op : Op
  pub at : waiting_at w core ≡ Some op
  pub least : (less : ℕ) → less < core → waiting_at w less ≡ None

abbrev NoneBelow : World → ℕ → Type 0
NoneBelow w n = (core : ℕ) → core < n → waiting_at w core ≡ None

least_waiting : (w : World) (n : ℕ) → NoneBelow w n ⊎ LeastWaiting w
least_waiting w zero = inl (λ core less. absurd (omega arith))
least_waiting w (suc n) = by (least_waiting w n) (waiting_at w n) refl
  where
    by : NoneBelow w n ⊎ LeastWaiting w → (o : Option Op) → waiting_at w n ≡ o → NoneBelow w (suc n) ⊎ LeastWaiting w
    by (inr found) o is = inr found
    by (inl none) (Some op) is = inr (record { core = n; op = op; at = is; least = none })
    by (inl none) None is = inl (λ core less. elim (cases_lt core n) [
      | inl below ↦ none core below
      | inr above ↦ let this : n ≡ core = omega arith in subst (λ (c : ℕ). waiting_at w c ≡ None) this is
    ])

data NextOrNothing (s : Simulation) : Type 0 where
  some_next : (event : Event) (rest : List PendingRequest) → Next s event rest → NextOrNothing s
  nothing_left : NothingLeft s → NextOrNothing s

next_or_nothing : (s : Simulation) → NextOrNothing s
next_or_nothing s = by (least_waiting s.world 64) s.pending refl
  where
    by : NoneBelow s.world 64 ⊎ LeastWaiting s.world → (pending : List PendingRequest) → s.pending ≡ pending → NextOrNothing s
    by (inr found) pending is = some_next (StartFor found.core) s.pending (waits found.core found.op found.at found.least refl refl)
    by (inl none) [] is = nothing_left (record { none_waits = none; none_pending = is })
    by (inl none) (first ∷ rest) is = some_next (event_of (way_of first.home) first.op) rest (asked first none is refl)

waits_there : (o : Option (Option Op)) (op : Op) → option_and_then (λ waits. waits) o ≡ Some op → o ≡ Some (Some op)
waits_there None op e = absurd cc
waits_there (Some None) op e = absurd cc
waits_there (Some (Some other)) op e = ap (λ (x : Option Op). Some x) e

-- Draining

-- no core was out of memory
abbrev pub HadDrains : {s s' : Simulation} {text : List ℕ} → Drains s s' text → Type 0
HadDrains (ends s left) = Unit {0}
HadDrains (stops s event rest fault next tells) = Unit {0}
HadDrains (goes_on s s' event rest answer begun quiet taken later next tells quiets drains) = ((LacksMemory event answer → ⊥) × All HadMemory quiets.taken) × HadDrains drains

-- how it began
data Drained (s s' : Simulation) (text : List ℕ) : Type 0 where
  ended : NothingLeft s → s' ≡ s → text ≡ [] → Drained s s' text
  stopped : (event : Event) (rest : List PendingRequest) (fault : WorldFault) → Next s event rest → Tells s.world event (Err fault) s.world → s' ≡ s → text ≡ event_line event (Err fault) → Drained s s' text
  went_on : (event : Event) (rest : List PendingRequest) (answer : Answer) (begun quiet : World) (taken later : List ℕ) → Next s event rest → Tells s.world event (Ok answer) begun → Quiets begun quiet taken
      → Drains (record { world = quiet; pending = rest }) s' later → text ≡ event_line event (Ok answer) ++ taken ++ later → Drained s s' text

drained : {s s' : Simulation} {text : List ℕ} → Drains s s' text → Drained s s' text
drained (ends s left) = ended left refl refl
drained (stops s event rest fault next tells) = stopped event rest fault next tells refl refl
drained (goes_on s s' event rest answer begun quiet taken later next tells quiets drains) = went_on event rest answer begun quiet taken later next tells quiets drains refl

pub record DrainsAmply (s : Simulation) : Type 0 where
  pub end : Simulation
  pub text : List ℕ
  pub drains : Drains s end text
  pub had_memory : HadDrains drains

module _ (limits : TableLimits) (budget : ℕ) (budgets : List ℕ) where
  -- what is begun, where less than this is left and what leaves less than it drains
  drains_next : (n : ℕ) (s : Simulation) → Reached limits budget budgets s.world → most_left s < suc n → ((s' : Simulation) → Reached limits budget budgets s'.world → most_left s' < n → DrainsAmply s') → NextOrNothing s → DrainsAmply s
  drains_next n s run less more (nothing_left left) = record { end = s; text = []; drains = ends s left; had_memory = tt }
  drains_next n s run less more (some_next event rest next) = by_told (told_amply limits budget budgets s.world event run)
    where
      by_told : Told s.world event → DrainsAmply s
      by_told (is_refused fault tells) = record { end = s; text = event_line event (Err fault); drains = stops s event rest fault next tells; had_memory = tt }
      by_told (is_done answer begun tells had) =
          let run' = reached_more limits budget budgets s.world begun event answer run tells in
          let quiet = quiets_amply limits budget budgets begun run' in
          let s' : Simulation = record { world = quiet.end; pending = rest } in
          let later = more s' (reached_settled limits budget budgets begun quiet.end quiet.quiets.taken run' quiet.quiets.settles)
          (omega (arith, less, begun_leaves s begun quiet.end event rest answer quiet.text next tells quiet.quiets)) in
          record {
            end = later.end;
            text = event_line event (Ok answer) ++ quiet.text ++ later.text;
            drains = goes_on s later.end event rest answer begun quiet.end quiet.text later.text next tells quiet.quiets later.drains;
            had_memory = ((had, quiet.had_memory), later.had_memory);
          }

  drains_within : (n : ℕ) (s : Simulation) → Reached limits budget budgets s.world → most_left s < n → DrainsAmply s
  drains_within zero s run less = absurd (omega arith)
  drains_within (suc n) s run less = drains_next n s run less (λ s' run' less'. drains_within n s' run' less') (next_or_nothing s)

  pub drains_amply : (s : Simulation) → Reached limits budget budgets s.world → DrainsAmply s
  drains_amply s run = drains_within (most_left s + 1) s run (omega arith)

  -- Twice

  module _ (few : length budgets < 64) where
    waits_low : (w : World) (core : ℕ) (op : Op) → Reached limits budget budgets w → waiting_at w core ≡ Some op → core < 64
    waits_low w zero op run at = absurd cc
    waits_low w (suc entry) op run at =
        let within = slice_get_within w.requests.waiting entry (Some op) (waits_there (slice_get w.requests.waiting entry) op at) in
        omega (arith, within, few, (run_agrees limits budget budgets run.0 w run.1).waiting_kept)

    not_waiting : (w : World) (core : ℕ) (op : Op) → Reached limits budget budgets w → NoneWaits w → waiting_at w core ≡ Some op → ⊥
    not_waiting w core op run none at = let x = none core (waits_low w core op run at) in cc

    same_core : (w : World) (c c' : ℕ) (op op' : Op) → waiting_at w c ≡ Some op → waiting_at w c' ≡ Some op' → NoneBelow w c → NoneBelow w c' → c ≡ c'
    same_core w c c' op op' at at' least least' = elim (cases_lt c c') [
      | inl less ↦ absurd (let x = least' c less in cc)
      | inr above ↦ elim (cases_lt c' c) [
        | inl less ↦ absurd (let x = least c' less in cc)
        | inr above' ↦ omega arith
      ]
    ]

    next_twice : (s : Simulation) (event event' : Event) (rest rest' : List PendingRequest) → Reached limits budget budgets s.world → Next s event rest → Next s event' rest' → (event ≡ event') × (rest ≡ rest')
    next_twice s event event' rest rest' run (waits core op at least is left) (waits core' op' at' least' is' left') =
        (is ∙ ap (λ (c : ℕ). StartFor c) (same_core s.world core core' op op' at at' least least') ∙ sym is', left ∙ sym left')
    next_twice s event event' rest rest' run (waits core op at least is left) (asked first none pending is') = absurd (not_waiting s.world core op run none at)
    next_twice s event event' rest rest' run (asked first none pending is) (waits core op at least is' left) = absurd (not_waiting s.world core op run none at)
    next_twice s event event' rest rest' run (asked first none pending is) (asked first' none' pending' is') =
        let lists : first ∷ rest ≡ first' ∷ rest' = sym pending ∙ pending' in
        let firsts : first ≡ first' = cc in
        (is ∙ ap (λ (r : PendingRequest). event_of (way_of r.home) r.op) firsts ∙ sym is', cc)

    next_left : (s : Simulation) (event : Event) (rest : List PendingRequest) → Reached limits budget budgets s.world → Next s event rest → NothingLeft s → ⊥
    next_left s event rest run (waits core op at least is left) nothing = not_waiting s.world core op run nothing.none_waits at
    next_left s event rest run (asked first none pending is) nothing = let x = nothing.none_pending in cc

    pub drained_twice : {s a : Simulation} {t : List ℕ} (x : Drains s a t) (b : Simulation) (u : List ℕ) → Reached limits budget budgets s.world → Drains s b u → Compared Simulation (HadDrains x) a b t u
    drained_twice (ends s left) b u run y = by (drained y)
      where
        by : Drained s b u → Compared Simulation (Unit {0}) s b [] u
        by (ended left' is printed) = same (sym is) (sym printed)
        by (stopped event rest fault next tells is printed) = absurd (next_left s event rest run next left)
        by (went_on event rest answer begun quiet taken later next tells quiets drains printed) = absurd (next_left s event rest run next left)
    drained_twice (stops s event rest fault next tells) b u run y = by (drained y)
      where
        by : Drained s b u → Compared Simulation (Unit {0}) s b (event_line event (Err fault)) u
        by (ended left is printed) = absurd (next_left s event rest run next left)
        by (stopped event' rest' fault' next' tells' is printed) =
            let e = next_twice s event' event rest' rest run next' next in
            compared_as World Simulation (Unit {0}) (Unit {0}) s.world s.world s b (event_line event (Err fault)) u (λ same'. sym is) (λ had. had)
            (compared_texts World (Unit {0}) s.world s.world (event_line event (Err fault)) (event_line event (Err fault)) (event_line event (Err fault')) u refl (printed ∙ ap (λ (v : Event). event_line v (Err fault')) e.0)
            (told_twice limits budget budgets s.world s.world s.world event (Err fault) (Err fault') run tells (subst (λ (v : Event). Tells s.world v (Err fault') s.world) e.0 tells')))
        by (went_on event' rest' answer begun quiet taken later next' tells' quiets drains printed) =
            let e = next_twice s event' event rest' rest run next' next in
            absurd (not_refused limits budget budgets s.world begun s.world event answer fault run (subst (λ (v : Event). Tells s.world v (Ok answer) begun) e.0 tells') tells)
    drained_twice (goes_on s a event rest answer begun quiet taken later next tells quiets drains) b u run y = by (λ u' y'. drained_twice drains b u' (reached_settled limits budget budgets begun quiet quiets.taken run' quiets.settles) y') (drained y)
      where
        run' : Reached limits budget budgets begun
        run' = reached_more limits budget budgets s.world begun event answer run tells

        by : ((u' : List ℕ) → Drains (record { world = quiet; pending = rest }) b u' → Compared Simulation (HadDrains drains) a b later u')
            → Drained s b u → Compared Simulation (((LacksMemory event answer → ⊥) × All HadMemory quiets.taken) × HadDrains drains) a b (event_line event (Ok answer) ++ taken ++ later) u
        by more (ended left is printed) = absurd (next_left s event rest run next left)
        by more (stopped event' rest' fault next' tells' is printed) =
            let e = next_twice s event' event rest' rest run next' next in
            absurd (not_refused limits budget budgets s.world begun s.world event answer fault run tells (subst (λ (v : Event). Tells s.world v (Err fault) s.world) e.0 tells'))
        by more (went_on event' rest' answer' begun' quiet' taken' later' next' tells' quiets' drains' printed) =
            let e = next_twice s event' event rest' rest run next' next in
            compared_texts Simulation (((LacksMemory event answer → ⊥) × All HadMemory quiets.taken) × HadDrains drains) a b (event_line event (Ok answer) ++ taken ++ later) (event_line event (Ok answer) ++ taken ++ later)
            (event_line event (Ok answer') ++ taken' ++ later') u refl (printed ∙ ap (λ (v : Event). event_line v (Ok answer') ++ taken' ++ later') e.0)
            (compared_then World Simulation ((LacksMemory event answer → ⊥) × All HadMemory quiets.taken) (HadDrains drains) quiet quiet' a b (event_line event (Ok answer) ++ taken) (event_line event (Ok answer') ++ taken') later later'
            (compared_then World World (LacksMemory event answer → ⊥) (All HadMemory quiets.taken) begun begun' quiet quiet' (event_line event (Ok answer)) (event_line event (Ok answer')) taken taken'
            (told_twice limits budget budgets s.world begun begun' event (Ok answer) (Ok answer') run tells (subst (λ (v : Event). Tells s.world v (Ok answer') begun') e.0 tells'))
            (λ is. quieted_twice limits budget budgets begun quiet quiet' taken taken' quiets run' (subst (λ (w : World). Quiets w quiet' taken') (sym is) quiets')))
            (λ is. more later'
            (subst (λ (r : List PendingRequest). Drains (record { world = quiet; pending = r }) b later') e.1 (subst (λ (w : World). Drains (record { world = w; pending = rest' }) b later') (sym is) drains'))))
