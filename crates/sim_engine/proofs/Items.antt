-- A script's items: they come to an end, and are the same twice.
use Rattle.std.proofs.Common.{◌≡◌, ◌<◌, ◌⊎◌, inl, inr, ℕ, Option, Some, None, List, [], ◌∷◌, ◌++◌, length, refl, ap, sym, ◌∙◌, subst}
use Rattle.std.specs.Prelude.{Ok, Err}
use Rattle.std.specs.List.{All}
use Rattle.std.proofs.lemmas.List.{append_assoc}
use Rattle.filter_table.specs.Limits.{TableLimits}
use Rattle.filter_table.specs.Tables.{table}
use Rattle.world_events.specs.declared.event.Event.{Event}
use Rattle.world_events.specs.declared.event.Event.TheVariants.{StartFor}
use Rattle.world_events.specs.Memory.{LacksMemory, HadMemory}
use Rattle.world_model.specs.Worlds.{World, version_at}
use Rattle.world_model.specs.Refusals.{Reached}
use Rattle.sim_lines.specs.Events.{event_line}
use Rattle.sim_lines.specs.Tables.{table_text}
use Rattle.mk_script.specs.declared.script.Item.{Item}
use Rattle.mk_script.specs.declared.script.Item.TheVariants as item
use Rattle.sim_engine.specs.declared.requests.PendingRequest.{PendingRequest}
use Rattle.sim_engine.specs.declared.way.Way.{Way}
use Rattle.sim_engine.specs.declared.way.Way.TheVariants as way
use Rattle.sim_engine.specs.Pending.{NoneAt}
use Rattle.sim_engine.specs.Simulations.{Simulation, Tells, Applies, Begins, nothing, done, refused, nothing_line, Drains, ends, stops, goes_on, SettlesAll, Shows, no_core_line, Does, Performs}
use Rattle.sim_engine.specs.Ways.{home_of, event_of}
use Rattle.sim_engine.proofs.Departing.{Compared, same, compared_as, compared_texts, compared_then}
use Rattle.sim_engine.proofs.First.{Found, first_or_none, not_none, first_once}
use Rattle.sim_engine.proofs.Twice.{HadTold, Told, is_done, is_refused, told_amply, quiets_amply, reached_told, reached_settled, not_refused, told_twice, quieted_twice}
use Rattle.sim_engine.proofs.Drained.{HadDrains, drains_amply, drained_twice}

sim_is : (s s' : Simulation) → s.world ≡ s'.world → s.pending ≡ s'.pending → s ≡ s'
sim_is s s' worlds pending = λ i. record { world = worlds i; pending = pending i }

-- No core was out of memory

abbrev HadBegins : (s : Simulation) (by : Way) (s' : Simulation) (text : List ℕ) → Begins s by s' text → Type 0
HadBegins s by s' text (nothing none is printed) = Unit {0}
HadBegins s by s' text (done first f answer tells printed) = LacksMemory (event_of by first.op) answer → ⊥
HadBegins s by s' text (refused first rest f fault tells is printed) = Unit {0}

abbrev HadSettles : (s s' : Simulation) (text : List ℕ) → SettlesAll s s' text → Type 0
HadSettles s s' text settles = All HadMemory settles.first.taken × HadDrains settles.rest

abbrev HadDoes : (s : Simulation) (i : Item) (s' : Simulation) (text : List ℕ) → Does s i s' text → Type 0
HadDoes s (item.Ask home op) s' text does = Unit {0}
HadDoes s item.Begin s' text does = HadBegins s way.Start s' text does
HadDoes s (item.Submit core) s' text does = HadBegins s (way.Submit core) s' text does
HadDoes s (item.StartFor core) s' text does = HadTold (StartFor core) does.0
HadDoes s (item.Apply event) s' text does = HadTold event does.0
HadDoes s item.Settle s' text does = HadSettles s s' text does
HadDoes s (item.Show core) s' text does = Unit {0}

abbrev pub HadPerforms : (s : Simulation) (items : List Item) (s' : Simulation) (text : List ℕ) → Performs s items s' text → Type 0
HadPerforms s [] s' text performs = Unit {0}
HadPerforms s (i ∷ items) s' text performs = HadDoes s i performs.0 performs.1 performs.3 × HadPerforms performs.0 items s' performs.2 performs.4

-- What comes to an end

record BeginsAmply (s : Simulation) (by : Way) : Type 0 where
  pub end : Simulation
  pub text : List ℕ
  pub begins : Begins s by end text
  pub had_memory : HadBegins s by end text begins

record DoesAmply (s : Simulation) (i : Item) : Type 0 where
  pub end : Simulation
  pub text : List ℕ
  pub does : Does s i end text
  pub had_memory : HadDoes s i end text does

pub record PerformsAmply (s : Simulation) (items : List Item) : Type 0 where
  pub end : Simulation
  pub text : List ℕ
  pub performs : Performs s items end text
  pub had_memory : HadPerforms s items end text performs

some_shown : (w : World) (core : ℕ) → (text : List ℕ) × Shows w core text
some_shown w core = by (version_at w core) refl
  where
    by : (o : Option ℕ) → version_at w core ≡ o → (text : List ℕ) × Shows w core text
    by (Some version) is = (table_text core (table w.limits w.log version), inl (version, is, refl))
    by None is = (no_core_line core, inr (is, refl))

shown_once : (w : World) (core : ℕ) (text more : List ℕ) → Shows w core text → Shows w core more → text ≡ more
shown_once w core text more (inl x) (inl y) = let a = x.1 in let b = y.1 in let versions : x.0 ≡ y.0 = cc in x.2 ∙ (ap (λ (v : ℕ). table_text core (table w.limits w.log v)) versions ∙ sym y.2)
shown_once w core text more (inl x) (inr y) = absurd (let a = x.1 in let b = y.0 in cc)
shown_once w core text more (inr x) (inl y) = absurd (let a = x.0 in let b = y.1 in cc)
shown_once w core text more (inr x) (inr y) = x.1 ∙ sym y.1

module _ (limits : TableLimits) (budget : ℕ) (budgets : List ℕ) where
  applies_amply : (s : Simulation) (event : Event) → Reached limits budget budgets s.world → (end : Simulation) × (text : List ℕ) × (does : Applies s event end text) × HadTold event does.0
  applies_amply s event run = by (told_amply limits budget budgets s.world event run)
    where
      by : Told s.world event → (end : Simulation) × (text : List ℕ) × (does : Applies s event end text) × HadTold event does.0
      by (is_done answer next tells had) = (record { world = next; pending = s.pending }, event_line event (Ok answer), (Ok answer, tells, refl, refl), had)
      by (is_refused fault tells) = (s, event_line event (Err fault), (Err fault, tells, refl, refl), tt)

  begins_amply : (s : Simulation) (by : Way) → Reached limits budget budgets s.world → BeginsAmply s by
  begins_amply s by run = by_first (first_or_none (home_of by) s.pending)
    where
      by_first : NoneAt (home_of by) s.pending ⊎ Found (home_of by) s.pending → BeginsAmply s by
      by_first (inl none) = record { end = s; text = nothing_line by; begins = nothing none refl refl; had_memory = tt }
      by_first (inr found) = by_told (told_amply limits budget budgets s.world (event_of by found.first.op) run)
        where
          by_told : Told s.world (event_of by found.first.op) → BeginsAmply s by
          by_told (is_done answer next tells had) = record {
            end = record { world = next; pending = found.rest };
            text = event_line (event_of by found.first.op) (Ok answer);
            begins = done found.first found.is_first answer tells refl;
            had_memory = had;
          }
          by_told (is_refused fault tells) = record {
            end = s;
            text = event_line (event_of by found.first.op) (Err fault);
            begins = refused found.first found.rest found.is_first fault tells refl refl;
            had_memory = tt;
          }

  does_amply : (s : Simulation) (i : Item) → Reached limits budget budgets s.world → DoesAmply s i
  does_amply s (item.Ask home op) run = record { end = record s { pending = s.pending ++ record { home = home; op = op } ∷ [] }; text = []; does = (refl, refl); had_memory = tt }
  does_amply s item.Begin run = let b = begins_amply s way.Start run in record { end = b.end; text = b.text; does = b.begins; had_memory = b.had_memory }
  does_amply s (item.Submit core) run = let b = begins_amply s (way.Submit core) run in record { end = b.end; text = b.text; does = b.begins; had_memory = b.had_memory }
  does_amply s (item.StartFor core) run = let a = applies_amply s (StartFor core) run in record { end = a.0; text = a.1; does = a.2; had_memory = a.3 }
  does_amply s (item.Apply event) run = let a = applies_amply s event run in record { end = a.0; text = a.1; does = a.2; had_memory = a.3 }
  does_amply s item.Settle run =
      let q = quiets_amply limits budget budgets s.world run in
      let d = drains_amply limits budget budgets (record { world = q.end; pending = s.pending }) (reached_settled limits budget budgets s.world q.end q.quiets.taken run q.quiets.settles) in
      record {
        end = d.end;
        text = q.text ++ d.text;
        does = record { quiet = q.end; taken = q.text; later = d.text; first = q.quiets; rest = d.drains; printed = refl };
        had_memory = (q.had_memory, d.had_memory);
      }
  does_amply s (item.Show core) run = let t = some_shown s.world core in record { end = s; text = t.0; does = (refl, t.1); had_memory = tt }

  -- A run goes on

  reached_drained : {s s' : Simulation} {text : List ℕ} → Drains s s' text → Reached limits budget budgets s.world → Reached limits budget budgets s'.world
  reached_drained (ends s left) run = run
  reached_drained (stops s event rest fault next tells) run = run
  reached_drained (goes_on s s' event rest answer begun quiet taken later next tells quiets drains) run =
      reached_drained drains (reached_settled limits budget budgets begun quiet quiets.taken (reached_told limits budget budgets s.world begun event (Ok answer) run tells) quiets.settles)

  reached_begun : (s s' : Simulation) (by : Way) (text : List ℕ) → Reached limits budget budgets s.world → Begins s by s' text → Reached limits budget budgets s'.world
  reached_begun s s' by text run (nothing none is printed) = subst (λ (x : Simulation). Reached limits budget budgets x.world) (sym is) run
  reached_begun s s' by text run (done first f answer tells printed) = reached_told limits budget budgets s.world s'.world (event_of by first.op) (Ok answer) run tells
  reached_begun s s' by text run (refused first rest f fault tells is printed) = subst (λ (x : Simulation). Reached limits budget budgets x.world) (sym is) run

  reached_settles : (s s' : Simulation) (text : List ℕ) → Reached limits budget budgets s.world → SettlesAll s s' text → Reached limits budget budgets s'.world
  reached_settles s s' text run settles = reached_drained settles.rest (reached_settled limits budget budgets s.world settles.quiet settles.first.taken run settles.first.settles)

  pub reached_does : (s s' : Simulation) (i : Item) (text : List ℕ) → Reached limits budget budgets s.world → Does s i s' text → Reached limits budget budgets s'.world
  reached_does s s' (item.Ask home op) text run does = subst (λ (x : Simulation). Reached limits budget budgets x.world) (sym does.0) run
  reached_does s s' item.Begin text run does = reached_begun s s' way.Start text run does
  reached_does s s' (item.Submit core) text run does = reached_begun s s' (way.Submit core) text run does
  reached_does s s' (item.StartFor core) text run does = reached_told limits budget budgets s.world s'.world (StartFor core) does.0 run does.1
  reached_does s s' (item.Apply event) text run does = reached_told limits budget budgets s.world s'.world event does.0 run does.1
  reached_does s s' item.Settle text run does = reached_settles s s' text run does
  reached_does s s' (item.Show core) text run does = subst (λ (x : Simulation). Reached limits budget budgets x.world) (sym does.0) run

  pub performs_amply : (s : Simulation) (items : List Item) → Reached limits budget budgets s.world → PerformsAmply s items
  performs_amply s [] run = record { end = s; text = []; performs = (refl, refl); had_memory = tt }
  performs_amply s (i ∷ items) run =
      let now = does_amply s i run in
      let later = performs_amply now.end items (reached_does s now.end i now.text run now.does) in
      record {
        end = later.end;
        text = now.text ++ later.text;
        performs = (now.end, now.text, later.text, now.does, later.performs, refl);
        had_memory = (now.had_memory, later.had_memory);
      }

  -- what was done is a front of all
  pub performs_on : (s s' : Simulation) (before after : List Item) (text : List ℕ) → Reached limits budget budgets s.world → Performs s before s' text → (end : Simulation) × (more : List ℕ) × Performs s (before ++ after) end (text ++ more)
  performs_on s s' [] after text run performs =
      let rest = performs_amply s after run in
      (rest.end, rest.text, subst (λ (t : List ℕ). Performs s after rest.end (t ++ rest.text)) (sym performs.1) rest.performs)
  performs_on s s' (i ∷ before) after text run performs =
      let rest = performs_on performs.0 s' before after performs.2 (reached_does s performs.0 i performs.1 run performs.3) performs.4 in
      (rest.0, rest.1, (performs.0, performs.1, performs.2 ++ rest.1, performs.3, rest.2, ap (λ (t : List ℕ). t ++ rest.1) performs.5 ∙ append_assoc performs.1 performs.2 rest.1))

  -- Twice

  module _ (few : length budgets < 64) where
    begun_twice : (s a b : Simulation) (by : Way) (t u : List ℕ) → Reached limits budget budgets s.world → (x : Begins s by a t) → Begins s by b u → Compared Simulation (HadBegins s by a t x) a b t u
    begun_twice s a b by t u run (nothing none is printed) (nothing none' is' printed') = same (is ∙ sym is') (printed ∙ sym printed')
    begun_twice s a b by t u run (nothing none is printed) (done first f answer tells printed') = absurd (not_none (home_of by) s.pending first b.pending f none)
    begun_twice s a b by t u run (nothing none is printed) (refused first rest f fault tells is' printed') = absurd (not_none (home_of by) s.pending first rest f none)
    begun_twice s a b by t u run (done first f answer tells printed) (nothing none is printed') = absurd (not_none (home_of by) s.pending first a.pending f none)
    begun_twice s a b by t u run (done first f answer tells printed) (done first' f' answer' tells' printed') =
        let e = first_once (home_of by) s.pending first' first b.pending a.pending f' f in
        let event = event_of by first.op in
        compared_as World Simulation (LacksMemory event answer → ⊥) (LacksMemory event answer → ⊥) a.world b.world a b t u (λ is. sim_is a b is (sym e.1)) (λ had. had)
        (compared_texts World (LacksMemory event answer → ⊥) a.world b.world (event_line event (Ok answer)) t (event_line event (Ok answer')) u printed (printed' ∙ ap (λ (r : PendingRequest). event_line (event_of by r.op) (Ok answer')) e.0)
        (told_twice limits budget budgets s.world a.world b.world event (Ok answer) (Ok answer') run tells (subst (λ (r : PendingRequest). Tells s.world (event_of by r.op) (Ok answer') b.world) e.0 tells')))
    begun_twice s a b by t u run (done first f answer tells printed) (refused first' rest f' fault tells' is printed') =
        let e = first_once (home_of by) s.pending first' first rest a.pending f' f in
        absurd (not_refused limits budget budgets s.world a.world b.world (event_of by first.op) answer fault run tells (subst (λ (r : PendingRequest). Tells s.world (event_of by r.op) (Err fault) b.world) e.0 tells'))
    begun_twice s a b by t u run (refused first rest f fault tells is printed) (nothing none is' printed') = absurd (not_none (home_of by) s.pending first rest f none)
    begun_twice s a b by t u run (refused first rest f fault tells is printed) (done first' f' answer tells' printed') =
        let e = first_once (home_of by) s.pending first first' rest b.pending f f' in
        absurd (not_refused limits budget budgets s.world b.world a.world (event_of by first'.op) answer fault run tells' (subst (λ (r : PendingRequest). Tells s.world (event_of by r.op) (Err fault) a.world) e.0 tells))
    begun_twice s a b by t u run (refused first rest f fault tells is printed) (refused first' rest' f' fault' tells' is' printed') =
        let e = first_once (home_of by) s.pending first' first rest' rest f' f in
        let event = event_of by first.op in
        compared_as World Simulation (Unit {0}) (Unit {0}) a.world b.world a b t u (λ same'. is ∙ sym is') (λ had. had)
        (compared_texts World (Unit {0}) a.world b.world (event_line event (Err fault)) t (event_line event (Err fault')) u printed (printed' ∙ ap (λ (r : PendingRequest). event_line (event_of by r.op) (Err fault')) e.0)
        (told_twice limits budget budgets s.world a.world b.world event (Err fault) (Err fault') run tells (subst (λ (r : PendingRequest). Tells s.world (event_of by r.op) (Err fault') b.world) e.0 tells')))

    applied_twice : (s a b : Simulation) (event : Event) (t u : List ℕ) → Reached limits budget budgets s.world → (x : Applies s event a t) → Applies s event b u → Compared Simulation (HadTold event x.0) a b t u
    applied_twice s a b event t u run x y =
        compared_as World Simulation (HadTold event x.0) (HadTold event x.0) a.world b.world a b t u (λ is. sim_is a b is (x.2 ∙ sym y.2)) (λ had. had)
        (compared_texts World (HadTold event x.0) a.world b.world (event_line event x.0) t (event_line event y.0) u x.3 y.3
        (told_twice limits budget budgets s.world a.world b.world event x.0 y.0 run x.1 y.1))

    settled_all_twice : (s a b : Simulation) (t u : List ℕ) → Reached limits budget budgets s.world → (x : SettlesAll s a t) → SettlesAll s b u → Compared Simulation (HadSettles s a t x) a b t u
    settled_all_twice s a b t u run x y =
        compared_texts Simulation (HadSettles s a t x) a b (x.taken ++ x.later) t (y.taken ++ y.later) u x.printed y.printed
        (compared_then World Simulation (All HadMemory x.first.taken) (HadDrains x.rest) x.quiet y.quiet a b x.taken y.taken x.later y.later
        (quieted_twice limits budget budgets s.world x.quiet y.quiet x.taken y.taken x.first run y.first)
        (λ is. drained_twice limits budget budgets few x.rest b y.later (reached_settled limits budget budgets s.world x.quiet x.first.taken run x.first.settles)
        (subst (λ (w : World). Drains (record { world = w; pending = s.pending }) b y.later) (sym is) y.rest)))

    done_twice : (s a b : Simulation) (i : Item) (t u : List ℕ) → Reached limits budget budgets s.world → (x : Does s i a t) → Does s i b u → Compared Simulation (HadDoes s i a t x) a b t u
    done_twice s a b (item.Ask home op) t u run x y = same (x.0 ∙ sym y.0) (x.1 ∙ sym y.1)
    done_twice s a b item.Begin t u run x y = begun_twice s a b way.Start t u run x y
    done_twice s a b (item.Submit core) t u run x y = begun_twice s a b (way.Submit core) t u run x y
    done_twice s a b (item.StartFor core) t u run x y = applied_twice s a b (StartFor core) t u run x y
    done_twice s a b (item.Apply event) t u run x y = applied_twice s a b event t u run x y
    done_twice s a b item.Settle t u run x y = settled_all_twice s a b t u run x y
    done_twice s a b (item.Show core) t u run x y = same (x.0 ∙ sym y.0) (shown_once s.world core t u x.1 y.1)

    pub performed_twice : (s a b : Simulation) (items : List Item) (t u : List ℕ) → Reached limits budget budgets s.world → (x : Performs s items a t) → Performs s items b u → Compared Simulation (HadPerforms s items a t x) a b t u
    performed_twice s a b [] t u run x y = same (x.0 ∙ sym y.0) (x.1 ∙ sym y.1)
    performed_twice s a b (i ∷ items) t u run x y =
        compared_texts Simulation (HadPerforms s (i ∷ items) a t x) a b (x.1 ++ x.2) t (y.1 ++ y.2) u x.5 y.5
        (compared_then Simulation Simulation (HadDoes s i x.0 x.1 x.3) (HadPerforms x.0 items a x.2 x.4) x.0 y.0 a b x.1 y.1 x.2 y.2
        (done_twice s x.0 y.0 i x.1 y.1 run x.3 y.3)
        (λ is. performed_twice x.0 a b items x.2 y.2 (reached_does s x.0 i x.1 run x.3) x.4 (subst (λ (m : Simulation). Performs m items b y.2) (sym is) y.4)))
