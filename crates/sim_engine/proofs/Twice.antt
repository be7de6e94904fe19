-- One event that is told twice, and messages that are taken twice.
use Rattle.std.proofs.Common.{◌≡◌, ◌≢◌, ◌⊎◌, inl, inr, ℕ, List, [], ◌∷◌, ◌++◌, refl, ap, sym, ◌∙◌, subst}
use Rattle.std.specs.Prelude.{Result, Ok, Err}
use Rattle.std.specs.List.{All, flat_map}
use Rattle.std.proofs.lemmas.List.{append-nil}
use Rattle.std.proofs.lemmas.List.Elements.{All-head, All-tail}
use Rattle.world_events.specs.declared.event.Event.{Event}
use Rattle.world_events.specs.declared.event.Event.TheVariants.{Start, Submit, StartFor, Take, Rx}
use Rattle.world_events.specs.declared.event.Answer.{Answer}
use Rattle.world_events.specs.declared.event.Done.{Done}
use Rattle.world_events.specs.declared.fault.WorldFault.{WorldFault}
use Rattle.world_events.specs.declared.fault.WorldFault.TheVariants.{NoSuchCore, Nothing, NotReady, NotIdle, Spent, Outstanding, NoneWaiting, NoMemory}
use Rattle.world_events.specs.Memory.{LacksMemory, HadMemory}
use Rattle.world_model.specs.Worlds.{World, boot, Happens}
use Rattle.world_model.proofs.Runs.{runs_more}
use Rattle.world_model.specs.Refusals.{WorldRefuses, StandsFirst, Reached, AllQuiet, Settles}
use Rattle.world_progress.specs.Progress.{DoneOrRefused}
use Rattle.world_progress.proofs.Told.{event_told}
use Rattle.world_progress.proofs.Ends.{run_settles}
use Rattle.world_progress.proofs.Once.{lacks_or_not, stands_once, next_once, quiet_no_next}
use Rattle.world_progress.proofs.SameRuns.{happens_once}
use Rattle.world_progress.proofs.NotRefused.{none_stands}
use Rattle.sim_lines.specs.Events.{event_line, done_line}
use Rattle.sim_engine.specs.Memory.{DepartsByMemory}
use Rattle.sim_engine.specs.Simulations.{Tells, Quiets}
use Rattle.sim_engine.proofs.Departing.{Compared, same, one_lacks, other_lacks, compared_as, compared_texts, compared_then}
use Rattle.filter_table.specs.Limits.{TableLimits}

-- a fault that is told stands
pub stands : (w : World) (event : Event) (fault : WorldFault) → fault ≢ NoMemory → WorldRefuses w event fault → StandsFirst w event fault
stands w event NoMemory other h = absurd (other refl)
stands w event NoSuchCore other h = h
stands w event Nothing other h = h
stands w event NotReady other h = h
stands w event NotIdle other h = h
stands w event Spent other h = h
stands w event Outstanding other h = h
stands w event NoneWaiting other h = h

none_lacks : (w : World) (event : Event) → StandsFirst w event NoMemory → ⊥
none_lacks w (Start op) h = h
none_lacks w (Submit core op) h = h
none_lacks w (StartFor core) h = h
none_lacks w (Take to from short) h = h
none_lacks w (Rx core number packet floor) h = h

-- a fault that stands is told
refuses : (w : World) (event : Event) (fault : WorldFault) → StandsFirst w event fault → Tells w event (Err fault) w
refuses w event NoMemory h = absurd (none_lacks w event h)
refuses w event NoSuchCore h = (λ e. cc, h, refl)
refuses w event Nothing h = (λ e. cc, h, refl)
refuses w event NotReady h = (λ e. cc, h, refl)
refuses w event NotIdle h = (λ e. cc, h, refl)
refuses w event Spent h = (λ e. cc, h, refl)
refuses w event Outstanding h = (λ e. cc, h, refl)
refuses w event NoneWaiting h = (λ e. cc, h, refl)

-- what was told had memory
abbrev pub HadTold : Event → Result Answer WorldFault → Type 0
HadTold event (Ok answer) = LacksMemory event answer → ⊥
HadTold event (Err fault) = Unit {0}

-- a line alone
abbrev departs_here : (event : Event) (answer lacking : Answer) → LacksMemory event lacking → DepartsByMemory (event_line event (Ok answer)) (event_line event (Ok lacking))
departs_here event answer lacking lacks = record {
  front = [];
  event = event;
  answer = answer;
  lacking = lacking;
  lacks = lacks;
  more = [];
  later = [];
  text_is = sym (append-nil (event_line event (Ok answer)));
  other_is = sym (append-nil (event_line event (Ok lacking)));
}

-- an event is told, and no core is out of memory
pub data Told (w : World) (event : Event) : Type 0 where
  is_done : (answer : Answer) (next : World) → Tells w event (Ok answer) next → (LacksMemory event answer → ⊥) → Told w event
  is_refused : (fault : WorldFault) → Tells w event (Err fault) w → Told w event

-- all messages are taken, and no core is out of memory
pub record QuietsAmply (w : World) : Type 0 where
  pub end : World
  pub text : List ℕ
  pub quiets : Quiets w end text
  pub had_memory : All HadMemory quiets.taken

module _ (limits : TableLimits) (budget : ℕ) (budgets : List ℕ) where
  pub told_amply : (w : World) (event : Event) → Reached limits budget budgets w → Told w event
  told_amply w event run = by (event_told limits budget budgets run.0 w event run.1)
    where
      by : DoneOrRefused w event → Told w event
      by (inl d) = is_done d.answer d.next d.happens d.had_memory
      by (inr f) = is_refused f.0 (refuses w event f.0 f.1)

  pub quiets_amply : (w : World) → Reached limits budget budgets w → QuietsAmply w
  quiets_amply w run =
      let s = run_settles limits budget budgets run.0 w run.1 in
      record { end = s.end; text = flat_map done_line s.taken; quiets = record { taken = s.taken; settles = s.settles; quiet = s.quiet; printed = refl }; had_memory = s.had_memory }

  -- a run goes on
  pub reached_more : (w w' : World) (event : Event) (answer : Answer) → Reached limits budget budgets w → Happens w event w' answer → Reached limits budget budgets w'
  reached_more w w' event answer run h = (run.0 ++ record { event = event; answer = answer } ∷ [], runs_more (boot limits budget budgets) w w' run.0 (record { event = event; answer = answer }) run.1 h)

  pub reached_told : (w w' : World) (event : Event) (told : Result Answer WorldFault) → Reached limits budget budgets w → Tells w event told w' → Reached limits budget budgets w'
  reached_told w w' event (Ok answer) run tells = reached_more w w' event answer run tells
  reached_told w w' event (Err fault) run tells = subst (Reached limits budget budgets) (sym tells.2) run

  pub reached_settled : (w w' : World) (taken : List Done) → Reached limits budget budgets w → Settles w taken w' → Reached limits budget budgets w'
  reached_settled w w' [] run settles = subst (Reached limits budget budgets) (sym settles) run
  reached_settled w w' (done ∷ taken) run settles = reached_settled settles.0 w' taken (reached_more w settles.0 done.event done.answer run settles.2) settles.3

  -- what happens isn't refused
  pub not_refused : (w w1 w2 : World) (event : Event) (answer : Answer) (fault : WorldFault) → Reached limits budget budgets w → Tells w event (Ok answer) w1 → Tells w event (Err fault) w2 → ⊥
  not_refused w w1 w2 event answer fault run done refused = none_stands limits budget budgets run.0 w w1 event answer fault run.1 done (stands w event fault refused.0 refused.1)

  pub told_twice : (w w1 w2 : World) (event : Event) (t1 t2 : Result Answer WorldFault) → Reached limits budget budgets w → Tells w event t1 w1 → Tells w event t2 w2
      → Compared World (HadTold event t1) w1 w2 (event_line event t1) (event_line event t2)
  told_twice w w1 w2 event (Ok a1) (Ok a2) run x y = by (lacks_or_not event a1) (lacks_or_not event a2)
    where
      by : LacksMemory event a1 ⊎ (LacksMemory event a1 → ⊥) → LacksMemory event a2 ⊎ (LacksMemory event a2 → ⊥)
          → Compared World (LacksMemory event a1 → ⊥) w1 w2 (event_line event (Ok a1)) (event_line event (Ok a2))
      by (inl lacks) other = one_lacks (λ had. had lacks) (departs_here event a2 a1 lacks)
      by (inr had) (inl lacks) = other_lacks (record { departs = departs_here event a1 a2 lacks; had_memory = had })
      by (inr had) (inr had') = let once = happens_once w w1 w2 event a1 a2 x y had had' in same once.1 (ap (λ (a : Answer). event_line event (Ok a)) once.0)
  told_twice w w1 w2 event (Ok a1) (Err f2) run x y = absurd (not_refused w w1 w2 event a1 f2 run x y)
  told_twice w w1 w2 event (Err f1) (Ok a2) run x y = absurd (not_refused w w2 w1 event a2 f1 run y x)
  told_twice w w1 w2 event (Err f1) (Err f2) run x y =
      same (x.2 ∙ sym y.2) (ap (λ (f : WorldFault). event_line event (Err f)) (stands_once w event f1 f2 (stands w event f1 x.0 x.1) (stands w event f2 y.0 y.1)))

  settled_twice : (w w1 w2 : World) (xs ys : List Done) → Reached limits budget budgets w → Settles w xs w1 → AllQuiet w1 → Settles w ys w2 → AllQuiet w2
      → Compared World (All HadMemory xs) w1 w2 (flat_map done_line xs) (flat_map done_line ys)
  settled_twice w w1 w2 [] [] run x quiet y quiet' = same (x ∙ sym y) refl
  settled_twice w w1 w2 [] (d ∷ ys) run x quiet y quiet' = absurd (quiet_no_next w d.event (subst AllQuiet x quiet) y.1)
  settled_twice w w1 w2 (d ∷ xs) [] run x quiet y quiet' = absurd (quiet_no_next w d.event (subst AllQuiet y quiet') x.1)
  settled_twice w w1 w2 (d ∷ xs) (d' ∷ ys) run x quiet y quiet' =
      let is : d'.event ≡ d.event = next_once w d'.event d.event y.1 x.1 in
      let now = told_twice w x.0 y.0 d.event (Ok d.answer) (Ok d'.answer) run x.2 (subst (λ (e : Event). Happens w e y.0 d'.answer) is y.2) in
      let now' = subst (λ (e : Event). Compared World (LacksMemory d.event d.answer → ⊥) x.0 y.0 (done_line d) (event_line e (Ok d'.answer))) (sym is) now in
      compared_as World World ((LacksMemory d.event d.answer → ⊥) × All HadMemory xs) (All HadMemory (d ∷ xs)) w1 w2 w1 w2 (flat_map done_line (d ∷ xs)) (flat_map done_line (d' ∷ ys))
      (λ e. e) (λ had. (All-head HadMemory d xs had, All-tail HadMemory d xs had))
      (compared_then World World (LacksMemory d.event d.answer → ⊥) (All HadMemory xs) x.0 y.0 w1 w2 (done_line d) (done_line d') (flat_map done_line xs) (flat_map done_line ys) now'
      (λ e. settled_twice x.0 w1 w2 xs ys (reached_more w x.0 d.event d.answer run x.2) x.3 quiet (subst (λ (v : World). Settles v ys w2) (sym e) y.3) quiet'))

  pub quieted_twice : (w w1 w2 : World) (t1 t2 : List ℕ) (x : Quiets w w1 t1) → Reached limits budget budgets w → Quiets w w2 t2 → Compared World (All HadMemory x.taken) w1 w2 t1 t2
  quieted_twice w w1 w2 t1 t2 x run y =
      compared_texts World (All HadMemory x.taken) w1 w2 (flat_map done_line x.taken) t1 (flat_map done_line y.taken) t2 x.printed y.printed
      (settled_twice w w1 w2 x.taken y.taken run x.settles x.quiet y.settles y.quiet)
