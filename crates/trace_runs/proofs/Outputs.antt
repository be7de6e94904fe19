-- All that `sim` and `run` show is read by `draw`.
use Rattle.std.proofs.Common.{◌≡◌, ◌≢◌, ℕ, zero, suc, ◌<◌, ◌≤◌, Bool, Option, Some, None, List, [], ◌∷◌, ◌++◌, length, slice_get, refl, ap, sym, ◌∙◌, subst, arith, append_assoc, inl, inr}
use Rattle.std.specs.Prelude.{Result, Ok, Err, map, option_map}
use Rattle.std.specs.List.{flat_map}
use Rattle.std.proofs.lemmas.Option.{slice_get_within}
use Rattle.filter_table.specs.Limits.{TableLimits}
use Rattle.filter_table.specs.Tables.{table}
use Rattle.filter_table.specs.declared.operation.Op.{Op}
use Rattle.filter_table.specs.declared.operation.Op.TheVariants.{Create}
use Rattle.world_events.specs.declared.event.Event.{Event}
use Rattle.world_events.specs.declared.event.Event.TheVariants.{Start, Submit, StartFor, Take, Rx}
use Rattle.world_events.specs.declared.event.Answer.{Answer}
use Rattle.world_events.specs.declared.event.Done.{Done}
use Rattle.world_events.specs.declared.fault.WorldFault.{WorldFault}
use Rattle.world_events.specs.declared.fault.WorldFault.TheVariants.{NoSuchCore, Nothing, NotReady, NotIdle, Spent, Outstanding, NoneWaiting, NoMemory}
use Rattle.world_model.specs.Worlds.{Peer, World, boot}
use Rattle.world_model.proofs.Known.{run_known}
use Rattle.world_model.specs.Refusals.{Reached, Settles, WorldRefuses, channel}
use Rattle.sim_lines.specs.Events.{event_line, done_line, event_words, told_words}
use Rattle.mk_script.specs.declared.script.Script.{Script}
use Rattle.mk_script.specs.Limits.{HasLimits}
use Rattle.mk_script.specs.Scripts.{Stands}
use Rattle.mk_script.specs.Threads.{for_simulation, for_threads}
use Rattle.mk_script.proofs.LimitLemmas.{limits_from}
use Rattle.script_input.specs.Inputs.{AllShort}
use Rattle.run_engine.specs.Showing.{ShowsRun}
use Rattle.world_histories.specs.Merging.{as_listed}
use Rattle.world_histories.proofs.Merge.{run_of}
use Rattle.trace_runs.specs.Printed.{events_of}
use Rattle.trace_runs.proofs.Joined.{by_number, left_is}
use Rattle.mk_script.specs.declared.script.Item.{Item}
use Rattle.mk_script.specs.declared.script.Item.TheVariants as item
use Rattle.sim_engine.specs.declared.way.Way.{Way}
use Rattle.sim_engine.specs.declared.way.Way.TheVariants as way
use Rattle.sim_engine.specs.Ways.{event_of}
use Rattle.sim_engine.specs.Simulations.{Simulation, Tells, Begins, nothing, done, refused, nothing_line, Quiets, Drains, ends, stops, goes_on, SettlesAll, Shows, Does, Performs, just}
use Rattle.sim_engine.specs.Showing.{ShowsItems, ShowsScript, ShowsSim}
use Rattle.sim_engine.proofs.Twice.{reached_told, reached_more, reached_settled}
use Rattle.sim_engine.proofs.Items.{reached_does}
use Rattle.trace_lines.specs.Lines.{Shown}
use Rattle.trace_lines.specs.Traces.{trace_of}
use Rattle.trace_text.specs.Reading.{IsAtCores, CanDraw, drawn_of, Told, shown_done}
use Rattle.trace_text.proofs.DrawLemmas.{Adds, adds_none, adds_both, adds_all, told_line_is, unasked_adds}
use Rattle.trace_text.proofs.PrintedLemmas.{told_adds, table_adds, no_table_adds}
use Rattle.trace_text.proofs.RunLemmas.{can_draw, at_version, run_drawn}

-- the text is read, whatever is drawn of it
abbrev IsRead : List ℕ → Type 0
IsRead text = (drawn : List Shown) × Adds text drawn

none_read : IsRead []
none_read = ([], adds_none)

both_read : (text more : List ℕ) → IsRead text → IsRead more → IsRead (text ++ more)
both_read text more first second = (first.0 ++ second.0, adds_both text more first.0 second.0 first.1 second.1)

-- A fault at cores that are there

entered : (peers : List Peer) (entry : ℕ) {A : Type 0} (f : Peer → A) → length peers < 64 → option_map f (slice_get peers entry) ≢ None → suc entry < 64
entered peers entry f few there = by (slice_get peers entry) refl
  where
    by : (found : Option Peer) → slice_get peers entry ≡ found → suc entry < 64
    by None e = absurd (there (ap (option_map f) e))
    by (Some peer) e = omega (arith, few, slice_get_within peers entry peer e)

joined : (w : World) (core : ℕ) → length w.peers < 64 → channel w zero core ≢ None → core < 64
joined w zero few there = omega arith
joined w (suc entry) few there = entered w.peers entry (λ (p : Peer). p.up) few there

some_not_none : {A : Type 0} (o : Option A) (x : A) → o ≡ Some x → o ≢ None
some_not_none o x is none = absurd cc

can_fault : (event : Event) (fault : WorldFault) → IsAtCores event → CanDraw event (Err fault)
can_fault event NoSuchCore at = tt
can_fault event Nothing at = at
can_fault event NotReady at = at
can_fault event NotIdle at = at
can_fault event Spent at = at
can_fault event Outstanding at = at
can_fault event NoneWaiting at = at
can_fault event NoMemory at = at

take_at : (w : World) (to from : ℕ) (short : Bool) → length w.peers < 64 → channel w to from ≡ Some [] → IsAtCores (Take to from short)
take_at w zero zero short few is = absurd cc
take_at w zero (suc entry) short few is = entered w.peers entry (λ (p : Peer). p.up) few (some_not_none (channel w zero (suc entry)) [] is)
take_at w (suc entry) zero short few is = entered w.peers entry (λ (p : Peer). p.down) few (some_not_none (channel w (suc entry) zero) [] is)
take_at w (suc entry) (suc other) short few is = absurd cc

refused_at : (w : World) (event : Event) (fault : WorldFault) → length w.peers < 64 → fault ≢ NoMemory → WorldRefuses w event fault → CanDraw event (Err fault)
refused_at w event NoSuchCore few had refuses = tt
refused_at w event NoMemory few had refuses = absurd (had refl)
refused_at w (Start op) fault few had refuses = can_fault (Start op) fault tt
refused_at w (Submit core op) Outstanding few had refuses = subst (λ (n : ℕ). n < 64) (sym refuses.2) (omega (arith, few, slice_get_within w.peers refuses.0 refuses.1 refuses.3))
refused_at w (StartFor core) NotIdle few had refuses = joined w core few refuses.0
refused_at w (StartFor core) Spent few had refuses = joined w core few refuses.0
refused_at w (StartFor core) NoneWaiting few had refuses = joined w core few refuses.0
refused_at w (Take to from short) Nothing few had refuses = take_at w to from short few refuses
refused_at w (Rx core number packet floor) NotReady few had refuses = at_version w core refuses.0 few refuses.1
refused_at w event fault few had refuses = absurd refuses

-- that nothing was asked for is told as of any request
nothing_is : (core : ℕ) (op : Op) → nothing_line (way.Submit core) ≡ event_line (Submit core op) (Err Nothing)
nothing_is core op = sym (told_line_is (Submit core op) (Err Nothing) ∙ append_assoc (event_words (Submit core op)) (58 ∷ 32 ∷ told_words (Err Nothing)) (10 ∷ []))

nothing_read : (by : Way) → IsRead (nothing_line by)
nothing_read way.Start = let op = Create 0 0 in (drawn_of (Told (Start op) (Err Nothing)), told_adds (Start op) (Err Nothing) tt)
nothing_read (way.Submit core) = subst IsRead (sym (nothing_is core (Create 0 0))) (unasked_adds core (Create 0 0))

shown_read : (w : World) (core : ℕ) (text : List ℕ) → Shows w core text → IsRead text
shown_read w core text (inl shows) = subst IsRead (sym shows.2) ([], table_adds core (table w.limits w.log shows.0))
shown_read w core text (inr shows) = subst IsRead (sym shows.1) ([], no_table_adds core)

-- What `sim` does

module _ (limits : TableLimits) (budget : ℕ) (budgets : List ℕ) (few : length budgets < 64) where
  told_can : (w w' : World) (event : Event) (told : Result Answer WorldFault) → Reached limits budget budgets w → Tells w event told w' → CanDraw event told
  told_can w w' event (Ok answer) run tells =
      let k = run_known limits budget budgets run.0 w run.1 in
      can_draw w w' event answer (omega (arith, few, k.cores)) (k.waiting_long ∙ sym k.cores) tells
  told_can w w' event (Err fault) run tells =
      let k = run_known limits budget budgets run.0 w run.1 in
      refused_at w event fault (omega (arith, few, k.cores)) tells.0 tells.1

  told_read : (w w' : World) (event : Event) (told : Result Answer WorldFault) (text : List ℕ) → Reached limits budget budgets w → Tells w event told w' → text ≡ event_line event told → IsRead text
  told_read w w' event told text run tells is = subst IsRead (sym is) (drawn_of (Told event told), told_adds event told (told_can w w' event told run tells))

  settled_read : (w w' : World) (taken : List Done) → Reached limits budget budgets w → Settles w taken w' → IsRead (flat_map done_line taken)
  settled_read w w' [] run settles = none_read
  settled_read w w' (d ∷ taken) run settles =
      both_read (done_line d) (flat_map done_line taken) (told_read w settles.0 d.event (Ok d.answer) (done_line d) run settles.2 refl)
      (settled_read settles.0 w' taken (reached_more limits budget budgets w settles.0 d.event d.answer run settles.2) settles.3)

  quiets_read : (w w' : World) (text : List ℕ) → Reached limits budget budgets w → Quiets w w' text → IsRead text
  quiets_read w w' text run quiets = subst IsRead (sym quiets.printed) (settled_read w w' quiets.taken run quiets.settles)

  begun_read : (s s' : Simulation) (by : Way) (text : List ℕ) → Reached limits budget budgets s.world → Begins s by s' text → IsRead text
  begun_read s s' by text run (nothing none is printed) = subst IsRead (sym printed) (nothing_read by)
  begun_read s s' by text run (done first f answer tells printed) = told_read s.world s'.world (event_of by first.op) (Ok answer) text run tells printed
  begun_read s s' by text run (refused first rest f fault tells is printed) = told_read s.world s'.world (event_of by first.op) (Err fault) text run tells printed

  drained_read : {s s' : Simulation} {text : List ℕ} → Drains s s' text → Reached limits budget budgets s.world → IsRead text
  drained_read (ends s left) run = none_read
  drained_read (stops s event rest fault next tells) run = told_read s.world s.world event (Err fault) (event_line event (Err fault)) run tells refl
  drained_read (goes_on s s' event rest answer begun quiet taken later next tells quiets drains) run =
      let run' = reached_told limits budget budgets s.world begun event (Ok answer) run tells in
      both_read (event_line event (Ok answer) ++ taken) later
      (both_read (event_line event (Ok answer)) taken (told_read s.world begun event (Ok answer) (event_line event (Ok answer)) run tells refl) (quiets_read begun quiet taken run' quiets))
      (drained_read drains (reached_settled limits budget budgets begun quiet quiets.taken run' quiets.settles))

  settles_read : (s s' : Simulation) (text : List ℕ) → Reached limits budget budgets s.world → SettlesAll s s' text → IsRead text
  settles_read s s' text run settles =
      subst IsRead (sym settles.printed)
      (both_read settles.taken settles.later (quiets_read s.world settles.quiet settles.taken run settles.first)
      (drained_read settles.rest (reached_settled limits budget budgets s.world settles.quiet settles.first.taken run settles.first.settles)))

  done_read : (s s' : Simulation) (i : Item) (text : List ℕ) → Reached limits budget budgets s.world → Does s i s' text → IsRead text
  done_read s s' (item.Ask home op) text run does = subst IsRead (sym does.1) none_read
  done_read s s' item.Begin text run does = begun_read s s' way.Start text run does
  done_read s s' (item.Submit core) text run does = begun_read s s' (way.Submit core) text run does
  done_read s s' (item.StartFor core) text run does = told_read s.world s'.world (StartFor core) does.0 text run does.1 does.3
  done_read s s' (item.Apply event) text run does = told_read s.world s'.world event does.0 text run does.1 does.3
  done_read s s' item.Settle text run does = settles_read s s' text run does
  done_read s s' (item.Show core) text run does = shown_read s.world core text does.1

  performed_read : (s s' : Simulation) (items : List Item) (text : List ℕ) → Reached limits budget budgets s.world → Performs s items s' text → IsRead text
  performed_read s s' [] text run performs = subst IsRead (sym performs.1) none_read
  performed_read s s' (i ∷ items) text run performs =
      subst IsRead (sym performs.5)
      (both_read performs.1 performs.2 (done_read s performs.0 i performs.1 run performs.3)
      (performed_read performs.0 s' items performs.2 (reached_does limits budget budgets s performs.0 i performs.1 run performs.3) performs.4))

-- all that a script's items print
pub items_drawn : (limits : TableLimits) (budgets : List ℕ) (items : List Item) (text : List ℕ) → length budgets ≤ 64 → ShowsItems limits budgets items text
    → (drawn : List Shown) × (trace_of text ≡ Ok drawn)
items_drawn limits budgets items text few shows =
    let fewer : length shows.1 < 64 = omega (arith, few, ap (λ (bs : List ℕ). length bs) shows.2) in
    let read = performed_read limits shows.0 shows.1 fewer (just (boot limits shows.0 shows.1)) shows.3.0 items text ([], refl) shows.3.1 in
    (read.0, adds_all text read.0 read.1)

-- all that `sim` shows of a script
pub sim_drawn : (files : List (List ℕ)) (input text : List ℕ) → ShowsSim files input 0 text → (drawn : List Shown) × (trace_of text ≡ Ok drawn)
sim_drawn files input text (inl shows) = of_script shows.1
  where
    of_script : ShowsScript files input 0 text → (drawn : List Shown) × (trace_of text ≡ Ok drawn)
    of_script (inl s) =
        let limits : HasLimits s.0 = limits_from (for_simulation files) input (Ok s.0) (omega (arith, shows.0.0)) s.1 in
        items_drawn s.0.limits s.0.budgets s.0.items text limits.few s.3
    of_script (inr f) = absurd (omega (arith, f.2))
sim_drawn files input text (inr long) = absurd (omega (arith, long.1.0))

-- all that `run` shows
pub shown_run_drawn : (files : List (List ℕ)) (input : List ℕ) (script : Script) (text : List ℕ) (run : ShowsRun script text) → AllShort input files → Stands (for_threads files) input (Ok script)
    → trace_of text ≡ Ok (map shown_done (events_of run))
shown_run_drawn files input script text run short stands =
    let limits : HasLimits script = limits_from (for_threads files) input (Ok script) (omega (arith, short.0)) stands in
    let fewer : length run.budgets < 64 = omega (arith, limits.few, ap (λ (bs : List ℕ). length bs) run.are_budgets) in
    let r = run_of script.limits run.budget run.budgets run.did.core0 run.did.others run.did.end run.did.ends run.merged run.did.computation run.did.is_merged in
    let front = flat_map done_line (as_listed run.merged) in
    ap trace_of (run.printed ∙ ap (λ (t : List ℕ). front ++ t) (run.shows_left.printed ∙ left_is run.shows_left.in_order))
    ∙ run_drawn script.limits run.budget run.budgets (as_listed run.merged) (by_number run.shows_left.in_order) r.world fewer r.run
