-- A script, `trace` and what its run printed stand for the script's requests and the events of the run.
use Rattle.std.proofs.Common.{◌≡◌, ℕ, ◌+◌, true, false, not, eqb, List, [], ◌∷◌, ◌++◌, length, filter, Result, Ok, Err, refl, sym, ap, ◌∙◌, subst, inl, inr, append_assoc, append-nil, None}
use Rattle.std.specs.Prelude.{codes, map, if◌then◌else◌, slice_get, unwrap_or}
use Rattle.std.specs.List.{All, AllByRecursion, flat_map, list_any}
use Rattle.std.proofs.lemmas.Bool.{cases_Bool}
use Rattle.std.proofs.Math.Bool.{or-true}
use Rattle.std.proofs.lemmas.List.Elements.{recursion_from_All, filter-append}
use Rattle.std.proofs.lemmas.List.Folds.{list_any-append}
use Rattle.bpf_insn.specs.Texts.{words_of}
use Rattle.filter_asm.specs.Program.{text_lines}
use Rattle.filter_table.specs.Limits.{TableLimits, default_limits}
use Rattle.world_events.specs.declared.event.Event.{Event}
use Rattle.world_events.specs.declared.event.Done.{Done}
use Rattle.mk_script.specs.declared.fault.ScriptFault.{ScriptFault}
use Rattle.mk_script.specs.declared.script.Item.{Item}
use Rattle.mk_script.specs.declared.script.Item.TheVariants as item
use Rattle.mk_script.specs.declared.script.Script.{Script}
use Rattle.mk_script.specs.Bodies.{DraftedMeans, Means}
use Rattle.mk_script.specs.Drafts.{Settings, Draft, Whole, draft_of, draft_in, script_draft, has_cores}
use Rattle.mk_script.specs.Meanings.{Meaning, Does, Receives, Trace, Nothing, Known, Counted, Named, known, is_request, is_act, is_trace, limits_in, limits_behind, budgets_in, jobs_in, items_in, items_of, is_traced, jobs_behind}
use Rattle.mk_script.specs.Rows.{command_of}
use Rattle.mk_script.specs.Scripts.{MeanBehind, Stands, script_of}
use Rattle.mk_script.specs.Statements.{plain, statements, statements_from}
use Rattle.mk_script.specs.Threads.{received, for_threads, for_simulation}
use Rattle.mk_script.proofs.ChangeLemmas.{same_flat, same_any, same_jobs_behind, items_push}
use Rattle.mk_script.proofs.LimitLemmas.{same_ok}
use Rattle.mk_script.proofs.ThreadLemmas.{AreSuited, ReadForThreads, untraced, jobs_counted, received_items, read_for_threads, nothing_read_yet}
use Rattle.mk_script.proofs.SimulationLemmas.{reads_on}
use Rattle.sim_lines.specs.Events.{done_line, left_line}
use Rattle.trace_text.specs.Traces.{trace_of, trace_item, asks_of, IsNamedIn, IsNamed, EndsInLf, traced_script}
use Rattle.trace_text.proofs.EventLemmas.{event_text, left_text, event_line_is, left_line_is, event_lf, left_lf, event_alone, left_alone, event_means, left_means}
use Rattle.trace_text.proofs.LineLemmas.{lines_join, line_then, IsAlone}

-- The lines of a trace

left_lines : (left : List (ℕ × ℕ)) → text_lines (flat_map (λ l. left_line l.0 l.1) left) ≡ map (λ l. left_text l.0 l.1) left
left_lines [] = refl
left_lines (l ∷ left) =
    let rest = flat_map (λ l. left_line l.0 l.1) left in
    ap text_lines (left_line_is l.0 l.1 rest) ∙ line_then (left_text l.0 l.1) rest (left_lf l.0 l.1) ∙ ap (λ ls. left_text l.0 l.1 ∷ ls) (left_lines left)

event_lines : (events : List Done) (more : List ℕ) → text_lines (flat_map done_line events ++ more) ≡ map event_text events ++ text_lines more
event_lines [] more = refl
event_lines (d ∷ events) more =
    let rest = flat_map done_line events ++ more in
    ap text_lines (append_assoc (done_line d) (flat_map done_line events) more ∙ event_line_is d rest) ∙ line_then (event_text d) rest (event_lf d) ∙ ap (λ ls. event_text d ∷ ls) (event_lines events more)

abbrev lines_of : List Done → List (ℕ × ℕ) → List (List ℕ)
lines_of events left = map event_text events ++ map (λ l. left_text l.0 l.1) left

trace_lines : (events : List Done) (left : List (ℕ × ℕ)) → text_lines (trace_of events left) ≡ codes "trace" ∷ lines_of events left
trace_lines events left =
    let lefts = flat_map (λ l. left_line l.0 l.1) left in
    line_then (codes "trace") (flat_map done_line events ++ lefts) refl
    ∙ ap (λ ls. codes "trace" ∷ ls) (event_lines events lefts ∙ ap (λ ls. map event_text events ++ ls) (left_lines left))

-- What is known after `trace`

-- these lines have done the requests of those before `trace`, and then these items
record Traced (before given : List Meaning) (items : List Item) : Type 0 where
  pub same_limits : flat_map limits_in given ≡ flat_map limits_in before
  pub same_budgets : flat_map budgets_in given ≡ flat_map budgets_in before
  pub same_jobs : jobs_behind given ≡ Named (flat_map jobs_in before)
  pub is_traced_now : is_traced given ≡ true
  pub same_items : items_of given ≡ flat_map (items_in true) before ++ items

begins : (before : List Meaning) → Traced before (before ++ Trace ∷ []) []
begins before =
    let now : is_traced (before ++ Trace ∷ []) ≡ true = list_any-append is_trace before (Trace ∷ []) ∙ or-true (list_any is_trace before) in
    record {
      same_limits = same_flat limits_in before Trace refl;
      same_budgets = same_flat budgets_in before Trace refl;
      same_jobs = ap (λ t. if t then Named (flat_map jobs_in (before ++ Trace ∷ [])) else Counted (length (flat_map jobs_in (before ++ Trace ∷ [])))) now ∙ ap Named (same_flat jobs_in before Trace refl);
      is_traced_now = now;
      same_items = ap (λ t. flat_map (items_in t) (before ++ Trace ∷ [])) now ∙ same_flat (items_in true) before Trace refl ∙ sym (append-nil (flat_map (items_in true) before));
    }

pushes : (before given : List Meaning) (items : List Item) (m : Meaning) → limits_in m ≡ [] → budgets_in m ≡ [] → jobs_in m ≡ [] → is_trace m ≡ false → Traced before given items → Traced before (given ++ m ∷ []) (items ++ items_in true m)
pushes before given items m no_limits no_budgets no_jobs no_trace t = record {
  same_limits = same_flat limits_in given m no_limits ∙ t.same_limits;
  same_budgets = same_flat budgets_in given m no_budgets ∙ t.same_budgets;
  same_jobs = same_jobs_behind given m no_jobs no_trace ∙ t.same_jobs;
  is_traced_now = same_any is_trace given m no_trace ∙ t.is_traced_now;
  same_items = items_push given m no_trace ∙ ap (λ b. items_of given ++ items_in b m) t.is_traced_now ∙ ap (λ l. l ++ items_in true m) t.same_items ∙ append_assoc (flat_map (items_in true) before) items (items_in true m);
}

-- The meanings of the lines of a trace

record ReadBack (s : Settings) (before given : List Meaning) (n : ℕ) (lines : List (List ℕ)) (items : List Item) : Type 0 where
  pub meanings : List Meaning
  pub means : MeanBehind s given (statements_from n None lines) (Ok meanings)
  pub now : Traced before meanings items

one_more : (s : Settings) (before given : List Meaning) (n : ℕ) (line : List ℕ) (lines : List (List ℕ)) (items : List Item) (m : Meaning) → IsAlone (words_of line) → Means s (known given) (plain n line) (Ok m)
    → ReadBack s before (given ++ m ∷ []) (n + 1) lines items → ReadBack s before given n (line ∷ lines) items
one_more s before given n line lines items m alone means rest =
    let stays = alone.stays in
    let by_itself = alone.alone in
    record { meanings = rest.meanings; means = rw (stays, by_itself) (inl (m, means, rest.means)); now = rest.now }

left_read : (s : Settings) (before given : List Meaning) (items : List Item) (n : ℕ) (left : List (ℕ × ℕ)) → Traced before given items → ReadBack s before given n (map (λ l. left_text l.0 l.1) left) items
left_read s before given items n [] t = record { meanings = given; means = refl; now = t }
left_read s before given items n (l ∷ left) t =
    let next : Traced before (given ++ Nothing ∷ []) items = subst (Traced before (given ++ Nothing ∷ [])) (append-nil items) (pushes before given items Nothing refl refl refl refl t) in
    one_more s before given n (left_text l.0 l.1) (map (λ l. left_text l.0 l.1) left) items Nothing (left_alone l.0 l.1) (left_means s (known given) (flat_map jobs_in before) n l.0 l.1 t.same_jobs)
    (left_read s before (given ++ Nothing ∷ []) items (n + 1) left next)

events_read : (s : Settings) (before given : List Meaning) (items : List Item) (n : ℕ) (events : List Done) (left : List (ℕ × ℕ)) → AllByRecursion (λ d. IsNamedIn (flat_map jobs_in before) d.event) events
    → Traced before given items → ReadBack s before given n (lines_of events left) (items ++ map trace_item events)
events_read s before given items n [] left all t = subst (ReadBack s before given n (lines_of [] left)) (sym (append-nil items)) (left_read s before given items n left t)
events_read s before given items n (d ∷ events) left all t =
    let m = Does (trace_item d) in
    let next = pushes before given items m refl refl refl refl t in
    one_more s before given n (event_text d) (lines_of events left) (items ++ map trace_item (d ∷ events)) m (event_alone d) (event_means s (known given) (flat_map jobs_in before) n d t.same_jobs all.0)
    (subst (ReadBack s before (given ++ m ∷ []) (n + 1) (lines_of events left)) (append_assoc items (trace_item d ∷ []) (map trace_item events))
    (events_read s before (given ++ m ∷ []) (items ++ trace_item d ∷ []) (n + 1) events left all.1 next))

-- The line `trace`

-- a script for threads has nothing that is for a simulation alone
quiet : (cores before : ℕ) (given : List Meaning) → AreSuited cores before given → list_any is_act given ≡ false
quiet cores before [] all = refl
quiet cores before (Does (item.Ask core op) ∷ given) all = quiet cores (before + 0) given all.1
quiet cores before (Does done ∷ given) all = absurd all.0
quiet cores before (m ∷ given) all = quiet cores (before + length (jobs_in m)) given all.1

trace_draft_is : (s : Settings) (k : Known) (received : ℕ) → s.threads ≡ false → k.acted ≡ false → has_cores k ≡ true → script_draft s k received (codes "trace" ∷ []) (codes "trace") None ≡ Ok (Whole Trace)
unfolding script_draft command_of
trace_draft_is s k received simulated quiet' some = rw (simulated, quiet', some) refl

trace_means : (files : List (List ℕ)) (given : List Meaning) (n : ℕ) → ReadForThreads given → has_cores (known given) ≡ true → Means (for_simulation files) (known given) (plain n (codes "trace")) (Ok Trace)
trace_means files given n read some =
    let s = for_simulation files in
    let drafted : draft_of s (known given) (plain n (codes "trace")) ≡ Ok (Whole Trace) =
    ap (λ j. draft_in s (known given) j (words_of (codes "trace")) (codes "trace") None) (jobs_counted given read)
    ∙ trace_draft_is s (known given) (length (flat_map jobs_in given)) refl (quiet (length (flat_map budgets_in given)) 0 given read.each) some in
    subst (λ (d : Result Draft _). DraftedMeans d (Ok Trace)) (sym drafted) refl

-- The script

-- the requests among what a script for threads has done
no_request : (events : List Event) → filter is_request (map (λ e. item.Apply e) events) ≡ []
no_request [] = refl
no_request (event ∷ events) = no_request events

asks_same : (cores before : ℕ) (given : List Meaning) → AreSuited cores before given → asks_of (flat_map (items_in false) given) ≡ flat_map (items_in true) given
asks_same cores before [] all = refl
asks_same cores before (Does (item.Ask core op) ∷ given) all = ap (λ l. item.Ask core op ∷ l) (asks_same cores (before + 0) given all.1)
asks_same cores before (Does done ∷ given) all = absurd all.0
asks_same cores before (Receives events ∷ given) all =
    filter-append is_request (map (λ e. item.Apply e) events) (flat_map (items_in false) given)
    ∙ ap (λ l. l ++ asks_of (flat_map (items_in false) given)) (no_request events) ∙ asks_same cores (before + length events) given all.1
asks_same cores before (m ∷ given) all = asks_same cores (before + length (jobs_in m)) given all.1

trace_alone : IsAlone (words_of (codes "trace"))
trace_alone = record { stays = refl; alone = refl }

abbrev made_of : List Meaning → Script
made_of given = record { limits = unwrap_or (limits_behind given) default_limits; budgets = flat_map budgets_in given; items = items_of given }

-- what has a script has cores
record Made (given : List Meaning) (script : Script) : Type 0 where
  pub some : has_cores (known given) ≡ true
  pub is : script ≡ made_of given

made : (given : List Meaning) (script : Script) → Ok script ≡ script_of (Ok given) → Made given script
made given script e = elim (cases_Bool (has_cores (known given))) [
  | inl some ↦ let is = rw some at e in record { some = some; is = same_ok script (made_of given) is }
  | inr none ↦ let never = rw none at e in absurd (cc)
]

module _ (files : List (List ℕ)) (text : List ℕ) (script : Script) where
  read_back_by : (outcome : Result (List Meaning) ScriptFault) (events : List Done) (left : List (ℕ × ℕ)) → MeanBehind (for_threads files) [] (statements text) outcome → Ok script ≡ script_of outcome
      → EndsInLf text → All (IsNamed script.items) events → Stands (for_simulation files) (text ++ trace_of events left) (Ok (traced_script script events))
  read_back_by (Err fault) events left means e lf named = absurd (cc)
  read_back_by (Ok given) events left means e lf named =
      let s = for_simulation files in
      let n = 1 + length (text_lines text) in
      let m = made given script e in
      let read = read_for_threads (for_threads files) [] (statements text) given refl nothing_read_yet means in
      let cores = length (flat_map budgets_in given) in
      let items : script.items ≡ flat_map (items_in false) given = ap (λ (x : Script). x.items) m.is ∙ ap (λ t. flat_map (items_in t) given) (untraced cores 0 given read.each) in
      let jobs : received script.items ≡ flat_map jobs_in given = ap received items ∙ received_items cores 0 given read.each in
      let asks : asks_of script.items ≡ flat_map (items_in true) given = ap asks_of items ∙ asks_same cores 0 given read.each in
      let all = subst (λ (js : List Event). AllByRecursion (λ (d : Done). IsNamedIn js d.event) events) jobs (recursion_from_All (IsNamed script.items) events named) in
      let lines = lines_of events left in
      let r = one_more s given given n (codes "trace") lines (map trace_item events) Trace trace_alone (trace_means files given n read m.some)
      (events_read s given (given ++ Trace ∷ []) [] (n + 1) events left all (begins given)) in
      let goes_on = reads_on files [] 1 None (text_lines text) given (codes "trace" ∷ lines) (Ok r.meanings) nothing_read_yet tt means
      (λ k e. subst (λ (k : ℕ). MeanBehind s given (statements_from k None (codes "trace" ∷ lines)) (Ok r.meanings)) (sym e) r.means) in
      let whole : text_lines (text ++ trace_of events left) ≡ text_lines text ++ codes "trace" ∷ lines = lines_join text lf.0 (trace_of events left) lf.1 ∙ ap (λ ls. text_lines text ++ ls) (trace_lines events left) in
      let has : has_cores (known r.meanings) ≡ true = ap (λ (b : List ℕ). not (eqb (length b) 0)) r.now.same_budgets ∙ m.some in
      let limits : script.limits ≡ unwrap_or (limits_behind r.meanings) default_limits = ap (λ (x : Script). x.limits) m.is ∙ ap (λ (l : List TableLimits). unwrap_or (slice_get l 0) default_limits) (sym r.now.same_limits) in
      let budgets : script.budgets ≡ flat_map budgets_in r.meanings = ap (λ (x : Script). x.budgets) m.is ∙ sym r.now.same_budgets in
      let done : asks_of script.items ++ map trace_item events ≡ items_of r.meanings = ap (λ l. l ++ map trace_item events) asks ∙ sym r.now.same_items in
      let same : traced_script script events ≡ made_of r.meanings = λ i. record { limits = limits i; budgets = budgets i; items = done i } in
      (Ok r.meanings, subst (λ (ls : List (List ℕ)). MeanBehind s [] (statements_from 1 None ls) (Ok r.meanings)) (sym whole) goes_on, rw has (ap Ok same))

  pub read_back : (events : List Done) (left : List (ℕ × ℕ)) → Stands (for_threads files) text (Ok script) → EndsInLf text → All (IsNamed script.items) events
      → Stands (for_simulation files) (text ++ trace_of events left) (Ok (traced_script script events))
  read_back events left stands lf named = read_back_by stands.0 events left stands.1 stands.2 lf named
