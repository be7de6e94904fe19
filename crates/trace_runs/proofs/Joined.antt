-- What `run` printed of a script, given to `sim` after the script.
use Rattle.std.proofs.Common.{◌≡◌, ◌≤◌, ◌<◌, ◌+◌, ◌^◌, ◌⊎◌, ℕ, suc, List, [], ◌∷◌, ◌++◌, length, refl, ap, sym, ◌∙◌, subst, arith}
use Rattle.std.specs.Prelude.{Ok, codes, map}
use Rattle.std.specs.List.{All, flat_map}
use Rattle.std.proofs.lemmas.List.{append-nil, length-append, length-map}
use Rattle.rx_queue.specs.declared.job.Job.{Job}
use Rattle.world_model.specs.Worlds.{boot}
use Rattle.world_histories.specs.Merging.{listed, as_listed}
use Rattle.world_histories.proofs.Merge.{run_of}
use Rattle.sim_lines.specs.Events.{done_line, left_line}
use Rattle.core_loop.specs.Cores.{begun}
use Rattle.core_machine.specs.Lanes.{items_for}
use Rattle.mk_script.specs.declared.script.Script.{Script}
use Rattle.mk_script.specs.Limits.{HasLimits}
use Rattle.mk_script.specs.Scripts.{AreFiles, Stands}
use Rattle.mk_script.specs.Threads.{IsScriptForThreads, for_simulation, for_threads, received}
use Rattle.mk_script.proofs.LimitLemmas.{limits_from}
use Rattle.mk_script.proofs.ThreadLemmas.{threads_from}
use Rattle.script_input.specs.Inputs.{AllShort}
use Rattle.sim_engine.specs.Showing.{ShowsSim}
use Rattle.run_engine.specs.Work.{jobs_of}
use Rattle.run_engine.specs.Showing.{ShowsRun, left_lines}
use Rattle.run_engine.proofs.Works.{jobs_inside}
use Rattle.trace_text.specs.Traces.{EndsInLf, IsNamed, trace_of, traced_script}
use Rattle.trace_text.proofs.TraceLemmas.{read_back}
use Rattle.world_events.specs.Memory.{WasNotRefused}
use Rattle.trace_runs.specs.Repeats.{DiffersByMemory, RanScript}
use Rattle.trace_runs.specs.Printed.{events_of, event_lines, with_trace}
use Rattle.trace_runs.proofs.Naming.{run_names_cores, receptions, all_named}
use Rattle.trace_runs.proofs.Counting.{packets_done, a_line_each, left_shown}
use Rattle.trace_runs.proofs.Shown.{sim_shown, sim_only}

-- a job that is left, by its core and its number
abbrev pub by_number : List (ℕ × Job) → List (ℕ × ℕ)
by_number left = map (λ l. (l.0, l.1.number)) left

pub left_is : (left : List (ℕ × Job)) → left_lines left ≡ flat_map (λ l. left_line l.0 l.1) (by_number left)
left_is [] = refl
left_is (l ∷ left) = ap (λ (t : List ℕ). left_line l.0 l.1.number ++ t) (left_is left)

parts_within : (input line text : List ℕ) (limit : ℕ) → length (input ++ (line ++ text)) ≤ limit → length input + length text ≤ limit
parts_within input line text limit whole = omega (arith, whole, length-append input (line ++ text), length-append line text)

module _ (files : List (List ℕ)) (input : List ℕ) (script : Script) (text : List ℕ) (run : ShowsRun script text) (stands : Stands (for_threads files) input (Ok script)) (lf : EndsInLf input)
    (short : AllShort (with_trace input text) files) where
  whole_length : length input + length text ≤ 67108864
  whole_length = parts_within input (codes "trace\n") text 67108864 short.0

  limits : HasLimits script
  limits = limits_from (for_threads files) input (Ok script) (omega (arith, whole_length)) stands

  threads : IsScriptForThreads script
  threads = threads_from (for_threads files) input (Ok script) (omega (arith, whole_length)) refl stands

  ran : RanScript script.limits run.budget run.budgets script.items run.did.end run.did.ends run.merged
  ran = record {
    core0 = run.did.core0;
    others = run.did.others;
    computation = run.did.computation;
    begin = λ core history at. ([], append-nil (begun history) ∙ (run.did.work core history at).requests);
    is_merged = run.did.is_merged;
  }

  cores : suc (length run.budgets) ≡ length script.budgets
  cores = ap (λ (bs : List ℕ). length bs) (sym run.are_budgets)

  packets : length (received script.items) < 2 ^ 64
  packets =
      let inside = jobs_inside (length script.budgets) script.items (jobs_of script.items) threads.items refl in
      let same : length script.budgets ≡ suc (length run.did.others) = omega (arith, cores, run.did.computation.cores) in
      let counted = packets_done run.did.core0 run.did.others run.merged script.items run.left run.did.is_merged (λ core history at. (run.did.work core history at).jobs) (subst (λ (n : ℕ). All (λ j. j.0 < n) (jobs_of script.items)) same inside) in
      omega (
        arith,
        counted,
        a_line_each (as_listed run.merged),
        length-map run.merged listed,
        left_shown run.left run.last_lines run.shows_left,
        ap (λ (t : List ℕ). length t) run.printed,
        length-append (flat_map done_line (as_listed run.merged)) run.last_lines,
        whole_length,
      )

  are_named : All (IsNamed script.items) (as_listed run.merged)
  are_named =
      let r = run_of script.limits run.budget run.budgets run.did.core0 run.did.others run.did.end run.did.ends run.merged run.did.computation run.did.is_merged in
      all_named script (suc (length run.budgets)) threads limits.few (omega (arith, cores, limits.few)) packets run.merged
      (receptions run.did.core0 run.did.others run.merged script.items run.did.is_merged (λ core history at. (items_for core run.left, (run.did.work core history at).jobs)))
      (run_names_cores script.limits run.budget run.budgets [] (as_listed run.merged) (boot script.limits run.budget run.budgets) r.world refl r.run)

  trace_is : trace_of (as_listed run.merged) (by_number run.shows_left.in_order) ≡ codes "trace\n" ++ text
  trace_is = ap (λ (t : List ℕ). codes "trace\n" ++ t) (sym (run.printed ∙ ap (λ (t : List ℕ). flat_map done_line (as_listed run.merged) ++ t) (run.shows_left.printed ∙ left_is run.shows_left.in_order)))

  stands_again : Stands (for_simulation files) (with_trace input text) (Ok (traced_script script (as_listed run.merged)))
  stands_again = subst (λ (t : List ℕ). Stands (for_simulation files) (input ++ t) (Ok (traced_script script (as_listed run.merged)))) trace_is
      (read_back files input script (as_listed run.merged) (by_number run.shows_left.in_order) stands lf are_named)

  pub again_shown : ShowsSim files (with_trace input text) 0 (event_lines run)
  again_shown = sim_shown files (with_trace input text) script run.budget run.budgets run.did.end run.did.ends run.merged short run.are_budgets ran stands_again

  pub again_only : AreFiles files → All WasNotRefused (events_of run) → (status : ℕ) (text' : List ℕ) → ShowsSim files (with_trace input text) status text'
      → (status ≡ 0) × ((text' ≡ event_lines run) ⊎ DiffersByMemory (events_of run) text')
  again_only are_files had status text' shows =
      sim_only files (with_trace input text) script run.budget run.budgets run.did.end run.did.ends run.merged short run.are_budgets ran stands_again are_files had status text' shows
