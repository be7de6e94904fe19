-- What `sim` shows of a text that stands for a trace.
use Rattle.std.proofs.Common.{◌≡◌, ◌⊎◌, inl, inr, ℕ, List, ◌∷◌, refl, sym, subst}
use Rattle.std.specs.Prelude.{Ok, Err}
use Rattle.std.specs.List.{All, flat_map}
use Rattle.world_histories.specs.declared.history.Stamped.{Stamped}
use Rattle.world_histories.specs.Histories.{Core0State, OtherState}
use Rattle.world_histories.specs.Merging.{as_listed}
use Rattle.sim_lines.specs.Events.{done_line}
use Rattle.mk_script.specs.declared.script.Script.{Script}
use Rattle.mk_script.specs.Scripts.{AreFiles, Stands}
use Rattle.mk_script.proofs.LawLemmas.{one_outcome}
use Rattle.script_input.specs.Inputs.{AllShort}
use Rattle.script_input.proofs.Reading.{not_long}
use Rattle.mk_script.specs.Threads.{for_simulation}
use Rattle.sim_engine.specs.Showing.{ShowsItems, ShowsScript, ShowsSim}
use Rattle.trace_text.specs.Traces.{traced_script}
use Rattle.world_events.specs.Memory.{WasNotRefused}
use Rattle.trace_runs.specs.Repeats.{DiffersByMemory, RanScript}
use Rattle.trace_runs.proofs.Merged.{shown, only}

module _ (files : List (List ℕ)) (input : List ℕ) (script : Script) (budget : ℕ) (budgets : List ℕ) (end : Core0State) (ends : List OtherState) (merged : List Stamped)
    (short : AllShort input files) (are_budgets : script.budgets ≡ budget ∷ budgets) (ran : RanScript script.limits budget budgets script.items end ends merged)
    (stands : Stands (for_simulation files) input (Ok (traced_script script (as_listed merged)))) where
  pub sim_shown : ShowsSim files input 0 (flat_map done_line (as_listed merged))
  sim_shown = inl (
    short,
    inl (
      traced_script script (as_listed merged),
      stands,
      refl,
      subst (λ (bs : List ℕ). ShowsItems script.limits bs (traced_script script (as_listed merged)).items (flat_map done_line (as_listed merged))) (sym are_budgets) (shown script.limits budget budgets script.items end ends merged ran),
    ),
  )

  abbrev pub IsOrDiffers : List ℕ → Type 0
  IsOrDiffers text = (text ≡ flat_map done_line (as_listed merged)) ⊎ DiffersByMemory (as_listed merged) text

  module _ (are_files : AreFiles files) (had : All WasNotRefused (as_listed merged)) (status : ℕ) (text : List ℕ) where
    of_script : ShowsScript files input status text → (status ≡ 0) × IsOrDiffers text
    of_script (inl s) =
        let is : Ok (traced_script script (as_listed merged)) ≡ Ok s.0 = one_outcome (for_simulation files) are_files input (Ok (traced_script script (as_listed merged))) (Ok s.0) stands s.1 in
        let same : s.0 ≡ traced_script script (as_listed merged) = cc in
        let items : ShowsItems script.limits script.budgets (traced_script script (as_listed merged)).items text = subst (λ (x : Script). ShowsItems x.limits x.budgets x.items text) same s.3 in
        (s.2, only script.limits budget budgets script.items end ends merged text ran had (subst (λ (bs : List ℕ). ShowsItems script.limits bs (traced_script script (as_listed merged)).items text) are_budgets items))
    of_script (inr f) = absurd (let is = one_outcome (for_simulation files) are_files input (Ok (traced_script script (as_listed merged))) (Err f.0) stands f.1 in cc)

    pub sim_only : ShowsSim files input status text → (status ≡ 0) × IsOrDiffers text
    sim_only (inl s) = of_script s.1
    sim_only (inr s) = absurd (not_long input files short s.0)
