-- What is shown of a script: some text, and that once but for cores that are out of memory.
use Rattle.std.proofs.Common.{◌≡◌, ◌<◌, ◌≤◌, ◌⊎◌, ℕ, suc, List, [], ◌∷◌, ◌++◌, length, Result, Ok, Err, inl, inr, refl, sym, ◌∙◌, ap, subst, arith}
use Rattle.std.proofs.lemmas.Bool.{cases_Bool, cases_lt}
use Rattle.std.proofs.lemmas.List.{append_assoc}
use Rattle.engine_io.specs.declared.input.TheConstants.{INPUT_BYTES}
use Rattle.engine_io.specs.Reading.{too_long_line}
use Rattle.mk_script.specs.declared.fault.ScriptFault.{ScriptFault}
use Rattle.mk_script.specs.declared.script.Item.{Item}
use Rattle.mk_script.specs.declared.script.Script.{Script}
use Rattle.mk_script.specs.Drafts.{Settings, has_cores}
use Rattle.mk_script.specs.Limits.{HasLimits}
use Rattle.mk_script.specs.Meanings.{Meaning, known}
use Rattle.mk_script.specs.Scripts.{AreFiles, Stands, script_of}
use Rattle.mk_script.specs.Threads.{for_simulation}
use Rattle.mk_script.proofs.LawLemmas.{one_outcome}
use Rattle.mk_script.proofs.LimitLemmas.{limits_from, some_budgets, same_ok}
use Rattle.mk_script.proofs.TotalLemmas.{some_outcome}
use Rattle.script_input.specs.Faults.{script_fault_line}
use Rattle.script_input.specs.Inputs.{AllShort, AllWithin, OneLonger}
use Rattle.script_input.proofs.Reading.{not_long}
use Rattle.world_model.specs.Worlds.{boot}
use Rattle.sim_engine.specs.Memory.{DepartsAlone, SameButForMemory}
use Rattle.sim_engine.specs.Showing.{ShowsAmply, ShowsItems, ShowsOneButForMemory, ShowsScript, ShowsSim}
use Rattle.sim_engine.specs.Simulations.{Simulation, Performs, just}
use Rattle.sim_engine.proofs.Departing.{Compared, same, one_lacks, other_lacks}
use Rattle.sim_engine.proofs.Items.{HadPerforms, performs_amply, performs_on, performed_twice}
use Rattle.filter_table.specs.Limits.{TableLimits}

-- A script's items

same_but : (S Had : Type 0) (one other : S) (text more : List ℕ) → Compared S Had one other text more → SameButForMemory text more
same_but S Had one other text more (same is printed) = inl printed
same_but S Had one other text more (one_lacks lacks departs) = inr (inr departs)
same_but S Had one other text more (other_lacks alone) = inr (inl alone.departs)

as_ample : (S Had : Type 0) (one other : S) (text more : List ℕ) → Had → Compared S Had one other text more → (text ≡ more) ⊎ DepartsAlone text more
as_ample S Had one other text more had (same is printed) = inl printed
as_ample S Had one other text more had (one_lacks lacks departs) = absurd (lacks had)
as_ample S Had one other text more had (other_lacks departs) = inr departs

-- on these cores
shows_on : (limits : TableLimits) (budget : ℕ) (others : List ℕ) (items : List Item) (text : List ℕ) → ShowsItems limits (budget ∷ others) items text → (s' : Simulation) × Performs (just (boot limits budget others)) items s' text
shows_on limits budget others items text x =
    let first : x.0 ≡ budget = (let e = x.2 in cc) in
    let rest : x.1 ≡ others = (let e = x.2 in cc) in
    (x.3.0, subst (λ (b : ℕ). Performs (just (boot limits b others)) items x.3.0 text) first (subst (λ (bs : List ℕ). Performs (just (boot limits x.0 bs)) items x.3.0 text) rest x.3.1))

record ItemsAmply (limits : TableLimits) (budgets : List ℕ) (items : List Item) : Type 0 where
  pub text : List ℕ
  pub shows : ShowsItems limits budgets items text
  pub others : length budgets ≤ 64 → (more : List ℕ) → ShowsItems limits budgets items more → (text ≡ more) ⊎ DepartsAlone text more

items_amply : (limits : TableLimits) (budgets : List ℕ) (items : List Item) → 1 ≤ length budgets → ItemsAmply limits budgets items
items_amply limits [] items some = absurd (omega arith)
items_amply limits (budget ∷ others) items some =
    let s = just (boot limits budget others) in
    let p = performs_amply limits budget others s items ([], refl) in
    record {
      text = p.text;
      shows = (budget, others, refl, (p.end, p.performs));
      others = λ few more shows. let x = shows_on limits budget others items more shows in
          as_ample Simulation (HadPerforms s items p.end p.text p.performs) p.end x.0 p.text more p.had_memory (performed_twice limits budget others (omega arith) s p.end x.0 items p.text more ([], refl) p.performs x.1);
    }

items_twice : (limits : TableLimits) (budgets : List ℕ) (items : List Item) (text more : List ℕ) → length budgets ≤ 64 → ShowsItems limits budgets items text → ShowsItems limits budgets items more → SameButForMemory text more
items_twice limits budgets items text more few shows shows' =
    let s = just (boot limits shows.0 shows.1) in
    let x = shows_on limits shows.0 shows.1 items more (subst (λ (bs : List ℕ). ShowsItems limits bs items more) shows.2 shows') in
    let long = ap length shows.2 in
    same_but Simulation (HadPerforms s items shows.3.0 text shows.3.1) shows.3.0 x.0 text more
    (performed_twice limits shows.0 shows.1 (omega arith) s shows.3.0 x.0 items text more ([], refl) shows.3.1 x.1)

-- what the first items print begins what all of them do
items_on : (limits : TableLimits) (budgets : List ℕ) (items before after : List Item) (text : List ℕ) → items ≡ before ++ after → ShowsItems limits budgets before text → (more : List ℕ) × ShowsItems limits budgets items (text ++ more)
items_on limits budgets items before after text is shows =
    let all = performs_on limits shows.0 shows.1 (just (boot limits shows.0 shows.1)) shows.3.0 before after text ([], refl) shows.3.1 in
    (all.1, subst (λ (xs : List Item). ShowsItems limits budgets xs (text ++ all.1)) (sym is) (shows.0, shows.1, shows.2, (all.0, all.2)))

-- A script

with_budgets : (given : List Meaning) (script : Script) → Ok script ≡ script_of (Ok given) → 1 ≤ length script.budgets
with_budgets given script e = elim (cases_Bool (has_cores (known given))) [
  | inl some ↦
      let is = rw some at e in
      let budgets : script.budgets ≡ (known given).budgets = ap (λ (x : Script). x.budgets) (same_ok script _ is) in
      omega (arith, some_budgets (known given) some, ap length budgets)
  | inr none ↦ let never = rw none at e in absurd (cc)
]

has_budgets : (s : Settings) (text : List ℕ) (script : Script) → Stands s text (Ok script) → 1 ≤ length script.budgets
has_budgets s text script stands = by stands.0 stands.2
  where
    by : (meanings : Result (List Meaning) ScriptFault) → Ok script ≡ script_of meanings → 1 ≤ length script.budgets
    by (Ok given) e = with_budgets given script e
    by (Err fault) e = absurd cc

pub script_on : (files : List (List ℕ)) (input : List ℕ) (script : Script) (before after : List Item) (text more : List ℕ) → Stands (for_simulation files) input (Ok script) → script.items ≡ before ++ after
    → ShowsItems script.limits script.budgets before (text ++ more) → (later : List ℕ) × ShowsScript files input 0 (text ++ later)
script_on files input script before after text more stands is shows =
    let all = items_on script.limits script.budgets script.items before after (text ++ more) is shows in
    (more ++ all.0, inl (script, stands, refl, subst (ShowsItems script.limits script.budgets script.items) (append_assoc text more all.0) all.1))

module _ (files : List (List ℕ)) (input : List ℕ) (are_files : AreFiles files) where
  same_script : (one other : Script) → Stands (for_simulation files) input (Ok one) → Stands (for_simulation files) input (Ok other) → one ≡ other
  same_script one other stands stands' = let outcomes = one_outcome (for_simulation files) are_files input (Ok one) (Ok other) stands stands' in cc

  not_both : (script : Script) (fault : ScriptFault) → Stands (for_simulation files) input (Ok script) → Stands (for_simulation files) input (Err fault) → ⊥
  not_both script fault stands stands' = let never = one_outcome (for_simulation files) are_files input (Ok script) (Err fault) stands stands' in cc

  few_cores : (script : Script) → length input ≤ INPUT_BYTES → Stands (for_simulation files) input (Ok script) → length script.budgets ≤ 64
  few_cores script short stands = let limits : HasLimits script = limits_from (for_simulation files) input (Ok script) (omega arith) stands in limits.few

  script_once : length input ≤ INPUT_BYTES → ShowsOneButForMemory (ShowsScript files input)
  script_once short status other text more (inl one) (inl two) =
      let is = same_script two.0 one.0 two.1 one.1 in (
        one.2 ∙ sym two.2,
        λ refused. absurd (omega (arith, one.2, refused)),
        items_twice one.0.limits one.0.budgets one.0.items text more (few_cores one.0 short one.1) one.3 (subst (λ (s : Script). ShowsItems s.limits s.budgets s.items more) is two.3),
      )
  script_once short status other text more (inl one) (inr two) = absurd (not_both one.0 two.0 one.1 two.1)
  script_once short status other text more (inr one) (inl two) = absurd (not_both two.0 one.0 two.1 one.1)
  script_once short status other text more (inr one) (inr two) =
      let outcomes = one_outcome (for_simulation files) are_files input (Err one.0) (Err two.0) one.1 two.1 in
      let faults : one.0 ≡ two.0 = cc in
      let texts = one.3 ∙ ap script_fault_line faults ∙ sym two.3 in
      (one.2 ∙ sym two.2, λ is. texts, inl texts)

  pub sim_once : ShowsOneButForMemory (ShowsSim files input)
  sim_once status other text more (inl one) (inl two) = script_once one.0.0 status other text more one.1 two.1
  sim_once status other text more (inl one) (inr two) = absurd (not_long input files one.0 two.0)
  sim_once status other text more (inr one) (inl two) = absurd (not_long input files two.0 one.0)
  sim_once status other text more (inr one) (inr two) = let texts = one.1.1 ∙ sym two.1.1 in (one.1.0 ∙ sym two.1.0, λ is. texts, inl texts)

  -- Some text

  -- where the status is 1
  refused_some : (text : List ℕ) → ShowsSim files input 1 text → ShowsAmply (ShowsSim files input)
  refused_some text shows = (1, text, shows, λ other more shows'. inl ((sim_once 1 other text more shows shows').1 refl))

  script_some : (script : Script) → AllShort input files → Stands (for_simulation files) input (Ok script) → ShowsAmply (ShowsSim files input)
  script_some script short stands = (0, all.text, inl (short, inl (script, stands, refl, all.shows)), by)
    where
      all : ItemsAmply script.limits script.budgets script.items
      all = items_amply script.limits script.budgets script.items (has_budgets (for_simulation files) input script stands)

      by : (other : ℕ) (more : List ℕ) → ShowsSim files input other more → (all.text ≡ more) ⊎ DepartsAlone all.text more
      by other more (inl (short', inl x)) =
          all.others (few_cores script short.0 stands) more (subst (λ (s : Script). ShowsItems s.limits s.budgets s.items more) (same_script x.0 script x.1 stands) x.3)
      by other more (inl (short', inr x)) = absurd (not_both script x.0 stands x.1)
      by other more (inr long) = absurd (not_long input files short long.0)

  within_or_longer : (inputs : List (List ℕ)) → AllWithin inputs ⊎ OneLonger inputs
  within_or_longer [] = inl cc
  within_or_longer (first ∷ inputs) = by (cases_lt INPUT_BYTES (length first)) (within_or_longer inputs)
    where
      by : (INPUT_BYTES < length first) ⊎ (length first ≤ INPUT_BYTES) → AllWithin inputs ⊎ OneLonger inputs → AllWithin (first ∷ inputs) ⊎ OneLonger (first ∷ inputs)
      by (inl long) rest = inr (0, first, refl, long)
      by (inr short) (inl within) = inl (short, within)
      by (inr short) (inr longer) = inr (suc longer.0, longer.1, longer.2, longer.3)

  pub sim_some : ShowsAmply (ShowsSim files input)
  sim_some = by_length (cases_lt INPUT_BYTES (length input)) (within_or_longer files)
    where
      by_outcome : AllShort input files → (outcome : Result Script ScriptFault) → Stands (for_simulation files) input outcome → ShowsAmply (ShowsSim files input)
      by_outcome short (Ok script) stands = script_some script short stands
      by_outcome short (Err fault) stands = refused_some (script_fault_line fault) (inl (short, inr (fault, stands, refl, refl)))

      by_length : (INPUT_BYTES < length input) ⊎ (length input ≤ INPUT_BYTES) → AllWithin files ⊎ OneLonger files → ShowsAmply (ShowsSim files input)
      by_length (inl long) rest = refused_some too_long_line (inr (inl long, (refl, refl)))
      by_length (inr short) (inr longer) = refused_some too_long_line (inr (inr longer, (refl, refl)))
      by_length (inr short) (inl within) = let outcome = some_outcome (for_simulation files) input in by_outcome (short, within) outcome.0 outcome.1
