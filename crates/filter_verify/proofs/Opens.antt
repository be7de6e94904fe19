-- Places that a path leads to with a word unwritten, and the pass over the program that finds them.
use Rattle.std.proofs.Common.{◌≡◌, ℕ, ◌+◌, ◌<◌, ◌≤◌, ◌⊎◌, List, [], ◌∷◌, ◌++◌, length, inl, inr, arith, refl, sym, subst}
use Rattle.std.proofs.lemmas.Bool.{cases_eq, cases_lt}
use Rattle.bpf_insn.specs.declared.insn.Insn.{Insn}
use Rattle.bpf_insn.specs.declared.form.Form.{Form}
use Rattle.bpf_insn.specs.Program.{FormAt}
use Rattle.filter_verify.specs.Opens.{IsOpen, LoadsOpen, Spreads, IsFollowed, IsLeastOpen, IsLeastOfWords}
use Rattle.filter_verify.specs.Paths.{Successor, LoadsWord, StoresWord, IsStoredOn, Path}
use Rattle.filter_verify.specs.Places.{HasPlace}
use Rattle.filter_verify.proofs.Forward.{Successor-later}
use Rattle.filter_verify.proofs.Passes.{LeadsTo-here}
use Rattle.filter_verify.proofs.Walks.{Path-more, Path-less, IsStoredOn-more, IsStoredOn-before, IsStoredOn-last, last_of}

module _ (program : List Insn) where
  -- it comes by the place before
  abbrev pub OpenBy : ℕ → ℕ → ℕ → Type 0
  OpenBy word pc q = IsOpen program word q × Successor program q pc × (StoresWord program q word → ⊥)

  pub open_by : (word pc q : ℕ) → OpenBy word pc q → IsOpen program word pc
  open_by word pc q by = (
    by.0.0 ++ q ∷ [],
    Path-more program by.0.0 q pc by.0.1 by.1,
    λ stored. elim (IsStoredOn-more program word by.0.0 q stored) [ inl before ↦ by.0.2 before | inr here ↦ by.2 here ],
  )

  pub by_open : (word pc : ℕ) (earlier : List ℕ) → (pc ≡ 0 → ⊥) → Path program (earlier ++ pc ∷ []) → (IsStoredOn program word earlier → ⊥) → (q : ℕ) × (q < pc) × OpenBy word pc q
  by_open word pc [] later path unstored = absurd (later path.0)
  by_open word pc (first ∷ more) later path unstored =
      let end = last_of first more in
      let whole = subst (λ (places : List ℕ). Path program (places ++ pc ∷ [])) end.2 path in
      let parts = Path-less program end.0 end.1 pc whole in (
        end.1,
        Successor-later program end.1 pc parts.1,
        (
          (end.0, parts.0, λ stored. unstored (subst (IsStoredOn program word) (sym end.2) (IsStoredOn-before program word end.0 end.1 stored))),
          parts.1,
          λ here. unstored (subst (IsStoredOn program word) (sym end.2) (IsStoredOn-last program word end.0 end.1 here)),
        ),
      )

  -- the first place is open
  pub first_open : (word : ℕ) → IsOpen program word 0
  first_open word = ([], (refl, tt), λ none. none)

  -- a load of an unwritten word is at an open place, and the other way round
  pub loads_open : (pc word : ℕ) → LoadsOpen program word pc → LoadsWord program pc word × IsOpen program word pc
  loads_open pc word load = (load.1.loads, (load.1.earlier, subst (Path program) load.1.ends load.1.is_path, load.1.unwritten))

  pub open_loads : (pc word : ℕ) → LoadsWord program pc word → IsOpen program word pc → LoadsOpen program word pc
  open_loads pc word loads is = (is.0 ++ pc ∷ [], record { earlier = is.0; ends = refl; is_path = is.1; loads = loads; unwritten = is.2 })

  module _ (word pc : ℕ) (old : List ℕ) (followed : IsFollowed program word pc old) where
    -- the set has each open place up to the next one
    pub open_has : (to : ℕ) → to ≤ pc → IsOpen program word to → HasPlace old to
    open_has to within is = elim (cases_eq to 0) [
      | inl start ↦ subst (HasPlace old) (sym start) followed.first
      | inr later ↦ let by = by_open word to is.0 later is.1 is.2 in followed.onward by.0 to (let before = by.1 in omega arith) by.2.0 by.2.1 by.2.2
    ]

    -- an instruction that loads no unwritten word, and leads to no open place that the new set lacks
    IsFollowed-step : (new : List ℕ)
        → ((to : ℕ) → HasPlace old to → HasPlace new to)
        → ((to : ℕ) → HasPlace new to → IsOpen program word to)
        → ((to : ℕ) → IsOpen program word pc → Successor program pc to → (StoresWord program pc word → ⊥) → HasPlace new to)
        → (LoadsOpen program word pc → ⊥)
        → IsFollowed program word (pc + 1) new
    IsFollowed-step new keeps reasons onward none = record {
      first = keeps 0 followed.first;
      onward = λ q to below is leads unstored. elim (cases_lt q pc) [
        | inl before ↦ keeps to (followed.onward q to before is leads unstored)
        | inr from ↦
            let same : q ≡ pc = omega arith in
            onward to (subst (IsOpen program word) same is) (subst (λ p. Successor program p to) same leads) (subst (λ p. StoresWord program p word → ⊥) same unstored)
      ];
      reasons = reasons;
      none = λ q below load. elim (cases_lt q pc) [
        | inl before ↦ followed.none q before load
        | inr from ↦ let same : q ≡ pc = omega arith in none (subst (LoadsOpen program word) same load)
      ];
    }

    -- no path leads to the instruction with the word unwritten
    pub IsFollowed-closed : (HasPlace old pc → ⊥) → IsFollowed program word (pc + 1) old
    IsFollowed-closed closed =
        IsFollowed-step old (λ to has. has) followed.reasons
        (λ to is leads unstored. absurd (closed (open_has pc (omega arith) is)))
        (λ load. closed (open_has pc (omega arith) (loads_open pc word load).1))

    -- it stores the word
    pub IsFollowed-stored : StoresWord program pc word → (LoadsWord program pc word → ⊥) → IsFollowed program word (pc + 1) old
    IsFollowed-stored stores loads_not =
        IsFollowed-step old (λ to has. has) followed.reasons
        (λ to is leads unstored. absurd (unstored stores))
        (λ load. loads_not (loads_open pc word load).0)

    -- it leads on
    pub IsFollowed-on : (form : Form) (new : List ℕ) → FormAt program pc form → HasPlace old pc → Spreads pc form old new → (StoresWord program pc word → ⊥) → (LoadsWord program pc word → ⊥) → IsFollowed program word (pc + 1) new
    IsFollowed-on form new at has spreads stores_not loads_not =
        IsFollowed-step new (λ to was. (spreads to).1 (inl was))
        (λ to is. elim ((spreads to).0 is) [
          | inl was ↦ followed.reasons to was
          | inr leads ↦ open_by word to pc (followed.reasons pc has, (form, at, leads), stores_not)
        ])
        (λ to is leads unstored. (spreads to).1 (inr (LeadsTo-here program pc form to at leads)))
        (λ load. loads_not (loads_open pc word load).0)

  -- one word more
  pub IsLeast-word : (word end place : ℕ) → IsLeastOfWords program word end → IsLeastOpen program word end place → IsLeastOfWords program (word + 1) place
  IsLeast-word word end place before least =
      let within = least.within in
      let whole = before.within in
      record {
        within = omega arith;
        found = elim least.found [
          | inl same ↦ subst (λ p. (p ≡ length program) ⊎ ((other : ℕ) × LoadsOpen program other p)) (sym same) before.found
          | inr load ↦ inr (word, load)
        ];
        none = λ pc other below small load. elim (cases_lt other word) [
          | inl earlier ↦ before.none pc other (omega arith) earlier load
          | inr from ↦ let same : other ≡ word = omega arith in least.none pc below (subst (λ w. LoadsOpen program w pc) same load)
        ];
      }

  -- a word that nothing loads
  pub IsLeast-unloaded : (word end : ℕ) → IsLeastOfWords program word end → ((pc : ℕ) → LoadsWord program pc word → ⊥) → IsLeastOfWords program (word + 1) end
  IsLeast-unloaded word end before unloaded = IsLeast-word word end end before (record {
    within = omega arith;
    found = inl refl;
    none = λ pc below load. unloaded pc load.1.loads;
  })
