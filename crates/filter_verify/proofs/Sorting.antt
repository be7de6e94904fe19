-- Every program is sound, or is refused for a reason.
use Rattle.std.proofs.Common.{◌≡◌, ℕ, zero, suc, ◌+◌, ◌-◌, ◌<◌, ◌≤◌, ◌⊎◌, List, [], ◌∷◌, ◌++◌, length, inl, inr, arith, refl, ap, sym, subst}
use Rattle.std.proofs.lemmas.Bool.{cases_eq, cases_lt}
use Rattle.bpf_insn.specs.declared.insn.Insn.{Insn}
use Rattle.bpf_insn.specs.declared.form.Size.{Size}
use Rattle.bpf_insn.specs.declared.form.AluOp.TheVariants.{Div, Lsh, Rsh, Mod}
use Rattle.bpf_insn.specs.declared.form.Form.{Form}
use Rattle.bpf_insn.specs.declared.form.Form.TheVariants.{LdAbs, LdMem, LdxMem, St, Stx, AluK, Ja, JmpK, JmpX, RetK, RetA}
use Rattle.bpf_insn.specs.Program.{FormAt, JumpsTo}
use Rattle.bpf_insn.proofs.Places.{FormAt-inside, FormAt-same}
use Rattle.filter_verify.specs.declared.rules.Refusal.{Refusal}
use Rattle.filter_verify.specs.declared.rules.Refusal.TheVariants.{Empty, TooLong, BadCode, ZeroDivisor, BadShift, BadWord, JumpOut, Ancillary, NoReturn, Unwritten, NoMemory}
use Rattle.filter_verify.specs.Paths.{LoadsWord, StoresWord, IsStoredOn, Path, IsUnwritten, LoadsOnlyWritten}
use Rattle.filter_verify.specs.Rules.{BreaksAt, EndsInReturn, IsFine, IsFirst, IsReturn, IsSized, IsWellShaped, Refuses, IsDecided}
use Rattle.filter_verify.specs.Opens.{IsOpen}
use Rattle.filter_verify.proofs.Opens.{OpenBy, open_by, by_open, first_open, open_loads}
use Rattle.filter_verify.proofs.Deciding.{Decided, first_below, form_or_none, leads_or_not, loads_or_not, stores_or_not}

-- The rules on single instructions

-- a form that divides by the constant 0
abbrev DividesByZero : Form → Type 0
DividesByZero form = (form ≡ AluK Div 0) ⊎ (form ≡ AluK Mod 0)

divides_by_zero : (form : Form) → Decided (DividesByZero form)
divides_by_zero (AluK Div k) = elim (cases_eq k 0) [ inl none ↦ inl (inl (ap (AluK Div) none)) | inr some ↦ inr (λ d. elim d [ inl e ↦ some (cc) | inr e ↦ cc ]) ]
divides_by_zero (AluK Mod k) = elim (cases_eq k 0) [ inl none ↦ inl (inr (ap (AluK Mod) none)) | inr some ↦ inr (λ d. elim d [ inl e ↦ cc | inr e ↦ some (cc) ]) ]
divides_by_zero _ = inr (λ d. elim d [ inl e ↦ cc | inr e ↦ cc ])

-- a form that shifts by a constant of 32 or more
abbrev ShiftsFar : Form → Type 0
ShiftsFar form = (k : ℕ) × (32 ≤ k) × ((form ≡ AluK Lsh k) ⊎ (form ≡ AluK Rsh k))

shifts_far : (form : Form) → Decided (ShiftsFar form)
shifts_far (AluK Lsh k) = elim (cases_lt k 32) [
  | inl below ↦ inr (λ s. let far = s.1 in elim (s.2) [ inl e ↦ let same : k ≡ s.0 = cc in omega arith | inr e ↦ cc ])
  | inr above ↦ inl (k, above, inl refl)
]
shifts_far (AluK Rsh k) = elim (cases_lt k 32) [
  | inl below ↦ inr (λ s. let far = s.1 in elim (s.2) [ inl e ↦ cc | inr e ↦ let same : k ≡ s.0 = cc in omega arith ])
  | inr above ↦ inl (k, above, inr refl)
]
shifts_far _ = inr (λ s. elim (s.2) [ inl e ↦ cc | inr e ↦ cc ])

-- a form that loads or stores a word that isn't one of sixteen
abbrev NamesFar : Form → Type 0
NamesFar form = (word : ℕ) × (16 ≤ word) × (((form ≡ LdMem word) ⊎ (form ≡ LdxMem word)) ⊎ ((form ≡ St word) ⊎ (form ≡ Stx word)))

names_far : (form : Form) → Decided (NamesFar form)
names_far (LdMem k) = elim (cases_lt k 16) [
  | inl below ↦ inr (λ s. let far = s.1 in elim (s.2) [ inl l ↦ elim l [ inl e ↦ let same : k ≡ s.0 = cc in omega arith | inr e ↦ cc ] | inr l ↦ elim l [ inl e ↦ cc | inr e ↦ cc ] ])
  | inr above ↦ inl (k, above, inl (inl refl))
]
names_far (LdxMem k) = elim (cases_lt k 16) [
  | inl below ↦ inr (λ s. let far = s.1 in elim (s.2) [ inl l ↦ elim l [ inl e ↦ cc | inr e ↦ let same : k ≡ s.0 = cc in omega arith ] | inr l ↦ elim l [ inl e ↦ cc | inr e ↦ cc ] ])
  | inr above ↦ inl (k, above, inl (inr refl))
]
names_far (St k) = elim (cases_lt k 16) [
  | inl below ↦ inr (λ s. let far = s.1 in elim (s.2) [ inl l ↦ elim l [ inl e ↦ cc | inr e ↦ cc ] | inr l ↦ elim l [ inl e ↦ let same : k ≡ s.0 = cc in omega arith | inr e ↦ cc ] ])
  | inr above ↦ inl (k, above, inr (inl refl))
]
names_far (Stx k) = elim (cases_lt k 16) [
  | inl below ↦ inr (λ s. let far = s.1 in elim (s.2) [ inl l ↦ elim l [ inl e ↦ cc | inr e ↦ cc ] | inr l ↦ elim l [ inl e ↦ cc | inr e ↦ let same : k ≡ s.0 = cc in omega arith ] ])
  | inr above ↦ inl (k, above, inr (inr refl))
]
names_far _ = inr (λ s. elim (s.2) [ inl l ↦ elim l [ inl e ↦ cc | inr e ↦ cc ] | inr l ↦ elim l [ inl e ↦ cc | inr e ↦ cc ] ])

-- a form that jumps from a place to one at or past a length
abbrev JumpsPast : ℕ → ℕ → Form → Type 0
JumpsPast pc len form = (to : ℕ) × JumpsTo pc form to × (len ≤ to)

one_past : (len this that : ℕ) → Decided ((to : ℕ) × ((to ≡ this) ⊎ (to ≡ that)) × (len ≤ to))
one_past len this that = elim (cases_lt this len) [
  | inr past ↦ inl (this, inl refl, past)
  | inl inside ↦ elim (cases_lt that len) [
    | inr past ↦ inl (that, inr refl, past)
    | inl within ↦ inr (λ s. let past = s.2 in elim (s.1) [ inl e ↦ omega arith | inr e ↦ omega arith ])
  ]
]

jumps_past : (pc len : ℕ) (form : Form) → Decided (JumpsPast pc len form)
jumps_past pc len (Ja k) = elim (cases_lt (pc + 1 + k) len) [
  | inl inside ↦ inr (λ s. let at = s.1 in let past = s.2 in omega arith)
  | inr past ↦ inl (pc + 1 + k, refl, past)
]
jumps_past pc len (JmpK test k jt jf) = one_past len (pc + 1 + jt) (pc + 1 + jf)
jumps_past pc len (JmpX test jt jf) = one_past len (pc + 1 + jt) (pc + 1 + jf)
jumps_past pc len _ = inr (λ s. s.1)

-- a form that loads from a place of ancillary data
abbrev LoadsAncillary : Form → Type 0
LoadsAncillary form = (size : Size) × (k : ℕ) × (2147483648 ≤ k) × (form ≡ LdAbs size k)

loads_ancillary : (form : Form) → Decided (LoadsAncillary form)
loads_ancillary (LdAbs size k) = elim (cases_lt k 2147483648) [
  | inl below ↦ inr (λ s. let above = s.2 in let e = s.3 in let same : k ≡ s.1 = cc in omega arith)
  | inr above ↦ inl (size, k, above, refl)
]
loads_ancillary _ = inr (λ s. let e = s.3 in cc)

module _ (program : List Insn) where
  -- an instruction breaks a rule, or none
  pub fine_or_breaks : (pc : ℕ) → ((refusal : Refusal) × BreaksAt program pc refusal) ⊎ IsFine program pc
  fine_or_breaks pc = elim (form_or_none program pc) [
    | inl none ↦ inl (BadCode pc, (refl, none))
    | inr found ↦ elim (divides_by_zero found.0) [
      | inl bad ↦ inl (ZeroDivisor pc, (refl, elim bad [ inl e ↦ inl (subst (FormAt program pc) e found.1) | inr e ↦ inr (subst (FormAt program pc) e found.1) ]))
      | inr divides ↦ elim (shifts_far found.0) [
        | inl bad ↦ inl (BadShift pc, (refl, (bad.0, bad.1, elim (bad.2) [ inl e ↦ inl (subst (FormAt program pc) e found.1) | inr e ↦ inr (subst (FormAt program pc) e found.1) ])))
        | inr shifts ↦ elim (names_far found.0) [
          | inl bad ↦ inl (BadWord pc, (refl, (bad.0, bad.1, named pc found.0 bad.0 found.1 bad.2)))
          | inr names ↦ elim (jumps_past pc (length program) found.0) [
            | inl bad ↦ inl (JumpOut pc, (refl, (found.0, bad.0, found.1, bad.1, bad.2)))
            | inr jumps ↦ elim (loads_ancillary found.0) [
              | inl bad ↦ inl (Ancillary pc, (refl, (bad.0, bad.1, bad.2, subst (FormAt program pc) (bad.3) found.1)))
              | inr loads ↦ inr (fine pc found.0 found.1 divides shifts names jumps loads)
            ]
          ]
        ]
      ]
    ]
  ]
    where
      named : (pc : ℕ) (form : Form) (word : ℕ) → FormAt program pc form → (((form ≡ LdMem word) ⊎ (form ≡ LdxMem word)) ⊎ ((form ≡ St word) ⊎ (form ≡ Stx word))) → LoadsWord program pc word ⊎ StoresWord program pc word
      named pc form word at (inl (inl e)) = inl (inl (subst (FormAt program pc) e at))
      named pc form word at (inl (inr e)) = inl (inr (subst (FormAt program pc) e at))
      named pc form word at (inr (inl e)) = inr (inl (subst (FormAt program pc) e at))
      named pc form word at (inr (inr e)) = inr (inr (subst (FormAt program pc) e at))

      names_of : (pc : ℕ) (form : Form) (word : ℕ) → FormAt program pc form → LoadsWord program pc word ⊎ StoresWord program pc word → ((form ≡ LdMem word) ⊎ (form ≡ LdxMem word)) ⊎ ((form ≡ St word) ⊎ (form ≡ Stx word))
      names_of pc form word at (inl (inl e)) = inl (inl (FormAt-same program pc form _ at e))
      names_of pc form word at (inl (inr e)) = inl (inr (FormAt-same program pc form _ at e))
      names_of pc form word at (inr (inl e)) = inr (inl (FormAt-same program pc form _ at e))
      names_of pc form word at (inr (inr e)) = inr (inr (FormAt-same program pc form _ at e))

      fine : (pc : ℕ) (form : Form) → FormAt program pc form → (DividesByZero form → ⊥) → (ShiftsFar form → ⊥) → (NamesFar form → ⊥) → (JumpsPast pc (length program) form → ⊥) → (LoadsAncillary form → ⊥) → IsFine program pc
      fine pc form at divides shifts names jumps loads (BadCode p) b = let none = b.1 in cc
      fine pc form at divides shifts names jumps loads (ZeroDivisor p) b = divides (elim (b.1) [ inl e ↦ inl (FormAt-same program pc form _ at e) | inr e ↦ inr (FormAt-same program pc form _ at e) ])
      fine pc form at divides shifts names jumps loads (BadShift p) b =
          shifts (b.1.0, b.1.1, elim (b.1.2) [ inl e ↦ inl (FormAt-same program pc form _ at e) | inr e ↦ inr (FormAt-same program pc form _ at e) ])
      fine pc form at divides shifts names jumps loads (BadWord p) b = names (b.1.0, b.1.1, names_of pc form b.1.0 at b.1.2)
      fine pc form at divides shifts names jumps loads (JumpOut p) b =
          jumps (b.1.1, subst (λ f. JumpsTo pc f b.1.1) (FormAt-same program pc b.1.0 form b.1.2 at) b.1.3, b.1.4)
      fine pc form at divides shifts names jumps loads (Ancillary p) b = loads (b.1.0, b.1.1, b.1.2, FormAt-same program pc form _ at b.1.3)
      fine pc form at divides shifts names jumps loads Empty b = b
      fine pc form at divides shifts names jumps loads TooLong b = b
      fine pc form at divides shifts names jumps loads NoReturn b = b
      fine pc form at divides shifts names jumps loads (Unwritten p word path) b = b
      fine pc form at divides shifts names jumps loads NoMemory b = b

  -- the first instruction that breaks a rule is a reason
  first_refuses : (pc : ℕ) (refusal : Refusal) → IsFirst program pc → BreaksAt program pc refusal → (found : Refusal) × Refuses program found
  first_refuses pc (BadCode at) first b = (BadCode at, (subst (IsFirst program) (sym b.0) first, subst (λ p. BreaksAt program p (BadCode at)) (sym b.0) b))
  first_refuses pc (ZeroDivisor at) first b = (ZeroDivisor at, (subst (IsFirst program) (sym b.0) first, subst (λ p. BreaksAt program p (ZeroDivisor at)) (sym b.0) b))
  first_refuses pc (BadShift at) first b = (BadShift at, (subst (IsFirst program) (sym b.0) first, subst (λ p. BreaksAt program p (BadShift at)) (sym b.0) b))
  first_refuses pc (BadWord at) first b = (BadWord at, (subst (IsFirst program) (sym b.0) first, subst (λ p. BreaksAt program p (BadWord at)) (sym b.0) b))
  first_refuses pc (JumpOut at) first b = (JumpOut at, (subst (IsFirst program) (sym b.0) first, subst (λ p. BreaksAt program p (JumpOut at)) (sym b.0) b))
  first_refuses pc (Ancillary at) first b = (Ancillary at, (subst (IsFirst program) (sym b.0) first, subst (λ p. BreaksAt program p (Ancillary at)) (sym b.0) b))
  first_refuses pc Empty first b = absurd b
  first_refuses pc TooLong first b = absurd b
  first_refuses pc NoReturn first b = absurd b
  first_refuses pc (Unwritten at word path) first b = absurd b
  first_refuses pc NoMemory first b = absurd b

  -- The end

  return_or_not : (form : Form) → Decided (IsReturn form)
  return_or_not (RetK k) = inl tt
  return_or_not RetA = inl tt
  return_or_not _ = inr (λ h. h)

  ends_or_not : Decided (EndsInReturn program)
  ends_or_not = elim (form_or_none program (length program - 1)) [
    | inl none ↦ inr (λ ends. let at = ends.1 in cc)
    | inr found ↦ elim (return_or_not found.0) [
      | inl is ↦ inl (found.0, found.1, is)
      | inr other ↦ inr (λ ends. other (subst IsReturn (FormAt-same program (length program - 1) ends.0 found.0 ends.1 found.1) ends.2))
    ]
  ]

  -- The words

  -- whether a path leads to a place with a word unwritten, by the places before
  open_below : (word n pc : ℕ) → pc < n → Decided (IsOpen program word pc)
  open_below word zero pc below = absurd (omega arith)
  open_below word (suc n) pc below = elim (cases_eq pc 0) [
    | inl start ↦ inl (subst (IsOpen program word) (sym start) (first_open program word))
    | inr later ↦ elim (first_below (OpenBy program word pc) pc (λ q before. by_or_not q (open_below word n q (omega arith)))) [
      | inl found ↦ inl (open_by program word pc found.0 found.2)
      | inr none ↦ inr (λ is. let by = by_open program word pc is.0 later is.1 is.2 in none by.0 by.1 by.2)
    ]
  ]
    where
      by_or_not : (q : ℕ) → Decided (IsOpen program word q) → Decided (OpenBy program word pc q)
      by_or_not q (inr closed) = inr (λ by. closed by.0)
      by_or_not q (inl is) = elim (leads_or_not program q pc) [
        | inr other ↦ inr (λ by. other by.1)
        | inl leads ↦ elim (stores_or_not program q word) [ inl stores ↦ inr (λ by. by.2 stores) | inr stores_not ↦ inl (is, leads, stores_not) ]
      ]

  -- a load at a place that a path leads to with its word unwritten
  abbrev HasUnwritten : ℕ → Type 0
  HasUnwritten pc = (word : ℕ) × (path : List ℕ) × IsUnwritten program pc word path

  unwritten_or_not : (pc : ℕ) → Decided (HasUnwritten pc)
  unwritten_or_not pc = elim (loads_or_not program pc) [
    | inr none ↦ inr (λ has. none has.0 has.2.loads)
    | inl loads ↦ elim (open_below (loads.0) (pc + 1) pc (omega arith)) [
      | inl is ↦ let load = open_loads program pc loads.0 loads.1 is in inl (loads.0, load.0, load.1)
      | inr closed ↦ inr (λ has.
          let same : has.0 ≡ loads.0 = loads.2 has.0 has.2.loads in
          closed (has.2.earlier, subst (Path program) has.2.ends has.2.is_path, subst (λ word. IsStoredOn program word has.2.earlier → ⊥) same has.2.unwritten))
    ]
  ]

  stored_or_not : (word : ℕ) (places : List ℕ) → Decided (IsStoredOn program word places)
  stored_or_not word [] = inr (λ h. h)
  stored_or_not word (pc ∷ places) = elim (stores_or_not program pc word) [
    | inl here ↦ inl (inl here)
    | inr not_here ↦ elim (stored_or_not word places) [ inl later ↦ inl (inr later) | inr none ↦ inr (λ s. elim s [ inl a ↦ not_here a | inr b ↦ none b ]) ]
  ]

  -- where no load is of an unwritten word, each path that ends at a load has written its word
  pub all_written : ((pc : ℕ) → pc < length program → HasUnwritten pc → ⊥) → LoadsOnlyWritten program
  all_written none earlier pc word path loads = elim (stored_or_not word earlier) [
    | inl stored ↦ stored
    | inr open_path ↦
        let inside : pc < length program = elim loads [ inl a ↦ FormAt-inside program pc _ a | inr b ↦ FormAt-inside program pc _ b ] in
        absurd (none pc inside (word, earlier ++ pc ∷ [], record { earlier = earlier; ends = refl; is_path = path; loads = loads; unwritten = open_path }))
  ]

  well_shaped : IsWellShaped program → IsDecided program
  unfolding IsDecided
  well_shaped shaped = elim (first_below HasUnwritten (length program) (λ pc _. unwritten_or_not pc)) [
    | inl found ↦ inr (
      Unwritten (found.0) (found.2.0) (found.2.1),
      (shaped, found.2.2, λ q other places before earlier. found.3 q before (other, places, earlier)),
    )
    | inr none ↦ inl (record { shaped = shaped; written = all_written none })
  ]

  all_fine : IsSized program → ((pc : ℕ) → pc < length program → IsFine program pc) → IsDecided program
  unfolding IsDecided
  all_fine sized fine = elim ends_or_not [
    | inl ends ↦ well_shaped (record { sized = sized; fine = fine; ends = ends })
    | inr other ↦ inr (NoReturn, (sized, fine, other))
  ]

  -- an instruction breaks a rule
  abbrev Breaks : ℕ → Type 0
  Breaks pc = (refusal : Refusal) × BreaksAt program pc refusal

  breaks_or_fine : (pc : ℕ) → Decided (Breaks pc)
  breaks_or_fine pc = elim (fine_or_breaks pc) [ inl breaks ↦ inl breaks | inr fine ↦ inr (λ breaks. fine breaks.0 breaks.1) ]

  sized_program : IsSized program → IsDecided program
  unfolding IsDecided
  sized_program sized = elim (first_below Breaks (length program) (λ pc _. breaks_or_fine pc)) [
    | inl found ↦ inr (first_refuses found.0 (found.2.0) (sized, found.1, λ q before refusal breaks. found.3 q before (refusal, breaks)) (found.2.1))
    | inr none ↦ all_fine sized (λ pc inside refusal breaks. none pc inside (refusal, breaks))
  ]

  pub sound_or_refused : IsDecided program
  unfolding IsDecided
  sound_or_refused = elim (cases_eq (length program) 0) [
    | inl empty ↦ inr (Empty, empty)
    | inr some ↦ elim (cases_lt 4096 (length program)) [
      | inl long ↦ inr (TooLong, long)
      | inr short ↦ sized_program (omega arith, short)
    ]
  ]
