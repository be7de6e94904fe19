-- What can be decided of numbers, and of the form at a place.
use Rattle.std.proofs.Common.{◌≡◌, ℕ, zero, suc, ◌+◌, ◌<◌, ◌⊎◌, List, Option, Some, None, inl, inr, arith, refl, ap, subst}
use Rattle.std.proofs.lemmas.Bool.{cases_eq}
use Rattle.bpf_insn.specs.declared.insn.Insn.{Insn}
use Rattle.bpf_insn.specs.declared.form.Form.{Form}
use Rattle.bpf_insn.specs.declared.form.Form.TheVariants.{LdMem, LdxMem, St, Stx, Ja, JmpK, JmpX, RetK, RetA}
use Rattle.bpf_insn.specs.Program.{form_at, FormAt, LeadsTo}
use Rattle.bpf_insn.proofs.Places.{FormAt-same}
use Rattle.filter_verify.specs.Exits.{LoadsForm, StoresForm}
use Rattle.filter_verify.specs.Paths.{Successor, LoadsWord, StoresWord}
use Rattle.filter_verify.proofs.Passes.{StoresForm-here, StoresWord-here, LeadsTo-here}

-- a fact holds or doesn't
abbrev pub Decided : Type 0 → Type 0
Decided P = P ⊎ (P → ⊥)

-- of the numbers below one, the first for which a fact holds, or none
pub first_below : (P : ℕ → Type 0) (n : ℕ) → ((k : ℕ) → k < n → Decided (P k)) → ((k : ℕ) × (k < n) × P k × ((j : ℕ) → j < k → P j → ⊥)) ⊎ ((k : ℕ) → k < n → P k → ⊥)
first_below P zero decide = inr (λ k below _. absurd (omega arith))
first_below P (suc n) decide = elim (first_below P n (λ k below. decide k (omega arith))) [
  | inl found ↦ let below = found.1 in inl (found.0, omega arith, found.2, found.3)
  | inr none ↦ elim (decide n (omega arith)) [
    | inl here ↦ inl (n, omega arith, here, none)
    | inr not_here ↦ inr (λ k below at. elim (cases_eq k n) [
      | inl same ↦ not_here (subst P same at)
      | inr apart ↦ none k (omega arith) at
    ])
  ]
]

-- the form at a place, or none
pub form_or_none : (program : List Insn) (pc : ℕ) → (form_at program pc ≡ None) ⊎ ((form : Form) × FormAt program pc form)
form_or_none program pc = by (form_at program pc)
  where
    by : (found : Option Form) → (found ≡ None) ⊎ ((form : Form) × (found ≡ Some form))
    by None = inl refl
    by (Some form) = inr (form, refl)

-- where no form stands, none stands
no_form : (program : List Insn) (pc : ℕ) (form : Form) → form_at program pc ≡ None → FormAt program pc form → ⊥
no_form program pc form none at = cc

stores_form : (form : Form) (word : ℕ) → Decided (StoresForm form word)
stores_form (St k) word = elim (cases_eq k word) [ inl same ↦ inl (inl (ap St same)) | inr apart ↦ inr (λ s. elim s [ inl e ↦ apart (cc) | inr e ↦ cc ]) ]
stores_form (Stx k) word = elim (cases_eq k word) [ inl same ↦ inl (inr (ap Stx same)) | inr apart ↦ inr (λ s. elim s [ inl e ↦ cc | inr e ↦ apart (cc) ]) ]
stores_form _ word = inr (λ s. elim s [ inl e ↦ cc | inr e ↦ cc ])

-- the instruction at a place stores the word or doesn't
pub stores_or_not : (program : List Insn) (pc word : ℕ) → Decided (StoresWord program pc word)
stores_or_not program pc word = elim (form_or_none program pc) [
  | inl none ↦ inr (λ s. elim s [ inl e ↦ no_form program pc (St word) none e | inr e ↦ no_form program pc (Stx word) none e ])
  | inr found ↦ elim (stores_form found.0 word) [
    | inl stores ↦ inl (StoresWord-here program pc found.0 word found.1 stores)
    | inr other ↦ inr (λ s. other (StoresForm-here program pc found.0 word found.1 s))
  ]
]

one_of : (to this that : ℕ) → Decided ((to ≡ this) ⊎ (to ≡ that))
one_of to this that = elim (cases_eq to this) [
  | inl same ↦ inl (inl same)
  | inr apart ↦ elim (cases_eq to that) [ inl same ↦ inl (inr same) | inr other ↦ inr (λ e. elim e [ inl a ↦ apart a | inr b ↦ other b ]) ]
]

leads_form : (pc : ℕ) (form : Form) (to : ℕ) → Decided (LeadsTo pc form to)
leads_form pc (Ja k) to = cases_eq to (pc + 1 + k)
leads_form pc (JmpK test k jt jf) to = one_of to (pc + 1 + jt) (pc + 1 + jf)
leads_form pc (JmpX test jt jf) to = one_of to (pc + 1 + jt) (pc + 1 + jf)
leads_form pc (RetK k) to = inr (λ h. h)
leads_form pc RetA to = inr (λ h. h)
leads_form pc _ to = cases_eq to (pc + 1)

-- a place leads to another or doesn't
pub leads_or_not : (program : List Insn) (pc to : ℕ) → Decided (Successor program pc to)
leads_or_not program pc to = elim (form_or_none program pc) [
  | inl none ↦ inr (λ leads. no_form program pc leads.0 none leads.1)
  | inr found ↦ elim (leads_form pc found.0 to) [
    | inl leads ↦ inl (found.0, found.1, leads)
    | inr not_there ↦ inr (λ leads. not_there (LeadsTo-here program pc found.0 to found.1 leads))
  ]
]

-- the word that a form loads, or none
loads_form : (form : Form) → ((word : ℕ) × LoadsForm form word × ((other : ℕ) → LoadsForm form other → other ≡ word)) ⊎ ((word : ℕ) → LoadsForm form word → ⊥)
loads_form (LdMem k) = inl (k, inl refl, λ other loads. elim loads [ inl e ↦ cc | inr e ↦ cc ])
loads_form (LdxMem k) = inl (k, inr refl, λ other loads. elim loads [ inl e ↦ cc | inr e ↦ cc ])
loads_form _ = inr (λ word loads. elim loads [ inl e ↦ cc | inr e ↦ cc ])

-- the word that is loaded at a place, or none
pub loads_or_not : (program : List Insn) (pc : ℕ) → ((word : ℕ) × LoadsWord program pc word × ((other : ℕ) → LoadsWord program pc other → other ≡ word)) ⊎ ((word : ℕ) → LoadsWord program pc word → ⊥)
loads_or_not program pc = elim (form_or_none program pc) [
  | inl none ↦ inr (λ word s. elim s [ inl e ↦ no_form program pc (LdMem word) none e | inr e ↦ no_form program pc (LdxMem word) none e ])
  | inr found ↦ elim (loads_form found.0) [
    | inl loads ↦ inl (loads.0, there found.0 loads.0 found.1 loads.1, λ other at. loads.2 other (here found.0 other found.1 at))
    | inr none ↦ inr (λ word at. none word (here found.0 word found.1 at))
  ]
]
  where
    here : (form : Form) (word : ℕ) → FormAt program pc form → LoadsWord program pc word → LoadsForm form word
    here form word at loads = elim loads [ inl a ↦ inl (FormAt-same program pc form _ at a) | inr b ↦ inr (FormAt-same program pc form _ at b) ]

    there : (form : Form) (word : ℕ) → FormAt program pc form → LoadsForm form word → LoadsWord program pc word
    there form word at loads = elim loads [ inl a ↦ inl (subst (FormAt program pc) a at) | inr b ↦ inr (subst (FormAt program pc) b at) ]
