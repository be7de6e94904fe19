-- The pass over the whole program.
use Rattle.std.proofs.Common.{◌≡◌, ℕ, zero, suc, ◌+◌, ◌<◌, ◌≤◌, List, [], ◌∷◌, ◌++◌, refl, length, slice_index_or, Bool, true, false, inl, inr, arith, sym, subst, ◌∙◌, cond, eqb, ltb, rules}
use Rattle.std.specs.Int.{bit_at}
use Rattle.std.proofs.lemmas.Bool.{cases_lt}
use Rattle.std.proofs.lemmas.Bool.Decides.{nat_tests}
use Rattle.bpf_insn.specs.declared.insn.Insn.{Insn}
use Rattle.bpf_insn.specs.declared.form.Form.{Form}
use Rattle.bpf_insn.specs.Program.{FormAt}
use Rattle.bpf_insn.proofs.Places.{FormAt-same, FormAt-inside}
use Rattle.filter_verify.specs.declared.words.Words.{Words}
use Rattle.filter_verify.specs.declared.rules.Refusal.TheVariants.{Unwritten}
use Rattle.filter_verify.specs.Words.{HasWord, LacksWord}
use Rattle.filter_verify.specs.Exits.{LoadsForm}
use Rattle.filter_verify.specs.Paths.{LoadsWord, StoresWord, Successor, Path, IsStoredOn, IsUnwritten}
use Rattle.filter_verify.specs.Flows.{HasAt, LacksAt, Flows, IsSettled, LoadsUnwritten}
use Rattle.filter_verify.specs.Kept.{IsKept}
use Rattle.filter_verify.specs.Rules.{IsWellShaped, Refuses}
use Rattle.filter_verify.proofs.Forward.{LeadsTo-later}
use Rattle.filter_verify.proofs.Passes.{StoresForm-here, StoresWord-here, LeadsTo-here}
use Rattle.filter_verify.proofs.Shapes.{Shaped-word}
use Rattle.filter_verify.proofs.Walks.{stored_before, Path-more, IsStoredOn-more}

-- what the form at a place loads
pub LoadsForm-here : (program : List Insn) (pc : ℕ) (form : Form) (word : ℕ) → FormAt program pc form → LoadsWord program pc word → LoadsForm form word
LoadsForm-here program pc form word at loads =
    elim loads [ inl a ↦ inl (FormAt-same program pc form _ at a) | inr b ↦ inr (FormAt-same program pc form _ at b) ]

pub LoadsWord-here : (program : List Insn) (pc : ℕ) (form : Form) (word : ℕ) → FormAt program pc form → LoadsForm form word → LoadsWord program pc word
LoadsWord-here program pc form word at loads =
    elim loads [ inl a ↦ inl (subst (FormAt program pc) a at) | inr b ↦ inr (subst (FormAt program pc) b at) ]

-- a set that has a word doesn't lack it
has_not_lacks : (words : Words) (word : ℕ) → HasWord words word → LacksWord words word → ⊥
has_not_lacks words word has lack = absurd (omega arith)

-- what is loaded is inside
pub LoadsWord-inside : (program : List Insn) (pc word : ℕ) → LoadsWord program pc word → pc < length program
LoadsWord-inside program pc word load = elim load [ inl a ↦ FormAt-inside program pc _ a | inr b ↦ FormAt-inside program pc _ b ]

-- one more instruction
pub IsSettled-step : (program : List Insn) (pc : ℕ) (form : Form) (old new : List Words) → IsSettled program pc old → FormAt program pc form → ((word : ℕ) → LoadsForm form word → HasAt old pc word) → Flows pc form old new → IsSettled program (pc + 1) new
IsSettled-step program pc form old new settled at loads flows = record {
  same_length = flows.same_length ∙ settled.same_length;
  opening = λ word. flows.shrinks 0 word (settled.opening word);
  loads = λ q word below load. elim (cases_lt q pc) [
    | inl before ↦ flows.earlier q word (omega arith) (settled.loads q word before load)
    | inr from ↦
        let same : pc ≡ q = omega arith in
        let here = subst (λ p. FormAt program p form) same at in
        flows.earlier q word (omega arith) (subst (λ p. HasAt old p word) same (loads word (LoadsForm-here program q form word here load)))
  ];
  onward = λ q to word below small leads has. elim (cases_lt q pc) [
    | inl before ↦ elim (settled.onward q to word before small leads (flows.had to word has)) [
      | inl a ↦ inl (flows.earlier q word (omega arith) a)
      | inr s ↦ inr s
    ]
    | inr from ↦
        let same : q ≡ pc = omega arith in
        let here = subst (λ p. Successor program p to) same leads in
        elim (flows.keeps to word small (LeadsTo-here program pc form to at here) has) [
          | inl a ↦ inl (flows.earlier q word (omega arith) (subst (λ p. HasAt old p word) (sym same) a))
          | inr s ↦ inr (subst (λ p. StoresWord program p word) (sym same) (StoresWord-here program pc form word at s))
        ]
  ];
  reasons = λ to word inside small lack. elim (flows.lacks to word small lack) [
    | inl before ↦ elim (settled.reasons to word inside small before) [
      | inl first ↦ inl first
      | inr r ↦ let below = r.2 in inr (r.0, r.1, omega arith, r.3, flows.shrinks r.0 word r.4, r.5)
    ]
    | inr n ↦ inr (pc, LeadsTo-later pc form to n.0, omega arith, (form, at, n.0), flows.shrinks pc word n.1, λ s. n.2 (StoresForm-here program pc form word at s))
  ];
}

-- no earlier place has a path on which its word is unwritten
pub Refuses-unwritten : (program : List Insn) (pc word : ℕ) (path : List ℕ) (written : List Words) → IsWellShaped program → IsSettled program pc written → pc < length program → IsUnwritten program pc word path → Refuses program (Unwritten pc word path)
Refuses-unwritten program pc word path written shaped settled inside unwritten = (
  shaped,
  unwritten,
  λ q other places below earlier.
      let small = Shaped-word program shaped q other (omega arith) (inl earlier.loads) in
      let found = stored_before program (λ p. HasAt written p other) other q (λ a b before leads has. settled.onward a b other (omega arith) small leads has) (λ has. has_not_lacks _ other has (settled.opening other)) earlier.earlier q (omega arith) (subst (Path program) earlier.ends earlier.is_path) (settled.loads q other below earlier.loads) in
      earlier.unwritten found,
)

-- A place whose set lacks a word has a path on which no earlier place stores it. So many places are below the greatest.
path_back : (program : List Insn) (written : List Words) (below word : ℕ) → IsSettled program below written → word < 16 → (most to : ℕ) → to ≤ most → to < length program → LacksAt written to word
    → (earlier : List ℕ) × Path program (earlier ++ to ∷ []) × (IsStoredOn program word earlier → ⊥)
path_back program written below word settled small zero to within inside lack = elim (settled.reasons to word inside small lack) [
  | inl first ↦ ([], (first, tt), λ none. none)
  | inr r ↦ absurd (let earlier = r.1 in omega arith)
]
path_back program written below word settled small (suc most) to within inside lack = elim (settled.reasons to word inside small lack) [
  | inl first ↦ ([], (first, tt), λ none. none)
  | inr r ↦
      let earlier = r.1 in
      let before = path_back program written below word settled small most r.0 (omega arith) (omega arith) r.4 in (
        before.0 ++ r.0 ∷ [],
        Path-more program before.0 r.0 to before.1 r.3,
        λ stored. elim (IsStoredOn-more program word before.0 r.0 stored) [ inl a ↦ before.2 a | inr s ↦ r.5 s ],
      )
]

-- so its load is refused
pub refused_load : (program : List Insn) (written : List Words) (pc word : ℕ) → IsWellShaped program → LoadsUnwritten program written pc word → (path : List ℕ) × Refuses program (Unwritten pc word path)
refused_load program written pc word shaped load =
    let back = path_back program written pc word load.settled load.small pc pc (omega arith) load.inside load.lacks in
    let path = back.0 ++ pc ∷ [] in
    (path, Refuses-unwritten program pc word path written shaped load.settled load.inside (record { earlier = back.0; ends = refl; is_path = back.1; loads = load.loads; unwritten = back.2 }))

-- whether the set at a place has the word, one of sixteen
in_set : List Words → ℕ → ℕ → Bool
in_set written pc word = cond (ltb word 16) (eqb (bit_at (slice_index_or written pc (record { 0 = 0 })).0 word) 1) false

in_set-has : (written : List Words) (pc word : ℕ) → in_set written pc word ≡ true → (word < 16) × HasAt written pc word
unfolding in_set
in_set-has written pc word e = (grind (arith, nat_tests), grind (arith, nat_tests))

has-in_set : (written : List Words) (pc word : ℕ) → word < 16 → HasAt written pc word → in_set written pc word ≡ true
unfolding in_set
has-in_set written pc word small has = grind (arith, nat_tests)

-- the sets after the whole pass are closed
pub IsKept-settled : (program : List Insn) (written : List Words) → IsWellShaped program → IsSettled program (length program) written → IsKept program
IsKept-settled program written shaped settled = (
  shaped,
  (
    in_set written,
    record {
      opening = λ word at. has_not_lacks _ word (in_set-has written 0 word at).1 (settled.opening word);
      onward = λ pc to word leads at.
          let has = in_set-has written to word at in
          let inside = FormAt-inside program pc leads.0 leads.1 in
          elim (settled.onward pc to word inside has.0 leads has.1) [ inl a ↦ inl (has-in_set written pc word has.0 a) | inr s ↦ inr s ];
      loads = λ pc word load.
          let inside = LoadsWord-inside program pc word load in
          has-in_set written pc word (Shaped-word program shaped pc word inside (inl load)) (settled.loads pc word inside load);
    },
  ),
)

-- a program that loads no scratch word is kept with no set
pub IsKept-unloaded : (program : List Insn) → IsWellShaped program → ((pc word : ℕ) → LoadsWord program pc word → ⊥) → IsKept program
IsKept-unloaded program shaped none = (
  shaped,
  (
    λ _ _. false,
    record {
      opening = λ word at. search rules;
      onward = λ pc to word leads at. search rules;
      loads = λ pc word load. absurd (none pc word load);
    },
  ),
)
