-- The pass that finds the written words.
use Rattle.std.proofs.Common.{◌≡◌, ℕ, ◌-◌, ◌<◌, ◌≤◌, List, [], ◌∷◌, ◌++◌, length, slice_index_or, inl, inr, arith, sym, subst, refl, ◌∙◌, ap, reverse}
use Rattle.std.proofs.lemmas.List.{reverse-append}
use Rattle.std.proofs.lemmas.Bool.{cases_eq}
use Rattle.bpf_insn.specs.declared.insn.Insn.{Insn}
use Rattle.bpf_insn.specs.declared.form.Form.{Form}
use Rattle.filter_verify.proofs.Forward.{JumpsTo-later}
use Rattle.bpf_insn.specs.Program.{FormAt, LeadsTo}
use Rattle.bpf_insn.proofs.Places.{FormAt-same}
use Rattle.filter_verify.specs.declared.words.Words.{Words}
use Rattle.filter_verify.specs.declared.flow.Exit.TheVariants.{Either}
use Rattle.filter_verify.specs.Exits.{IsExit, StoresForm}
use Rattle.filter_verify.specs.Paths.{LoadsWord, StoresWord, Successor, IsWalk, Path, IsStoredOn, IsUnwritten}
use Rattle.filter_verify.specs.Flows.{HasAt, LacksAt, Flows, IsAfter, Narrows, IsSettled, PassesBy}

-- the two arms of a conditional jump, one after the other
pub Flows-either : (pc : ℕ) (form : Form) (place other : ℕ) (after : Words) (old mid new : List Words) → length mid ≡ length old → length new ≡ length mid → IsExit pc form (Either place other) → IsAfter (slice_index_or old pc (record { 0 = 0 })) form after → Narrows place after old mid → Narrows other after mid new → Flows pc form old new
Flows-either pc form place other after old mid new first_length second_length exit is_after first second = record {
  same_length = second_length ∙ first_length;
  shrinks = λ to word lack. second.shrinks to word (first.shrinks to word lack);
  earlier = λ to word before has.
      let not_place : to ≡ place → ⊥ = λ same. let later = JumpsTo-later pc form place exit.0 in omega arith in
      let not_other : to ≡ other → ⊥ = λ same. let later = JumpsTo-later pc form other exit.1 in omega arith in
      second.others to word not_other (first.others to word not_place has);
  had = λ to word has. first.had to word (second.had to word has);
  keeps = λ to word below leads has. elim ((exit.2 to).0 leads) [
    | inl same ↦ is_after.has word below (first.keeps word (subst (λ p. HasAt mid p word) same (second.had to word has)))
    | inr same ↦ is_after.has word below (second.keeps word (subst (λ p. HasAt new p word) same has))
  ];
  lacks = λ to word below lack. elim (second.lacks to word lack) [
    | inl before ↦ elim (first.lacks to word before) [
      | inl a ↦ inl a
      | inr b ↦ let d = is_after.lacks word below b.1 in inr ((exit.2 to).1 (inl b.0), d.0, d.1)
    ]
    | inr b ↦ let d = is_after.lacks word below b.1 in inr ((exit.2 to).1 (inr b.0), d.0, d.1)
  ];
}

-- what the form at a place stores
pub StoresForm-here : (program : List Insn) (pc : ℕ) (form : Form) (word : ℕ) → FormAt program pc form → StoresWord program pc word → StoresForm form word
StoresForm-here program pc form word at stores =
    elim stores [ inl a ↦ inl (FormAt-same program pc form _ at a) | inr b ↦ inr (FormAt-same program pc form _ at b) ]

pub StoresWord-here : (program : List Insn) (pc : ℕ) (form : Form) (word : ℕ) → FormAt program pc form → StoresForm form word → StoresWord program pc word
StoresWord-here program pc form word at stores =
    elim stores [ inl a ↦ inl (subst (FormAt program pc) a at) | inr b ↦ inr (subst (FormAt program pc) b at) ]

-- a place leads on by the form that stands there
pub LeadsTo-here : (program : List Insn) (pc : ℕ) (form : Form) (to : ℕ) → FormAt program pc form → Successor program pc to → LeadsTo pc form to
LeadsTo-here program pc form to at leads = subst (λ f. LeadsTo pc f to) (FormAt-same program pc _ form leads.1 at) leads.2

module _ (program : List Insn) (written : List Words) (pc word : ℕ) where
  -- the path found so far, from its last place back to `next`, where no place from `place` on leads there with the word unwritten
  pub record IsTail (place next : ℕ) (path : List ℕ) : Type 0 where
    pub within : next ≤ pc
    pub above : place ≤ next
    pub lack : LacksAt written next word
    pub none_between : (q : ℕ) → place ≤ q → q < next → PassesBy program written q next word → ⊥
    pub rest : List ℕ
    pub begins : reverse path ≡ next ∷ rest
    pub walk : IsWalk program (next ∷ rest)
    pub earlier : List ℕ
    pub ends : next ∷ rest ≡ earlier ++ pc ∷ []
    pub unwritten : IsStoredOn program word earlier → ⊥

  pub IsTail-start : (path : List ℕ) → path ≡ pc ∷ [] → LacksAt written pc word → IsTail pc pc path
  IsTail-start path e lack = record {
    within = omega arith;
    above = omega arith;
    lack = lack;
    none_between = λ q above below _. absurd (omega arith);
    rest = [];
    begins = ap reverse e;
    walk = tt;
    earlier = [];
    ends = refl;
    unwritten = λ h. h;
  }

  pub IsTail-step : (place next : ℕ) (path longer : List ℕ) → 0 < place → IsTail place next path → PassesBy program written (place - 1) next word → longer ≡ path ++ (place - 1) ∷ [] → IsTail (place - 1) (place - 1) longer
  IsTail-step place next path longer some tail by e =
      let above = tail.above in
      let within = tail.within in
      record {
        within = omega arith;
        above = omega arith;
        lack = by.lack;
        none_between = λ q from below _. absurd (omega arith);
        rest = next ∷ tail.rest;
        begins = rw (e, reverse-append, tail.begins) refl;
        walk = (by.leads, tail.walk);
        earlier = (place - 1) ∷ tail.earlier;
        ends = ap (λ l. (place - 1) ∷ l) tail.ends;
        unwritten = λ h. elim h [ inl a ↦ by.stores_not a | inr b ↦ tail.unwritten b ];
      }

  pub IsTail-skip : (place next : ℕ) (path : List ℕ) → 0 < place → IsTail place next path → (PassesBy program written (place - 1) next word → ⊥) → IsTail (place - 1) next path
  IsTail-skip place next path some tail not_by =
      let above = tail.above in
      record {
        within = tail.within;
        above = omega arith;
        lack = tail.lack;
        none_between = λ q from below by. elim (cases_eq q (place - 1)) [
          | inl same ↦ not_by (subst (λ p. PassesBy program written p next word) same by)
          | inr apart ↦ tail.none_between q (omega arith) below by
        ];
        rest = tail.rest;
        begins = tail.begins;
        walk = tail.walk;
        earlier = tail.earlier;
        ends = tail.ends;
        unwritten = tail.unwritten;
      }

  pub IsTail-end : (next : ℕ) (path : List ℕ) → IsTail 0 next path → IsSettled program pc written → pc < length program → word < 16 → LoadsWord program pc word → IsUnwritten program pc word (reverse path)
  IsTail-end next path tail settled inside small loads =
      let within = tail.within in
      let first : next ≡ 0 = elim (settled.reasons next word (omega arith) small tail.lack) [
        | inl zero_place ↦ zero_place
        | inr r ↦ absurd (tail.none_between r.0 (omega arith) r.1 (record { leads = r.3; lack = r.4; stores_not = r.5 }))
      ] in
      record {
        earlier = tail.earlier;
        ends = tail.begins ∙ tail.ends;
        is_path = subst (Path program) (sym tail.begins) (first, tail.walk);
        loads = loads;
        unwritten = tail.unwritten;
      }
