-- What an instruction's form says of places and words.
-- No public clause cites these.
use Rattle.bpf_insn.specs.Program.{JumpsTo, LeadsTo}
use Rattle.std.specs.Prelude.{◌≡◌, ℕ, ◌⊎◌}
use Rattle.bpf_insn.specs.declared.form.Form.{Form}
use Rattle.bpf_insn.specs.declared.form.Form.TheVariants.{LdMem, LdxMem, St, Stx}
use Rattle.filter_verify.specs.declared.flow.Exit.{Exit}
use Rattle.filter_verify.specs.declared.flow.Exit.TheVariants.{On, To, Either, Nowhere}
use Rattle.std.specs.Prelude.{◌+◌, ◌↔◌}

-- a form loads a word
abbrev pub LoadsForm : Form → ℕ → Type 0
LoadsForm form word = (form ≡ LdMem word) ⊎ (form ≡ LdxMem word)

-- a form stores a word
abbrev pub StoresForm : Form → ℕ → Type 0
StoresForm form word = (form ≡ St word) ⊎ (form ≡ Stx word)

-- the exit holds the places to which an instruction of the form leads
abbrev pub IsExit : ℕ → Form → Exit → Type 0
IsExit pc form On = ((to : ℕ) → JumpsTo pc form to → ⊥) × ((to : ℕ) → LeadsTo pc form to ↔ (to ≡ pc + 1))
IsExit pc form (To place) = JumpsTo pc form place × ((to : ℕ) → LeadsTo pc form to ↔ (to ≡ place)) × ((to : ℕ) → JumpsTo pc form to → to ≡ place)
IsExit pc form (Either place other) =
    JumpsTo pc form place × JumpsTo pc form other × ((to : ℕ) → LeadsTo pc form to ↔ ((to ≡ place) ⊎ (to ≡ other))) × ((to : ℕ) → JumpsTo pc form to → (to ≡ place) ⊎ (to ≡ other))
IsExit pc form Nowhere = ((to : ℕ) → JumpsTo pc form to → ⊥) × ((to : ℕ) → LeadsTo pc form to → ⊥)
