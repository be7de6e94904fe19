-- Sets of written words at the places of a program, as one pass over it finds them.
-- No public clause cites these.
use Rattle.bpf_insn.specs.Program.{LeadsTo}
use Rattle.std.specs.Prelude.{◌≡◌, ℕ, ◌+◌, ◌<◌, ◌⊎◌, List, length, slice_index_or}
use Rattle.bpf_insn.specs.declared.insn.Insn.{Insn}
use Rattle.bpf_insn.specs.declared.form.Form.{Form}
use Rattle.filter_verify.specs.declared.words.Words.{Words}
use Rattle.filter_verify.specs.Words.{HasWord, LacksWord}
use Rattle.filter_verify.specs.Exits.{StoresForm}
use Rattle.filter_verify.specs.Paths.{Successor, LoadsWord, StoresWord}

-- the set at a place has a word
abbrev pub HasAt : List Words → ℕ → ℕ → Type 0
HasAt written place word = HasWord (slice_index_or written place (record { 0 = 0 })) word

-- the set at a place lacks a word
abbrev pub LacksAt : List Words → ℕ → ℕ → Type 0
LacksAt written place word = LacksWord (slice_index_or written place (record { 0 = 0 })) word

-- the new sets keep at one place only the words of a set, and are the old ones at the others
pub record Narrows (place : ℕ) (words : Words) (old new : List Words) : Type 0 where
  pub shrinks : (to word : ℕ) → LacksAt old to word → LacksAt new to word
  pub had : (to word : ℕ) → HasAt new to word → HasAt old to word
  pub keeps : (word : ℕ) → HasAt new place word → HasWord words word
  pub others : (to word : ℕ) → (to ≡ place → ⊥) → HasAt old to word → HasAt new to word
  pub lacks : (to word : ℕ) → LacksAt new to word → LacksAt old to word ⊎ ((to ≡ place) × LacksWord words word)

-- the words after an instruction of a form, from those before it
pub record IsAfter (before : Words) (form : Form) (after : Words) : Type 0 where
  pub has : (word : ℕ) → word < 16 → HasWord after word → HasWord before word ⊎ StoresForm form word
  pub lacks : (word : ℕ) → word < 16 → LacksWord after word → LacksWord before word × (StoresForm form word → ⊥)

-- the new sets take an instruction's effect into account: of the words that a place had it keeps those that, if the
-- instruction leads there, the instruction's own set has or the instruction stores
pub record Flows (pc : ℕ) (form : Form) (old new : List Words) : Type 0 where
  pub same_length : length new ≡ length old
  pub shrinks : (to word : ℕ) → LacksAt old to word → LacksAt new to word
  pub earlier : (to word : ℕ) → to < pc + 1 → HasAt old to word → HasAt new to word
  pub had : (to word : ℕ) → HasAt new to word → HasAt old to word
  pub keeps : (to word : ℕ) → word < 16 → LeadsTo pc form to → HasAt new to word → HasAt old pc word ⊎ StoresForm form word
  pub lacks : (to word : ℕ) → word < 16 → LacksAt new to word → LacksAt old to word ⊎ (LeadsTo pc form to × LacksAt old pc word × (StoresForm form word → ⊥))

-- the sets after a pass over the instructions below a place
pub record IsSettled (program : List Insn) (below : ℕ) (written : List Words) : Type 0 where
  pub same_length : length written ≡ length program
  pub opening : (word : ℕ) → LacksAt written 0 word
  pub loads : (pc word : ℕ) → pc < below → LoadsWord program pc word → HasAt written pc word
  pub onward : (pc to word : ℕ) → pc < below → word < 16 → Successor program pc to → HasAt written to word → HasAt written pc word ⊎ StoresWord program pc word
  pub reasons : (to word : ℕ) → to < length program → word < 16 → LacksAt written to word → (to ≡ 0) ⊎ ((pc : ℕ) × (pc < to) × (pc < below) × Successor program pc to × LacksAt written pc word × (StoresWord program pc word → ⊥))

-- a place leads to another, and its set lacks a word, and its instruction doesn't store the word
pub record PassesBy (program : List Insn) (written : List Words) (pc to word : ℕ) : Type 0 where
  pub leads : Successor program pc to
  pub lack : LacksAt written pc word
  pub stores_not : StoresWord program pc word → ⊥

-- the pass has come to a place that loads a word which the place's set lacks
pub record LoadsUnwritten (program : List Insn) (written : List Words) (pc word : ℕ) : Type 0 where
  pub inside : pc < length program
  pub settled : IsSettled program pc written
  pub loads : LoadsWord program pc word
  pub lacks : LacksAt written pc word
  pub small : word < 16
