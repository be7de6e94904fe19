-- Programs with numbers.
-- No public clause cites these.
use Rattle.std.specs.Prelude.{◌≡◌, ◌<◌, ◌⊎◌, ℕ, List, Some, length, slice_get, slice_index}
use Rattle.std.specs.List.{Contains}
use Rattle.bpf_insn.specs.declared.insn.Insn.{Insn}
use Rattle.bpf_insn.specs.Machine.{Packet}
use Rattle.filter_vm.specs.Standing.{EndsWith}
use Rattle.filter_group.specs.declared.lockstep.Hit.{Hit}

-- the program and the number at each place
pub record Numbering : Type 0 where
  pub programs : List (List Insn)
  pub numbers : List ℕ

-- no program comes twice
abbrev pub AreDistinct : List (List Insn) → Type 0
AreDistinct programs = (i j : ℕ) (program : List Insn) → slice_get programs i ≡ Some program → slice_get programs j ≡ Some program → i ≡ j

-- each program has a number of its own
pub record AreNumbered (n : Numbering) : Type 0 where
  pub lengths : length n.numbers ≡ length n.programs
  pub distinct : AreDistinct n.programs
  pub apart : (i j number : ℕ) → slice_get n.numbers i ≡ Some number → slice_get n.numbers j ≡ Some number → i ≡ j

-- the program is listed with this number
abbrev pub Has : Numbering → ℕ → List Insn → Type 0
Has n number program = (i : ℕ) × (slice_get n.programs i ≡ Some program) × (slice_get n.numbers i ≡ Some number)

-- neither the number nor the program is listed
pub record IsFresh (n : Numbering) (number : ℕ) (program : List Insn) : Type 0 where
  pub program_fresh : (other : ℕ) → Has n other program → ⊥
  pub number_fresh : (other : List Insn) → Has n number other → ⊥

-- the programs that a packet passes, by their numbers, each with its verdict; all others end with verdict 0
pub record AreHitsBy (n : Numbering) (packet : Packet) (hits : List Hit) : Type 0 where
  pub each : (i : ℕ) (hit : Hit) → slice_get hits i ≡ Some hit → (0 < hit.verdict) × ((program : List Insn) × Has n hit.member program × EndsWith program packet hit.verdict)
  pub others : (number : ℕ) (program : List Insn) → Has n number program → ((hit : Hit) × Contains hits hit × (hit.member ≡ number)) ⊎ EndsWith program packet 0
  pub once : (i j : ℕ) (a b : Hit) → slice_get hits i ≡ Some a → slice_get hits j ≡ Some b → a.member ≡ b.member → i ≡ j

-- a hit by the number of its program
abbrev pub numbered_hit : List ℕ → Hit → Hit
numbered_hit numbers hit = record { member = slice_index numbers hit.member; verdict = hit.verdict }
