-- The order of programs, by which one is found among others: by shape, and by constants where the shape is one.
-- No public clause cites these.
use Rattle.std.specs.Prelude.{◌≡◌, ◌<◌, ◌≤◌, ℕ, min, length, false, cond, ◌==◌, List, Option, Some, slice_get}
use Rattle.std.specs.declared.cmp.Ordering.{Ordering}
use Rattle.std.specs.declared.cmp.Ordering.TheVariants.{Less}
use Rattle.std.specs.Ordering.{nat_cmp, on, then_cmp, is_gt}
use Rattle.std.specs.Cmp.Lexicographic.{slice_cmp}
use Rattle.bpf_insn.specs.declared.insn.Insn.{Insn}
use Rattle.bpf_insn.specs.declared.form.Form.{Form}
use Rattle.bpf_insn.specs.declared.form.Form.TheVariants.{JmpK, RetK}
use Rattle.bpf_insn.specs.Table.{form_of}

-- the constant of an instruction of this form, as far as programs of one shape have it alike: what a jump compares with may differ, and
-- of what is returned whether it is 0 is alike
abbrev pub constant_alike : Option Form → ℕ → ℕ
constant_alike (Some (JmpK test k jt jf)) constant = 0
constant_alike (Some (RetK k)) constant = min k 1
constant_alike _ constant = constant

abbrev pub shape_constant : Insn → ℕ
shape_constant insn = constant_alike (form_of insn) insn.k

-- two instructions, but for the constants that may differ in programs of one shape
abbrev pub shape_cmp : Insn → Insn → Ordering
shape_cmp = then_cmp (on (λ i. i.code) nat_cmp) (then_cmp (on (λ i. i.jt) nat_cmp) (then_cmp (on (λ i. i.jf) nat_cmp) (on shape_constant nat_cmp)))

abbrev pub constant_cmp : Insn → Insn → Ordering
constant_cmp = on (λ i. i.k) nat_cmp

abbrev pub program_cmp : List Insn → List Insn → Ordering
program_cmp = then_cmp (slice_cmp shape_cmp) (slice_cmp constant_cmp)

-- the places of the programs, each once, in the order of the programs
pub record IsOrder (programs : List (List Insn)) (order : List ℕ) : Type 0 where
  pub each : (rank place : ℕ) → slice_get order rank ≡ Some place → place < length programs
  pub once : (i j place : ℕ) → slice_get order i ≡ Some place → slice_get order j ≡ Some place → i ≡ j
  pub all : (place : ℕ) → place < length programs → (rank : ℕ) × (slice_get order rank ≡ Some place)
  pub rising : (i j a b : ℕ) (p q : List Insn) → i ≤ j → slice_get order i ≡ Some a → slice_get order j ≡ Some b
      → slice_get programs a ≡ Some p → slice_get programs b ≡ Some q → is_gt (program_cmp p q) ≡ false

-- so many of the ordered programs come before one
pub record IsRank (programs : List (List Insn)) (order : List ℕ) (program : List Insn) (rank : ℕ) : Type 0 where
  pub within : rank ≤ length order
  pub before : (i a : ℕ) (p : List Insn) → i < rank → slice_get order i ≡ Some a → slice_get programs a ≡ Some p → program_cmp p program ≡ Less
  pub after : (i a : ℕ) (p : List Insn) → rank ≤ i → slice_get order i ≡ Some a → slice_get programs a ≡ Some p → program_cmp p program ≡ Less → ⊥

-- a place once the program at one is taken out: the last gets that one's place
abbrev pub place_once_taken : ℕ → ℕ → ℕ → ℕ
place_once_taken taken last place = cond (place == last) taken place
