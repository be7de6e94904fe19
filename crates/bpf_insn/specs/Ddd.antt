-- The decimal text of a program: what `tcpdump -ddd` writes (tcpdump(1)), the iptables bpf match takes
-- (iptables-extensions(8)) and Linux's bpf_asm writes (Linux Documentation/networking/filter).
use Rattle.std.specs.Prelude.{◌≡◌, ◌≢◌, ℕ, ◌+◌, ◌^◌, ◌<◌, ◌≤◌, ◌==◌, ◌||◌, Bool, List, [], ◌∷◌, ◌++◌, length, All, ◌⊎◌, Some, map}
use Rattle.std.specs.List.{slice_split, AllZip}
use Rattle.bpf_insn.specs.Texts.{number_of, words_of}
use Rattle.bpf_insn.specs.declared.insn.TheConstants.{MAX_INSNS}
use Rattle.bpf_insn.specs.declared.insn.Insn.{Insn}
use Rattle.bpf_insn.specs.declared.ddd.TextFault.{TextFault}
use Rattle.bpf_insn.specs.declared.ddd.TextFault.TheVariants.{BadNumber, CountMismatch, TooLong, NoMemory}

-- a comma or a line feed, at which the text is cut
abbrev pub is_separator : ℕ → Bool
is_separator b = (b == 44) || (b == 10)

-- the words of each piece of a text
abbrev pub cuts : List ℕ → List (List (List ℕ))
cuts text = map words_of (slice_split is_separator text)

-- no pieces, or the last is not empty
abbrev pub IsEndFull : List (List (List ℕ)) → Type 0
IsEndFull pieces = (pieces ≡ []) ⊎ ((front : List (List (List ℕ))) × (last : List (List ℕ)) × (pieces ≡ front ++ last ∷ []) × (last ≢ []))

-- pieces without the empty ones at their end
pub record IsTrimmed (cut pieces : List (List (List ℕ))) : Type 0 where
  pub gap : List (List (List ℕ))
  pub whole : cut ≡ pieces ++ gap
  pub empty : All (λ words. words ≡ []) gap
  pub full : IsEndFull pieces

-- the pieces of a text
abbrev pub IsPieces : List ℕ → List (List (List ℕ)) → Type 0
IsPieces text pieces = IsTrimmed (cuts text) pieces

-- a piece of one number
pub record SpellsCount (words : List (List ℕ)) (n : ℕ) : Type 0 where
  pub word : List ℕ
  pub alone : words ≡ word ∷ []
  pub value : number_of word ≡ Some n

-- a piece of the four numbers of an instruction, each in the range of its field
pub record SpellsInsn (words : List (List ℕ)) (insn : Insn) : Type 0 where
  pub a : List ℕ
  pub b : List ℕ
  pub c : List ℕ
  pub d : List ℕ
  pub four : words ≡ a ∷ b ∷ c ∷ d ∷ []
  pub code : number_of a ≡ Some insn.code
  pub jt : number_of b ≡ Some insn.jt
  pub jf : number_of c ≡ Some insn.jf
  pub k : number_of d ≡ Some insn.k
  pub code_fits : insn.code < 2 ^ 16
  pub jt_fits : insn.jt < 2 ^ 8
  pub jf_fits : insn.jf < 2 ^ 8
  pub k_fits : insn.k < 2 ^ 32

-- a piece spells some instruction, or none
abbrev pub IsInsn : List (List ℕ) → Type 0
IsInsn words = (insn : Insn) × SpellsInsn words insn

-- the text spells the program: its length, at most MAX_INSNS, and each of its instructions
pub record Ddd (text : List ℕ) (program : List Insn) : Type 0 where
  pub first : List (List ℕ)
  pub rest : List (List (List ℕ))
  pub pieces : IsPieces text (first ∷ rest)
  pub count : SpellsCount first (length program)
  pub short : length program ≤ MAX_INSNS
  pub each : AllZip SpellsInsn rest program

-- the first piece is the number n
abbrev pub Counts : List (List (List ℕ)) → ℕ → Type 0
Counts [] n = ⊥
Counts (first ∷ rest) n = SpellsCount first n

-- the count is right: the first piece is the number n, at most MAX_INSNS, and n pieces follow it
pub record IsCounted (pieces : List (List (List ℕ))) (n : ℕ) : Type 0 where
  pub count : Counts pieces n
  pub short : n ≤ MAX_INSNS
  pub number : length pieces ≡ n + 1

-- piece number place is the first after the count that spells no instruction
pub record IsFirstBad (pieces : List (List (List ℕ))) (place : ℕ) : Type 0 where
  pub first : List (List ℕ)
  pub good : List (List (List ℕ))
  pub bad : List (List ℕ)
  pub more : List (List (List ℕ))
  pub parts : pieces ≡ (first ∷ good) ++ bad ∷ more
  pub at : length good + 1 ≡ place
  pub before : All IsInsn good
  pub here : ¬ (IsInsn bad)

-- these pieces spell no program, and this is the first fault: the count, its bound, the number of pieces, the first
-- piece that is no instruction; NoMemory is no fault of a text
abbrev pub HasFault : List (List (List ℕ)) → TextFault → Type 0
HasFault pieces (BadNumber place) = ((place ≡ 0) × ((n : ℕ) → ¬ (Counts pieces n)))
    ⊎ ((n : ℕ) × IsCounted pieces n × IsFirstBad pieces place)
HasFault pieces TooLong = (n : ℕ) × Counts pieces n × (MAX_INSNS < n)
HasFault pieces CountMismatch = (n : ℕ) × Counts pieces n × (n ≤ MAX_INSNS) × (length pieces ≢ n + 1)
HasFault pieces NoMemory = ⊥

-- the first fault of a text
abbrev pub Faults : List ℕ → TextFault → Type 0
Faults text fault = (pieces : List (List (List ℕ))) × IsPieces text pieces × HasFault pieces fault

-- the count of a text is right
abbrev pub IsCountRight : List ℕ → Type 0
IsCountRight text = (pieces : List (List (List ℕ))) × (n : ℕ) × IsPieces text pieces × IsCounted pieces n

-- the text spells a program, or has a first fault
abbrev pub HasOutcome : List ℕ → Type 0
HasOutcome text = ((program : List Insn) × Ddd text program) ⊎ ((fault : TextFault) × Faults text fault)
