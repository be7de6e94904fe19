-- What is shown of a CODE that spells no acceptable program: the fault of its text, or the verifier's refusal.
use Rattle.std.specs.Prelude.{◌≡◌, ℕ, List, [], ◌∷◌, ◌++◌, codes, ◌⊎◌}
use Rattle.std.specs.Fmt.{decimal}
use Rattle.bpf_insn.specs.declared.insn.Insn.{Insn}
use Rattle.bpf_insn.specs.declared.ddd.TextFault.{TextFault}
use Rattle.bpf_insn.specs.Ddd.{Ddd, Faults}
use Rattle.filter_verify.specs.declared.rules.Refusal.{Refusal}
use Rattle.filter_verify.specs.declared.rules.Refusal.TheVariants as refusals
use Rattle.filter_verify.specs.Rules.{Refuses, Sound}
use Rattle.console.specs.Words.{code_words}

-- numbers in decimal, parted by commas
abbrev pub commas : List ℕ → List ℕ
commas [] = []
commas (n ∷ []) = decimal n
commas (n ∷ m ∷ others) = decimal n ++ codes "," ++ commas (m ∷ others)

-- the line that says why a text spells no program
abbrev pub code_line : TextFault → List ℕ
code_line fault = codes "code " ++ code_words fault ++ codes "\n"

-- the rule by which a program is refused, and where
abbrev pub refusal_words : Refusal → List ℕ
refusal_words refusals.Empty = codes "Empty"
refusal_words refusals.TooLong = codes "TooLong"
refusal_words (refusals.BadCode pc) = codes "BadCode pc " ++ decimal pc
refusal_words (refusals.ZeroDivisor pc) = codes "ZeroDivisor pc " ++ decimal pc
refusal_words (refusals.BadShift pc) = codes "BadShift pc " ++ decimal pc
refusal_words (refusals.BadWord pc) = codes "BadWord pc " ++ decimal pc
refusal_words (refusals.JumpOut pc) = codes "JumpOut pc " ++ decimal pc
refusal_words (refusals.Ancillary pc) = codes "Ancillary pc " ++ decimal pc
refusal_words refusals.NoReturn = codes "NoReturn"
refusal_words (refusals.Unwritten pc word path) =
    codes "Unwritten pc " ++ decimal pc ++ codes " word " ++ decimal word ++ codes " path " ++ commas path
refusal_words refusals.NoMemory = []

-- the line that says so
abbrev pub refused_line : Refusal → List ℕ
refused_line refusal = codes "refused " ++ refusal_words refusal ++ codes "\n"

-- the code spells a program that the verifier accepts
abbrev pub IsGoodCode : List ℕ → List Insn → Type 0
IsGoodCode code program = Ddd code program × Sound program

-- the line of a code that spells none, or one that is refused
abbrev pub ShowsBadCode : List ℕ → List ℕ → Type 0
ShowsBadCode code text =
    ((fault : TextFault) × Faults code fault × (text ≡ code_line fault))
    ⊎ ((program : List Insn) × Ddd code program × (refusal : Refusal) × Refuses program refusal × (text ≡ refused_line refusal))

-- two lines of one code are the same, but where a word is unwritten they may name two paths
abbrev pub SameButPath : List ℕ → List ℕ → Type 0
SameButPath text other = (text ≡ other)
    ⊎ ((pc : ℕ) × (word : ℕ) × (path : List ℕ) × (another : List ℕ)
    × (text ≡ refused_line (refusals.Unwritten pc word path)) × (other ≡ refused_line (refusals.Unwritten pc word another)))
