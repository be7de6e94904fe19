-- What `tcpdump -d` prints of an instruction, as the words of its line (libpcap, bpf_image.c).
use Rattle.std.specs.Prelude.{◌≡◌, ℕ, ◌+◌, ◌-◌, ◌%◌, ◌^◌, ◌<◌, ◌==◌, nat_lt, if◌then◌else◌, Bool, true, false, List, [], ◌∷◌, ◌++◌, codes, Option, Some, None}
use Rattle.std.specs.Fmt.{decimal, digits}
use Rattle.bpf_insn.specs.Table.{InRange}
use Rattle.bpf_insn.specs.declared.insn.Insn.{Insn}
use Rattle.filter_listing.specs.declared.mnemonic.Mnemonic.{Mnemonic}
use Rattle.filter_listing.specs.declared.mnemonic.Mnemonic.TheVariants.{Ret, Ld, Ldh, Ldb, Ldx, Ldxb, St, Stx, Ja, Jgt, Jge, Jeq, Jset, Add, Sub, Mul, Div, Mod, And, Or, Xor, Lsh, Rsh, Neg, Tax, Txa}
use Rattle.filter_listing.specs.declared.mnemonic.Operand.{Operand}
use Rattle.filter_listing.specs.declared.mnemonic.Operand.TheVariants.{Nothing, Index, PacketLength, Number, Hexadecimal, Absolute, Indexed, Memory, HeaderLength, Target}

-- the mnemonics
abbrev pub word_of : Mnemonic → List ℕ
word_of Ret = codes "ret"
word_of Ld = codes "ld"
word_of Ldh = codes "ldh"
word_of Ldb = codes "ldb"
word_of Ldx = codes "ldx"
word_of Ldxb = codes "ldxb"
word_of St = codes "st"
word_of Stx = codes "stx"
word_of Ja = codes "ja"
word_of Jgt = codes "jgt"
word_of Jge = codes "jge"
word_of Jeq = codes "jeq"
word_of Jset = codes "jset"
word_of Add = codes "add"
word_of Sub = codes "sub"
word_of Mul = codes "mul"
word_of Div = codes "div"
word_of Mod = codes "mod"
word_of And = codes "and"
word_of Or = codes "or"
word_of Xor = codes "xor"
word_of Lsh = codes "lsh"
word_of Rsh = codes "rsh"
word_of Neg = codes "neg"
word_of Tax = codes "tax"
word_of Txa = codes "txa"

-- the mnemonics of conditional jumps
abbrev pub is_test : Mnemonic → Bool
is_test Jgt = true
is_test Jge = true
is_test Jeq = true
is_test Jset = true
is_test _ = false

-- each code that is printed as an instruction, with its mnemonic and its operand; any other is printed as `unimp`
abbrev pub rows : List (ℕ × Mnemonic × Operand)
rows =
    (0x06, Ret, Number)
    ∷ (0x16, Ret, Nothing)
    ∷ (0x20, Ld, Absolute)
    ∷ (0x28, Ldh, Absolute)
    ∷ (0x30, Ldb, Absolute)
    ∷ (0x80, Ld, PacketLength)
    ∷ (0x40, Ld, Indexed)
    ∷ (0x48, Ldh, Indexed)
    ∷ (0x50, Ldb, Indexed)
    ∷ (0x00, Ld, Hexadecimal)
    ∷ (0x01, Ldx, Hexadecimal)
    ∷ (0xb1, Ldxb, HeaderLength)
    ∷ (0x60, Ld, Memory)
    ∷ (0x61, Ldx, Memory)
    ∷ (0x02, St, Memory)
    ∷ (0x03, Stx, Memory)
    ∷ (0x05, Ja, Target)
    ∷ (0x25, Jgt, Hexadecimal)
    ∷ (0x35, Jge, Hexadecimal)
    ∷ (0x15, Jeq, Hexadecimal)
    ∷ (0x45, Jset, Hexadecimal)
    ∷ (0x2d, Jgt, Index)
    ∷ (0x3d, Jge, Index)
    ∷ (0x1d, Jeq, Index)
    ∷ (0x4d, Jset, Index)
    ∷ (0x0c, Add, Index)
    ∷ (0x1c, Sub, Index)
    ∷ (0x2c, Mul, Index)
    ∷ (0x3c, Div, Index)
    ∷ (0x9c, Mod, Index)
    ∷ (0x5c, And, Index)
    ∷ (0x4c, Or, Index)
    ∷ (0xac, Xor, Index)
    ∷ (0x6c, Lsh, Index)
    ∷ (0x7c, Rsh, Index)
    ∷ (0x04, Add, Number)
    ∷ (0x14, Sub, Number)
    ∷ (0x24, Mul, Number)
    ∷ (0x34, Div, Number)
    ∷ (0x94, Mod, Number)
    ∷ (0x54, And, Hexadecimal)
    ∷ (0x44, Or, Hexadecimal)
    ∷ (0xa4, Xor, Hexadecimal)
    ∷ (0x64, Lsh, Number)
    ∷ (0x74, Rsh, Number)
    ∷ (0x84, Neg, Nothing)
    ∷ (0x07, Tax, Nothing)
    ∷ (0x87, Txa, Nothing)
    ∷ []

-- what stands beside a code
abbrev pub look_up : ℕ → List (ℕ × Mnemonic × Operand) → Option (Mnemonic × Operand)
look_up code [] = None
look_up code (row ∷ others) = if code == row.0 then Some (row.1, row.2) else look_up code others

unfoldable pub row_of : ℕ → Option (Mnemonic × Operand)
row_of code = look_up code rows

-- 32 bits as C's %d prints them, and as its %x does
abbrev pub signed : ℕ → List ℕ
signed k = if nat_lt k (2 ^ 31) then decimal k else 45 ∷ decimal (2 ^ 32 - k)

abbrev pub hexadecimal : ℕ → List ℕ
hexadecimal k = digits 16 false k

-- the operand of an instruction at a place, whose number is k. A jump is printed with the place to which it leads
abbrev pub operand_words : Operand → ℕ → ℕ → List (List ℕ)
operand_words Nothing place k = []
operand_words Index place k = codes "x" ∷ []
operand_words PacketLength place k = codes "#pktlen" ∷ []
operand_words Number place k = (codes "#" ++ signed k) ∷ []
operand_words Hexadecimal place k = (codes "#0x" ++ hexadecimal k) ∷ []
operand_words Absolute place k = (codes "[" ++ signed k ++ codes "]") ∷ []
operand_words Indexed place k = codes "[x" ∷ codes "+" ∷ (signed k ++ codes "]") ∷ []
operand_words Memory place k = (codes "M[" ++ signed k ++ codes "]") ∷ []
operand_words HeaderLength place k = (codes "4*([" ++ signed k ++ codes "]&0xf)") ∷ []
operand_words Target place k = signed ((place + 1 + k) % 2 ^ 32) ∷ []

-- the two places to which a conditional jump leads
abbrev pub two_branches : ℕ → ℕ → ℕ → List (List ℕ)
two_branches place jt jf = codes "jt" ∷ decimal (place + 1 + jt) ∷ codes "jf" ∷ decimal (place + 1 + jf) ∷ []

abbrev pub branch_words : Bool → ℕ → Insn → List (List ℕ)
branch_words false place insn = []
branch_words true place insn = two_branches place insn.jt insn.jf

-- the place of an instruction: three digits at least
abbrev pub zeros : ℕ → List ℕ
zeros place = if nat_lt place 10 then codes "00" else if nat_lt place 100 then codes "0" else []

abbrev pub label : ℕ → List ℕ
label place = codes "(" ++ zeros place ++ decimal place ++ codes ")"

-- the words after the mnemonic
abbrev pub rest_words : Mnemonic → Operand → ℕ → Insn → List (List ℕ)
rest_words mnemonic operand place insn = operand_words operand place insn.k ++ branch_words (is_test mnemonic) place insn

-- these words after the label are those of this instruction
pub record IsBody (place : ℕ) (words : List (List ℕ)) (insn : Insn) : Type 0 where
  pub mnemonic : Mnemonic
  pub operand : Operand
  pub row : row_of insn.code ≡ Some (mnemonic, operand)
  pub words_are : words ≡ word_of mnemonic ∷ rest_words mnemonic operand place insn
  pub range : InRange insn

-- the words are what is printed of this instruction at this place. Fields that its code doesn't use aren't printed
abbrev pub IsImage : ℕ → List (List ℕ) → Insn → Type 0
IsImage place words insn = (body : List (List ℕ)) × (words ≡ label place ∷ body) × IsBody place body insn

-- whether a number is printed in the operand
abbrev pub has_number : Operand → Bool
has_number Nothing = false
has_number Index = false
has_number PacketLength = false
has_number _ = true

-- the fields that aren't printed are 0
abbrev pub BareAs : Option (Mnemonic × Operand) → Insn → Type 0
BareAs None insn = Unit {0}
BareAs (Some row) insn = (is_test row.0 ≡ false → (insn.jt ≡ 0) × (insn.jf ≡ 0)) × (has_number row.1 ≡ false → insn.k ≡ 0)

abbrev pub IsBare : Insn → Type 0
IsBare insn = BareAs (row_of insn.code) insn
