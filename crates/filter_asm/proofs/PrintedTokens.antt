-- The tokens of a printed instruction.
use Rattle.std.proofs.Common.{◌≡◌, ℕ, ◌+◌, ◌<◌, ◌^◌, List, [], ◌∷◌, ◌++◌, true, false, append_assoc, refl, sym, ◌∙◌, subst, arith}
use Rattle.std.specs.Prelude.{codes}
use Rattle.std.specs.List.{list_all, AllPass}
use Rattle.std.specs.Char.{is_ascii_alphanumeric}
use Rattle.std.specs.Fmt.{decimal}
use Rattle.std.proofs.lemmas.List.{append-nil}
use Rattle.std.proofs.lemmas.List.Folds.{list_all-append}
use Rattle.std.proofs.lemmas.List.Sums.{AllPass-from_list_all}
use Rattle.bpf_insn.specs.Texts.{is_blank}
use Rattle.filter_asm.specs.Token.{Tokens, IsToken, EndsBefore, continues, continues_name}
use Rattle.filter_asm.proofs.DecimalLemmas.{IsDigits, digits-decimal, digits_token, digits_end, digits_plain, label_token, is_plain}
use Rattle.filter_asm.proofs.PrintedForms.{word_of, operands_of, Bounded}
use Rattle.bpf_insn.specs.declared.form.Size.{Size}
use Rattle.bpf_insn.specs.declared.form.Size.TheVariants.{Word, Half, Byte}
use Rattle.bpf_insn.specs.declared.form.AluOp.{AluOp}
use Rattle.bpf_insn.specs.declared.form.AluOp.TheVariants.{Add, Sub, Mul, Div, Or, And, Lsh, Rsh, Mod, Xor}
use Rattle.bpf_insn.specs.declared.form.Test.{Test}
use Rattle.bpf_insn.specs.declared.form.Test.TheVariants.{Equal, Greater, GreaterOrEqual, AnyBit}
use Rattle.bpf_insn.specs.declared.form.Form.{Form}
use Rattle.bpf_insn.specs.declared.form.Form.TheVariants.{LdImm, LdAbs, LdInd, LdMem, LdLen, LdxImm, LdxMem, LdxLen, LdxMsh, St, Stx, AluK, AluX, Neg, Ja, JmpK, JmpX, RetK, RetA, Tax, Txa}
use Rattle.bpf_insn.specs.AsmText.{load_word, alu_word, test_word, label, arms, printed}

-- a word that a blank ends
pub record IsWord (w : List ℕ) : Type 0 where
  pub is_token : IsToken w
  pub ends : (rest : List ℕ) → EndsBefore w (32 ∷ rest)
  pub ends_last : EndsBefore w []
  pub plain : list_all is_plain w ≡ true

word : (c : ℕ) (cs : List ℕ) → is_blank c ≡ false → list_all (continues c) cs ≡ true → continues c 32 ≡ false → list_all is_plain (c ∷ cs) ≡ true → IsWord (c ∷ cs)
word c cs first more ends plain = record { is_token = (first, AllPass-from_list_all (continues c) cs more); ends = λ rest. ends; ends_last = tt; plain = plain }

load_is_word : (size : Size) → IsWord (load_word size)
load_is_word Word = word 108 (codes "d") refl refl refl refl
load_is_word Half = word 108 (codes "dh") refl refl refl refl
load_is_word Byte = word 108 (codes "db") refl refl refl refl

alu_is_word : (op : AluOp) → IsWord (alu_word op)
alu_is_word Add = word 97 (codes "dd") refl refl refl refl
alu_is_word Sub = word 115 (codes "ub") refl refl refl refl
alu_is_word Mul = word 109 (codes "ul") refl refl refl refl
alu_is_word Div = word 100 (codes "iv") refl refl refl refl
alu_is_word Or = word 111 (codes "r") refl refl refl refl
alu_is_word And = word 97 (codes "nd") refl refl refl refl
alu_is_word Lsh = word 108 (codes "sh") refl refl refl refl
alu_is_word Rsh = word 114 (codes "sh") refl refl refl refl
alu_is_word Mod = word 109 (codes "od") refl refl refl refl
alu_is_word Xor = word 120 (codes "or") refl refl refl refl

test_is_word : (test : Test) → IsWord (test_word test)
test_is_word Equal = word 106 (codes "eq") refl refl refl refl
test_is_word Greater = word 106 (codes "gt") refl refl refl refl
test_is_word GreaterOrEqual = word 106 (codes "ge") refl refl refl refl
test_is_word AnyBit = word 106 (codes "set") refl refl refl refl

no_gap : AllPass is_blank []
no_gap = λ k d lt. absurd (omega arith)

one_blank : AllPass is_blank (32 ∷ [])
one_blank = AllPass-from_list_all is_blank (32 ∷ []) refl

nothing : Tokens [] []
nothing = no_gap

next : (gap token rest : List ℕ) (ts : List (List ℕ)) → AllPass is_blank gap → IsToken token → EndsBefore token rest → Tokens ts rest → Tokens (token ∷ ts) (gap ++ (token ++ rest))
next gap token rest ts blank is_token ends more = (rest, record { gap = gap; blank = blank; is_token = is_token; ends = ends; spelled = refl }, more)

ends_alone : (b : ℕ) (rest : List ℕ) → ((c : ℕ) → continues b c ≡ false) → EndsBefore (b ∷ []) rest
ends_alone b [] alone = tt
ends_alone b (c ∷ rest) alone = alone c

ends_at_end : (token : List ℕ) → IsToken token → EndsBefore token []
ends_at_end [] is = absurd is
ends_at_end (b ∷ more) is = tt

nothing_goes_on : (b : ℕ) → AllPass (continues b) []
nothing_goes_on b = λ k d lt. absurd (omega arith)

-- a byte that stands alone
pub mark : (b : ℕ) (rest : List ℕ) (ts : List (List ℕ)) → is_blank b ≡ false → ((c : ℕ) → continues b c ≡ false) → Tokens ts rest → Tokens ((b ∷ []) ∷ ts) (b ∷ rest)
mark b rest ts no_blank alone more = next [] (b ∷ []) rest ts no_gap (no_blank, nothing_goes_on b) (ends_alone b rest alone) more

blank_mark : (b : ℕ) (rest : List ℕ) (ts : List (List ℕ)) → is_blank b ≡ false → ((c : ℕ) → continues b c ≡ false) → Tokens ts rest → Tokens ((b ∷ []) ∷ ts) (32 ∷ b ∷ rest)
blank_mark b rest ts no_blank alone more = next (32 ∷ []) (b ∷ []) rest ts one_blank (no_blank, nothing_goes_on b) (ends_alone b rest alone) more

digits_then : (ds : List ℕ) (b : ℕ) (rest : List ℕ) (ts : List (List ℕ)) → IsDigits ds → is_ascii_alphanumeric b ≡ false → Tokens ts (b ∷ rest) → Tokens (ds ∷ ts) (ds ++ b ∷ rest)
digits_then ds b rest ts is ends more = next [] ds (b ∷ rest) ts no_gap (digits_token ds is) (digits_end ds b rest is ends) more

blank_digits_then : (ds : List ℕ) (b : ℕ) (rest : List ℕ) (ts : List (List ℕ)) → IsDigits ds → is_ascii_alphanumeric b ≡ false → Tokens ts (b ∷ rest) → Tokens (ds ∷ ts) (32 ∷ (ds ++ b ∷ rest))
blank_digits_then ds b rest ts is ends more = next (32 ∷ []) ds (b ∷ rest) ts one_blank (digits_token ds is) (digits_end ds b rest is ends) more

digits_last : (ds : List ℕ) → IsDigits ds → Tokens (ds ∷ []) ds
digits_last ds is =
    let token = digits_token ds is in
    subst (Tokens (ds ∷ [])) (append-nil ds) (next [] ds [] [] no_gap token (ends_at_end ds token) nothing)

pub label_then : (ds : List ℕ) (b : ℕ) (rest : List ℕ) (ts : List (List ℕ)) → IsDigits ds → continues_name b ≡ false → Tokens ts (b ∷ rest) → Tokens ((108 ∷ ds) ∷ ts) (108 ∷ (ds ++ b ∷ rest))
label_then ds b rest ts is ends more = next [] (108 ∷ ds) (b ∷ rest) ts no_gap (label_token ds is) ends more

blank_label_then : (ds : List ℕ) (b : ℕ) (rest : List ℕ) (ts : List (List ℕ)) → IsDigits ds → continues_name b ≡ false → Tokens ts (b ∷ rest) → Tokens ((108 ∷ ds) ∷ ts) (32 ∷ 108 ∷ (ds ++ b ∷ rest))
blank_label_then ds b rest ts is ends more = next (32 ∷ []) (108 ∷ ds) (b ∷ rest) ts one_blank (label_token ds is) ends more

blank_label_last : (ds : List ℕ) → IsDigits ds → Tokens ((108 ∷ ds) ∷ []) (32 ∷ 108 ∷ ds)
blank_label_last ds is = subst (λ (bs : List ℕ). Tokens ((108 ∷ ds) ∷ []) (32 ∷ 108 ∷ bs)) (append-nil ds) (next (32 ∷ []) (108 ∷ ds) [] [] one_blank (label_token ds is) tt nothing)

-- a word, then a blank and more
with_word : (w rest : List ℕ) (ts : List (List ℕ)) → IsWord w → Tokens ts (32 ∷ rest) → Tokens (w ∷ ts) (32 ∷ (w ++ 32 ∷ rest))
with_word w rest ts is more = next (32 ∷ []) w (32 ∷ rest) ts one_blank is.is_token (is.ends rest) more

-- a word alone
word_alone : (w : List ℕ) → IsWord w → Tokens (w ∷ []) (32 ∷ w)
word_alone w is = subst (λ (bs : List ℕ). Tokens (w ∷ []) (32 ∷ bs)) (append-nil w) (next (32 ∷ []) w [] [] one_blank is.is_token is.ends_last nothing)

immediate : (ds : List ℕ) → IsDigits ds → Tokens (codes "#" ∷ ds ∷ []) (32 ∷ 35 ∷ ds)
immediate ds is = blank_mark 35 ds (ds ∷ []) refl (λ c. refl) (digits_last ds is)

closed : (ds : List ℕ) → IsDigits ds → Tokens (ds ∷ codes "]" ∷ []) (ds ++ 93 ∷ [])
closed ds is = digits_then ds 93 [] (codes "]" ∷ []) is refl (mark 93 [] [] refl (λ c. refl) nothing)

absolute : (ds : List ℕ) → IsDigits ds → Tokens (codes "[" ∷ ds ∷ codes "]" ∷ []) (32 ∷ 91 ∷ (ds ++ 93 ∷ []))
absolute ds is = blank_mark 91 (ds ++ 93 ∷ []) (ds ∷ codes "]" ∷ []) refl (λ c. refl) (closed ds is)

memory : (ds : List ℕ) → IsDigits ds → Tokens (codes "M" ∷ codes "[" ∷ ds ∷ codes "]" ∷ []) (32 ∷ 77 ∷ 91 ∷ (ds ++ 93 ∷ []))
memory ds is =
    next (32 ∷ []) (codes "M") (91 ∷ (ds ++ 93 ∷ [])) (codes "[" ∷ ds ∷ codes "]" ∷ []) one_blank (refl, nothing_goes_on 77) refl
    (mark 91 (ds ++ 93 ∷ []) (ds ∷ codes "]" ∷ []) refl (λ c. refl) (closed ds is))

indexed : (ds : List ℕ) → IsDigits ds → Tokens (codes "[" ∷ codes "x" ∷ codes "+" ∷ ds ∷ codes "]" ∷ []) (32 ∷ 91 ∷ 120 ∷ 32 ∷ 43 ∷ 32 ∷ (ds ++ 93 ∷ []))
indexed ds is =
    blank_mark 91 (120 ∷ 32 ∷ 43 ∷ 32 ∷ (ds ++ 93 ∷ [])) (codes "x" ∷ codes "+" ∷ ds ∷ codes "]" ∷ []) refl (λ c. refl)
    (next [] (codes "x") (32 ∷ 43 ∷ 32 ∷ (ds ++ 93 ∷ [])) (codes "+" ∷ ds ∷ codes "]" ∷ []) no_gap (refl, nothing_goes_on 120) refl
    (blank_mark 43 (32 ∷ (ds ++ 93 ∷ [])) (ds ∷ codes "]" ∷ []) refl (λ c. refl)
    (blank_digits_then ds 93 [] (codes "]" ∷ []) is refl (mark 93 [] [] refl (λ c. refl) nothing))))

packet_length : Tokens (codes "#" ∷ codes "len" ∷ []) (codes " #len")
packet_length = blank_mark 35 (codes "len") (codes "len" ∷ []) refl (λ c. refl) (next [] (codes "len") [] [] no_gap (refl, AllPass-from_list_all (continues 108) (codes "en") refl) tt nothing)

header_length : (ds : List ℕ) → IsDigits ds → Tokens (codes "4" ∷ codes "*" ∷ codes "(" ∷ codes "[" ∷ ds ∷ codes "]" ∷ codes "&" ∷ codes "0xf" ∷ codes ")" ∷ []) (codes " 4*([" ++ (ds ++ codes "]&0xf)"))
header_length ds is =
    next (32 ∷ []) (codes "4") (codes "*([" ++ (ds ++ codes "]&0xf)")) (codes "*" ∷ codes "(" ∷ codes "[" ∷ ds ∷ codes "]" ∷ codes "&" ∷ codes "0xf" ∷ codes ")" ∷ []) one_blank (refl, nothing_goes_on 52) refl
    (mark 42 (codes "([" ++ (ds ++ codes "]&0xf)")) (codes "(" ∷ codes "[" ∷ ds ∷ codes "]" ∷ codes "&" ∷ codes "0xf" ∷ codes ")" ∷ []) refl (λ c. refl)
    (mark 40 (codes "[" ++ (ds ++ codes "]&0xf)")) (codes "[" ∷ ds ∷ codes "]" ∷ codes "&" ∷ codes "0xf" ∷ codes ")" ∷ []) refl (λ c. refl)
    (mark 91 (ds ++ codes "]&0xf)") (ds ∷ codes "]" ∷ codes "&" ∷ codes "0xf" ∷ codes ")" ∷ []) refl (λ c. refl)
    (digits_then ds 93 (codes "&0xf)") (codes "]" ∷ codes "&" ∷ codes "0xf" ∷ codes ")" ∷ []) is refl
    (mark 93 (codes "&0xf)") (codes "&" ∷ codes "0xf" ∷ codes ")" ∷ []) refl (λ c. refl)
    (mark 38 (codes "0xf)") (codes "0xf" ∷ codes ")" ∷ []) refl (λ c. refl)
    (next [] (codes "0xf") (codes ")") (codes ")" ∷ []) no_gap (refl, AllPass-from_list_all (continues 48) (codes "xf") refl) refl
    (mark 41 [] [] refl (λ c. refl) nothing))))))))

-- `, `, a label, `, ` and another
two_labels : (ds es : List ℕ) → IsDigits ds → IsDigits es → Tokens (codes "," ∷ (108 ∷ ds) ∷ codes "," ∷ (108 ∷ es) ∷ []) (44 ∷ 32 ∷ 108 ∷ (ds ++ 44 ∷ 32 ∷ 108 ∷ es))
two_labels ds es is are =
    mark 44 (32 ∷ 108 ∷ (ds ++ 44 ∷ 32 ∷ 108 ∷ es)) ((108 ∷ ds) ∷ codes "," ∷ (108 ∷ es) ∷ []) refl (λ c. refl)
    (blank_label_then ds 44 (32 ∷ 108 ∷ es) (codes "," ∷ (108 ∷ es) ∷ []) is refl
    (mark 44 (32 ∷ 108 ∷ es) ((108 ∷ es) ∷ []) refl (λ c. refl) (blank_label_last es are)))

along : (ts : List (List ℕ)) (xs ys : List ℕ) → xs ≡ ys → Tokens ts (32 ∷ ys) → Tokens ts (32 ∷ xs)
along ts xs ys e tokens = subst (λ (bs : List ℕ). Tokens ts (32 ∷ bs)) (sym e) tokens

jump_by_number : (w ds es fs : List ℕ) → IsWord w → IsDigits ds → IsDigits es → IsDigits fs
    → Tokens (w ∷ codes "#" ∷ ds ∷ codes "," ∷ (108 ∷ es) ∷ codes "," ∷ (108 ∷ fs) ∷ []) (32 ∷ (w ++ 32 ∷ 35 ∷ (ds ++ 44 ∷ 32 ∷ 108 ∷ (es ++ 44 ∷ 32 ∷ 108 ∷ fs))))
jump_by_number w ds es fs is number one other =
    let tail = 44 ∷ 32 ∷ 108 ∷ (es ++ 44 ∷ 32 ∷ 108 ∷ fs) in
    let ts = codes "," ∷ (108 ∷ es) ∷ codes "," ∷ (108 ∷ fs) ∷ [] in
    with_word w (35 ∷ (ds ++ tail)) (codes "#" ∷ ds ∷ ts) is (blank_mark 35 (ds ++ tail) (ds ∷ ts) refl (λ c. refl)
    (digits_then ds 44 (32 ∷ 108 ∷ (es ++ 44 ∷ 32 ∷ 108 ∷ fs)) ts number refl (two_labels es fs one other)))

jump_by_x : (w es fs : List ℕ) → IsWord w → IsDigits es → IsDigits fs
    → Tokens (w ∷ codes "x" ∷ codes "," ∷ (108 ∷ es) ∷ codes "," ∷ (108 ∷ fs) ∷ []) (32 ∷ (w ++ 32 ∷ 120 ∷ 44 ∷ 32 ∷ 108 ∷ (es ++ 44 ∷ 32 ∷ 108 ∷ fs)))
jump_by_x w es fs is one other =
    let tail = 44 ∷ 32 ∷ 108 ∷ (es ++ 44 ∷ 32 ∷ 108 ∷ fs) in
    let ts = codes "," ∷ (108 ∷ es) ∷ codes "," ∷ (108 ∷ fs) ∷ [] in
    with_word w (120 ∷ tail) (codes "x" ∷ ts) is (next (32 ∷ []) (codes "x") tail ts one_blank (refl, nothing_goes_on 120) refl (two_labels es fs one other))

small : (k : ℕ) → k < 2 ^ 32 → IsDigits (decimal k)
small k low = digits-decimal k (omega arith)

near : (pc d : ℕ) → pc < 4096 → d < 2 ^ 32 → IsDigits (decimal (pc + 1 + d))
near pc d at low = digits-decimal (pc + 1 + d) (omega arith)

near_by : (pc d : ℕ) → pc < 4096 → d < 2 ^ 8 → IsDigits (decimal (pc + 1 + d))
near_by pc d at low = digits-decimal (pc + 1 + d) (omega arith)

x_operand : Tokens (codes "x" ∷ []) (32 ∷ 120 ∷ [])
x_operand = next (32 ∷ []) (codes "x") [] [] one_blank (refl, nothing_goes_on 120) tt nothing

-- a printed instruction after a blank
pub tokens_of : (pc : ℕ) (form : Form) → pc < 4096 → Bounded form → Tokens (word_of form ∷ operands_of pc form) (32 ∷ printed pc form)
tokens_of pc (LdImm k) at b = with_word (codes "ldi") (35 ∷ decimal k) (codes "#" ∷ decimal k ∷ []) (word 108 (codes "di") refl refl refl refl) (immediate (decimal k) (small k b.k))
tokens_of pc (LdAbs size k) at b =
    along (load_word size ∷ codes "[" ∷ decimal k ∷ codes "]" ∷ []) _ (load_word size ++ 32 ∷ 91 ∷ (decimal k ++ 93 ∷ [])) (simp append_assoc)
    (with_word (load_word size) (91 ∷ (decimal k ++ 93 ∷ [])) (codes "[" ∷ decimal k ∷ codes "]" ∷ []) (load_is_word size) (absolute (decimal k) (small k b.k)))
tokens_of pc (LdInd size k) at b =
    along (load_word size ∷ codes "[" ∷ codes "x" ∷ codes "+" ∷ decimal k ∷ codes "]" ∷ []) _ (load_word size ++ 32 ∷ 91 ∷ 120 ∷ 32 ∷ 43 ∷ 32 ∷ (decimal k ++ 93 ∷ [])) (simp append_assoc)
    (with_word (load_word size) (91 ∷ 120 ∷ 32 ∷ 43 ∷ 32 ∷ (decimal k ++ 93 ∷ [])) (codes "[" ∷ codes "x" ∷ codes "+" ∷ decimal k ∷ codes "]" ∷ []) (load_is_word size) (indexed (decimal k) (small k b.k)))
tokens_of pc (LdMem k) at b = with_word (codes "ld") (77 ∷ 91 ∷ (decimal k ++ 93 ∷ [])) (codes "M" ∷ codes "[" ∷ decimal k ∷ codes "]" ∷ []) (word 108 (codes "d") refl refl refl refl) (memory (decimal k) (small k b.k))
tokens_of pc (LdxMem k) at b = with_word (codes "ldx") (77 ∷ 91 ∷ (decimal k ++ 93 ∷ [])) (codes "M" ∷ codes "[" ∷ decimal k ∷ codes "]" ∷ []) (word 108 (codes "dx") refl refl refl refl) (memory (decimal k) (small k b.k))
tokens_of pc (St k) at b = with_word (codes "st") (77 ∷ 91 ∷ (decimal k ++ 93 ∷ [])) (codes "M" ∷ codes "[" ∷ decimal k ∷ codes "]" ∷ []) (word 115 (codes "t") refl refl refl refl) (memory (decimal k) (small k b.k))
tokens_of pc (Stx k) at b = with_word (codes "stx") (77 ∷ 91 ∷ (decimal k ++ 93 ∷ [])) (codes "M" ∷ codes "[" ∷ decimal k ∷ codes "]" ∷ []) (word 115 (codes "tx") refl refl refl refl) (memory (decimal k) (small k b.k))
tokens_of pc LdLen at b = with_word (codes "ld") (codes "#len") (codes "#" ∷ codes "len" ∷ []) (word 108 (codes "d") refl refl refl refl) packet_length
tokens_of pc LdxLen at b = with_word (codes "ldx") (codes "#len") (codes "#" ∷ codes "len" ∷ []) (word 108 (codes "dx") refl refl refl refl) packet_length
tokens_of pc (LdxImm k) at b = with_word (codes "ldxi") (35 ∷ decimal k) (codes "#" ∷ decimal k ∷ []) (word 108 (codes "dxi") refl refl refl refl) (immediate (decimal k) (small k b.k))
tokens_of pc (RetK k) at b = with_word (codes "ret") (35 ∷ decimal k) (codes "#" ∷ decimal k ∷ []) (word 114 (codes "et") refl refl refl refl) (immediate (decimal k) (small k b.k))
tokens_of pc (LdxMsh k) at b = with_word (codes "ldxb") (codes "4*([" ++ (decimal k ++ codes "]&0xf)")) (codes "4" ∷ codes "*" ∷ codes "(" ∷ codes "[" ∷ decimal k ∷ codes "]" ∷ codes "&" ∷ codes "0xf" ∷ codes ")" ∷ []) (word 108 (codes "dxb") refl refl refl refl) (header_length (decimal k) (small k b.k))
tokens_of pc (AluK op k) at b =
    along (alu_word op ∷ codes "#" ∷ decimal k ∷ []) _ (alu_word op ++ 32 ∷ 35 ∷ decimal k) (simp append_assoc)
    (with_word (alu_word op) (35 ∷ decimal k) (codes "#" ∷ decimal k ∷ []) (alu_is_word op) (immediate (decimal k) (small k b.k)))
tokens_of pc (AluX op) at b = with_word (alu_word op) (codes "x") (codes "x" ∷ []) (alu_is_word op) x_operand
tokens_of pc Neg at b = word_alone (codes "neg") (word 110 (codes "eg") refl refl refl refl)
tokens_of pc Tax at b = word_alone (codes "tax") (word 116 (codes "ax") refl refl refl refl)
tokens_of pc Txa at b = word_alone (codes "txa") (word 116 (codes "xa") refl refl refl refl)
tokens_of pc RetA at b = with_word (codes "ret") (codes "a") (codes "a" ∷ []) (word 114 (codes "et") refl refl refl refl) (next (32 ∷ []) (codes "a") [] [] one_blank (refl, nothing_goes_on 97) tt nothing)
tokens_of pc (Ja k) at b = with_word (codes "jmp") (label (pc + 1 + k)) (label (pc + 1 + k) ∷ []) (word 106 (codes "mp") refl refl refl refl) (blank_label_last (decimal (pc + 1 + k)) (near pc k at b.k))
tokens_of pc (JmpK test k jt jf) at b =
    along (test_word test ∷ codes "#" ∷ decimal k ∷ codes "," ∷ label (pc + 1 + jt) ∷ codes "," ∷ label (pc + 1 + jf) ∷ []) _
    (test_word test ++ 32 ∷ 35 ∷ (decimal k ++ 44 ∷ 32 ∷ 108 ∷ (decimal (pc + 1 + jt) ++ 44 ∷ 32 ∷ 108 ∷ decimal (pc + 1 + jf)))) (simp append_assoc)
    (jump_by_number (test_word test) (decimal k) (decimal (pc + 1 + jt)) (decimal (pc + 1 + jf)) (test_is_word test) (small k b.k) (near_by pc jt at b.jt) (near_by pc jf at b.jf))
tokens_of pc (JmpX test jt jf) at b =
    along (test_word test ∷ codes "x" ∷ codes "," ∷ label (pc + 1 + jt) ∷ codes "," ∷ label (pc + 1 + jf) ∷ []) _
    (test_word test ++ 32 ∷ 120 ∷ 44 ∷ 32 ∷ 108 ∷ (decimal (pc + 1 + jt) ++ 44 ∷ 32 ∷ 108 ∷ decimal (pc + 1 + jf))) (simp append_assoc)
    (jump_by_x (test_word test) (decimal (pc + 1 + jt)) (decimal (pc + 1 + jf)) (test_is_word test) (near_by pc jt at b.jt) (near_by pc jf at b.jf))

plain-append : (xs ys : List ℕ) → list_all is_plain xs ≡ true → list_all is_plain ys ≡ true → list_all is_plain (xs ++ ys) ≡ true
plain-append xs ys one other = list_all-append is_plain xs ys ∙ (rw (one, other) refl)

plain_digits : (k : ℕ) → k < 2 ^ 32 → list_all is_plain (decimal k) ≡ true
plain_digits k low = digits_plain (decimal k) (small k low)

pub plain_label : (k : ℕ) → k < 2 ^ 33 → list_all is_plain (label k) ≡ true
plain_label k low = digits_plain (decimal k) (digits-decimal k (omega arith))

plain_arms : (pc jt jf : ℕ) → pc < 4096 → jt < 2 ^ 8 → jf < 2 ^ 8 → list_all is_plain (arms pc jt jf) ≡ true
plain_arms pc jt jf at one other =
    plain-append (label (pc + 1 + jt) ++ codes ", ") (label (pc + 1 + jf)) (plain-append (label (pc + 1 + jt)) (codes ", ") (plain_label (pc + 1 + jt) (omega arith)) refl) (plain_label (pc + 1 + jf) (omega arith))

-- it has neither line feeds nor semicolons
pub plain_printed : (pc : ℕ) (form : Form) → pc < 4096 → Bounded form → list_all is_plain (printed pc form) ≡ true
plain_printed pc (LdImm k) at b = plain-append (codes "ldi #") (decimal k) refl (plain_digits k b.k)
plain_printed pc (LdxImm k) at b = plain-append (codes "ldxi #") (decimal k) refl (plain_digits k b.k)
plain_printed pc (RetK k) at b = plain-append (codes "ret #") (decimal k) refl (plain_digits k b.k)
plain_printed pc (LdMem k) at b = plain-append (codes "ld M[" ++ decimal k) (codes "]") (plain-append (codes "ld M[") (decimal k) refl (plain_digits k b.k)) refl
plain_printed pc (LdxMem k) at b = plain-append (codes "ldx M[" ++ decimal k) (codes "]") (plain-append (codes "ldx M[") (decimal k) refl (plain_digits k b.k)) refl
plain_printed pc (St k) at b = plain-append (codes "st M[" ++ decimal k) (codes "]") (plain-append (codes "st M[") (decimal k) refl (plain_digits k b.k)) refl
plain_printed pc (Stx k) at b = plain-append (codes "stx M[" ++ decimal k) (codes "]") (plain-append (codes "stx M[") (decimal k) refl (plain_digits k b.k)) refl
plain_printed pc (LdxMsh k) at b = plain-append (codes "ldxb 4*([" ++ decimal k) (codes "]&0xf)") (plain-append (codes "ldxb 4*([") (decimal k) refl (plain_digits k b.k)) refl
plain_printed pc LdLen at b = refl
plain_printed pc LdxLen at b = refl
plain_printed pc Neg at b = refl
plain_printed pc RetA at b = refl
plain_printed pc Tax at b = refl
plain_printed pc Txa at b = refl
plain_printed pc (LdAbs size k) at b = plain-append ((load_word size ++ codes " [") ++ decimal k) (codes "]") (plain-append (load_word size ++ codes " [") (decimal k) (plain-append (load_word size) (codes " [") (load_is_word size).plain refl) (plain_digits k b.k)) refl
plain_printed pc (LdInd size k) at b = plain-append ((load_word size ++ codes " [x + ") ++ decimal k) (codes "]") (plain-append (load_word size ++ codes " [x + ") (decimal k) (plain-append (load_word size) (codes " [x + ") (load_is_word size).plain refl) (plain_digits k b.k)) refl
plain_printed pc (AluK op k) at b = plain-append (alu_word op ++ codes " #") (decimal k) (plain-append (alu_word op) (codes " #") (alu_is_word op).plain refl) (plain_digits k b.k)
plain_printed pc (AluX op) at b = plain-append (alu_word op) (codes " x") (alu_is_word op).plain refl
plain_printed pc (Ja k) at b = plain-append (codes "jmp ") (label (pc + 1 + k)) refl (plain_label (pc + 1 + k) (omega (arith, b.k)))
plain_printed pc (JmpK test k jt jf) at b =
    plain-append (((test_word test ++ codes " #") ++ decimal k) ++ codes ", ") (arms pc jt jf)
    (plain-append ((test_word test ++ codes " #") ++ decimal k) (codes ", ") (plain-append (test_word test ++ codes " #") (decimal k) (plain-append (test_word test) (codes " #") (test_is_word test).plain refl) (plain_digits k b.k)) refl)
    (plain_arms pc jt jf at b.jt b.jf)
plain_printed pc (JmpX test jt jf) at b = plain-append (test_word test ++ codes " x, ") (arms pc jt jf) (plain-append (test_word test) (codes " x, ") (test_is_word test).plain refl) (plain_arms pc jt jf at b.jt b.jf)
