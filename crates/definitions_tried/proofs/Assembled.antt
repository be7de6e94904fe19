-- An assembler text, cut into its tokens.
use Rattle.std.proofs.Common.{◌≡◌, ℕ, Bool, true, Ok, List, [], ◌∷◌, ◌++◌, refl, codes}
use Rattle.std.specs.List.{list_all, AllPass}
use Rattle.std.proofs.lemmas.List.Sums.{AllPass-from_list_all}
use Rattle.bpf_insn.specs.Texts.{is_blank}
use Rattle.filter_asm.specs.Mnemonics.{mnemonic_of}
use Rattle.filter_asm.specs.Number.{magnitude, number}
use Rattle.filter_asm.specs.Operands.{operands_at}
use Rattle.filter_asm.specs.Program.{Asm, Line, Spells, assembled, instruction}
use Rattle.filter_asm.specs.Token.{TokenAt, IsToken, EndsBefore, continues}
use Rattle.definitions_tried.specs.Texts.{arp_all, arp_assembler, computing_insns, computing_lines, jumping_insns, jumping_lines, moving_insns, moving_lines, testing_insns, testing_lines}

pass : (p : ℕ → Bool) (bytes : List ℕ) → list_all p bytes ≡ true → AllPass p bytes
pass p bytes e = AllPass-from_list_all p bytes e

at : (gap token rest : List ℕ) → list_all is_blank gap ≡ true → IsToken token → EndsBefore token rest → TokenAt (gap ++ (token ++ rest)) token rest
at gap token rest blank is_token ends = record { gap = gap; blank = pass is_blank gap blank; is_token = is_token; ends = ends; spelled = refl }

abbrev line_1 : Line
line_1 = record { labels = []; body = codes "ldh" ∷ codes "[" ∷ codes "12" ∷ codes "]" ∷ [] }

line_1-spelled : Spells (codes "ldh [12]") line_1
line_1-spelled = (codes "ldh" ∷ codes "[" ∷ codes "12" ∷ codes "]" ∷ [], (codes " [12]", at ([]) (codes "ldh") (codes " [12]") refl (refl, pass (continues 108) (codes "dh") refl) refl, (codes "12]", at (codes " ") (codes "[") (codes "12]") refl (refl, pass (continues 91) ([]) refl) refl, (codes "]", at ([]) (codes "12") (codes "]") refl (refl, pass (continues 49) (codes "2") refl) refl, ([], at ([]) (codes "]") ([]) refl (refl, pass (continues 93) ([]) refl) tt, pass is_blank [] refl)))), refl)

abbrev line_2 : Line
line_2 = record { labels = []; body = codes "jne" ∷ codes "#" ∷ codes "0x806" ∷ codes "," ∷ codes "drop" ∷ [] }

line_2-spelled : Spells (codes "jne #0x806, drop") line_2
line_2-spelled = (codes "jne" ∷ codes "#" ∷ codes "0x806" ∷ codes "," ∷ codes "drop" ∷ [], (codes " #0x806, drop", at ([]) (codes "jne") (codes " #0x806, drop") refl (refl, pass (continues 106) (codes "ne") refl) refl, (codes "0x806, drop", at (codes " ") (codes "#") (codes "0x806, drop") refl (refl, pass (continues 35) ([]) refl) refl, (codes ", drop", at ([]) (codes "0x806") (codes ", drop") refl (refl, pass (continues 48) (codes "x806") refl) refl, (codes " drop", at ([]) (codes ",") (codes " drop") refl (refl, pass (continues 44) ([]) refl) refl, ([], at (codes " ") (codes "drop") ([]) refl (refl, pass (continues 100) (codes "rop") refl) tt, pass is_blank [] refl))))), refl)

abbrev line_3 : Line
line_3 = record { labels = []; body = codes "ret" ∷ codes "#" ∷ codes "-" ∷ codes "1" ∷ [] }

line_3-spelled : Spells (codes "ret #-1") line_3
line_3-spelled = (codes "ret" ∷ codes "#" ∷ codes "-" ∷ codes "1" ∷ [], (codes " #-1", at ([]) (codes "ret") (codes " #-1") refl (refl, pass (continues 114) (codes "et") refl) refl, (codes "-1", at (codes " ") (codes "#") (codes "-1") refl (refl, pass (continues 35) ([]) refl) refl, (codes "1", at ([]) (codes "-") (codes "1") refl (refl, pass (continues 45) ([]) refl) refl, ([], at ([]) (codes "1") ([]) refl (refl, pass (continues 49) ([]) refl) tt, pass is_blank [] refl)))), refl)

abbrev line_4 : Line
line_4 = record { labels = (codes "drop" ∷ []); body = codes "ret" ∷ codes "#" ∷ codes "0" ∷ [] }

line_4-spelled : Spells (codes "drop: ret #0") line_4
line_4-spelled = (codes "drop" ∷ codes ":" ∷ codes "ret" ∷ codes "#" ∷ codes "0" ∷ [], (codes ": ret #0", at ([]) (codes "drop") (codes ": ret #0") refl (refl, pass (continues 100) (codes "rop") refl) refl, (codes " ret #0", at ([]) (codes ":") (codes " ret #0") refl (refl, pass (continues 58) ([]) refl) refl, (codes " #0", at (codes " ") (codes "ret") (codes " #0") refl (refl, pass (continues 114) (codes "et") refl) refl, (codes "0", at (codes " ") (codes "#") (codes "0") refl (refl, pass (continues 35) ([]) refl) refl, ([], at ([]) (codes "0") ([]) refl (refl, pass (continues 48) ([]) refl) tt, pass is_blank [] refl))))), refl)

pub assembled_arp : Asm arp_assembler arp_all
unfolding instruction operands_at number magnitude mnemonic_of
assembled_arp = (line_1 ∷ line_2 ∷ line_3 ∷ line_4 ∷ [], (line_1-spelled, (line_2-spelled, (line_3-spelled, (line_4-spelled, tt)))), refl)

pub jumps : assembled jumping_lines ≡ Ok jumping_insns
unfolding instruction operands_at number magnitude mnemonic_of
jumps = refl

pub moves : assembled moving_lines ≡ Ok moving_insns
unfolding instruction operands_at number magnitude mnemonic_of
moves = refl

pub computes : assembled computing_lines ≡ Ok computing_insns
unfolding instruction operands_at number magnitude mnemonic_of
computes = refl

pub tests : assembled testing_lines ≡ Ok testing_insns
unfolding instruction operands_at number magnitude mnemonic_of
tests = refl
