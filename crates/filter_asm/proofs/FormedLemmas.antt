-- An assembled program has at most 4,096 instructions, and each has the code of a form.
use Rattle.std.proofs.Common.{◌≡◌, ◌==◌, nat_lt, ℕ, zero, suc, ◌+◌, ◌<◌, ◌≤◌, Bool, true, List, [], ◌∷◌, ◌++◌, length, Option, Some, None, Ok, is_some, refl, sym, ap, ◌∙◌, inl, inr, arith}
use Rattle.std.specs.Prelude.{map, slice_get}
use Rattle.std.specs.Option.{option_to_list, ok_or, option_map_or}
use Rattle.std.specs.List.{find, list_all, list_any, flat_map}
use Rattle.std.specs.Str.{bytes_eq}
use Rattle.std.proofs.lemmas.Bool.{and_parts, cases_Bool}
use Rattle.bpf_insn.specs.declared.insn.Insn.{Insn}
use Rattle.bpf_insn.specs.declared.form.Form.{Form}
use Rattle.bpf_insn.specs.Table.{rows, look_up, form_of}
use Rattle.bpf_insn.specs.Program.{FormAt, form_at}
use Rattle.filter_asm.specs.declared.fault.AsmFaultKind.{AsmFaultKind}
use Rattle.filter_asm.specs.Operands.{Operands, operands_at}
use Rattle.filter_asm.specs.Mnemonics.{Mnemonic, Shape, mnemonics, mnemonic_of, first_fit}
use Rattle.filter_asm.specs.Program.{repeats, Line, Draft, on_line, line_gives, drafts_from, drafts_of, instruction, instruction_of, instructions, instructions_in, definitions, value_of, room_behind, linked, linked_to, links, reach, short_reach, second_reach, place_of, Asm}
use Rattle.filter_asm.proofs.ProgramLemmas.{bind_ok, length-drafts_from, on_line_ok}

-- the codes that stand for a form
abbrev known_codes : List ℕ
known_codes = map (λ row. row.0) (rows (record { code = 0; jt = 0; jf = 0; k = 0 }))

abbrev is_known : ℕ → Bool
is_known code = list_any (λ key. code == key) known_codes

look_up-some : (code : ℕ) (table : List (ℕ × Form)) → is_some (look_up code table) ≡ list_any (λ key. code == key) (map (λ row. row.0) table)
look_up-some code [] = refl
look_up-some code (row ∷ table) = elim (cases_Bool (code == row.0)) [
  | inl same ↦ rw same refl
  | inr other ↦ rw other (look_up-some code table)
]

-- an instruction with such a code has a form
form_of-some : (insn : Insn) → is_known insn.code ≡ true → is_some (form_of insn) ≡ true
unfolding form_of
form_of-some insn known = look_up-some insn.code (rows insn) ∙ known

form_there : (found : Option Form) → is_some found ≡ true → (form : Form) × (found ≡ Some form)
form_there (Some form) some = (form, refl)
form_there None some = cc

-- each mnemonic stands for such codes
abbrev is_known_shape : Shape → Bool
is_known_shape shape = is_known shape.code

abbrev is_known_mnemonic : Mnemonic → Bool
is_known_mnemonic mnemonic = list_all is_known_shape mnemonic.shapes

all_known : list_all is_known_mnemonic mnemonics ≡ true
all_known = refl

found_passes : {X : Type 0} (p q : X → Bool) (xs : List X) (x : X) → list_all q xs ≡ true → find p xs ≡ Some x → q x ≡ true
found_passes p q [] x all found = cc
found_passes p q (y ∷ ys) x all found =
    let parts = and_parts (q y) (list_all q ys) all in
    elim (cases_Bool (p y)) [
      | inl hit ↦ let one : Some y ≡ Some x = rw hit at found in let same : y ≡ x = cc in rw (← same) parts.0
      | inr skip ↦ found_passes p q ys x parts.1 (rw skip at found)
    ]

mnemonic_known : (word : List ℕ) (mnemonic : Mnemonic) → mnemonic_of word ≡ Some mnemonic → is_known_mnemonic mnemonic ≡ true
unfolding mnemonic_of
mnemonic_known word mnemonic found = found_passes (λ m. bytes_eq m.word word) is_known_mnemonic mnemonics mnemonic all_known found

fit_known : (shapes : List Shape) (tokens : List (List ℕ)) (fit : ℕ × Operands) → list_all is_known_shape shapes ≡ true → first_fit shapes tokens ≡ Some fit → is_known fit.0 ≡ true
fit_known [] tokens fit all found = cc
fit_known (shape ∷ shapes) tokens fit all found =
    let parts = and_parts (is_known_shape shape) (list_all is_known_shape shapes) all in
    elim (operands_at shape.parts tokens) as (λ o. option_map_or (λ operands. Some (shape.code, operands)) o (first_fit shapes tokens) ≡ Some fit → is_known fit.0 ≡ true) [
      | Some operands ↦ λ e. let same : shape.code ≡ fit.0 = cc in rw (← same) parts.0
      | None ↦ λ e. fit_known shapes tokens fit parts.1 e
    ] found

ok_or_some : {A : Type 0} (o : Option A) (kind : AsmFaultKind) (x : A) → ok_or o kind ≡ Ok x → o ≡ Some x
ok_or_some (Some y) kind x e = cc
ok_or_some None kind x e = cc

room_below : (count room : ℕ) → room_behind count ≡ Ok room → count < 4096
room_below count room e = elim (cases_Bool (nat_lt count 4096)) [
  | inl below ↦ grind arith
  | inr above ↦ let stop = rw above at e in cc
]

-- an instruction's code is known, and there was room for it
instruction_known : (line count : ℕ) (word : List ℕ) (operands : List (List ℕ)) (draft : Draft) → instruction line count word operands ≡ Ok draft → (is_known draft.code ≡ true) × (count < 4096)
unfolding instruction
instruction_known line count word operands draft e =
    let mnemonic = bind_ok (ok_or (mnemonic_of word) _) _ draft e in
    let room = bind_ok (room_behind count) _ draft mnemonic.2 in
    let fit = bind_ok (ok_or (first_fit mnemonic.0.shapes operands) _) _ draft room.2 in
    let k = bind_ok (value_of fit.0.1.number) _ draft fit.2 in
    let code : fit.0.0 ≡ draft.code = cc in (
      rw (← code) (fit_known mnemonic.0.shapes operands fit.0 (mnemonic_known word mnemonic.0 (ok_or_some _ _ _ mnemonic.1)) (ok_or_some _ _ _ fit.1)),
      room_below count room.0 room.1,
    )

-- the codes of drafts are known
abbrev AreKnown : List Draft → Type 0
AreKnown [] = Unit {0}
AreKnown (draft ∷ drafts) = (is_known draft.code ≡ true) × AreKnown drafts

known_front : (d : Option Draft) (drafts : List Draft) → AreKnown (option_to_list d) → AreKnown drafts → AreKnown (option_to_list d ++ drafts)
known_front None drafts one more = more
known_front (Some draft) drafts one more = (one.0, more)

body_known : (line count : ℕ) (body : List (List ℕ)) (d : Option Draft) → instruction_of line count body ≡ Ok d → count ≤ 4096 → AreKnown (option_to_list d) × (count + instructions_in body ≤ 4096)
body_known line count [] d e fits = let none : None ≡ d = cc in (rw (← none) tt, omega arith)
body_known line count (word ∷ operands) d e fits =
    let p = bind_ok (instruction line count word operands) _ d e in
    let one = instruction_known line count word operands p.0 p.1 in
    let some : Some p.0 ≡ d = cc in
    (rw (← some) (one.0, tt), omega (arith, one.1))

line_known : (before : List Line) (x : Line) (d : Option Draft) → line_gives before x ≡ Ok d → instructions before ≤ 4096 → AreKnown (option_to_list d) × (instructions before + instructions_in x.body ≤ 4096)
line_known before x d gives fits = elim (cases_Bool (repeats (flat_map (λ l. l.labels) before) x.labels)) [
  | inl twice ↦ let stop = rw twice at gives in cc
  | inr new ↦ body_known (length before + 1) (instructions before) x.body d (rw new at gives) fits
]

instructions-push : (before : List Line) (x : Line) → instructions (before ++ x ∷ []) ≡ instructions before + instructions_in x.body
instructions-push [] x = omega arith
instructions-push (line ∷ before) x = omega (arith, instructions-push before x)

drafts_known : (before lines : List Line) (drafts : List Draft) → drafts_from before lines ≡ Ok drafts → instructions before ≤ 4096 → AreKnown drafts × (instructions before + instructions lines ≤ 4096)
drafts_known before [] drafts done fits = let none : [] ≡ drafts = cc in (rw (← none) tt, omega arith)
drafts_known before (x ∷ xs) drafts done fits =
    let first = bind_ok (on_line (length before + 1) (line_gives before x)) _ drafts done in
    let rest = bind_ok (drafts_from (before ++ x ∷ []) xs) _ drafts first.2 in
    let one = line_known before x first.0 (on_line_ok _ _ _ first.1) fits in
    let more = drafts_known (before ++ x ∷ []) xs rest.0 rest.1 (omega (arith, one.1, instructions-push before x)) in
    let all : option_to_list first.0 ++ rest.0 ≡ drafts = cc in
    (rw (← all) (known_front first.0 rest.0 one.0 more.0), omega (arith, more.1, instructions-push before x))

-- linking keeps the code
linked_code : (places : List (List ℕ × ℕ)) (place : ℕ) (draft : Draft) (label : Option (List ℕ)) (insn : Insn) → linked_to places place draft label ≡ Ok insn → insn.code ≡ draft.code
linked_code places place draft None insn e = cc
linked_code places place draft (Some name) insn e = elim (cases_Bool (draft.code == 0x05)) [
  | inl jump ↦
      let p = bind_ok (reach place (place_of places name)) _ insn (rw jump at e) in
      let made = p.2 in cc
  | inr other ↦
      let p = bind_ok (short_reach place (place_of places name)) _ insn (rw other at e) in
      let q = bind_ok (second_reach places place draft.second) _ insn p.2 in
      let made = q.2 in cc
]

-- each instruction's code is known
abbrev CodesKnown : List Insn → Type 0
CodesKnown [] = Unit {0}
CodesKnown (insn ∷ program) = (is_known insn.code ≡ true) × CodesKnown program

links_known : (places : List (List ℕ × ℕ)) (place : ℕ) (drafts : List Draft) (program : List Insn) → links places place drafts ≡ Ok program → AreKnown drafts → CodesKnown program × (length program ≡ length drafts)
links_known places place [] program e known = let none : [] ≡ program = cc in (rw (← none) tt, rw (← none) refl)
links_known places place (draft ∷ drafts) program e known =
    let first = bind_ok (on_line draft.line (linked places place draft)) _ program e in
    let rest = bind_ok (links places (place + 1) drafts) _ program first.2 in
    let more = links_known places (place + 1) drafts rest.0 rest.1 known.1 in
    let code = linked_code places place draft draft.first first.0 (on_line_ok _ _ _ first.1) in
    let all : first.0 ∷ rest.0 ≡ program = cc in
    (rw (← all) (rw code known.0, more.0), rw (← all) (ap suc more.1))

known_at : (program : List Insn) (pc : ℕ) → CodesKnown program → pc < length program → (insn : Insn) × (slice_get program pc ≡ Some insn) × (is_known insn.code ≡ true)
known_at [] pc known within = absurd (omega arith)
known_at (insn ∷ program) zero known within = (insn, refl, known.0)
known_at (insn ∷ program) (suc pc) known within = known_at program pc known.1 (omega arith)

form_at-known : (program : List Insn) (pc : ℕ) → CodesKnown program → pc < length program → (form : Form) × FormAt program pc form
unfolding form_at
form_at-known program pc known within =
    let there = known_at program pc known within in
    let form = form_there (form_of there.0) (form_of-some there.0 there.2) in
    (form.0, rw there.1 form.1)

-- an assembled program is short, and each of its instructions has a form
pub assembled_formed : (text : List ℕ) (program : List Insn) → Asm text program → (length program ≤ 4096) × ((pc : ℕ) → pc < length program → (form : Form) × FormAt program pc form)
assembled_formed text program asm =
    let drafts = bind_ok (drafts_of asm.0) _ program (sym asm.2) in
    let known = drafts_known [] asm.0 drafts.0 drafts.1 (omega arith) in
    let codes = links_known (definitions asm.0) 0 drafts.0 program drafts.2 known.0 in
    (omega (arith, codes.1, known.1, length-drafts_from [] asm.0 drafts.0 drafts.1), λ pc within. form_at-known program pc codes.0 within)
