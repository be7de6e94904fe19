-- The text of a printable program stands for that program, with its unused fields 0.
use Rattle.std.proofs.Common.{◌≡◌, ℕ, suc, ◌+◌, ◌<◌, ◌≤◌, ◌^◌, Bool, true, false, not, eqb, List, [], ◌∷◌, ◌++◌, length, Option, Some, Ok, append_assoc, length-append, refl, sym, ap, ◌∙◌, subst, inl, inr, arith}
use Rattle.std.specs.Prelude.{◌≢◌, map, codes, slice_get, option_and_then}
use Rattle.std.specs.Option.{option_map_or}
use Rattle.std.specs.List.{list_all, list_any, flat_map, enumerate_from, prefix_len, All}
use Rattle.std.specs.Str.{bytes_eq}
use Rattle.std.specs.Fmt.{decimal}
use Rattle.std.proofs.lemmas.Fmt.{decimal_injective}
use Rattle.std.proofs.lemmas.List.{take_all}
use Rattle.std.proofs.lemmas.List.Concat.{flat_map-append}
use Rattle.std.proofs.lemmas.List.Elements.{All-weaker, All-head, All-tail}
use Rattle.std.proofs.lemmas.List.Folds.{list_any-append, list_all-append}
use Rattle.std.proofs.lemmas.List.Sums.{AllPass-from_list_all, prefix_len_stops}
use Rattle.std.proofs.lemmas.List.Splits.{slice_split_at}
use Rattle.std.proofs.lemmas.Bool.{cases_Bool, cases_lt, false≢true, eqb-true}
use Rattle.std.proofs.lemmas.Bool.Decides.{nat_tests}
use Rattle.std.proofs.lemmas.Slice.Eq.{bytes_eq-Decides}
use Rattle.bpf_insn.specs.declared.insn.Insn.{Insn}
use Rattle.bpf_insn.specs.declared.form.Form.{Form}
use Rattle.bpf_insn.specs.declared.form.Form.TheVariants.{LdImm, LdAbs, LdInd, LdMem, LdLen, LdxImm, LdxMem, LdxLen, LdxMsh, St, Stx, AluK, AluX, Neg, Ja, JmpK, JmpX, RetK, RetA, Tax, Txa}
use Rattle.bpf_insn.specs.Table.{InRange, form_of}
use Rattle.bpf_insn.specs.Program.{JumpsTo, form_at}
use Rattle.bpf_insn.specs.AsmText.{label, printed, asm_line, asm_text, IsPrintable}
use Rattle.filter_asm.specs.Token.{Tokens, without_comment, is_name}
use Rattle.filter_asm.specs.Program.{Line, Draft, line_of, is_label, Spells, SpellsAll, text_lines, ended, instructions, instructions_in, line_gives, drafts_from, definitions_from, definitions, place_of, links, assembled, Asm}
use Rattle.filter_asm.specs.Cleared.{cleared}
use Rattle.filter_asm.proofs.DecimalLemmas.{is_plain, digits-decimal}
use Rattle.filter_asm.proofs.PrintedForms.{word_of, operands_of, drafted, coded, Bounded}
use Rattle.filter_asm.proofs.PrintedInstructions.{gives}
use Rattle.filter_asm.proofs.PrintedTokens.{tokens_of, plain_printed, plain_label, mark, label_then}
use Rattle.filter_asm.proofs.FormRows.{Decoded, decoded_as}
use Rattle.filter_asm.proofs.PrintedLinks.{Places, linked_is}
use Rattle.filter_asm.proofs.ProgramLemmas.{drafts_from-cons}
use Rattle.filter_asm.proofs.LineLemmas.{parts_some}

-- these are the forms of the program from a place on, whose jumps lead to places below n
abbrev Printed : ℕ → ℕ → List Insn → List Form → Type 0
Printed n pc [] [] = Unit {0}
Printed n pc [] (form ∷ forms) = ⊥
Printed n pc (i ∷ program) [] = ⊥
Printed n pc (i ∷ program) (form ∷ forms) = (form_of i ≡ Some form) × Decoded i form × ((to : ℕ) → JumpsTo pc form to → to < n) × Printed n (pc + 1) program forms

printed_from : (n pc : ℕ) (program : List Insn) → ((k : ℕ) → k < length program → (form : Form) × (option_and_then form_of (slice_get program k) ≡ Some form) × ((to : ℕ) → JumpsTo (pc + k) form to → to < n))
    → All InRange program → (forms : List Form) × Printed n pc program forms
printed_from n pc [] each range = ([], tt)
printed_from n pc (i ∷ program) each range =
    let here = each 0 (omega arith) in
    let inside : (to : ℕ) → JumpsTo pc here.0 to → to < n = λ to jumps. here.2 to (subst (λ (at : ℕ). JumpsTo at here.0 to) (omega arith) jumps) in
    let further = printed_from n (pc + 1) program
    (λ k lt. let one = each (suc k) (omega arith) in (one.0, one.1, λ to jumps. one.2 to (subst (λ (at : ℕ). JumpsTo at one.0 to) (omega arith) jumps)))
    (All-tail InRange i program range) in
    (here.0 ∷ further.0, (here.1, decoded_as i here.0 (All-head InRange i program range) here.1, inside, further.1))

-- the lines of the text, without their line feeds
abbrev bytes_of : ℕ → List Form → List (List ℕ)
bytes_of pc [] = []
bytes_of pc (form ∷ forms) = ((label pc ++ codes ": ") ++ printed pc form) ∷ bytes_of (pc + 1) forms

abbrev line_at : ℕ → Form → Line
line_at pc form = record { labels = label pc ∷ []; body = word_of form ∷ operands_of pc form }

abbrev lines_of : ℕ → List Form → List Line
lines_of pc [] = []
lines_of pc (form ∷ forms) = line_at pc form ∷ lines_of (pc + 1) forms

abbrev drafts_at : ℕ → List Form → List Draft
drafts_at pc [] = []
drafts_at pc (form ∷ forms) = drafted (pc + 1) pc form ∷ drafts_at (pc + 1) forms

plain_no_feed : (b : ℕ) → is_plain b ≡ true → eqb b 10 ≡ false
plain_no_feed b e = elim (cases_Bool (eqb b 10)) [ inl same ↦ absurd (false≢true (rw same at e)) | inr other ↦ other ]

plain_no_comment : (b : ℕ) → is_plain b ≡ true → eqb b 59 ≡ false
plain_no_comment b e = elim (cases_Bool (eqb b 59)) [
  | inl same ↦ let is : b ≡ 59 = eqb-true b 59 same in absurd (false≢true (rw is at e))
  | inr other ↦ other
]

-- a plain line in front of others
first_line : (line text : List ℕ) → list_all is_plain line ≡ true → text_lines ((line ++ 10 ∷ []) ++ text) ≡ line ∷ text_lines text
first_line line text plain =
    let none : All (λ (b : ℕ). eqb b 10 ≡ false) line = All-weaker (λ (b : ℕ). is_plain b ≡ true) (λ (b : ℕ). eqb b 10 ≡ false) plain_no_feed line (AllPass-from_list_all is_plain line plain) in
    let r = parts_some text in
    ap (λ (t : List ℕ). text_lines t) (append_assoc line (10 ∷ []) text)
    ∙ ap ended (slice_split_at (λ b. eqb b 10) line 10 text none refl ∙ ap (λ l. line ∷ l) r.1.1)
    ∙ ap (λ l. line ∷ ended l) (sym r.1.1)

-- a plain line has no comment
no_comment : (line : List ℕ) → list_all is_plain line ≡ true → without_comment line ≡ line
no_comment line plain =
    let p : ℕ → Bool = λ b. not (eqb b 59) in
    let all : All (λ (b : ℕ). p b ≡ true) line = All-weaker (λ (b : ℕ). is_plain b ≡ true) (λ (b : ℕ). p b ≡ true) (λ b e. rw (plain_no_comment b e) refl) line (AllPass-from_list_all is_plain line plain) in
    elim (cases_lt (prefix_len p line) (length line)) [
      | inl within ↦ absurd (false≢true (sym (prefix_len_stops p line 0 within) ∙ all (prefix_len p line) 0 within))
      | inr past ↦ take_all (prefix_len p line) line past
    ]

plain_line : (pc : ℕ) (form : Form) → pc < 4096 → Bounded form → list_all is_plain ((label pc ++ codes ": ") ++ printed pc form) ≡ true
plain_line pc form at bounds =
    list_all-append is_plain (label pc ++ codes ": ") (printed pc form)
    ∙ (rw (list_all-append is_plain (label pc) (codes ": "), plain_label pc (omega arith), plain_printed pc form at bounds) refl)

-- the text's lines
lines_of_text : (n pc : ℕ) (program : List Insn) (forms : List Form) → Printed n pc program forms → pc + length program ≤ 4096
    → text_lines (flat_map (λ at. option_map_or (asm_line at.0) (form_of at.1) []) (enumerate_from pc program)) ≡ bytes_of pc forms
lines_of_text n pc [] [] is short = refl
lines_of_text n pc [] (form ∷ forms) is short = absurd is
lines_of_text n pc (i ∷ program) [] is short = absurd is
lines_of_text n pc (i ∷ program) (form ∷ forms) is short =
    let text = flat_map (λ at. option_map_or (asm_line at.0) (form_of at.1) []) (enumerate_from (pc + 1) program) in
    let line = (label pc ++ codes ": ") ++ printed pc form in
    ap (λ (o : Option Form). text_lines (option_map_or (asm_line pc) o [] ++ text)) is.0
    ∙ first_line line text (plain_line pc form (omega arith) is.1.bounds)
    ∙ ap (λ l. line ∷ l) (lines_of_text n (pc + 1) program forms is.3 (omega arith))

-- a word that no colon follows is no label
abbrev NoColon : List (List ℕ) → Type 0
NoColon [] = Unit {0}
NoColon (token ∷ tokens) = bytes_eq token (codes ":") ≡ false

no_label : (name colon : List ℕ) → bytes_eq colon (codes ":") ≡ false → is_label name colon ≡ false
no_label name colon e = elim (cases_Bool (is_name name)) [ inl named ↦ rw (named, e) refl | inr other ↦ rw other refl ]

line_with : (name word : List ℕ) (operands : List (List ℕ)) → is_name name ≡ true → NoColon operands
    → line_of (name ∷ codes ":" ∷ word ∷ operands) ≡ record { labels = name ∷ []; body = word ∷ operands }
line_with name word [] named none = rw named refl
line_with name word (next ∷ operands) named none = rw (named, no_label word next none) refl

no_colon : (pc : ℕ) (form : Form) → NoColon (operands_of pc form)
no_colon pc (LdImm k) = refl
no_colon pc (LdAbs size k) = refl
no_colon pc (LdInd size k) = refl
no_colon pc (LdMem k) = refl
no_colon pc LdLen = refl
no_colon pc (LdxImm k) = refl
no_colon pc (LdxMem k) = refl
no_colon pc LdxLen = refl
no_colon pc (LdxMsh k) = refl
no_colon pc (St k) = refl
no_colon pc (Stx k) = refl
no_colon pc (AluK op k) = refl
no_colon pc (AluX op) = refl
no_colon pc Neg = tt
no_colon pc (Ja k) = refl
no_colon pc (JmpK test k jt jf) = refl
no_colon pc (JmpX test jt jf) = refl
no_colon pc (RetK k) = refl
no_colon pc RetA = refl
no_colon pc Tax = tt
no_colon pc Txa = tt

spells : (pc : ℕ) (form : Form) → pc < 4096 → Bounded form → Spells ((label pc ++ codes ": ") ++ printed pc form) (line_at pc form)
spells pc form at bounds =
    let ds = decimal pc in
    let bytes = (label pc ++ codes ": ") ++ printed pc form in
    let body = word_of form ∷ operands_of pc form in
    let tokens = label pc ∷ codes ":" ∷ body in
    let found = label_then ds 58 (32 ∷ printed pc form) (codes ":" ∷ body) (digits-decimal pc (omega arith)) refl (mark 58 (32 ∷ printed pc form) body refl (λ c. refl) (tokens_of pc form at bounds)) in
    let whole : bytes ≡ 108 ∷ (ds ++ 58 ∷ 32 ∷ printed pc form) = ap (λ (bs : List ℕ). 108 ∷ bs) (append_assoc ds (codes ": ") (printed pc form)) in
    let spelled : without_comment bytes ≡ 108 ∷ (ds ++ 58 ∷ 32 ∷ printed pc form) = no_comment bytes (plain_line pc form at bounds) ∙ whole in
    (tokens, subst (Tokens tokens) (sym spelled) found, sym (line_with (label pc) (word_of form) (operands_of pc form) refl (no_colon pc form)))

spells_all : (n pc : ℕ) (program : List Insn) (forms : List Form) → Printed n pc program forms → pc + length program ≤ 4096 → SpellsAll (bytes_of pc forms) (lines_of pc forms)
spells_all n pc [] [] is short = tt
spells_all n pc [] (form ∷ forms) is short = absurd is
spells_all n pc (i ∷ program) [] is short = absurd is
spells_all n pc (i ∷ program) (form ∷ forms) is short = (spells pc form (omega arith) is.1.bounds, spells_all n (pc + 1) program forms is.3 (omega arith))

-- labels of other places are others
other_label : (m n : ℕ) → m < 2 ^ 64 → n < 2 ^ 64 → m ≢ n → bytes_eq (label m) (label n) ≡ false
other_label m n one two apart = elim (cases_Bool (bytes_eq (label m) (label n))) [
  | inl same ↦
      let is : label m ≡ label n = (bytes_eq-Decides (label m) (label n)).0 same in
      let digits : decimal m ≡ decimal n = cc in
      absurd (apart (decimal_injective m n one two digits))
  | inr other ↦ other
]

same_label : (m : ℕ) → bytes_eq (label m) (label m) ≡ true
same_label m = (bytes_eq-Decides (label m) (label m)).1 refl

instructions-push : (xs : List Line) (line : Line) → instructions (xs ++ line ∷ []) ≡ instructions xs + instructions_in line.body
instructions-push [] line = omega arith
instructions-push (x ∷ xs) line = rw (instructions-push xs line) (omega arith)

-- the lines in front of a place
record Before (lines : List Line) (pc : ℕ) : Type 0 where
  counted : length lines ≡ pc
  placed : instructions lines ≡ pc
  fresh : (m : ℕ) → pc ≤ m → m < 2 ^ 64 → list_any (λ other. bytes_eq (label m) other) (flat_map (λ l. l.labels) lines) ≡ false

before_next : (lines : List Line) (pc : ℕ) (form : Form) → pc < 4096 → Before lines pc → Before (lines ++ line_at pc form ∷ []) (pc + 1)
before_next lines pc form at before = record {
  counted = omega (arith, length-append lines (line_at pc form ∷ []), before.counted);
  placed = omega (arith, instructions-push lines (line_at pc form), before.placed);
  fresh = λ m above small.
      let apart : m ≢ pc = omega arith in
      let old = before.fresh m (omega arith) small in
      let new = other_label m pc small (omega arith) apart in
      rw (flat_map-append (λ l. l.labels) lines (line_at pc form ∷ []), list_any-append (λ other. bytes_eq (label m) other) (flat_map (λ l. l.labels) lines) (label pc ∷ []), old, new) refl;
}

line_gives_draft : (lines : List Line) (pc : ℕ) (form : Form) → pc < 4096 → Bounded form → Before lines pc → line_gives lines (line_at pc form) ≡ Ok (Some (drafted (pc + 1) pc form))
line_gives_draft lines pc form at bounds before =
    rw (before.fresh pc (omega arith) (omega arith), before.counted, before.placed, gives (pc + 1) pc pc form at bounds) refl

drafts_of_lines : (n pc : ℕ) (program : List Insn) (forms : List Form) (before : List Line) → Printed n pc program forms → pc + length program ≤ 4096 → Before before pc
    → drafts_from before (lines_of pc forms) ≡ Ok (drafts_at pc forms)
drafts_of_lines n pc [] [] before is short front = refl
drafts_of_lines n pc [] (form ∷ forms) before is short front = absurd is
drafts_of_lines n pc (i ∷ program) [] before is short front = absurd is
drafts_of_lines n pc (i ∷ program) (form ∷ forms) before is short front =
    let here = line_gives_draft before pc form (omega arith) is.1.bounds front in
    let further = drafts_of_lines n (pc + 1) program forms (before ++ line_at pc form ∷ []) is.3 (omega arith) (before_next before pc form (omega arith) front) in
    drafts_from-cons before (line_at pc form) (lines_of (pc + 1) forms) (Some (drafted (pc + 1) pc form)) (Ok (drafts_at (pc + 1) forms)) (rw here refl) further

-- each label has its place
place_is : (s : ℕ) (forms : List Form) (m : ℕ) → s ≤ m → m < s + length forms → m < 2 ^ 64 → s < 2 ^ 64 → place_of (definitions_from s (lines_of s forms)) (label m) ≡ Some m
place_is s [] m above below small low = absurd (omega arith)
place_is s (form ∷ forms) m above below small low = elim (cases_Bool (eqb m s)) [
  | inl same ↦ let is : m ≡ s = eqb-true m s same in rw (← is, same_label m) refl
  | inr other ↦
      let apart : m ≢ s = λ e. absurd (false≢true (sym other ∙ (grind (arith, nat_tests)))) in
      let further = place_is (s + 1) forms m (omega arith) (omega arith) small (omega arith) in
      rw (other_label m s small low apart) further
]

links_is : (n pc : ℕ) (program : List Insn) (forms : List Form) (places : List (List ℕ × ℕ)) → Printed n pc program forms → Places places n
    → links places pc (drafts_at pc forms) ≡ Ok (map cleared program)
links_is n pc [] [] places is placed = refl
links_is n pc [] (form ∷ forms) places is placed = absurd is
links_is n pc (i ∷ program) [] places is placed = absurd is
links_is n pc (i ∷ program) (form ∷ forms) places is placed =
    let here = linked_is places n pc (pc + 1) form placed is.1.bounds is.2 in
    let further = links_is n (pc + 1) program forms places is.3 placed in
    let insn : cleared i ≡ coded form = rw is.0 (sym is.1.coded) in
    rw (here, further, insn) refl

same_length : (n pc : ℕ) (program : List Insn) (forms : List Form) → Printed n pc program forms → length forms ≡ length program
same_length n pc [] [] is = refl
same_length n pc [] (form ∷ forms) is = absurd is
same_length n pc (i ∷ program) [] is = absurd is
same_length n pc (i ∷ program) (form ∷ forms) is = omega (arith, same_length n (pc + 1) program forms is.3)

prints_at : (program : List Insn) → IsPrintable program → (k : ℕ) → k < length program → (form : Form) × (option_and_then form_of (slice_get program k) ≡ Some form) × ((to : ℕ) → JumpsTo (0 + k) form to → to < length program)
unfolding form_at
prints_at program printable k lt =
    let at = printable.each k lt in (
      at.0.0,
      at.0.1,
      λ to jumps. elim (cases_lt to (length program)) [
        | inl inside ↦ inside
        | inr past ↦ absurd (at.1 (at.0.0, to, at.0.1, subst (λ (place : ℕ). JumpsTo place at.0.0 to) (omega arith) jumps, past))
      ],
    )

pub stands_for_itself : (program : List Insn) → IsPrintable program → All InRange program → Asm (asm_text program) (map cleared program)
stands_for_itself program printable range =
    let n = length program in
    let found = printed_from n 0 program (prints_at program printable) range in
    let forms = found.0 in
    let is = found.1 in
    let short : 0 + length program ≤ 4096 = omega (arith, printable.short) in
    let spelled = subst (λ (parts : List (List ℕ)). SpellsAll parts (lines_of 0 forms)) (sym (lines_of_text n 0 program forms is short)) (spells_all n 0 program forms is short) in
    let front : Before [] 0 = record { counted = refl; placed = refl; fresh = λ m above small. refl } in
    let drafts = drafts_of_lines n 0 program forms [] is short front in
    let len = same_length n 0 program forms is in
    let placed : Places (definitions (lines_of 0 forms)) n = λ m below. place_is 0 forms m (omega arith) (omega arith) (omega arith) (omega arith) in
    let linked_all = links_is n 0 program forms (definitions (lines_of 0 forms)) is placed in
    let stands : assembled (lines_of 0 forms) ≡ Ok (map cleared program) = rw drafts linked_all in
    (lines_of 0 forms, spelled, sym stands)
