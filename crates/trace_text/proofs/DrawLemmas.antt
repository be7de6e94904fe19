-- What `draw` reads of a printed line, and of a text of printed lines.
use Rattle.std.proofs.Common.{◌≡◌, ℕ, ◌<◌, ◌+◌, ◌-◌, Bool, true, false, ◌||◌, ◌⊎◌, inl, inr, List, [], ◌∷◌, ◌++◌, length, Option, Some, None, Result, Ok, Err, refl, sym, ap, subst, ◌∙◌, arith, append_assoc, append-nil}
use Rattle.std.specs.Prelude.{codes, if◌then◌else◌}
use Rattle.std.specs.Fmt.{decimal}
use Rattle.std.specs.List.{flat_map, list_all, list_any, slice_split, position_or_len, before_first, after_first}
use Rattle.std.specs.Str.{bytes_eq}
use Rattle.std.proofs.lemmas.Bool.{and_from}
use Rattle.std.proofs.lemmas.List.Folds.{list_all-append}
use Rattle.std.proofs.lemmas.List.Splits.{slice_split_at}
use Rattle.bpf_insn.specs.Texts.{words_of}
use Rattle.line_words.specs.Words.{word_at}
use Rattle.filter_table.specs.declared.operation.Op.{Op}
use Rattle.world_events.specs.declared.event.Event.{Event}
use Rattle.world_events.specs.declared.event.Event.TheVariants.{Start, Submit, StartFor, Take, Rx}
use Rattle.world_events.specs.declared.event.Answer.{Answer}
use Rattle.world_events.specs.declared.fault.WorldFault.{WorldFault}
use Rattle.world_events.specs.declared.fault.WorldFault.TheVariants.{NoSuchCore, Nothing}
use Rattle.trace_lines.specs.declared.event.Act.{Act}
use Rattle.trace_lines.specs.declared.event.Act.TheVariants as act
use Rattle.trace_lines.specs.declared.event.TraceAnswer.{TraceAnswer}
use Rattle.trace_lines.specs.declared.event.TraceAnswer.TheVariants as told
use Rattle.trace_lines.specs.Lines as lines
use Rattle.trace_lines.specs.Lines.{Shown, Said, said_of, is_skipped}
use Rattle.trace_lines.specs.Traces.{is_bad, shown_in, outcome, said_in, trace_of}
use Rattle.trace_lines.specs.Words.{is_no, is_other, is_plain}
use Rattle.sim_lines.specs.Events.{event_words, told_words, event_line}
use Rattle.trace_text.specs.Reading.{act_of, told_of, says_no, version_of, text_of, shown_of, IsAtCores, CanDraw}
use Rattle.trace_text.proofs.TextLemmas.{is_lf, is_colon, Lacks, lacks_append, lacks_all, decimal_colon}
use Rattle.trace_text.proofs.LineLemmas.{before_at, after_at}
use Rattle.trace_text.proofs.DigitLemmas.{decimal_number}
use Rattle.trace_text.proofs.WordLemmas.{is_word, spaced, plains_lf, words_spaced, plain_spaced}
use Rattle.trace_text.proofs.ToldLemmas.{event_parts, event_spaced, event_are, colon_parts, colon_spaced, colon_are, acts, told_parts, told_spaced, told_are, told_some, ends_missing, last_missing, missing_behind, answer_core, answer_no, tells, comes}

-- The words of a line

abbrev pub line_text : Event → Result Answer WorldFault → List ℕ
line_text e t = event_words e ++ 58 ∷ 32 ∷ told_words t

spaced_append : (xs ys : List (List ℕ)) → spaced (xs ++ ys) ≡ spaced xs ++ spaced ys
spaced_append [] ys = refl
spaced_append (x ∷ xs) ys = ap (λ t. 32 ∷ x ++ t) (spaced_append xs ys) ∙ sym (append_assoc (32 ∷ x) (spaced xs) (spaced ys))

abbrev line_parts : Event → Result Answer WorldFault → List (List ℕ)
line_parts e t = colon_parts e ++ told_parts t

line_spaced : (e : Event) (t : Result Answer WorldFault) → 32 ∷ line_text e t ≡ spaced (line_parts e t)
line_spaced e t = colon_spaced e (32 ∷ told_words t) ∙ ap (λ l. spaced (colon_parts e) ++ l) (told_spaced t) ∙ sym (spaced_append (colon_parts e) (told_parts t))

line_are : (e : Event) (t : Result Answer WorldFault) → list_all is_word (line_parts e t) ≡ true
line_are e t = list_all-append is_word (colon_parts e) (told_parts t) ∙ and_from (list_all is_word (colon_parts e)) (list_all is_word (told_parts t)) (colon_are e) (told_are t)

line_words : (e : Event) (t : Result Answer WorldFault) → words_of (line_text e t) ≡ line_parts e t
line_words e t = ap words_of (line_spaced e t) ∙ words_spaced (line_parts e t) (line_are e t)

line_plain : (e : Event) (t : Result Answer WorldFault) → list_all is_plain (line_text e t) ≡ true
line_plain e t = ap (list_all is_plain) (line_spaced e t) ∙ plain_spaced (line_parts e t) (line_are e t)

pub event_words_are : (e : Event) → words_of (event_words e) ≡ event_parts e
event_words_are e = ap words_of (event_spaced e) ∙ words_spaced (event_parts e) (event_are e)

behind_words : (t : Result Answer WorldFault) → words_of (32 ∷ told_words t) ≡ told_parts t
behind_words t = ap words_of (told_spaced t) ∙ words_spaced (told_parts t) (told_are t)

-- Whether it is skipped

other_event : (e : Event) (ts : List (List ℕ)) → is_other (word_at (colon_parts e ++ ts) 0) ≡ false
other_event (Start op) ts = refl
other_event (Submit core op) ts = refl
other_event (StartFor core) ts = refl
other_event (Take to from short) ts = refl
other_event (Rx core number packet floor) ts = refl

skips : (e : Event) (ts : List (List ℕ)) (ends : Bool) → 0 < length ts → ends_missing ts ≡ ends → is_skipped (colon_parts e ++ ts) ≡ ends
skips e [] ends some is = absurd (omega arith)
skips e (t ∷ ts) ends some is =
    let ws = colon_parts e ++ t ∷ ts in
    ap (λ b. b || bytes_eq (word_at ws (length ws - 1)) (codes "NoSuchCore")) (other_event e (t ∷ ts)) ∙ last_missing ws ∙ missing_behind (colon_parts e) t ts ∙ is

-- What it says

pub words_colon : (e : Event) → Lacks is_colon (event_words e)
words_colon (Start op) = refl
words_colon (Submit core op) = decimal_colon core
words_colon (StartFor core) = decimal_colon core
words_colon (Take to from short) = lacks_append is_colon (decimal to ++ 32 ∷ []) (decimal from) (lacks_append is_colon (decimal to) (32 ∷ []) (decimal_colon to) refl) (decimal_colon from)
words_colon (Rx core number packet floor) = lacks_append is_colon (decimal core ++ 32 ∷ []) (decimal number) (lacks_append is_colon (decimal core) (32 ∷ []) (decimal_colon core) refl) (decimal_colon number)

line_skipped : (e : Event) (t : Result Answer WorldFault) (ends : Bool) → ends_missing (told_parts t) ≡ ends → is_skipped (words_of (line_text e t)) ≡ ends
line_skipped e t ends is = ap is_skipped (line_words e t) ∙ skips e (told_parts t) ends (told_some t) is

skipped_line : (line : List ℕ) → is_skipped (words_of line) ≡ true → said_of line ≡ lines.Skipped
skipped_line line is = rw is refl

said_line : (line before behind : List ℕ) → is_skipped (words_of line) ≡ false → list_all is_plain line ≡ true → before_first is_colon line ≡ before → after_first is_colon line ≡ behind
    → said_of line ≡ lines.said_parts line before behind
said_line line before behind skipped plain front back = rw (skipped, plain, front, back) refl

said_event : (line : List ℕ) (done bs ts : List (List ℕ)) (a : Act) (t : TraceAnswer) (denied : Bool) (version : List ℕ) → lines.act_of bs ≡ Some a → lines.told_of a ts ≡ Some t → list_any is_no ts ≡ denied → lines.version_of t ts ≡ version
    → lines.said_act line done ts (lines.act_of bs) ≡ lines.Done (record { event = record { act = a; told = t }; no = denied; version = version; text = line })
said_event line done bs ts a t denied version is tells' no' comes' =
    ap (lines.said_act line done ts) is ∙ ap (lines.said_told line ts a) tells' ∙ (λ i. lines.Done (record { event = record { act = a; told = t }; no = no' i; version = comes' i; text = line }))

-- what its words say
words_say : (e : Event) (t : Result Answer WorldFault) → ends_missing (told_parts t) ≡ false
    → said_of (line_text e t) ≡ lines.said_act (line_text e t) (event_parts e) (told_parts t) (lines.act_of (event_parts e))
words_say e t ends =
    let line = line_text e t in
    let before = event_words e in
    let behind = 32 ∷ told_words t in
    said_line line before behind (line_skipped e t false ends) (line_plain e t) (before_at is_colon 58 before behind refl (words_colon e)) (after_at is_colon 58 before behind refl (words_colon e))
    ∙ ap (λ ts. lines.said_act line (words_of before) ts (lines.act_of (words_of before))) (behind_words t)
    ∙ ap (λ bs. lines.said_act line bs (told_parts t) (lines.act_of bs)) (event_words_are e)

-- the event that a line tells of
said_parts_are : (e : Event) (t : Result Answer WorldFault) (told' : TraceAnswer) (denied : Bool) (version : List ℕ) → IsAtCores e → ends_missing (told_parts t) ≡ false
    → lines.told_of (act_of e) (told_parts t) ≡ Some told' → list_any is_no (told_parts t) ≡ denied → lines.version_of told' (told_parts t) ≡ version
    → said_of (line_text e t) ≡ lines.Done (record { event = record { act = act_of e; told = told' }; no = denied; version = version; text = line_text e t })
said_parts_are e t told' denied version at ends tells' no' comes' =
    words_say e t ends ∙ said_event (line_text e t) (event_parts e) (event_parts e) (told_parts t) (act_of e) told' denied version (acts e at) tells' no' comes'

-- Nothing was asked for

-- whichever core it is
unasked_says : (core : ℕ) (op : Op) (found : Option ℕ) → lines.core_of (decimal core) ≡ found
    → (said_of (line_text (Submit core op) (Err Nothing)) ≡ lines.Skipped) ⊎ ((x : Shown) × (said_of (line_text (Submit core op) (Err Nothing)) ≡ lines.Done x))
unasked_says core op None e =
    let line = line_text (Submit core op) (Err Nothing) in
    let parts = event_parts (Submit core op) in
    let skips' : lines.said_act line parts (told_parts (Err Nothing)) (lines.act_of parts) ≡ lines.Skipped = rw (e, decimal_number core) refl in
    inl (words_say (Submit core op) (Err Nothing) refl ∙ skips')
unasked_says core op (Some there) e =
    let line = line_text (Submit core op) (Err Nothing) in
    let parts = event_parts (Submit core op) in
    let x : Shown = record { event = record { act = act.Submit there; told = told.Fault }; no = true; version = []; text = line } in
    let says' : lines.said_act line parts (told_parts (Err Nothing)) (lines.act_of parts) ≡ lines.Done x = rw e refl in
    inr (x, words_say (Submit core op) (Err Nothing) refl ∙ says')

-- the event's line, and its text
pub told_line_is : (e : Event) (t : Result Answer WorldFault) → event_line e t ≡ line_text e t ++ 10 ∷ []
told_line_is e t = ap (λ l. l ++ 10 ∷ []) (append_assoc (event_words e) (58 ∷ 32 ∷ []) (told_words t))

pub line_lf : (e : Event) (t : Result Answer WorldFault) → Lacks is_lf (line_text e t)
line_lf e t = plains_lf (line_text e t) (line_plain e t)

text_is : (e : Event) (t : Result Answer WorldFault) → text_of e t ≡ line_text e t
text_is e t = ap (before_first is_lf) (told_line_is e t) ∙ before_at is_lf 10 (line_text e t) [] refl (line_lf e t)

pub done_line_says : (e : Event) (answer : Answer) → CanDraw e (Ok answer) → said_of (line_text e (Ok answer)) ≡ lines.Done (shown_of e (Ok answer))
done_line_says e answer can =
    said_parts_are e (Ok answer) (told_of answer) (says_no answer) (version_of answer) can.0 (answer_core answer) (tells e answer can.1) (answer_no answer) (comes answer)
    ∙ (λ i. lines.Done (record { event = record { act = act_of e; told = told_of answer }; no = says_no answer; version = version_of answer; text = sym (text_is e (Ok answer)) i }))

pub missing_line_says : (e : Event) → said_of (line_text e (Err NoSuchCore)) ≡ lines.Skipped
missing_line_says e = skipped_line (line_text e (Err NoSuchCore)) (line_skipped e (Err NoSuchCore) true refl)

pub fault_line_says : (e : Event) (fault : WorldFault) → IsAtCores e → ends_missing (told_parts (Err fault)) ≡ false → said_of (line_text e (Err fault)) ≡ lines.Done (shown_of e (Err fault))
fault_line_says e fault at ends =
    said_parts_are e (Err fault) told.Fault true [] at ends refl refl refl
    ∙ (λ i. lines.Done (record { event = record { act = act_of e; told = told.Fault }; no = true; version = []; text = sym (text_is e (Err fault)) i }))

-- Texts of lines

-- a text adds these events to those of the lines after it
abbrev pub Adds : List ℕ → List Shown → Type 0
Adds text xs = (rest : List ℕ) (later : List Shown) → trace_of rest ≡ Ok later → trace_of (text ++ rest) ≡ Ok (xs ++ later)

pub adds_none : Adds [] []
adds_none rest later is = is

pub adds_both : (text more : List ℕ) (xs ys : List Shown) → Adds text xs → Adds more ys → Adds (text ++ more) (xs ++ ys)
adds_both text more xs ys first second rest later is =
    ap trace_of (append_assoc text more rest) ∙ first (more ++ rest) (ys ++ later) (second rest later is) ∙ ap Ok (sym (append_assoc xs ys later))

-- all of a text
pub adds_all : (text : List ℕ) (xs : List Shown) → Adds text xs → trace_of text ≡ Ok xs
adds_all text xs adds = ap trace_of (sym (append-nil text)) ∙ adds [] [] refl ∙ ap Ok (append-nil xs)

-- one line more
picked : (bad : Bool) (place place' : ℕ) (x : Shown) (xs later : List Shown) → (if bad then Err place else Ok xs) ≡ Ok later → (if bad then Err place' else Ok (x ∷ xs)) ≡ Ok (x ∷ later)
picked true place place' x xs later is = absurd (cc)
picked false place place' x xs later is = let same : xs ≡ later = cc in ap (λ l. Ok (x ∷ l)) same

passed : (bad : Bool) (place place' : ℕ) (xs later : List Shown) → (if bad then Err place else Ok xs) ≡ Ok later → (if bad then Err place' else Ok xs) ≡ Ok later
passed true place place' xs later is = absurd (cc)
passed false place place' xs later is = is

shown_first : (x : Shown) (rest : List Said) (later : List Shown) → outcome rest ≡ Ok later → outcome (lines.Done x ∷ rest) ≡ Ok (x ∷ later)
shown_first x rest later is = picked (list_any is_bad rest) (position_or_len is_bad rest + 1) (position_or_len is_bad (lines.Done x ∷ rest) + 1) x (flat_map shown_in rest) later is

skipped_first : (rest : List Said) (later : List Shown) → outcome rest ≡ Ok later → outcome (lines.Skipped ∷ rest) ≡ Ok later
skipped_first rest later is = passed (list_any is_bad rest) (position_or_len is_bad rest + 1) (position_or_len is_bad (lines.Skipped ∷ rest) + 1) (flat_map shown_in rest) later is

line_first : (line rest : List ℕ) → Lacks is_lf line → trace_of ((line ++ 10 ∷ []) ++ rest) ≡ outcome (said_of line ∷ said_in (slice_split is_lf rest))
line_first line rest lacks =
    ap trace_of (append_assoc line (10 ∷ []) rest) ∙ ap (λ ls. outcome (said_in ls)) (slice_split_at is_lf line 10 rest (lacks_all is_lf line lacks) refl)

pub adds_shown : (line : List ℕ) (x : Shown) → Lacks is_lf line → said_of line ≡ lines.Done x → Adds (line ++ 10 ∷ []) (x ∷ [])
adds_shown line x lacks says rest later is =
    line_first line rest lacks ∙ ap (λ s. outcome (s ∷ said_in (slice_split is_lf rest))) says ∙ shown_first x (said_in (slice_split is_lf rest)) later is

pub adds_skipped : (line : List ℕ) → Lacks is_lf line → said_of line ≡ lines.Skipped → Adds (line ++ 10 ∷ []) []
adds_skipped line lacks says rest later is =
    line_first line rest lacks ∙ ap (λ s. outcome (s ∷ said_in (slice_split is_lf rest))) says ∙ skipped_first (said_in (slice_split is_lf rest)) later is

-- that nothing was asked for
pub unasked_adds : (core : ℕ) (op : Op) → (xs : List Shown) × Adds (event_line (Submit core op) (Err Nothing)) xs
unasked_adds core op =
    let e = Submit core op in
    let line = line_text e (Err Nothing) in
    let adds : (xs : List Shown) → Adds (line ++ 10 ∷ []) xs → Adds (event_line e (Err Nothing)) xs = λ xs a. subst (λ (l : List ℕ). Adds l xs) (sym (told_line_is e (Err Nothing))) a in
    elim (unasked_says core op (lines.core_of (decimal core)) refl) [
      | inl skipped ↦ ([], adds [] (adds_skipped line (line_lf e (Err Nothing)) skipped))
      | inr done ↦ (done.0 ∷ [], adds (done.0 ∷ []) (adds_shown line done.0 (line_lf e (Err Nothing)) done.1))
    ]
