-- A printed line, read after `trace`, means its event.
use Rattle.std.proofs.Common.{◌≡◌, ℕ, ◌<◌, ◌^◌, Bool, true, false, eqb, List, [], ◌∷◌, ◌++◌, length, Some, None, Result, Ok, refl, sym, ap, ap₂, ◌∙◌, subst, arith, append_assoc}
use Rattle.std.specs.Prelude.{codes}
use Rattle.std.specs.Fmt.{decimal}
use Rattle.std.specs.List.{list_any, before_first, after_first}
use Rattle.std.proofs.Math.Bool.{or-true}
use Rattle.std.proofs.lemmas.Bool.Decides.{nat_tests}
use Rattle.std.proofs.lemmas.List.{append-nil, same_from_push}
use Rattle.bpf_insn.specs.Texts.{is_blank, words_of}
use Rattle.pcap_reader.specs.declared.capture.CapturedPacket.{CapturedPacket}
use Rattle.world_events.specs.declared.event.Event.{Event}
use Rattle.world_events.specs.declared.event.Event.TheVariants.{Start, Submit, StartFor, Take, Rx}
use Rattle.world_events.specs.declared.event.Answer.{Answer}
use Rattle.world_events.specs.declared.event.Done.{Done}
use Rattle.mk_script.specs.declared.fault.ScriptFaultKind.{ScriptFaultKind}
use Rattle.mk_script.specs.declared.script.Item.{Item}
use Rattle.mk_script.specs.declared.script.Item.TheVariants as item
use Rattle.mk_script.specs.Bodies.{DraftedMeans, Means}
use Rattle.mk_script.specs.Drafts.{Settings, Draft, Whole, draft_of, draft_in, trace_draft, event_draft, core_draft, take_draft, job_draft, is_short, is_left, counted}
use Rattle.mk_script.specs.Meanings.{Meaning, Does, Nothing, Known, Named}
use Rattle.mk_script.specs.Rows.{event_of}
use Rattle.mk_script.specs.Statements.{plain}
use Rattle.mk_script.specs.Words.{number_below}
use Rattle.sim_lines.specs.Events.{event_words, answer_words, done_line, left_line}
use Rattle.trace_text.specs.Traces.{item_of, trace_item, IsNamedIn}
use Rattle.world_events.specs.Memory.{lacked_memory}
use Rattle.trace_text.proofs.AnswerLemmas.{answer_short}
use Rattle.trace_text.proofs.DrawLemmas.{event_words_are, words_colon, told_line_is, line_lf}
use Rattle.trace_text.proofs.LineLemmas.{before_at, after_at, IsAlone, stands_alone}
use Rattle.trace_text.proofs.ToldLemmas.{event_parts}
use Rattle.trace_text.proofs.TextLemmas.{is_lf, is_colon, Lacks, lacks_append, decimal_lf, decimal_colon, decimal_blank, decimal_some, decimal_is_number, decimal_below, words_then, words_one}

-- The text of a line, without its LF

abbrev pub event_text : Done → List ℕ
event_text d = event_words d.event ++ 58 ∷ 32 ∷ answer_words d.answer

abbrev pub left_text : ℕ → ℕ → List ℕ
left_text core number = codes "left " ++ decimal core ++ codes " " ++ decimal number

pub event_line_is : (d : Done) (more : List ℕ) → done_line d ++ more ≡ event_text d ++ 10 ∷ more
event_line_is d more = ap (λ l. l ++ more) (told_line_is d.event (Ok d.answer)) ∙ append_assoc (event_text d) (10 ∷ []) more

pub left_line_is : (core number : ℕ) (more : List ℕ) → left_line core number ++ more ≡ left_text core number ++ 10 ∷ more
left_line_is core number more = append_assoc (left_text core number) (10 ∷ []) more

-- No LF, and no colon before the first

two_lack : (p : ℕ → Bool) (n m : ℕ) → p 32 ≡ false → Lacks p (decimal n) → Lacks p (decimal m) → Lacks p (decimal n ++ codes " " ++ decimal m)
two_lack p n m blank first second = lacks_append p (decimal n ++ 32 ∷ []) (decimal m) (lacks_append p (decimal n) (32 ∷ []) first (rw blank refl)) second

pub event_lf : (d : Done) → Lacks is_lf (event_text d)
event_lf d = line_lf d.event (Ok d.answer)

pub left_lf : (core number : ℕ) → Lacks is_lf (left_text core number)
left_lf core number = two_lack is_lf core number refl (decimal_lf core) (decimal_lf number)

left_colon : (core number : ℕ) → Lacks is_colon (left_text core number)
left_colon core number = two_lack is_colon core number refl (decimal_colon core) (decimal_colon number)

-- Statements by themselves

alone_by : (e : Event) (more : List ℕ) → IsAlone (words_of (event_words e ++ more))
alone_by (Start op) more = stands_alone 115 (codes "tart" ++ more) refl refl refl
alone_by (Submit core op) more = stands_alone 115 ((codes "ubmit " ++ decimal core) ++ more) refl refl refl
alone_by (StartFor core) more = stands_alone 115 ((codes "tartfor " ++ decimal core) ++ more) refl refl refl
alone_by (Take to from short) more = stands_alone 116 ((codes "ake " ++ decimal to ++ codes " " ++ decimal from) ++ more) refl refl refl
alone_by (Rx core number packet floor) more = stands_alone 114 ((codes "x " ++ decimal core ++ codes " " ++ decimal number) ++ more) refl refl refl

pub event_alone : (d : Done) → IsAlone (words_of (event_text d))
event_alone d = alone_by d.event (58 ∷ 32 ∷ answer_words d.answer)

pub left_alone : (core number : ℕ) → IsAlone (words_of (left_text core number))
left_alone core number = stands_alone 108 (codes "eft " ++ decimal core ++ codes " " ++ decimal number) refl refl refl

-- Words

one_number : (word : List ℕ) (n : ℕ) → 0 < length word → Lacks is_blank word → words_of (word ++ 32 ∷ decimal n) ≡ word ∷ decimal n ∷ []
one_number word n some none = words_then word (decimal n) some none ∙ ap (λ l. word ∷ l) (words_one (decimal n) (decimal_some n) (decimal_blank n))

two_numbers : (word : List ℕ) (n m : ℕ) → 0 < length word → Lacks is_blank word → words_of (word ++ 32 ∷ (decimal n ++ codes " " ++ decimal m)) ≡ word ∷ decimal n ∷ decimal m ∷ []
two_numbers word n m some none =
    words_then word (decimal n ++ codes " " ++ decimal m) some none
    ∙ ap (λ l. word ∷ words_of l) (append_assoc (decimal n) (32 ∷ []) (decimal m))
    ∙ ap (λ l. word ∷ l) (one_number (decimal n) m (decimal_some n) (decimal_blank n))

-- What the words ask for

core_is : (act : ℕ → Item) (word text : List ℕ) (core : ℕ) → number_below (2 ^ 16) text ≡ Ok core → core_draft act (word ∷ text ∷ []) ≡ Ok (Whole (Does (act core)))
unfolding core_draft
core_is act word text core e = rw e refl

take_is : (word first second : List ℕ) (to from : ℕ) (short : Bool) → number_below (2 ^ 16) first ≡ Ok to → number_below (2 ^ 16) second ≡ Ok from
    → take_draft (word ∷ first ∷ second ∷ []) short ≡ Ok (Whole (Does (item.Apply (Take to from short))))
unfolding take_draft
take_is word first second to from short e e' = rw (e, e') refl

same_core : (core : ℕ) → eqb core core ≡ true
same_core core = grind (arith, nat_tests)

job_is : (jobs : List Event) (word first second : List ℕ) (core number floor : ℕ) (packet : CapturedPacket) → number_below (2 ^ 16) first ≡ Ok core → number_below (2 ^ 64) second ≡ Ok number
    → counted jobs number ≡ Some (Rx core number packet floor) → job_draft jobs (word ∷ first ∷ second ∷ []) ≡ Ok (Whole (Does (item.Apply (Rx core number packet floor))))
unfolding job_draft
job_is jobs word first second core number floor packet e e' found = rw (e, e', found, same_core core) refl

below_16 : (n : ℕ) → n < 2 ^ 16 → number_below (2 ^ 16) (decimal n) ≡ Ok n
below_16 n less = decimal_below (2 ^ 16) n less (omega arith)

parts_ask : (jobs : List Event) (e : Event) (rest : List (List ℕ)) (answer : Answer) → IsNamedIn jobs e → is_short rest ≡ lacked_memory answer
    → event_draft jobs (event_parts e) rest ≡ Ok (Whole (Does (item_of e answer)))
unfolding event_draft event_of
parts_ask jobs (Start op) rest answer is short = refl
parts_ask jobs (Submit core op) rest answer is short = core_is item.Submit (codes "submit") (decimal core) core (below_16 core is)
parts_ask jobs (StartFor core) rest answer is short = core_is item.StartFor (codes "startfor") (decimal core) core (below_16 core is)
parts_ask jobs (Take to from s) rest answer is short =
    ap (take_draft (event_parts (Take to from s))) short ∙ take_is (codes "take") (decimal to) (decimal from) to from (lacked_memory answer) (below_16 to is.0) (below_16 from is.1)
parts_ask jobs (Rx core number packet floor) rest answer is short =
    job_is jobs (codes "rx") (decimal core) (decimal number) core number floor packet (below_16 core is.0) (decimal_below (2 ^ 64) number is.1 is.1) is.2

-- A line of a trace

has_colon : (front more : List ℕ) → list_any is_colon (front ++ 58 ∷ more) ≡ true
has_colon [] more = refl
has_colon (x ∷ front) more = rw (has_colon front more) (or-true (is_colon x))

line_asks : (jobs : List Event) (line front more : List ℕ) → list_any is_colon line ≡ true → before_first is_colon line ≡ front → after_first is_colon line ≡ more
    → trace_draft jobs line ≡ event_draft jobs (words_of front) (words_of more)
line_asks jobs line front more colon before after = rw colon (ap₂ (λ f m. event_draft jobs (words_of f) (words_of m)) before after)

event_asks : (jobs : List Event) (d : Done) → IsNamedIn jobs d.event → trace_draft jobs (event_text d) ≡ Ok (Whole (Does (trace_item d)))
event_asks jobs d is =
    let front = event_words d.event in
    let more = 32 ∷ answer_words d.answer in
    line_asks jobs (event_text d) front more (has_colon front more) (before_at is_colon 58 front more refl (words_colon d.event)) (after_at is_colon 58 front more refl (words_colon d.event))
    ∙ ap (λ w. event_draft jobs w (words_of more)) (event_words_are d.event)
    ∙ parts_ask jobs d.event (words_of more) d.answer is (answer_short d.answer)

left_is : (word first second : List ℕ) → word ≡ codes "left" → (n m : ℕ) → first ≡ decimal n → second ≡ decimal m → is_left (word ∷ first ∷ second ∷ []) ≡ true
left_is word first second e n m e' e'' = rw (e, e', e'', decimal_is_number n, decimal_is_number m) refl

left_asks : (jobs : List Event) (core number : ℕ) → trace_draft jobs (left_text core number) ≡ Ok (Whole Nothing)
left_asks jobs core number =
    let is : is_left (words_of (left_text core number)) ≡ true =
    ap is_left (two_numbers (codes "left") core number (omega arith) refl) ∙ left_is (codes "left") (decimal core) (decimal number) refl core number refl refl in
    rw (left_colon core number, is) refl

-- and its meaning
trace_means : (s : Settings) (k : Known) (jobs : List Event) (n : ℕ) (line : List ℕ) (m : Meaning) → k.jobs ≡ Named jobs → trace_draft jobs line ≡ Ok (Whole m) → Means s k (plain n line) (Ok m)
trace_means s k jobs n line m named asks =
    let drafted : draft_of s k (plain n line) ≡ Ok (Whole m) = ap (λ j. draft_in s k j (words_of line) line None) named ∙ asks in
    subst (λ (d : Result Draft ScriptFaultKind). DraftedMeans d (Ok m)) (sym drafted) refl

pub event_means : (s : Settings) (k : Known) (jobs : List Event) (n : ℕ) (d : Done) → k.jobs ≡ Named jobs → IsNamedIn jobs d.event → Means s k (plain n (event_text d)) (Ok (Does (trace_item d)))
event_means s k jobs n d named is = trace_means s k jobs n (event_text d) (Does (trace_item d)) named (event_asks jobs d is)

pub left_means : (s : Settings) (k : Known) (jobs : List Event) (n core number : ℕ) → k.jobs ≡ Named jobs → Means s k (plain n (left_text core number)) (Ok Nothing)
left_means s k jobs n core number named = trace_means s k jobs n (left_text core number) Nothing named (left_asks jobs core number)

-- of any text that is the line without its LF
pub event_line_means : (s : Settings) (k : Known) (jobs : List Event) (n : ℕ) (d : Done) (line : List ℕ) → k.jobs ≡ Named jobs → IsNamedIn jobs d.event → done_line d ≡ line ++ 10 ∷ []
    → Means s k (plain n line) (Ok (Does (trace_item d)))
event_line_means s k jobs n d line named is e =
    let own : done_line d ≡ event_text d ++ 10 ∷ [] = sym (append-nil (done_line d)) ∙ event_line_is d [] in
    let same : event_text d ≡ line = (same_from_push (event_text d) line 10 10 (sym own ∙ e)).0 in
    subst (λ (l : List ℕ). Means s k (plain n l) (Ok (Does (trace_item d)))) same (event_means s k jobs n d named is)

pub left_line_means : (s : Settings) (k : Known) (jobs : List Event) (n core number : ℕ) (line : List ℕ) → k.jobs ≡ Named jobs → left_line core number ≡ line ++ 10 ∷ []
    → Means s k (plain n line) (Ok Nothing)
left_line_means s k jobs n core number line named e =
    let same : left_text core number ≡ line = (same_from_push (left_text core number) line 10 10 e).0 in
    subst (λ (l : List ℕ). Means s k (plain n l) (Ok Nothing)) same (left_means s k jobs n core number named)
