-- What a script for threads means, it means for a simulation too, and more lines may follow it there.
use Rattle.std.proofs.Common.{◌≡◌, ℕ, ◌+◌, ◌^◌, ◌≤◌, Bool, true, false, ◌||◌, ltb, List, [], ◌∷◌, ◌++◌, length, Option, Some, None, Result, Ok, Err, refl, sym, ap, ◌∙◌, subst, inl, inr, arith, append-nil}
use Rattle.std.specs.Prelude.{◌⊎◌, codes, option_and_then}
use Rattle.std.specs.Option.{ok_or}
use Rattle.std.specs.List.{find, flat_map}
use Rattle.std.specs.Str.{bytes_eq}
use Rattle.std.proofs.lemmas.Bool.{cases_Bool}
use Rattle.std.proofs.lemmas.Bool.Decides.{nat_tests}
use Rattle.std.proofs.lemmas.Slice.Eq.{bytes_eq-Decides}
use Rattle.bpf_insn.specs.Texts.{words_of, number_of}
use Rattle.filter_asm.specs.Program.{text_lines}
use Rattle.mk_script.specs.declared.fault.ScriptFault.{ScriptFault}
use Rattle.mk_script.specs.declared.fault.ScriptFaultKind.{ScriptFaultKind}
use Rattle.mk_script.specs.declared.fault.ScriptFaultKind.TheVariants.{BadLine, NoCores, BadNumber}
use Rattle.mk_script.specs.declared.rows.Command.{Command}
use Rattle.mk_script.specs.declared.rows.Command.TheVariants as command
use Rattle.mk_script.specs.declared.script.Script.{Script}
use Rattle.mk_script.specs.Bodies.{DraftedMeans, Means}
use Rattle.mk_script.specs.declared.rows.Form.TheVariants.{Name}
use Rattle.mk_script.specs.Drafts.{Settings, Draft, draft_of, draft_in, draft_by, script_draft, rx_draft, capture_draft, may_stand, is_early, has_cores}
use Rattle.mk_script.specs.Meanings.{Meaning, Known, Jobs, Counted, known, jobs_in, jobs_behind}
use Rattle.mk_script.specs.Rows.{Row, rows, command_of, command_by, is_shaped, row}
use Rattle.mk_script.specs.Scripts.{MeanBehind, Stands, script_of}
use Rattle.mk_script.specs.Statements.{Statement, statements, Opened, opened, longer, ended, plain, is_skipped, opens_block, is_end, statements_from}
use Rattle.mk_script.specs.Threads.{for_threads, for_simulation}
use Rattle.mk_script.specs.Words.{check, below, number_below}
use Rattle.line_words.specs.Words.{word_at}
use Rattle.mk_script.proofs.LimitLemmas.{bound, same_ok, some_ok, passed}
use Rattle.mk_script.proofs.ThreadLemmas.{ReadForThreads, nothing_read_yet, statement_suited, jobs_counted}

-- Commands

row_more : (words : List (List ℕ)) (r : Row) (c : Command) → command_by true words r ≡ Some c → command_by false words r ≡ Some c
row_more words r c e = elim (cases_Bool r.for_threads) [
  | inl for ↦ let found = rw for at e in rw for found
  | inr not_for ↦ let none = rw not_for at e in absurd (cc)
]

found_more : (words : List (List ℕ)) (found : Option Row) (c : Command) → option_and_then (command_by true words) found ≡ Some c → option_and_then (command_by false words) found ≡ Some c
found_more words None c e = absurd (cc)
found_more words (Some r) c e = row_more words r c e

command_more : (words : List (List ℕ)) (c : Command) → command_of true words ≡ Some c → command_of false words ≡ Some c
unfolding command_of
command_more [] c e = absurd (cc)
command_more (word ∷ words) c e = found_more words (find (λ r. bytes_eq r.word word) rows) c e

-- Numbers

below_more : (limit more : ℕ) (o : Option ℕ) (n : ℕ) → limit ≤ more → below limit o ≡ Some n → below more o ≡ Some n
below_more limit more None n le e = absurd (cc)
below_more limit more (Some v) n le e = elim (cases_Bool (ltb v limit)) [
  | inl less ↦ let is = rw less at e in let still : ltb v more ≡ true = grind (arith, nat_tests) in rw still is
  | inr past ↦ let never = rw past at e in absurd (cc)
]

number_more : (limit more : ℕ) (word : List ℕ) (n : ℕ) → limit ≤ more → number_below limit word ≡ Ok n → number_below more word ≡ Ok n
number_more limit more word n le e = ap (λ o. ok_or o BadNumber) (below_more limit more (number_of word) n le (some_ok (below limit (number_of word)) BadNumber n e))

-- An `asm` line that has no `end` is no command

abbrev asm_row : Row
asm_row = row (codes "asm") command.Asm 1 (Name ∷ [])

asm_or_none : (threads : Bool) (rest : List (List ℕ)) → (command_of threads (codes "asm" ∷ rest) ≡ None) ⊎ (command_of threads (codes "asm" ∷ rest) ≡ Some command.Asm)
unfolding command_of
asm_or_none threads rest = elim (cases_Bool (is_shaped asm_row rest)) [
  | inl shaped ↦ inr (rw shaped refl)
  | inr other ↦ inl (rw other refl)
]

asm_word : (threads : Bool) (words : List (List ℕ)) → opens_block words ≡ true → (command_of threads words ≡ None) ⊎ (command_of threads words ≡ Some command.Asm)
asm_word threads [] opens = absurd (cc)
asm_word threads (word ∷ rest) opens =
    let is : word ≡ codes "asm" = (bytes_eq-Decides word (codes "asm")).0 opens in
    subst (λ (w : List ℕ). (command_of threads (w ∷ rest) ≡ None) ⊎ (command_of threads (w ∷ rest) ≡ Some command.Asm)) (sym is) (asm_or_none threads rest)

unended_fault : (s : Settings) (k : Known) (before : ℕ) (words : List (List ℕ)) (line : List ℕ) → opens_block words ≡ true → script_draft s k before words line None ≡ Err BadLine
unfolding script_draft
unended_fault s k before words line opens = elim (asm_word s.threads words opens) [
  | inl none ↦ rw none refl
  | inr asm ↦ rw asm refl
]

unended_refused : (s : Settings) (k : Known) (jobs : Jobs) (before : ℕ) (o : Opened) (m : Meaning) → opens_block (words_of o.line) ≡ true → jobs ≡ Counted before
    → DraftedMeans (draft_in s k jobs (words_of o.line) o.line None) (Ok m) → ⊥
unended_refused s k jobs before o m opens counts means =
    let fault : draft_in s k jobs (words_of o.line) o.line None ≡ Err BadLine = rw counts (unended_fault s k before (words_of o.line) o.line opens) in
    let refused = subst (λ (r : Result Draft ScriptFaultKind). DraftedMeans r (Ok m)) fault means in
    absurd (cc)

module _ (files : List (List ℕ)) where
  -- A statement

  rx_more : (k : Known) (received : ℕ) (words : List (List ℕ)) (d : Draft) → length k.budgets ≤ 64 → rx_draft (for_threads files) k received words ≡ Ok d → rx_draft (for_simulation files) k received words ≡ Ok d
  unfolding rx_draft
  rx_more k received words d few e =
      let core = bound (number_below (length k.budgets) (word_at words 1)) _ d e in
      let more : number_below (2 ^ 16) (word_at words 1) ≡ Ok core.value = number_more (length k.budgets) (2 ^ 16) (word_at words 1) core.value (omega arith) core.gave in
      rw more core.next

  capture_same : (k : Known) (words : List (List ℕ)) → capture_draft (for_threads files) k words ≡ capture_draft (for_simulation files) k words
  unfolding capture_draft
  capture_same k words = refl

  by_more : (k : Known) (received : ℕ) (words : List (List ℕ)) (line : List ℕ) (block : Option (List ℕ)) (c : Command) (d : Draft) → length k.budgets ≤ 64
      → draft_by (for_threads files) k received words line block c ≡ Ok d → draft_by (for_simulation files) k received words line block c ≡ Ok d
  by_more k received words line block command.Rx d few e = rx_more k received words d few e
  by_more k received words line block command.Capture d few e = sym (capture_same k words) ∙ e
  by_more k received words line block c d few e = e

  script_more : (k : Known) (received : ℕ) (words : List (List ℕ)) (line : List ℕ) (block : Option (List ℕ)) (d : Draft) → length k.budgets ≤ 64
      → script_draft (for_threads files) k received words line block ≡ Ok d → script_draft (for_simulation files) k received words line block ≡ Ok d
  unfolding script_draft
  script_more k received words line block d few e =
      let c = bound (ok_or (command_of true words) BadLine) _ d e in
      let allowed = bound (check (may_stand k words block c.value) BadLine) _ d c.next in
      let ready = bound (check (is_early c.value || has_cores k) NoCores) _ d allowed.next in
      let found : command_of false words ≡ Some c.value = command_more words c.value (some_ok (command_of true words) BadLine c.value c.gave) in
      let stands : may_stand k words block c.value ≡ true = passed (may_stand k words block c.value) BadLine allowed.value allowed.gave in
      let has : (is_early c.value || has_cores k) ≡ true = passed (is_early c.value || has_cores k) NoCores ready.value ready.gave in
      rw (found, stands, has) (by_more k received words line block c.value d few ready.next)

  drafted_more : (k : Known) (jobs : Jobs) (before : ℕ) (st : Statement) (d : Result Draft ScriptFaultKind) (m : Meaning) → length k.budgets ≤ 64 → jobs ≡ Counted before
      → draft_in (for_threads files) k jobs (words_of st.line) st.line st.block ≡ d → DraftedMeans d (Ok m) → DraftedMeans (draft_in (for_simulation files) k jobs (words_of st.line) st.line st.block) (Ok m)
  drafted_more k jobs before st (Err fault) m few counts e means = absurd (cc)
  drafted_more k jobs before st (Ok d) m few counts e means =
      let drafted = rw counts at e in
      let more : draft_in (for_simulation files) k jobs (words_of st.line) st.line st.block ≡ Ok d = rw counts (script_more k before (words_of st.line) st.line st.block d few drafted) in
      subst (λ (r : Result Draft ScriptFaultKind). DraftedMeans r (Ok m)) (sym more) means

  means_more : (given : List Meaning) (st : Statement) (m : Meaning) → ReadForThreads given → Means (for_threads files) (known given) st (Ok m) → Means (for_simulation files) (known given) st (Ok m)
  means_more given st m read means =
      drafted_more (known given) (jobs_behind given) (length (flat_map jobs_in given)) st (draft_of (for_threads files) (known given) st) m read.few (jobs_counted given read) refl means

  -- Lines

  abbrev IsAsm : Option Opened → Type 0
  IsAsm None = Unit {0}
  IsAsm (Some o) = opens_block (words_of o.line) ≡ true

  -- one statement, and what follows it
  head_on : (given : List Meaning) (st : Statement) (sts others : List Statement) (meanings : List Meaning) (outcome : Result (List Meaning) ScriptFault) → ReadForThreads given
      → MeanBehind (for_threads files) given (st ∷ sts) (Ok meanings)
      → ((m : Meaning) → ReadForThreads (given ++ m ∷ []) → MeanBehind (for_threads files) (given ++ m ∷ []) sts (Ok meanings) → MeanBehind (for_simulation files) (given ++ m ∷ []) others outcome)
      → MeanBehind (for_simulation files) given (st ∷ others) outcome
  head_on given st sts others meanings outcome read (inl x) rest =
      inl (x.0, means_more given st x.0 read x.1, rest x.0 (statement_suited (for_threads files) given st x.0 refl read x.1) x.2)
  head_on given st sts others meanings outcome read (inr x) rest = let never = x.2 in absurd (cc)

  -- a script for threads and more lines mean, for a simulation, what these lines mean after what the script means
  pub reads_on : (given : List Meaning) (n : ℕ) (o : Option Opened) (lines : List (List ℕ)) (meanings : List Meaning) (more : List (List ℕ)) (outcome : Result (List Meaning) ScriptFault) → ReadForThreads given → IsAsm o
      → MeanBehind (for_threads files) given (statements_from n o lines) (Ok meanings)
      → ((k : ℕ) → k ≡ n + length lines → MeanBehind (for_simulation files) meanings (statements_from k None more) outcome) → MeanBehind (for_simulation files) given (statements_from n o (lines ++ more)) outcome
  reads_on given n None [] meanings more outcome read asm means rest =
      subst (λ (g : List Meaning). MeanBehind (for_simulation files) g (statements_from n None more) outcome) (same_ok meanings given means) (rest n (omega arith))
  reads_on given n (Some o) [] meanings more outcome read asm (inl x) rest =
      absurd (unended_refused (for_threads files) (known given) (jobs_behind given) (length (flat_map jobs_in given)) o x.0 asm (jobs_counted given read) x.1)
  reads_on given n (Some o) [] meanings more outcome read asm (inr x) rest = let never = x.2 in absurd (cc)
  reads_on given n None (line ∷ lines) meanings more outcome read asm means rest = elim (cases_Bool (is_skipped (words_of line))) [
    | inl skipped ↦ let next = rw skipped at means in rw skipped (reads_on given (n + 1) None lines meanings more outcome read tt next (λ k e. rest k (omega (arith, e))))
    | inr stays ↦ elim (cases_Bool (opens_block (words_of line))) [
      | inl opens ↦ let next = rw (stays, opens) at means in rw (stays, opens) (reads_on given (n + 1) (Some (opened n line)) lines meanings more outcome read opens next (λ k e. rest k (omega (arith, e))))
      | inr alone ↦
          let next = rw (stays, alone) at means in
          rw (stays, alone) (head_on given (plain n line) (statements_from (n + 1) None lines) (statements_from (n + 1) None (lines ++ more)) meanings outcome read next
          (λ m read' behind. reads_on (given ++ m ∷ []) (n + 1) None lines meanings more outcome read' tt behind (λ k e. rest k (omega (arith, e)))))
    ]
  ]
  reads_on given n (Some o) (line ∷ lines) meanings more outcome read asm means rest = elim (cases_Bool (is_end (words_of line))) [
    | inl ends ↦
        let next = rw ends at means in
        rw ends (head_on given (ended o) (statements_from (n + 1) None lines) (statements_from (n + 1) None (lines ++ more)) meanings outcome read next
        (λ m read' behind. reads_on (given ++ m ∷ []) (n + 1) None lines meanings more outcome read' tt behind (λ k e. rest k (omega (arith, e)))))
    | inr goes ↦ let next = rw goes at means in rw goes (reads_on given (n + 1) (Some (longer o line)) lines meanings more outcome read asm next (λ k e. rest k (omega (arith, e))))
  ]

by_outcome : (files : List (List ℕ)) (text : List ℕ) (script : Script) (outcome : Result (List Meaning) ScriptFault) → MeanBehind (for_threads files) [] (statements text) outcome → Ok script ≡ script_of outcome
    → Stands (for_simulation files) text (Ok script)
by_outcome files text script (Err fault) means e = absurd (cc)
by_outcome files text script (Ok given) means e =
    let goes_on = reads_on files [] 1 None (text_lines text) given [] (Ok given) nothing_read_yet tt means (λ k e. refl) in
    (Ok given, subst (λ (ls : List (List ℕ)). MeanBehind (for_simulation files) [] (statements_from 1 None ls) (Ok given)) (append-nil (text_lines text)) goes_on, e)

pub simulated : (files : List (List ℕ)) (text : List ℕ) (script : Script) → Stands (for_threads files) text (Ok script) → Stands (for_simulation files) text (Ok script)
simulated files text script stands = by_outcome files text script stands.0 stands.1 stands.2
