-- A script that was read for threads has requests and packets alone, each at one of its cores, and packets are numbered in order.
use Rattle.std.proofs.Common.{◌≡◌, ℕ, zero, suc, ◌+◌, ◌^◌, ◌≤◌, ◌<◌, Bool, true, false, not, List, [], ◌∷◌, ◌++◌, length, drop, Option, Some, None, Result, Ok, Err, refl, sym, ap, ◌∙◌, subst, inl, inr, arith, length-append, length-drop, append-nil, add-zero, slice_get}
use Rattle.std.specs.Prelude.{map, IfOk, option_and_then, unwrap_or, ◌||◌}
use Rattle.std.specs.Option.{ok_or}
use Rattle.std.specs.List.{AllByRecursion, find, flat_map}
use Rattle.std.specs.Str.{bytes_eq}
use Rattle.std.proofs.lemmas.Bool.{cases_Bool}
use Rattle.std.proofs.lemmas.Grind.{flat_map-append}
use Rattle.std.proofs.lemmas.List.Elements.{All-from_recursion}
use Rattle.bpf_insn.specs.Texts.{words_of}
use Rattle.filter_table.specs.Limits.{default_limits}
use Rattle.pcap_reader.specs.declared.capture.CapturedPacket.{CapturedPacket}
use Rattle.capture_reader.specs.Entries.{packets_in as found_in}
use Rattle.world_events.specs.declared.event.Event.{Event}
use Rattle.world_events.specs.declared.event.Event.TheVariants.{Rx}
use Rattle.mk_script.specs.declared.fault.ScriptFault.{ScriptFault}
use Rattle.mk_script.specs.declared.fault.ScriptFaultKind.{ScriptFaultKind}
use Rattle.mk_script.specs.declared.fault.ScriptFaultKind.TheVariants.{BadLine, NoCores, Twice, AfterCores, NoName}
use Rattle.mk_script.specs.declared.rows.Command.{Command}
use Rattle.mk_script.specs.declared.rows.Command.TheVariants as command
use Rattle.mk_script.specs.declared.rows.Request.{Request}
use Rattle.mk_script.specs.declared.script.Item.TheVariants as item
use Rattle.mk_script.specs.declared.script.Script.{Script}
use Rattle.mk_script.specs.Bodies.{MeansAssembled, MeansDecimal, MeansCaptured, DraftMeans, DraftedMeans}
use Rattle.mk_script.specs.Drafts.{Settings, Draft, Whole, Assembler, Decimal, Savefile, draft_of, draft_in, has_cores, is_new, behind_word, optional_below, hex_bytes, may_stand, is_early, has_limits, limits_of, limits_draft, core_limit, numbers_below, cores_draft, asm_draft, ddd_draft, packet_draft, capture_draft, home_draft, op_of, domain_of, request_draft, packet_at, floor_at, rx_draft, replayed, replay_draft, draft_by, script_draft, counted}
use Rattle.mk_script.specs.Meanings.{Meaning, Limits, Budgets, NamedProgram, NamedPacket, NamedCapture, Home, Does, Receives, Trace, Known, Jobs, Counted, known, limits_behind, budgets_in, jobs_in, items_in, items_of, is_traced, jobs_behind}
use Rattle.mk_script.specs.Rows.{Row, rows, command_by, command_of, is_shaped}
use Rattle.mk_script.specs.Scripts.{MeanBehind, Stands, script_of}
use Rattle.mk_script.specs.Statements.{Statement, statements}
use Rattle.mk_script.specs.Threads.{IsForThreads, received_in, received, AreNumbered, IsScriptForThreads}
use Rattle.mk_script.specs.Words.{check, whole_number, number_below, number_up_to}
use Rattle.line_words.specs.Words.{word_at}
use Rattle.mk_script.proofs.LimitLemmas.{bound, same_ok, some_ok, passed, each_append, numbers_length, no_budgets, some_budgets, below_is, EntersIn, Kept, kept_meanings}
use Rattle.mk_script.proofs.RowLemmas.{cores_few}

-- Commands for threads

abbrev IsThreaded : Command → Type 0
IsThreaded command.Start = ⊥
IsThreaded command.Submit = ⊥
IsThreaded command.StartFor = ⊥
IsThreaded command.Take = ⊥
IsThreaded command.Settle = ⊥
IsThreaded command.Show = ⊥
IsThreaded command.Trace = ⊥
IsThreaded c = Unit {0}

abbrev IsRowThreaded : Row → Type 0
IsRowThreaded r = r.for_threads ≡ true → IsThreaded r.command

all_threaded : AllByRecursion IsRowThreaded rows
all_threaded = (λ e. tt, (λ e. tt, (λ e. tt, (λ e. tt, (λ e. tt, (λ e. tt, (λ e. tt, (λ e. tt, (λ e. tt, (λ e. tt, (λ e. tt, (λ e. tt, (λ e. tt, (λ e. tt, (λ e. absurd (cc), (λ e. absurd (cc), (λ e. absurd (cc), (λ e. absurd (cc), (λ e. tt, (λ e. tt, (λ e. absurd (cc), (λ e. absurd (cc), (λ e. absurd (cc), tt)))))))))))))))))))))))

found_threaded : (p : Row → Bool) (table : List Row) (r : Row) → AllByRecursion IsRowThreaded table → find p table ≡ Some r → IsRowThreaded r
found_threaded p [] r all e = absurd (cc)
found_threaded p (x ∷ xs) r all e = elim (cases_Bool (p x)) [
  | inl here ↦ let found = rw here at e in let same : x ≡ r = cc in subst IsRowThreaded same all.0
  | inr there ↦ let further = rw there at e in found_threaded p xs r all.1 further
]

row_threaded : (words : List (List ℕ)) (r : Row) (c : Command) → IsRowThreaded r → command_by true words r ≡ Some c → IsThreaded c
row_threaded words r c threaded e = elim (cases_Bool r.for_threads) [
  | inl for ↦ elim (cases_Bool (is_shaped r words)) [
    | inl shaped ↦ let found = rw (for, shaped) at e in let same : r.command ≡ c = cc in subst IsThreaded same (threaded for)
    | inr other ↦ let none = rw (for, other) at e in absurd (cc)
  ]
  | inr not_for ↦ let none = rw not_for at e in absurd (cc)
]

by_threaded : (words : List (List ℕ)) (found : Option Row) (c : Command) → ((r : Row) → found ≡ Some r → IsRowThreaded r) → option_and_then (command_by true words) found ≡ Some c → IsThreaded c
by_threaded words None c threaded e = absurd (cc)
by_threaded words (Some r) c threaded e = row_threaded words r c (threaded r refl) e

command_threaded : (words : List (List ℕ)) (c : Command) → command_of true words ≡ Some c → IsThreaded c
unfolding command_of
command_threaded [] c e = absurd (cc)
command_threaded (word ∷ words) c e = by_threaded words (find (λ r. bytes_eq r.word word) rows) c (λ r found. found_threaded (λ r. bytes_eq r.word word) rows r all_threaded found) e

-- Meanings for threads

-- receptions at one of so many cores, numbered after so many others
abbrev pub AreReceivedAt : ℕ → ℕ → List Event → Type 0
AreReceivedAt cores before [] = Unit {0}
AreReceivedAt cores before (Rx core number packet floor ∷ events) = (core < cores) × (number ≡ before + 1) × AreReceivedAt cores (before + 1) events
AreReceivedAt cores before (event ∷ events) = ⊥

-- what is done is a request or a reception
abbrev pub Suits : ℕ → ℕ → Meaning → Type 0
Suits cores before (Does (item.Ask core op)) = Unit {0}
Suits cores before (Does done) = ⊥
Suits cores before (Receives events) = AreReceivedAt cores before events
Suits cores before Trace = ⊥
Suits cores before meaning = Unit {0}

-- and budgets are the first, and few
abbrev SuitsIn : Known → ℕ → Meaning → Type 0
SuitsIn k before (Budgets budgets) = (length k.budgets ≡ 0) × (length budgets ≤ 64)
SuitsIn k before meaning = Suits (length k.budgets) before meaning

abbrev IsDraftSuited : Known → ℕ → Draft → Type 0
IsDraftSuited k before (Whole meaning) = SuitsIn k before meaning
IsDraftSuited k before draft = Unit {0}

-- Receptions

rx_suited : (s : Settings) (k : Known) (before : ℕ) (words : List (List ℕ)) (d : Draft) → s.threads ≡ true → rx_draft s k before words ≡ Ok d → IsDraftSuited k before d
unfolding rx_draft
rx_suited s k before words d threads e =
    let core = bound (number_below (core_limit s k) (word_at words 1)) _ d e in
    let floor = bound (floor_at words 3) _ d core.next in
    let packet = bound (packet_at k (word_at words 2)) _ d floor.next in
    let limit : core_limit s k ≡ length k.budgets = rw threads refl in
    let less : core.value < length k.budgets = omega (arith, limit, below_is (core_limit s k) (word_at words 1) core.value core.gave) in
    subst (IsDraftSuited k before) (same_ok (Whole (Receives (Rx core.value (before + 1) packet.value floor.value ∷ []))) d packet.next) (less, refl, tt)

replayed_suited : (cores before floor place : ℕ) (packets : List CapturedPacket) → 1 ≤ cores → AreReceivedAt cores (before + place) (replayed cores before floor place packets)
replayed_suited cores before floor place [] some = tt
replayed_suited cores before floor place (packet ∷ packets) some =
    let next : before + (place + 1) ≡ (before + place) + 1 = omega arith in
    (omega arith, refl, subst (λ (n : ℕ). AreReceivedAt cores n (replayed cores before floor (place + 1) packets)) next (replayed_suited cores before floor (place + 1) packets some))

replay_suited : (k : Known) (before : ℕ) (words : List (List ℕ)) (d : Draft) → 1 ≤ length k.budgets → replay_draft k before words ≡ Ok d → IsDraftSuited k before d
unfolding replay_draft
replay_suited k before words d some e =
    let floor = bound (floor_at words 2) _ d e in
    let packets = bound (ok_or (k.captures (word_at words 1)) NoName) _ d floor.next in
    let events = replayed (length k.budgets) before floor.value 0 packets.value in
    let all : AreReceivedAt (length k.budgets) before events = rw add-zero at (replayed_suited (length k.budgets) before floor.value 0 packets.value some) in
    subst (IsDraftSuited k before) (same_ok (Whole (Receives events)) d packets.next) all

-- Definitions and requests

limits_suited : (k : Known) (before : ℕ) (words : List (List ℕ)) (d : Draft) → limits_draft k words ≡ Ok d → IsDraftSuited k before d
unfolding limits_draft
limits_suited k before words d e =
    let caps = bound (number_up_to 65536 (word_at words 1)) _ d e in
    let filters = bound (number_up_to 65536 (word_at words 2)) _ d caps.next in
    let first = bound (check (not (has_limits k)) Twice) _ d filters.next in
    let early = bound (check (not (has_cores k)) AfterCores) _ d first.next in
    subst (IsDraftSuited k before) (same_ok (Whole (Limits (limits_of caps.value filters.value))) d early.next) tt

cores_suited : (s : Settings) (k : Known) (before : ℕ) (words : List (List ℕ)) (d : Draft) → command_of s.threads words ≡ Some command.Cores → cores_draft k words ≡ Ok d → IsDraftSuited k before d
unfolding cores_draft command_of
cores_suited s k before words d is e =
    let budgets = bound (numbers_below (2 ^ 32) (drop 1 words)) _ d e in
    let first = bound (check (not (has_cores k)) Twice) _ d budgets.next in
    let few = cores_few s.threads words is in
    let long = numbers_length (2 ^ 32) (drop 1 words) budgets.value budgets.gave in
    subst (IsDraftSuited k before) (same_ok (Whole (Budgets budgets.value)) d first.next)
    (no_budgets k (passed (not (has_cores k)) Twice first.value first.gave), omega (arith, few, long, length-drop 1 words))

asm_suited : (k : Known) (before : ℕ) (words : List (List ℕ)) (block : Option (List ℕ)) (d : Draft) → asm_draft k words block ≡ Ok d → IsDraftSuited k before d
unfolding asm_draft
asm_suited k before words block d e =
    let new = bound (is_new (k.programs (word_at words 1))) _ d e in
    subst (IsDraftSuited k before) (same_ok (Assembler (word_at words 1) (unwrap_or block [])) d new.next) tt

ddd_suited : (k : Known) (before : ℕ) (words : List (List ℕ)) (line : List ℕ) (d : Draft) → ddd_draft k words line ≡ Ok d → IsDraftSuited k before d
unfolding ddd_draft
ddd_suited k before words line d e =
    let new = bound (is_new (k.programs (word_at words 1))) _ d e in
    subst (IsDraftSuited k before) (same_ok (Decimal (word_at words 1) (behind_word (behind_word line))) d new.next) tt

packet_suited : (k : Known) (before : ℕ) (words : List (List ℕ)) (d : Draft) → packet_draft k words ≡ Ok d → IsDraftSuited k before d
unfolding packet_draft
packet_suited k before words d e =
    let original = bound (optional_below (2 ^ 32) words 3) _ d e in
    let new = bound (is_new (k.packets (word_at words 1))) _ d original.next in
    let bytes = bound (hex_bytes (word_at words 2)) _ d new.next in
    subst (IsDraftSuited k before) (same_ok (Whole (NamedPacket (word_at words 1) (record { bytes = bytes.value; original = unwrap_or original.value (length bytes.value) }))) d bytes.next) tt

capture_suited : (s : Settings) (k : Known) (before : ℕ) (words : List (List ℕ)) (d : Draft) → capture_draft s k words ≡ Ok d → IsDraftSuited k before d
unfolding capture_draft
capture_suited s k before words d e =
    let number = bound (whole_number (word_at words 2)) _ d e in
    let new = bound (is_new (k.captures (word_at words 1))) _ d number.next in
    let file = bound (ok_or (counted s.files number.value) NoName) _ d new.next in
    subst (IsDraftSuited k before) (same_ok (Savefile (word_at words 1) file.value) d file.next) tt

home_suited : (k : Known) (before : ℕ) (words : List (List ℕ)) (d : Draft) → home_draft k words ≡ Ok d → IsDraftSuited k before d
unfolding home_draft
home_suited k before words d e =
    let domain = bound (number_below (2 ^ 16) (word_at words 1)) _ d e in
    let core = bound (number_below (length k.budgets) (word_at words 2)) _ d domain.next in
    subst (IsDraftSuited k before) (same_ok (Whole (Home domain.value core.value)) d core.next) tt

request_suited : (k : Known) (before : ℕ) (words : List (List ℕ)) (c : Request) (d : Draft) → request_draft k words c ≡ Ok d → IsDraftSuited k before d
unfolding request_draft
request_suited k before words c d e =
    let op = bound (op_of k words c) _ d e in
    subst (IsDraftSuited k before) (same_ok (Whole (Does (item.Ask (k.home (domain_of op.value)) op.value))) d op.next) tt

-- Lines

by_suited : (s : Settings) (k : Known) (before : ℕ) (words : List (List ℕ)) (line : List ℕ) (block : Option (List ℕ)) (c : Command) (d : Draft) → s.threads ≡ true → IsThreaded c
    → command_of s.threads words ≡ Some c → (is_early c || has_cores k) ≡ true → draft_by s k before words line block c ≡ Ok d → IsDraftSuited k before d
by_suited s k before words line block command.Limits d threads known' is ready e = limits_suited k before words d e
by_suited s k before words line block command.Cores d threads known' is ready e = cores_suited s k before words d is e
by_suited s k before words line block command.Asm d threads known' is ready e = asm_suited k before words block d e
by_suited s k before words line block command.Ddd d threads known' is ready e = ddd_suited k before words line d e
by_suited s k before words line block command.Packet d threads known' is ready e = packet_suited k before words d e
by_suited s k before words line block command.Capture d threads known' is ready e = capture_suited s k before words d e
by_suited s k before words line block command.Home d threads known' is ready e = home_suited k before words d e
by_suited s k before words line block (command.Request c) d threads known' is ready e = request_suited k before words c d e
by_suited s k before words line block command.Rx d threads known' is ready e = rx_suited s k before words d threads e
by_suited s k before words line block command.Replay d threads known' is ready e = replay_suited k before words d (some_budgets k ready) e
by_suited s k before words line block c d threads known' is ready e = absurd known'

script_suited : (s : Settings) (k : Known) (before : ℕ) (words : List (List ℕ)) (line : List ℕ) (block : Option (List ℕ)) (d : Draft) → s.threads ≡ true
    → script_draft s k before words line block ≡ Ok d → IsDraftSuited k before d
unfolding script_draft
script_suited s k before words line block d threads e =
    let c = bound (ok_or (command_of s.threads words) BadLine) _ d e in
    let allowed = bound (check (may_stand k words block c.value) BadLine) _ d c.next in
    let ready = bound (check (is_early c.value || has_cores k) NoCores) _ d allowed.next in
    let is = some_ok (command_of s.threads words) BadLine c.value c.gave in
    let threaded = command_threaded words c.value (subst (λ (t : Bool). command_of t words ≡ Some c.value) threads is) in
    by_suited s k before words line block c.value d threads threaded is (passed (is_early c.value || has_cores k) NoCores ready.value ready.gave) ready.next

-- a text or a file that is read is a program or a capture
assembled_suited : (k : Known) (before : ℕ) (name text : List ℕ) (m : Meaning) → MeansAssembled name text (Ok m) → SuitsIn k before m
assembled_suited k before name text m (inl x) = subst (SuitsIn k before) (sym (same_ok m (NamedProgram name x.0) x.2)) tt
assembled_suited k before name text m (inr x) = let never = x.2 in absurd (cc)

decimal_suited : (k : Known) (before : ℕ) (name text : List ℕ) (m : Meaning) → MeansDecimal name text (Ok m) → SuitsIn k before m
decimal_suited k before name text m (inl x) = subst (SuitsIn k before) (sym (same_ok m (NamedProgram name x.0) x.2)) tt
decimal_suited k before name text m (inr x) = let never = x.2 in absurd (cc)

captured_suited : (k : Known) (before : ℕ) (name bytes : List ℕ) (m : Meaning) → MeansCaptured name bytes (Ok m) → SuitsIn k before m
captured_suited k before name bytes m (inl x) = subst (SuitsIn k before) (sym (same_ok m (NamedCapture name (found_in x.0)) x.2)) tt
captured_suited k before name bytes m (inr x) = let never = x.3 in absurd (cc)

means_suited : (k : Known) (before : ℕ) (d : Draft) (m : Meaning) → IsDraftSuited k before d → DraftMeans d (Ok m) → SuitsIn k before m
means_suited k before (Whole meaning) m suited e = subst (SuitsIn k before) (sym (same_ok m meaning e)) suited
means_suited k before (Assembler name text) m suited means = assembled_suited k before name text m means
means_suited k before (Decimal name text) m suited means = decimal_suited k before name text m means
means_suited k before (Savefile name bytes) m suited means = captured_suited k before name bytes m means

in_suited : (s : Settings) (k : Known) (jobs : Jobs) (before : ℕ) (st : Statement) (d : Result Draft ScriptFaultKind) (m : Meaning) → s.threads ≡ true → jobs ≡ Counted before
    → draft_in s k jobs (words_of st.line) st.line st.block ≡ d → DraftedMeans d (Ok m) → SuitsIn k before m
in_suited s k jobs before st (Err fault) m threads counts e means = absurd (cc)
in_suited s k jobs before st (Ok d) m threads counts e means =
    let drafted = rw counts at e in
    means_suited k before d m (script_suited s k before (words_of st.line) st.line st.block d threads drafted) means

-- Lines, one after another

abbrev pub AreSuited : ℕ → ℕ → List Meaning → Type 0
AreSuited cores before [] = Unit {0}
AreSuited cores before (m ∷ given) = Suits cores before m × AreSuited cores (before + length (jobs_in m)) given

received_more : (cores more before : ℕ) (events : List Event) → cores ≤ more → AreReceivedAt cores before events → AreReceivedAt more before events
received_more cores more before [] le all = tt
received_more cores more before (Rx core number packet floor ∷ events) le all = (omega (arith, le, all.0), all.1, received_more cores more (before + 1) events le all.2)
received_more cores more before (event ∷ events) le all = absurd all

suits_more : (cores more before : ℕ) (m : Meaning) → cores ≤ more → Suits cores before m → Suits more before m
suits_more cores more before (Does (item.Ask core op)) le suits = tt
suits_more cores more before (Does done) le suits = absurd suits
suits_more cores more before (Receives events) le suits = received_more cores more before events le suits
suits_more cores more before Trace le suits = absurd suits
suits_more cores more before m le suits = tt

suited_more : (cores more before : ℕ) (given : List Meaning) → cores ≤ more → AreSuited cores before given → AreSuited more before given
suited_more cores more before [] le all = tt
suited_more cores more before (m ∷ given) le all = (suits_more cores more before m le all.0, suited_more cores more (before + length (jobs_in m)) given le all.1)

suited_push : (cores before : ℕ) (given : List Meaning) (m : Meaning) → AreSuited cores before given → Suits cores (before + length (flat_map jobs_in given)) m → AreSuited cores before (given ++ m ∷ [])
suited_push cores before [] m all suits = (rw add-zero at suits, tt)
suited_push cores before (n ∷ given) m all suits =
    let moved : before + length (jobs_in n ++ flat_map jobs_in given) ≡ (before + length (jobs_in n)) + length (flat_map jobs_in given) = omega (arith, length-append (jobs_in n) (flat_map jobs_in given)) in
    (all.0, suited_push cores (before + length (jobs_in n)) given m all.1 (subst (λ (b : ℕ). Suits cores b m) moved suits))

pub untraced : (cores before : ℕ) (given : List Meaning) → AreSuited cores before given → is_traced given ≡ false
untraced cores before [] all = refl
untraced cores before (Trace ∷ given) all = absurd all.0
untraced cores before (m ∷ given) all = untraced cores (before + length (jobs_in m)) given all.1

-- what was read for threads
pub record ReadForThreads (given : List Meaning) : Type 0 where
  pub few : length (flat_map budgets_in given) ≤ 64
  pub each : AreSuited (length (flat_map budgets_in given)) 0 given

pub jobs_counted : (given : List Meaning) → ReadForThreads given → jobs_behind given ≡ Counted (length (flat_map jobs_in given))
jobs_counted given read = rw (untraced (length (flat_map budgets_in given)) 0 given read.each) refl

read_few : (given : List Meaning) (before : ℕ) (m : Meaning) → length (flat_map budgets_in given) ≤ 64 → SuitsIn (known given) before m → length (flat_map budgets_in given ++ budgets_in m) ≤ 64
read_few given before (Budgets budgets) few suits = omega (arith, suits.0, suits.1, length-append (flat_map budgets_in given) budgets)
read_few given before m few suits = omega (arith, few, length-append (flat_map budgets_in given) [])

read_suits : (given : List Meaning) (before : ℕ) (m : Meaning) → SuitsIn (known given) before m → Suits (length (flat_map budgets_in given)) before m
read_suits given before (Budgets budgets) suits = tt
read_suits given before m suits = suits

pub read_push : (given : List Meaning) (m : Meaning) → ReadForThreads given → SuitsIn (known given) (length (flat_map jobs_in given)) m → ReadForThreads (given ++ m ∷ [])
read_push given m read suits =
    let budgets = flat_map budgets_in given in
    let before = length (flat_map jobs_in given) in
    let pushed = flat_map-append budgets_in given (m ∷ []) ∙ ap (λ l. budgets ++ l) (append-nil (budgets_in m)) in
    let cores = length (flat_map budgets_in (given ++ m ∷ [])) in
    let more : length budgets ≤ cores = omega (arith, ap length pushed, length-append budgets (budgets_in m)) in
    let from_none : before ≡ 0 + before = omega arith in
    record {
      few = subst (λ (l : List ℕ). length l ≤ 64) (sym pushed) (read_few given before m read.few suits);
      each = suited_push cores 0 given m (suited_more (length budgets) cores 0 given more read.each)
          (subst (λ (b : ℕ). Suits cores b m) from_none (suits_more (length budgets) cores before m more (read_suits given before m suits)));
    }

-- a statement for threads
pub statement_suited : (s : Settings) (given : List Meaning) (st : Statement) (m : Meaning) → s.threads ≡ true → ReadForThreads given → DraftedMeans (draft_of s (known given) st) (Ok m) → ReadForThreads (given ++ m ∷ [])
statement_suited s given st m threads read means =
    read_push given m read (in_suited s (known given) (jobs_behind given) (length (flat_map jobs_in given)) st (draft_of s (known given) st) m threads (jobs_counted given read) refl means)

pub nothing_read_yet : ReadForThreads []
nothing_read_yet = record { few = omega arith; each = tt }

pub read_for_threads : (s : Settings) (given : List Meaning) (sts : List Statement) (meanings : List Meaning) → s.threads ≡ true → ReadForThreads given → MeanBehind s given sts (Ok meanings) → ReadForThreads meanings
read_for_threads s given [] meanings threads read e = subst ReadForThreads (sym (same_ok meanings given e)) read
read_for_threads s given (st ∷ sts) meanings threads read (inl x) = read_for_threads s (given ++ x.0 ∷ []) sts meanings threads (statement_suited s given st x.0 threads read x.1) x.2
read_for_threads s given (st ∷ sts) meanings threads read (inr x) = let never = x.2 in absurd (cc)

-- The script

applied : (cores before : ℕ) (events : List Event) → AreReceivedAt cores before events → AllByRecursion (IsForThreads cores) (map (λ e. item.Apply e) events)
applied cores before [] all = tt
applied cores before (Rx core number packet floor ∷ events) all = (all.0, applied cores (before + 1) events all.2)
applied cores before (event ∷ events) all = absurd all

own_items : (cores before : ℕ) (m : Meaning) → Suits cores before m → EntersIn cores m → AllByRecursion (IsForThreads cores) (items_in false m)
own_items cores before (Does (item.Ask core op)) suits enters = (enters, tt)
own_items cores before (Does done) suits enters = absurd suits
own_items cores before (Receives events) suits enters = applied cores before events suits
own_items cores before m suits enters = tt

all_items : (cores before : ℕ) (given : List Meaning) → AreSuited cores before given → AllByRecursion (EntersIn cores) given → AllByRecursion (IsForThreads cores) (flat_map (items_in false) given)
all_items cores before [] all enter = tt
all_items cores before (m ∷ given) all enter =
    each_append (IsForThreads cores) (items_in false m) (flat_map (items_in false) given) (own_items cores before m all.0 enter.0) (all_items cores (before + length (jobs_in m)) given all.1 enter.1)

received_applied : (cores before : ℕ) (events : List Event) → AreReceivedAt cores before events → received (map (λ e. item.Apply e) events) ≡ events
received_applied cores before [] all = refl
received_applied cores before (Rx core number packet floor ∷ events) all = ap (λ l. Rx core number packet floor ∷ l) (received_applied cores (before + 1) events all.2)
received_applied cores before (event ∷ events) all = absurd all

pub received_items : (cores before : ℕ) (given : List Meaning) → AreSuited cores before given → received (flat_map (items_in false) given) ≡ flat_map jobs_in given
received_items cores before [] all = refl
received_items cores before (Does (item.Ask core op) ∷ given) all = received_items cores (before + 0) given all.1
received_items cores before (Does done ∷ given) all = absurd all.0
received_items cores before (Receives events ∷ given) all =
    flat_map-append received_in (map (λ e. item.Apply e) events) (flat_map (items_in false) given)
    ∙ ap (λ l. l ++ received (flat_map (items_in false) given)) (received_applied cores before events all.0)
    ∙ ap (λ l. events ++ l) (received_items cores (before + length events) given all.1)
received_items cores before (m ∷ given) all = received_items cores (before + 0) given all.1

received_append : (cores before : ℕ) (events others : List Event) → AreReceivedAt cores before events → AreReceivedAt cores (before + length events) others → AreReceivedAt cores before (events ++ others)
received_append cores before [] others all rest = rw add-zero at rest
received_append cores before (Rx core number packet floor ∷ events) others all rest =
    let moved : before + suc (length events) ≡ (before + 1) + length events = omega arith in
    (all.0, all.1, received_append cores (before + 1) events others all.2 (subst (λ (n : ℕ). AreReceivedAt cores n others) moved rest))
received_append cores before (event ∷ events) others all rest = absurd all

jobs_received_at : (cores before : ℕ) (given : List Meaning) → AreSuited cores before given → AreReceivedAt cores before (flat_map jobs_in given)
jobs_received_at cores before [] all = tt
jobs_received_at cores before (Receives events ∷ given) all = received_append cores before events (flat_map jobs_in given) all.0 (jobs_received_at cores (before + length events) given all.1)
jobs_received_at cores before (m ∷ given) all = rw add-zero at (jobs_received_at cores (before + 0) given all.1)

numbered_after : (cores before : ℕ) (events : List Event) (k core number floor : ℕ) (packet : CapturedPacket) → AreReceivedAt cores before events → slice_get events k ≡ Some (Rx core number packet floor) → number ≡ (before + k) + 1
numbered_after cores before [] k core number floor packet all e = absurd (cc)
numbered_after cores before (Rx c n p f ∷ events) zero core number floor packet all e = let same : n ≡ number = cc in omega (arith, same, all.1)
numbered_after cores before (Rx c n p f ∷ events) (suc k) core number floor packet all e = omega (arith, numbered_after cores (before + 1) events k core number floor packet all.2 e)
numbered_after cores before (event ∷ events) k core number floor packet all e = absurd all

numbered : (cores : ℕ) (events : List Event) → AreReceivedAt cores 0 events → AreNumbered events
numbered cores events all k core number floor packet e = omega (arith, numbered_after cores 0 events k core number floor packet all e)

script_threaded : (given : List Meaning) (script : Script) → ReadForThreads given → Kept given → Ok script ≡ script_of (Ok given) → IsScriptForThreads script
script_threaded given script read kept e = elim (cases_Bool (has_cores (known given))) [
  | inl some ↦
      let is = rw some at e in
      let cores = length (flat_map budgets_in given) in
      let made : Script = record { limits = unwrap_or (limits_behind given) default_limits; budgets = flat_map budgets_in given; items = items_of given } in
      let same : made ≡ script = sym (same_ok script made is) in
      let plain : items_of given ≡ flat_map (items_in false) given = ap (λ t. flat_map (items_in t) given) (untraced cores 0 given read.each) in
      let jobs : received (items_of given) ≡ flat_map jobs_in given = ap received plain ∙ received_items cores 0 given read.each in
      subst IsScriptForThreads same (record {
        items = All-from_recursion (IsForThreads cores) (items_of given) (subst (AllByRecursion (IsForThreads cores)) (sym plain) (all_items cores 0 given read.each kept.enter));
        numbered = subst AreNumbered (sym jobs) (numbered cores (flat_map jobs_in given) (jobs_received_at cores 0 given read.each));
      })
  | inr none ↦ let never = rw none at e in absurd (cc)
]

by_meanings : (s : Settings) (text : List ℕ) (meanings : Result (List Meaning) ScriptFault) (script : Script) → length text < 2 ^ 32 → s.threads ≡ true
    → MeanBehind s [] (statements text) meanings → Ok script ≡ script_of meanings → IsScriptForThreads script
by_meanings s text (Ok given) script few threads means e = script_threaded given script (read_for_threads s [] (statements text) given threads nothing_read_yet means) (kept_meanings s text given few means) e
by_meanings s text (Err fault) script few threads means e = absurd (cc)

pub threads_from : (s : Settings) (text : List ℕ) (r : Result Script ScriptFault) → length text < 2 ^ 32 → s.threads ≡ true → IfOk r (λ p. Stands s text (Ok p)) → IfOk r IsScriptForThreads
threads_from s text (Ok script) few threads found = by_meanings s text found.0 script few threads found.1 found.2
threads_from s text (Err fault) few threads found = tt
