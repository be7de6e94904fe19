-- The fault that is told is the first that a statement has.
use Rattle.std.proofs.Common.{◌≡◌, ℕ, zero, suc, ◌+◌, ◌-◌, ◌^◌, ◌≤◌, ◌<◌, eqb, Bool, true, false, not, ◌&&◌, ◌||◌, if◌then◌else◌, List, [], ◌∷◌, ◌++◌, length, drop, append-nil, Option, Some, None, Result, Ok, Err, refl, subst, inl, inr, arith, slice_get, is_ok}
use Rattle.std.specs.Prelude.{map, codes, nat_le, nat_lt, is_some, option_and_then, unwrap_or}
use Rattle.std.specs.Option.{ok_or}
use Rattle.std.specs.List.{All, list_all, list_any, find, before_first, after_first}
use Rattle.std.specs.Str.{bytes_eq}
use Rattle.std.proofs.lemmas.Bool.{cases_Bool}
use Rattle.hex.specs.Hex.{decode_of}
use Rattle.hex.specs.declared.error.FromHexError.{FromHexError}
use Rattle.bpf_insn.specs.Ddd.{Ddd}
use Rattle.bpf_insn.specs.Texts.{words_of, number_of}
use Rattle.bpf_insn.specs.declared.insn.Insn.{Insn}
use Rattle.bpf_insn.proofs.DddLaws.{spelled_or_faulty}
use Rattle.filter_asm.specs.Faults.{fault_of}
use Rattle.filter_asm.specs.Program.{Asm}
use Rattle.filter_asm.proofs.LawLemmas.{none_stands_for_two}
use Rattle.capture_reader.specs.Entries.{EntryBytes}
use Rattle.capture_reader.specs.Captures.{HasEntries}
use Rattle.capture_reader.proofs.LawLemmas.{one_reading}
use Rattle.filter_table.specs.declared.operation.Op.TheVariants.{Revoke, DropCap, Install, Remove, Replace}
use Rattle.world_events.specs.declared.event.Event.{Event}
use Rattle.world_events.specs.declared.event.Event.TheVariants.{Rx}
use Rattle.mk_script.specs.declared.fault.BodyFault.{BodyFault}
use Rattle.mk_script.specs.declared.fault.BodyFault.TheVariants as fault
use Rattle.mk_script.specs.declared.fault.ScriptFaultKind.{ScriptFaultKind}
use Rattle.mk_script.specs.declared.fault.ScriptFaultKind.TheVariants.{BadLine, NoCores, BadNumber, Twice, AfterCores, NoName, BadBody, NoMemory}
use Rattle.mk_script.specs.declared.rows.Command.{Command}
use Rattle.mk_script.specs.declared.rows.Command.TheVariants as command
use Rattle.mk_script.specs.declared.rows.Request.{Request}
use Rattle.mk_script.specs.declared.rows.Request.TheVariants as request
use Rattle.mk_script.specs.declared.script.Item.{Item}
use Rattle.mk_script.specs.declared.script.Item.TheVariants as item
use Rattle.mk_script.specs.Bodies.{MeansAssembled, MeansDecimal, MeansCaptured, DraftMeans, DraftedMeans, Means}
use Rattle.mk_script.specs.Drafts.{Settings, Draft, Whole, Assembler, Decimal, Savefile, draft_of, has_cores, behind_word, optional_below, bytes_or_fault, hex_bytes, may_stand, is_early, core_limit, is_short, has_limits, limits_of, limits_draft, numbers_below, cores_draft, asm_draft, ddd_draft, packet_draft, capture_draft, home_draft, create_op, mint_op, held, held_program, op_of, domain_of, request_draft, core_draft, take_draft, is_dotted, packet_of, packet_at, rx_draft, replayed, replay_draft, draft_by, script_draft, counted, job_at, job_draft, event_by, event_draft, trace_draft, is_left, draft_in}
use Rattle.mk_script.specs.Meanings.{Meaning, Limits, Budgets, NamedPacket, Does, Receives, Nothing, Known, Jobs, Counted, Named}
use Rattle.mk_script.specs.Orders.{rank, Number, Below, AnySize, is_good, number16, number32, optional, behind_dot, request_numbers, numbers, is_taken, is_late, lacks, lacks_number, lacks_packet, is_missing, Body, NoBody, Digits, Block, Decimals, File, file_body, body_of, is_hex, HasBadBody, Demands, line_alone, command_demands, event_numbers, is_job_missing, event_demands, trace_demands, demands_in, Breaks, HasFault, IsFirstFault}
use Rattle.mk_script.specs.Rows.{Row, command_by, command_of, event_of, event_rows, is_shaped}
use Rattle.mk_script.specs.Scripts.{AreFiles}
use Rattle.mk_script.specs.Statements.{Statement}
use Rattle.mk_script.specs.Words.{◌>>=◌, check, below, number_below, up_to}
use Rattle.line_words.specs.Words.{word_at}

-- an outcome's fault is this one; or there is none, and what is there is so
abbrev Tells : {A : Type 0} → Option ScriptFaultKind → (A → Type 0) → Result A ScriptFaultKind → Type 0
Tells first brings (Err why) = first ≡ Some why
Tells first brings (Ok x) = (first ≡ None) × brings x

abbrev Any : {A : Type 0} → A → Type 0
Any x = Unit {0}

-- the first fault: of the numbers, or after them
abbrev numbered : Bool → Option ScriptFaultKind → Option ScriptFaultKind
numbered good rest = if good then rest else Some BadNumber

abbrev hex_fault : Body → Option ScriptFaultKind
hex_fault (Digits word) = if is_hex word then None else Some (BadBody fault.Hex)
hex_fault body = None

abbrev behind_numbers : Bool → Bool → Bool → Body → Option ScriptFaultKind
behind_numbers taken late missing body = if taken then Some Twice else if late then Some AfterCores else if missing then Some NoName else hex_fault body

abbrev first_of : Demands → Option ScriptFaultKind
first_of d = if d.is_line then (if d.is_ready then numbered (list_all is_good d.numbers) (behind_numbers d.is_taken d.is_late d.is_missing d.body) else Some NoCores) else Some BadLine

-- a draft brings the body
abbrev Brings : Body → Draft → Type 0
Brings NoBody (Whole m) = Unit {0}
Brings (Digits word) (Whole m) = Unit {0}
Brings (Block text) (Assembler name other) = text ≡ other
Brings (Decimals text) (Decimal name other) = text ≡ other
Brings (File bytes) (Savefile name other) = bytes ≡ other
Brings body draft = ⊥

-- Steps

bind_tells : {A B : Type 0} (good : Bool) (rest : Option ScriptFaultKind) (any : A → Type 0) (brings : B → Type 0) (r : Result A ScriptFaultKind) (f : A → Result B ScriptFaultKind)
    → Tells (numbered good None) any r → ((x : A) → any x → Tells rest brings (f x)) → Tells (numbered good rest) brings (r >>= f)
bind_tells true rest any brings (Ok x) f t next = next x t.1
bind_tells true rest any brings (Err e) f t next = absurd (cc)
bind_tells false rest any brings (Ok x) f t next = let never = t.0 in absurd (cc)
bind_tells false rest any brings (Err e) f t next = t

map_tells : {A B : Type 0} (first : Option ScriptFaultKind) (any : A → Type 0) (brings : B → Type 0) (r : Result A ScriptFaultKind) (g : A → B)
    → Tells first any r → ((x : A) → any x → brings (g x)) → Tells first brings (r >>= λ x. Ok (g x))
map_tells first any brings (Ok x) g t next = (t.0, next x t.1)
map_tells first any brings (Err e) g t next = t

mapped_tells : {A B C : Type 0} (first : Option ScriptFaultKind) (brings : C → Type 0) (r : Result A ScriptFaultKind) (g : A → B) (f : B → Result C ScriptFaultKind)
    → Tells first brings (r >>= λ x. f (g x)) → Tells first brings ((r >>= λ x. Ok (g x)) >>= f)
mapped_tells first brings (Ok x) g f t = t
mapped_tells first brings (Err e) g f t = t

check_tells : {B : Type 0} (passes : Bool) (why : ScriptFaultKind) (first : Option ScriptFaultKind) (brings : B → Type 0) (f : Unit {0} → Result B ScriptFaultKind)
    → Tells first brings (f tt) → Tells (if passes then first else Some why) brings (check passes why >>= f)
check_tells true why first brings f next = next
check_tells false why first brings f next = refl

new_tells : {B : Type 0} (taken : Bool) (rest : Option ScriptFaultKind) (brings : B → Type 0) (f : Unit {0} → Result B ScriptFaultKind)
    → Tells rest brings (f tt) → Tells (if taken then Some Twice else rest) brings (check (not taken) Twice >>= f)
new_tells true rest brings f next = refl
new_tells false rest brings f next = next

named_tells : {X : Type 0} (found : Option X) → Tells (if lacks found then Some NoName else None) Any (ok_or found NoName)
named_tells None = refl
named_tells (Some x) = (refl, tt)

-- Numbers

below_tells : {B : Type 0} (limit : ℕ) (o : Option ℕ) (more : Bool) (rest : Option ScriptFaultKind) (brings : B → Type 0) (f : ℕ → Result B ScriptFaultKind)
    → ((n : ℕ) → o ≡ Some n → Tells (numbered more rest) brings (f n)) → Tells (numbered (is_some (below limit o) && more) rest) brings (ok_or (below limit o) BadNumber >>= f)
below_tells limit None more rest brings f next = refl
below_tells limit (Some v) more rest brings f next = elim (cases_Bool (nat_lt v limit)) [
  | inl less ↦ rw less (next v refl)
  | inr past ↦ rw past refl
]

number_tells : {B : Type 0} (limit : ℕ) (word : List ℕ) (more : Bool) (rest : Option ScriptFaultKind) (brings : B → Type 0) (f : ℕ → Result B ScriptFaultKind)
    → ((n : ℕ) → number_of word ≡ Some n → Tells (numbered more rest) brings (f n)) → Tells (numbered (is_good (Below limit word) && more) rest) brings (number_below limit word >>= f)
number_tells limit word more rest brings f next = below_tells limit (number_of word) more rest brings f next

up_to_tells : {B : Type 0} (most : ℕ) (o : Option ℕ) (more : Bool) (rest : Option ScriptFaultKind) (brings : B → Type 0) (f : ℕ → Result B ScriptFaultKind)
    → ((n : ℕ) → Tells (numbered more rest) brings (f n)) → Tells (numbered (is_some (up_to most o) && more) rest) brings (ok_or (up_to most o) BadNumber >>= f)
up_to_tells most None more rest brings f next = refl
up_to_tells most (Some v) more rest brings f next = elim (cases_Bool (nat_le 1 v && nat_le v most)) [
  | inl within ↦ rw within (next v)
  | inr out ↦ rw out refl
]

optional_tells : {B : Type 0} (limit : ℕ) (words : List (List ℕ)) (place : ℕ) (more : List Number) (rest : Option ScriptFaultKind) (brings : B → Type 0) (f : Option ℕ → Result B ScriptFaultKind)
    → ((n : Option ℕ) → Tells (numbered (list_all is_good more) rest) brings (f n)) → Tells (numbered (list_all is_good (optional limit words place ++ more)) rest) brings (optional_below limit words place >>= f)
optional_tells limit words place more rest brings f next = elim (cases_Bool (nat_lt place (length words))) [
  | inl there ↦ rw there (mapped_tells _ brings (number_below limit (word_at words place)) (λ n. Some n) f (number_tells limit (word_at words place) (list_all is_good more) rest brings (λ n. f (Some n)) (λ n e. next (Some n))))
  | inr none ↦ rw none (next None)
]

last_tells : {B : Type 0} (limit : ℕ) (words : List (List ℕ)) (place : ℕ) (rest : Option ScriptFaultKind) (brings : B → Type 0) (f : Option ℕ → Result B ScriptFaultKind)
    → ((n : Option ℕ) → Tells rest brings (f n)) → Tells (numbered (list_all is_good (optional limit words place)) rest) brings (optional_below limit words place >>= f)
last_tells limit words place rest brings f next =
    subst (λ (ns : List Number). Tells (numbered (list_all is_good ns) rest) brings (optional_below limit words place >>= f)) (append-nil (optional limit words place)) (optional_tells limit words place [] rest brings f next)

numbers_tells : (limit : ℕ) (words : List (List ℕ)) → Tells (numbered (list_all is_good (map (λ w. Below limit w) words)) None) Any (numbers_below limit words)
numbers_tells limit [] = (refl, tt)
numbers_tells limit (word ∷ words) =
    number_tells limit word (list_all is_good (map (λ w. Below limit w) words)) None Any _
    (λ n e. map_tells _ Any Any (numbers_below limit words) (λ ns. n ∷ ns) (numbers_tells limit words) (λ x any. tt))

-- Requests

held_tells : (words : List (List ℕ)) → Tells (numbered (list_all is_good (number16 words 1 ∷ number32 words 2 ∷ [])) None) Any (held words)
unfolding held
held_tells words =
    number_tells (2 ^ 16) (word_at words 1) _ None Any _ (λ n e. number_tells (2 ^ 32) (word_at words 2) true None Any _ (λ m e'. (refl, tt)))

create_tells : (words : List (List ℕ)) → Tells (numbered (list_all is_good (number16 words 1 ∷ number16 words 2 ∷ [])) None) Any (create_op words)
unfolding create_op
create_tells words =
    number_tells (2 ^ 16) (word_at words 1) _ None Any _ (λ n e. number_tells (2 ^ 16) (word_at words 2) true None Any _ (λ m e'. (refl, tt)))

mint_tells : (words : List (List ℕ)) → Tells (numbered (list_all is_good (number16 words 1 ∷ number32 words 2 ∷ number16 words 3 ∷ [])) None) Any (mint_op words)
unfolding mint_op
mint_tells words =
    number_tells (2 ^ 16) (word_at words 1) _ None Any _
    (λ n e. number_tells (2 ^ 32) (word_at words 2) _ None Any _ (λ m e'. number_tells (2 ^ 16) (word_at words 3) true None Any _ (λ l e''. (refl, tt))))

program_tells : (k : Known) (words : List (List ℕ)) → Tells (numbered (list_all is_good (number16 words 1 ∷ number32 words 2 ∷ [])) (if lacks (k.programs (word_at words 3)) then Some NoName else None)) Any (held_program k words)
unfolding held_program
program_tells k words =
    bind_tells _ _ Any Any (held words) _ (held_tells words)
    (λ both any. map_tells _ Any Any (ok_or (k.programs (word_at words 3)) NoName) (λ program. (both.0, both.1, program)) (named_tells (k.programs (word_at words 3))) (λ x any'. tt))

op_tells : (s : Settings) (k : Known) (words : List (List ℕ)) (asked : Request)
    → Tells (numbered (list_all is_good (request_numbers words asked)) (if is_missing s k words (command.Request asked) then Some NoName else None)) Any (op_of k words asked)
op_tells s k words request.Create = create_tells words
op_tells s k words request.Mint = mint_tells words
op_tells s k words request.Revoke = map_tells _ Any Any (held words) (λ h. Revoke h.0 h.1) (held_tells words) (λ x any. tt)
op_tells s k words request.DropCap = map_tells _ Any Any (held words) (λ h. DropCap h.0 h.1) (held_tells words) (λ x any. tt)
op_tells s k words request.Install = map_tells _ Any Any (held_program k words) (λ h. Install h.0 h.1 h.2) (program_tells k words) (λ x any. tt)
op_tells s k words request.Remove = map_tells _ Any Any (held words) (λ h. Remove h.0 h.1) (held_tells words) (λ x any. tt)
op_tells s k words request.Replace = map_tells _ Any Any (held_program k words) (λ h. Replace h.0 h.1 h.2) (program_tells k words) (λ x any. tt)

request_tells : (s : Settings) (k : Known) (words : List (List ℕ)) (asked : Request)
    → Tells (numbered (list_all is_good (request_numbers words asked)) (if is_missing s k words (command.Request asked) then Some NoName else None)) (Brings NoBody) (request_draft k words asked)
unfolding request_draft
request_tells s k words asked =
    map_tells _ Any (Brings NoBody) (op_of k words asked) (λ op. Whole (Does (item.Ask (k.home (domain_of op)) op))) (op_tells s k words asked) (λ x any. tt)

-- What is done at a core

core_tells : (act : ℕ → Item) (words : List (List ℕ)) → Tells (numbered (list_all is_good (number16 words 1 ∷ [])) None) (Brings NoBody) (core_draft act words)
unfolding core_draft
core_tells act words = number_tells (2 ^ 16) (word_at words 1) true None (Brings NoBody) _ (λ n e. (refl, tt))

take_tells : (words : List (List ℕ)) (short : Bool) → Tells (numbered (list_all is_good (number16 words 1 ∷ number16 words 2 ∷ [])) None) (Brings NoBody) (take_draft words short)
unfolding take_draft
take_tells words short =
    number_tells (2 ^ 16) (word_at words 1) _ None (Brings NoBody) _ (λ n e. number_tells (2 ^ 16) (word_at words 2) true None (Brings NoBody) _ (λ m e'. (refl, tt)))

-- Packets that are received

dotted_tells : (k : Known) (word : List ℕ) (o : Option ℕ)
    → Tells (numbered (is_some o && true) (if lacks_number (λ n. packet_of k word (Some n)) o then Some NoName else None)) Any ((ok_or o BadNumber >>= λ n. Ok (Some n)) >>= λ number. ok_or (packet_of k word number) NoName)
dotted_tells k word None = refl
dotted_tells k word (Some n) = named_tells (packet_of k word (Some n))

packet_tells : (k : Known) (word : List ℕ)
    → Tells (numbered (list_all is_good (if is_dotted word then AnySize (behind_dot word) ∷ [] else [])) (if lacks_packet k word then Some NoName else None)) Any (packet_at k word)
unfolding packet_at
packet_tells k word = elim (cases_Bool (is_dotted word)) [
  | inl dotted ↦ rw dotted (dotted_tells k word (number_of (behind_dot word)))
  | inr plain ↦ rw plain (named_tells (packet_of k word None))
]

rx_tells : (s : Settings) (k : Known) (received : ℕ) (words : List (List ℕ))
    → Tells (numbered (list_all is_good (numbers s k words command.Rx)) (if lacks_packet k (word_at words 2) then Some NoName else None)) (Brings NoBody) (rx_draft s k received words)
unfolding rx_draft
rx_tells s k received words =
    number_tells (core_limit s k) (word_at words 1) _ _ (Brings NoBody) _
    (λ core e. mapped_tells _ (Brings NoBody) (optional_below (2 ^ 64) words 3) (λ floor. unwrap_or floor 0) _ (optional_tells (2 ^ 64) words 3 _ _ (Brings NoBody) _
    (λ floor. map_tells _ Any (Brings NoBody) (packet_at k (word_at words 2)) (λ packet. Whole (Receives (Rx core (received + 1) packet (unwrap_or floor 0) ∷ []))) (packet_tells k (word_at words 2)) (λ x any. tt))))

replay_tells : (k : Known) (received : ℕ) (words : List (List ℕ))
    → Tells (numbered (list_all is_good (optional (2 ^ 64) words 2)) (if lacks (k.captures (word_at words 1)) then Some NoName else None)) (Brings NoBody) (replay_draft k received words)
unfolding replay_draft
replay_tells k received words =
    mapped_tells _ (Brings NoBody) (optional_below (2 ^ 64) words 2) (λ floor. unwrap_or floor 0) _ (last_tells (2 ^ 64) words 2 _ (Brings NoBody) _
    (λ floor. map_tells _ Any (Brings NoBody) (ok_or (k.captures (word_at words 1)) NoName) (λ packets. Whole (Receives (replayed (length k.budgets) received (unwrap_or floor 0) 0 packets))) (named_tells (k.captures (word_at words 1))) (λ x any. tt)))

-- Definitions

early_tells : (late : Bool) (m : Meaning) → Tells (if late then Some AfterCores else None) (Brings NoBody) (check (not late) AfterCores >>= λ early. Ok (Whole m))
early_tells true m = refl
early_tells false m = (refl, tt)

limits_tells : (s : Settings) (k : Known) (words : List (List ℕ))
    → Tells (numbered (list_all is_good (numbers s k words command.Limits)) (if has_limits k then Some Twice else if has_cores k then Some AfterCores else None)) (Brings NoBody) (limits_draft k words)
unfolding limits_draft
limits_tells s k words =
    up_to_tells 65536 (number_of (word_at words 1)) _ _ (Brings NoBody) _
    (λ caps. up_to_tells 65536 (number_of (word_at words 2)) true _ (Brings NoBody) _
    (λ filters. new_tells (has_limits k) _ (Brings NoBody) _ (early_tells (has_cores k) (Limits (limits_of caps filters)))))

cores_tells : (s : Settings) (k : Known) (words : List (List ℕ)) → Tells (numbered (list_all is_good (numbers s k words command.Cores)) (if has_cores k then Some Twice else None)) (Brings NoBody) (cores_draft k words)
unfolding cores_draft
cores_tells s k words =
    bind_tells _ _ Any (Brings NoBody) (numbers_below (2 ^ 32) (drop 1 words)) _ (numbers_tells (2 ^ 32) (drop 1 words))
    (λ budgets any. new_tells (has_cores k) None (Brings NoBody) (λ first. Ok (Whole (Budgets budgets))) (refl, tt))

asm_tells : (k : Known) (words : List (List ℕ)) (block : Option (List ℕ)) → Tells (if is_some (k.programs (word_at words 1)) then Some Twice else None) (Brings (Block (unwrap_or block []))) (asm_draft k words block)
unfolding asm_draft
asm_tells k words block = new_tells (is_some (k.programs (word_at words 1))) None (Brings (Block (unwrap_or block []))) _ (refl, refl)

ddd_tells : (k : Known) (words : List (List ℕ)) (line : List ℕ) → Tells (if is_some (k.programs (word_at words 1)) then Some Twice else None) (Brings (Decimals (behind_word (behind_word line)))) (ddd_draft k words line)
unfolding ddd_draft
ddd_tells k words line = new_tells (is_some (k.programs (word_at words 1))) None (Brings (Decimals (behind_word (behind_word line)))) _ (refl, refl)

decoded_tells : (r : Result (List ℕ) FromHexError) → Tells (if is_ok r then None else Some (BadBody fault.Hex)) Any (bytes_or_fault r)
decoded_tells (Ok bytes) = (refl, tt)
decoded_tells (Err e) = refl

hex_tells : (word : List ℕ) → Tells (hex_fault (Digits word)) Any (hex_bytes word)
hex_tells word = elim (cases_Bool (bytes_eq word (codes "-"))) [
  | inl none ↦ rw none (refl, tt)
  | inr digits ↦ rw digits (decoded_tells (decode_of word))
]

digits_tells : (k : Known) (words : List (List ℕ))
    → Tells (numbered (list_all is_good (optional (2 ^ 32) words 3)) (behind_numbers (is_some (k.packets (word_at words 1))) false false (Digits (word_at words 2)))) (Brings (Digits (word_at words 2))) (packet_draft k words)
unfolding packet_draft
digits_tells k words =
    let brings = Brings (Digits (word_at words 2)) in
    last_tells (2 ^ 32) words 3 _ brings _
    (λ original. new_tells (is_some (k.packets (word_at words 1))) _ brings _
    (map_tells _ Any brings (hex_bytes (word_at words 2)) (λ bytes. Whole (NamedPacket (word_at words 1) (record { bytes = bytes; original = unwrap_or original (length bytes) }))) (hex_tells (word_at words 2)) (λ x any. tt)))

file_tells : (name : List ℕ) (found : Option (List ℕ)) → Tells (if lacks found then Some NoName else hex_fault (file_body found)) (Brings (file_body found)) (ok_or found NoName >>= λ file. Ok (Savefile name file))
file_tells name None = refl
file_tells name (Some bytes) = (refl, refl)

numbered_file_tells : (s : Settings) (name : List ℕ) (taken : Bool) (o : Option ℕ)
    → Tells (numbered (is_some o && true) (behind_numbers taken false (lacks_number (counted s.files) o) (file_body (option_and_then (counted s.files) o)))) (Brings (file_body (option_and_then (counted s.files) o)))
    (ok_or o BadNumber >>= λ number. check (not taken) Twice >>= λ new. ok_or (counted s.files number) NoName >>= λ file. Ok (Savefile name file))
numbered_file_tells s name taken None = refl
numbered_file_tells s name true (Some n) = refl
numbered_file_tells s name false (Some n) = file_tells name (counted s.files n)

capture_tells : (s : Settings) (k : Known) (words : List (List ℕ)) (st : Statement)
    → Tells (numbered (list_all is_good (numbers s k words command.Capture)) (behind_numbers (is_taken k words command.Capture) (is_late k command.Capture) (is_missing s k words command.Capture) (body_of s words st command.Capture)))
    (Brings (body_of s words st command.Capture)) (capture_draft s k words)
unfolding capture_draft
capture_tells s k words st = numbered_file_tells s (word_at words 1) (is_some (k.captures (word_at words 1))) (number_of (word_at words 2))

home_tells : (s : Settings) (k : Known) (words : List (List ℕ)) → Tells (numbered (list_all is_good (numbers s k words command.Home)) None) (Brings NoBody) (home_draft k words)
unfolding home_draft
home_tells s k words =
    number_tells (2 ^ 16) (word_at words 1) _ None (Brings NoBody) _ (λ n e. number_tells (length k.budgets) (word_at words 2) true None (Brings NoBody) _ (λ m e'. (refl, tt)))

-- Commands

by_tells : (s : Settings) (k : Known) (received : ℕ) (words : List (List ℕ)) (st : Statement) (c : Command)
    → Tells (numbered (list_all is_good (numbers s k words c)) (behind_numbers (is_taken k words c) (is_late k c) (is_missing s k words c) (body_of s words st c))) (Brings (body_of s words st c)) (draft_by s k received words st.line st.block c)
by_tells s k received words st command.Limits = limits_tells s k words
by_tells s k received words st command.Cores = cores_tells s k words
by_tells s k received words st command.Asm = asm_tells k words st.block
by_tells s k received words st command.Ddd = ddd_tells k words st.line
by_tells s k received words st command.Packet = digits_tells k words
by_tells s k received words st command.Capture = capture_tells s k words st
by_tells s k received words st command.Home = home_tells s k words
by_tells s k received words st (command.Request asked) = request_tells s k words asked
by_tells s k received words st command.Start = (refl, tt)
by_tells s k received words st command.Submit = core_tells item.Submit words
by_tells s k received words st command.StartFor = core_tells item.StartFor words
by_tells s k received words st command.Take = take_tells words (nat_lt 3 (length words))
by_tells s k received words st command.Rx = rx_tells s k received words
by_tells s k received words st command.Replay = replay_tells k received words
by_tells s k received words st command.Settle = (refl, tt)
by_tells s k received words st command.Show = core_tells item.Show words
by_tells s k received words st command.Trace = (refl, tt)

command_tells : (s : Settings) (k : Known) (received : ℕ) (words : List (List ℕ)) (st : Statement) (o : Option Command)
    → Tells (first_of (command_demands s k words st o)) (Brings (command_demands s k words st o).body)
    (ok_or o BadLine >>= λ c. check (may_stand k words st.block c) BadLine >>= λ allowed. check (is_early c || has_cores k) NoCores >>= λ ready. draft_by s k received words st.line st.block c)
command_tells s k received words st None = refl
command_tells s k received words st (Some c) =
    let brings = Brings (body_of s words st c) in
    check_tells (may_stand k words st.block c) BadLine _ brings _ (check_tells (is_early c || has_cores k) NoCores _ brings _ (by_tells s k received words st c))

script_tells : (s : Settings) (k : Known) (received : ℕ) (words : List (List ℕ)) (st : Statement)
    → Tells (first_of (command_demands s k words st (command_of s.threads words))) (Brings (command_demands s k words st (command_of s.threads words)).body) (script_draft s k received words st.line st.block)
unfolding script_draft
script_tells s k received words st = command_tells s k received words st (command_of s.threads words)

-- Events

abbrev IsEvent : Command → Type 0
IsEvent command.Start = Unit {0}
IsEvent command.Submit = Unit {0}
IsEvent command.StartFor = Unit {0}
IsEvent command.Take = Unit {0}
IsEvent command.Rx = Unit {0}
IsEvent c = ⊥

abbrev AreEvents : List Row → Type 0
AreEvents [] = Unit {0}
AreEvents (r ∷ rs) = IsEvent r.command × AreEvents rs

found_event : (p : Row → Bool) (table : List Row) (r : Row) → AreEvents table → find p table ≡ Some r → IsEvent r.command
found_event p [] r all e = absurd (cc)
found_event p (x ∷ xs) r all e = elim (cases_Bool (p x)) [
  | inl here ↦ let found = rw here at e in let same : x ≡ r = cc in subst (λ (r : Row). IsEvent r.command) same all.0
  | inr there ↦ let further = rw there at e in found_event p xs r all.1 further
]

by_event : (words : List (List ℕ)) (r : Row) (c : Command) → IsEvent r.command → command_by false words r ≡ Some c → IsEvent c
by_event words r c is e = elim (cases_Bool ((r.for_threads || not false) && is_shaped r words)) [
  | inl fits ↦ let found = rw fits at e in let same : r.command ≡ c = cc in subst IsEvent same is
  | inr other ↦ let none = rw other at e in absurd (cc)
]

event_is : (words : List (List ℕ)) (c : Command) → event_of words ≡ Some c → IsEvent c
unfolding event_of
event_is [] c e = absurd (cc)
event_is (word ∷ words) c e = row_is words c (find (λ r. bytes_eq r.word word) event_rows) (λ r f. found_event (λ r. bytes_eq r.word word) event_rows r (tt, (tt, (tt, (tt, (tt, tt))))) f) e
  where
    row_is : (words : List (List ℕ)) (c : Command) (found : Option Row) → ((r : Row) → found ≡ Some r → IsEvent r.command) → option_and_then (command_by false words) found ≡ Some c → IsEvent c
    row_is words c None is e = absurd (cc)
    row_is words c (Some r) is e = by_event words r c (is r refl) e

job_tells : (jobs : List Event) (words : List (List ℕ))
    → Tells (numbered (list_all is_good (event_numbers words command.Rx)) (if is_job_missing jobs words command.Rx then Some NoName else None)) (Brings NoBody) (job_draft jobs words)
unfolding job_draft
job_tells jobs words =
    number_tells (2 ^ 16) (word_at words 1) _ _ (Brings NoBody) _
    (λ core e. number_tells (2 ^ 64) (word_at words 2) true _ (Brings NoBody) _
    (λ number e'. rw (e, e') (map_tells _ Any (Brings NoBody) (ok_or (option_and_then (job_at core) (counted jobs number)) NoName) (λ event. Whole (Does (item.Apply event))) (named_tells (option_and_then (job_at core) (counted jobs number))) (λ x any. tt))))

by_event_tells : (jobs : List Event) (words rest : List (List ℕ)) (c : Command) → IsEvent c
    → Tells (first_of (event_demands jobs words (Some c))) (Brings NoBody) (event_by jobs words rest c)
by_event_tells jobs words rest command.Start is = (refl, tt)
by_event_tells jobs words rest command.Submit is = core_tells item.Submit words
by_event_tells jobs words rest command.StartFor is = core_tells item.StartFor words
by_event_tells jobs words rest command.Take is = take_tells words (is_short rest)
by_event_tells jobs words rest command.Rx is = job_tells jobs words
by_event_tells jobs words rest c is = absurd is

some_event_tells : (jobs : List Event) (words rest : List (List ℕ)) (o : Option Command) → ((c : Command) → o ≡ Some c → IsEvent c)
    → Tells (first_of (event_demands jobs words o)) (Brings (event_demands jobs words o).body) (ok_or o BadLine >>= λ c. event_by jobs words rest c)
some_event_tells jobs words rest None is = refl
some_event_tells jobs words rest (Some c) is = by_event_tells jobs words rest c (is c refl)

event_tells : (jobs : List Event) (words rest : List (List ℕ))
    → Tells (first_of (event_demands jobs words (event_of words))) (Brings (event_demands jobs words (event_of words)).body) (event_draft jobs words rest)
unfolding event_draft
event_tells jobs words rest = some_event_tells jobs words rest (event_of words) (λ c e. event_is words c e)

left_tells : (is_left : Bool) → Tells (first_of (line_alone is_left)) (Brings NoBody) (if is_left then Ok (Whole Nothing) else Err BadLine)
left_tells true = (refl, tt)
left_tells false = refl

trace_tells : (jobs : List Event) (line : List ℕ) → Tells (first_of (trace_demands jobs line)) (Brings (trace_demands jobs line).body) (trace_draft jobs line)
trace_tells jobs line = elim (cases_Bool (list_any (λ b. eqb b 58) line)) [
  | inl event ↦ rw event (event_tells jobs (words_of (before_first (λ b. eqb b 58) line)) (words_of (after_first (λ b. eqb b 58) line)))
  | inr other ↦ rw other (left_tells (is_left (words_of line)))
]

in_tells : (s : Settings) (k : Known) (jobs : Jobs) (st : Statement)
    → Tells (first_of (demands_in s k jobs st)) (Brings (demands_in s k jobs st).body) (draft_in s k jobs (words_of st.line) st.line st.block)
in_tells s k (Counted received) st = script_tells s k received (words_of st.line) st
in_tells s k (Named jobs) st = trace_tells jobs st.line

-- Files hold bytes, so what a capture brings are bytes

get_bytes : (files : List (List ℕ)) (n : ℕ) → AreFiles files → All (λ b. b < 256) (unwrap_or (slice_get files n) [])
get_bytes [] n all = λ k d lt. absurd (omega arith)
get_bytes (file ∷ files) zero all = all.0
get_bytes (file ∷ files) (suc n) all = get_bytes files n all.1

abbrev HasBytes : Body → Type 0
HasBytes (File bytes) = All (λ b. b < 256) bytes
HasBytes body = Unit {0}

get_body : (files : List (List ℕ)) (n : ℕ) (found : Option (List ℕ)) → slice_get files n ≡ found → AreFiles files → HasBytes (file_body found)
get_body files n None e all = tt
get_body files n (Some bytes) e all = subst (λ (o : Option (List ℕ)). All (λ b. b < 256) (unwrap_or o [])) e (get_bytes files n all)

file_bytes : (s : Settings) (number : Option ℕ) → AreFiles s.files → HasBytes (file_body (option_and_then (counted s.files) number))
file_bytes s None all = tt
file_bytes s (Some n) all = elim (cases_Bool (eqb n 0)) [
  | inl none ↦ rw none tt
  | inr some ↦ rw some (get_body s.files (n - 1) (slice_get s.files (n - 1)) refl all)
]

command_bytes : (s : Settings) (k : Known) (words : List (List ℕ)) (st : Statement) (o : Option Command) → AreFiles s.files → HasBytes (command_demands s k words st o).body
command_bytes s k words st None all = tt
command_bytes s k words st (Some command.Capture) all = file_bytes s (number_of (word_at words 2)) all
command_bytes s k words st (Some c) all = tt

event_bytes : (jobs : List Event) (words : List (List ℕ)) (o : Option Command) → HasBytes (event_demands jobs words o).body
event_bytes jobs words None = tt
event_bytes jobs words (Some c) = tt

demands_bytes : (s : Settings) (k : Known) (jobs : Jobs) (st : Statement) → AreFiles s.files → HasBytes (demands_in s k jobs st).body
demands_bytes s k (Counted received) st all = command_bytes s k (words_of st.line) st (command_of s.threads (words_of st.line)) all
demands_bytes s k (Named jobs) st all = elim (cases_Bool (list_any (λ b. eqb b 58) st.line)) [
  | inl event ↦ rw event (event_bytes jobs (words_of (before_first (λ b. eqb b 58) st.line)) (event_of (words_of (before_first (λ b. eqb b 58) st.line))))
  | inr other ↦ rw other tt
]

abbrev pub BringsBytes : Result Draft ScriptFaultKind → Type 0
BringsBytes (Ok (Savefile name bytes)) = All (λ b. b < 256) bytes
BringsBytes d = Unit {0}

brought_bytes : (body : Body) (d : Draft) → HasBytes body → Brings body d → BringsBytes (Ok d)
brought_bytes (File bytes) (Savefile name other) small same = subst (λ (bs : List ℕ). All (λ b. b < 256) bs) same small
brought_bytes body (Savefile name other) small brings = absurd brings
brought_bytes body d small brings = tt

tells_bytes : (first : Option ScriptFaultKind) (body : Body) (r : Result Draft ScriptFaultKind) → HasBytes body → Tells first (Brings body) r → BringsBytes r
tells_bytes first body (Ok d) small tells = brought_bytes body d small tells.1
tells_bytes first body (Err why) small tells = tt

pub drafted_bytes : (s : Settings) (k : Known) (st : Statement) → AreFiles s.files → BringsBytes (draft_of s k st)
drafted_bytes s k st all = tells_bytes (first_of (demands_in s k k.jobs st)) (demands_in s k k.jobs st).body (draft_of s k st) (demands_bytes s k k.jobs st all) (in_tells s k k.jobs st)

-- The bodies of drafts that were told no fault

abbrev Says : Body → Result Meaning ScriptFaultKind → Type 0
Says body (Ok m) = (why : BodyFault) → HasBadBody body why → ⊥
Says body (Err kind) = (why : BodyFault) × (kind ≡ BadBody why) × HasBadBody body why

same_err : (kind : ScriptFaultKind) (why : BodyFault) → (let this : Result Meaning ScriptFaultKind = Err kind in let other : Result Meaning ScriptFaultKind = Err (BadBody why) in this ≡ other) → kind ≡ BadBody why
same_err kind why e = cc

no_body : (m : Meaning) (outcome : Result Meaning ScriptFaultKind) → outcome ≡ Ok m → Says NoBody outcome
no_body m (Ok n) e = λ why bad. absurd bad
no_body m (Err kind) e = absurd (cc)

good_digits : (word : List ℕ) → hex_fault (Digits word) ≡ None → is_hex word ≡ true
good_digits word e = elim (cases_Bool (is_hex word)) [
  | inl hex ↦ hex
  | inr other ↦ let never = rw other at e in absurd (cc)
]

digits_bad : (word : List ℕ) (why : BodyFault) → is_hex word ≡ true → HasBadBody (Digits word) why → ⊥
digits_bad word fault.Hex hex bad = absurd (cc)
digits_bad word why hex bad = bad

digits_say : (word : List ℕ) (m : Meaning) (outcome : Result Meaning ScriptFaultKind) → hex_fault (Digits word) ≡ None → outcome ≡ Ok m → Says (Digits word) outcome
digits_say word m (Ok n) good e = λ why bad. digits_bad word why (good_digits word good) bad
digits_say word m (Err kind) good e = absurd (cc)

block_bad : (text : List ℕ) (program : List Insn) (why : BodyFault) → Asm text program → HasBadBody (Block text) why → ⊥
block_bad text program (fault.Asm f) means bad = let same = none_stands_for_two text (Ok program) (Err (fault_of f)) means bad in absurd (cc)
block_bad text program why means bad = bad

block_says : (name text : List ℕ) (outcome : Result Meaning ScriptFaultKind) → MeansAssembled name text outcome → Says (Block text) outcome
block_says name text (Ok m) (inl x) = λ why bad. block_bad text x.0 why x.1 bad
block_says name text (Ok m) (inr x) = let never = x.2 in absurd (cc)
block_says name text (Err kind) (inl x) = let never = x.2 in absurd (cc)
block_says name text (Err kind) (inr x) = (fault.Asm x.0, same_err kind (fault.Asm x.0) x.2, x.1)

decimals_bad : (text : List ℕ) (program : List Insn) (why : BodyFault) → Ddd text program → HasBadBody (Decimals text) why → ⊥
decimals_bad text program (fault.Ddd f) means bad = spelled_or_faulty text program f means bad
decimals_bad text program why means bad = bad

decimals_say : (name text : List ℕ) (outcome : Result Meaning ScriptFaultKind) → MeansDecimal name text outcome → Says (Decimals text) outcome
decimals_say name text (Ok m) (inl x) = λ why bad. decimals_bad text x.0 why x.1 bad
decimals_say name text (Ok m) (inr x) = let never = x.2 in absurd (cc)
decimals_say name text (Err kind) (inl x) = let never = x.2 in absurd (cc)
decimals_say name text (Err kind) (inr x) = (fault.Ddd x.0, same_err kind (fault.Ddd x.0) x.2, x.1)

file_bad : (bytes : List ℕ) → All (λ b. b < 256) bytes → (entries : List EntryBytes) (why : BodyFault) → HasEntries bytes entries None → HasBadBody (File bytes) why → ⊥
file_bad bytes small entries (fault.Capture f) has bad = let same = (one_reading bytes small entries bad.0 None (Some f) has bad.1).1 in absurd (cc)
file_bad bytes small entries why has bad = bad

file_says : (name bytes : List ℕ) → All (λ b. b < 256) bytes → (outcome : Result Meaning ScriptFaultKind) → MeansCaptured name bytes outcome → Says (File bytes) outcome
file_says name bytes small (Ok m) (inl x) = λ why bad. file_bad bytes small x.0 why x.1 bad
file_says name bytes small (Ok m) (inr x) = let never = x.3 in absurd (cc)
file_says name bytes small (Err kind) (inl x) = let never = x.2 in absurd (cc)
file_says name bytes small (Err kind) (inr x) = (fault.Capture x.1, same_err kind (fault.Capture x.1) x.3, (x.0, x.2))

body_says : (body : Body) → HasBytes body → (d : Draft) (outcome : Result Meaning ScriptFaultKind) → hex_fault body ≡ None → Brings body d → DraftMeans d outcome → Says body outcome
body_says NoBody small (Whole m) outcome good brings means = no_body m outcome means
body_says (Digits word) small (Whole m) outcome good brings means = digits_say word m outcome good means
body_says (Block text) small (Assembler name other) outcome good brings means = rw brings (block_says name other outcome means)
body_says (Decimals text) small (Decimal name other) outcome good brings means = rw brings (decimals_say name other outcome means)
body_says (File bytes) small (Savefile name other) outcome good brings means = file_says name bytes small outcome (rw (← brings) at means)
body_says body small d outcome good brings means = absurd brings

-- The order

after_line : (d : Demands) → d.is_line ≡ true → (other : ScriptFaultKind) → Breaks d other → 1 ≤ rank other
after_line d line BadLine breaks = absurd (cc)
after_line d line other breaks = omega arith

after_cores : (d : Demands) → d.is_line ≡ true → d.is_ready ≡ true → (other : ScriptFaultKind) → Breaks d other → 2 ≤ rank other
after_cores d line ready BadLine breaks = absurd (cc)
after_cores d line ready NoCores breaks = absurd (cc)
after_cores d line ready other breaks = omega arith

after_numbers : (d : Demands) → d.is_line ≡ true → d.is_ready ≡ true → list_all is_good d.numbers ≡ true → (other : ScriptFaultKind) → Breaks d other → 3 ≤ rank other
after_numbers d line ready good BadLine breaks = absurd (cc)
after_numbers d line ready good NoCores breaks = absurd (cc)
after_numbers d line ready good BadNumber breaks = absurd (cc)
after_numbers d line ready good other breaks = omega arith

after_taken : (d : Demands) → d.is_line ≡ true → d.is_ready ≡ true → list_all is_good d.numbers ≡ true → d.is_taken ≡ false → (other : ScriptFaultKind) → Breaks d other → 4 ≤ rank other
after_taken d line ready good new BadLine breaks = absurd (cc)
after_taken d line ready good new NoCores breaks = absurd (cc)
after_taken d line ready good new BadNumber breaks = absurd (cc)
after_taken d line ready good new Twice breaks = absurd (cc)
after_taken d line ready good new other breaks = omega arith

after_late : (d : Demands) → d.is_line ≡ true → d.is_ready ≡ true → list_all is_good d.numbers ≡ true → d.is_taken ≡ false → d.is_late ≡ false → (other : ScriptFaultKind) → Breaks d other → 5 ≤ rank other
after_late d line ready good new early BadLine breaks = absurd (cc)
after_late d line ready good new early NoCores breaks = absurd (cc)
after_late d line ready good new early BadNumber breaks = absurd (cc)
after_late d line ready good new early Twice breaks = absurd (cc)
after_late d line ready good new early AfterCores breaks = absurd (cc)
after_late d line ready good new early other breaks = omega arith

-- nothing but the body is wrong
record IsSound (d : Demands) : Type 0 where
  pub line : d.is_line ≡ true
  pub ready : d.is_ready ≡ true
  pub good : list_all is_good d.numbers ≡ true
  pub new : d.is_taken ≡ false
  pub early : d.is_late ≡ false
  pub there : d.is_missing ≡ false

after_missing : (d : Demands) → IsSound d → (other : ScriptFaultKind) → Breaks d other → 6 ≤ rank other
after_missing d sound BadLine breaks = let is = sound.line in absurd (cc)
after_missing d sound NoCores breaks = let is = sound.ready in absurd (cc)
after_missing d sound BadNumber breaks = let is = sound.good in absurd (cc)
after_missing d sound Twice breaks = let is = sound.new in absurd (cc)
after_missing d sound AfterCores breaks = let is = sound.early in absurd (cc)
after_missing d sound NoName breaks = let is = sound.there in absurd (cc)
after_missing d sound other breaks = omega arith

none_breaks : (d : Demands) → IsSound d → ((why : BodyFault) → HasBadBody d.body why → ⊥) → (other : ScriptFaultKind) → Breaks d other → ⊥
none_breaks d sound whole BadLine breaks = let is = sound.line in absurd (cc)
none_breaks d sound whole NoCores breaks = let is = sound.ready in absurd (cc)
none_breaks d sound whole BadNumber breaks = let is = sound.good in absurd (cc)
none_breaks d sound whole Twice breaks = let is = sound.new in absurd (cc)
none_breaks d sound whole AfterCores breaks = let is = sound.early in absurd (cc)
none_breaks d sound whole NoName breaks = let is = sound.there in absurd (cc)
none_breaks d sound whole (BadBody why) breaks = whole why breaks
none_breaks d sound whole NoMemory breaks = breaks

-- the first fault is one that nothing stands before; where there is none, only the body can be wrong
abbrev IsLeast : Demands → Option ScriptFaultKind → Type 0
IsLeast d None = IsSound d × (hex_fault d.body ≡ None)
IsLeast d (Some why) = Breaks d why × ((other : ScriptFaultKind) → Breaks d other → rank why ≤ rank other)

body_least : (d : Demands) (body : Body) → d.body ≡ body → IsSound d → IsLeast d (hex_fault body)
body_least d (Digits word) e sound = elim (cases_Bool (is_hex word)) [
  | inl hex ↦ rw hex (sound, rw (e, hex) refl)
  | inr other ↦ rw other (rw e other, after_missing d sound)
]
body_least d body e sound = (sound, rw e refl)

names_least : (d : Demands) → d.is_line ≡ true → d.is_ready ≡ true → list_all is_good d.numbers ≡ true → (taken late missing : Bool) → d.is_taken ≡ taken → d.is_late ≡ late → d.is_missing ≡ missing → IsLeast d (behind_numbers taken late missing d.body)
names_least d line ready good true late missing is is' is'' = (is, after_numbers d line ready good)
names_least d line ready good false true missing is is' is'' = (is', after_taken d line ready good is)
names_least d line ready good false false true is is' is'' = (is'', after_late d line ready good is is')
names_least d line ready good false false false is is' is'' = body_least d d.body refl (record { line = line; ready = ready; good = good; new = is; early = is'; there = is'' })

numbers_least : (d : Demands) → d.is_line ≡ true → d.is_ready ≡ true → (good : Bool) → list_all is_good d.numbers ≡ good → IsLeast d (numbered good (behind_numbers d.is_taken d.is_late d.is_missing d.body))
numbers_least d line ready true is = names_least d line ready is d.is_taken d.is_late d.is_missing refl refl refl
numbers_least d line ready false is = (is, after_cores d line ready)

line_least : (d : Demands) (line ready : Bool) → d.is_line ≡ line → d.is_ready ≡ ready
    → IsLeast d (if line then (if ready then numbered (list_all is_good d.numbers) (behind_numbers d.is_taken d.is_late d.is_missing d.body) else Some NoCores) else Some BadLine)
line_least d true true is is' = numbers_least d is is' (list_all is_good d.numbers) refl
line_least d true false is is' = (is', after_line d is)
line_least d false ready is is' = (is, λ other breaks. omega arith)

first_least : (d : Demands) → IsLeast d (first_of d)
first_least d = line_least d d.is_line d.is_ready refl refl

said_first : (d : Demands) (outcome : Result Meaning ScriptFaultKind) → IsSound d → Says d.body outcome → IsFirstFault (Breaks d) outcome
said_first d (Ok m) sound says = none_breaks d sound says
said_first d (Err kind) sound says = rw says.1 (says.2, after_missing d sound)

told_first : (d : Demands) → HasBytes d.body → (r : Result Draft ScriptFaultKind) (outcome : Result Meaning ScriptFaultKind)
    → Tells (first_of d) (Brings d.body) r → DraftedMeans r outcome → IsFirstFault (Breaks d) outcome
told_first d small (Err why) outcome tells means = rw means (let least = first_least d in rw tells at least)
told_first d small (Ok draft) outcome tells means =
    let least : IsLeast d None = (let found = first_least d in let none = tells.0 in rw none at found) in
    said_first d outcome least.0 (body_says d.body small draft outcome least.1 tells.1 means)

pub first_fault : (s : Settings) (k : Known) (st : Statement) (outcome : Result Meaning ScriptFaultKind) → AreFiles s.files → Means s k st outcome → IsFirstFault (HasFault s k st) outcome
first_fault s k st outcome all means = told_first (demands_in s k k.jobs st) (demands_bytes s k k.jobs st all) (draft_of s k st) outcome (in_tells s k k.jobs st) means
