-- What a text stands for keeps the limits of scripts.
use Rattle.std.proofs.Common.{◌≡◌, ℕ, zero, suc, ◌+◌, ◌-◌, ◌^◌, ◌≤◌, ◌<◌, eqb, Bool, true, false, not, if◌then◌else◌, List, [], ◌∷◌, ◌++◌, length, drop, Option, Some, None, Result, Ok, Err, refl, sym, ap, ◌∙◌, subst, inl, inr, arith, length-append, length-drop, append-nil, slice_get}
use Rattle.std.specs.Prelude.{map, IfOk, codes, nat_lt, option_and_then, unwrap_or, ◌||◌}
use Rattle.std.specs.Option.{ok_or}
use Rattle.std.specs.List.{AllByRecursion, flat_map, list_any, before_first, after_first}
use Rattle.std.specs.Str.{bytes_eq}
use Rattle.std.proofs.lemmas.Bool.{cases_Bool}
use Rattle.std.proofs.lemmas.Bool.Decides.{nat_tests}
use Rattle.std.proofs.lemmas.Grind.{flat_map-append}
use Rattle.std.proofs.lemmas.List.Elements.{All-from_recursion}
use Rattle.bpf_insn.specs.declared.insn.Insn.{Insn}
use Rattle.bpf_insn.specs.Texts.{words_of, number_of}
use Rattle.filter_asm.proofs.FormedLemmas.{assembled_formed}
use Rattle.filter_asm.specs.Program.{text_lines}
use Rattle.hex.specs.Hex.{decode_of}
use Rattle.hex.specs.declared.error.FromHexError.{FromHexError}
use Rattle.hex.proofs.HexLemmas.{decode_of-ok}
use Rattle.pcap_reader.specs.declared.capture.CapturedPacket.{CapturedPacket}
use Rattle.capture_reader.specs.Entries.{packets_in as found_in}
use Rattle.capture_reader.specs.Captures.{AllFew}
use Rattle.capture_reader.proofs.LawLemmas.{few_captured}
use Rattle.filter_table.specs.Limits.{default_limits}
use Rattle.filter_table.specs.Tables.{HasShortProgram}
use Rattle.filter_table.specs.declared.operation.Op.{Op}
use Rattle.filter_table.specs.declared.operation.Op.TheVariants.{Create, Mint, Revoke, DropCap, Install, Remove, Replace}
use Rattle.world_events.specs.declared.event.Event.{Event}
use Rattle.world_events.specs.declared.event.Event.TheVariants.{Take, Rx}
use Rattle.mk_script.specs.declared.fault.ScriptFault.{ScriptFault}
use Rattle.mk_script.specs.declared.fault.ScriptFaultKind.{ScriptFaultKind}
use Rattle.mk_script.specs.declared.fault.ScriptFaultKind.TheVariants.{BadLine, NoCores, BadNumber, Twice, AfterCores, NoName}
use Rattle.mk_script.specs.declared.rows.Command.{Command}
use Rattle.mk_script.specs.declared.rows.Command.TheVariants as command
use Rattle.mk_script.specs.declared.rows.Request.{Request}
use Rattle.mk_script.specs.declared.rows.Request.TheVariants as request
use Rattle.mk_script.specs.declared.script.Item.{Item}
use Rattle.mk_script.specs.declared.script.Item.TheVariants as item
use Rattle.mk_script.specs.declared.script.Script.{Script}
use Rattle.mk_script.specs.Bodies.{MeansAssembled, MeansDecimal, MeansCaptured, DraftMeans, DraftedMeans}
use Rattle.mk_script.specs.Drafts.{Settings, Draft, Whole, Assembler, Decimal, Savefile, draft_of, has_cores, is_new, behind_word, optional_below, bytes_or_fault, hex_bytes, may_stand, is_early, has_limits, limits_of, limits_draft, core_limit, is_short, numbers_below, cores_draft, asm_draft, ddd_draft, packet_draft, capture_draft, home_draft, create_op, mint_op, rights_of, held, held_program, op_of, domain_of, request_draft, core_draft, take_draft, packet_number, packet_of, packet_at, floor_at, rx_draft, replayed, replay_draft, draft_by, script_draft, counted, job_at, is_rx_at, job_draft, event_by, event_draft, trace_draft, is_left, draft_in}
use Rattle.mk_script.specs.Limits.{IsShortPacket, IsTakeOrRx, IsLimited, EntersBelow, HasLimits}
use Rattle.mk_script.specs.Meanings.{Meaning, Limits, Budgets, NamedProgram, NamedPacket, NamedCapture, Home, Does, Receives, Trace, Nothing, Known, Jobs, Counted, Named, known, named, home_from, limits_behind, budgets_in, programs_in, packets_in, captures_in, jobs_in, items_in, items_of, is_traced, jobs_behind}
use Rattle.mk_script.specs.Rows.{before_dot, command_of, event_of}
use Rattle.mk_script.specs.Scripts.{MeanBehind, Stands, script_of}
use Rattle.mk_script.specs.Statements.{Statement, Opened, opened, longer, is_skipped, opens_block, is_end, statements_from, statements}
use Rattle.mk_script.specs.Words.{◌>>=◌, check, whole_number, below, number_below, number_up_to}
use Rattle.line_words.specs.Words.{word_at}
use Rattle.mk_script.proofs.RowLemmas.{cores_few}
use Rattle.mk_script.proofs.WordLemmas.{AllShort, word_short, lines_short}

-- Steps that succeeded

pub record Bound {A B : Type 0} (first : Result A ScriptFaultKind) (then' : A → Result B ScriptFaultKind) (last : B) : Type 0 where
  pub value : A
  pub gave : first ≡ Ok value
  pub next : then' value ≡ Ok last

pub bound : {A B : Type 0} (first : Result A ScriptFaultKind) (then' : A → Result B ScriptFaultKind) (last : B) → (first >>= then') ≡ Ok last → Bound first then' last
bound (Ok x) then' last e = record { value = x; gave = refl; next = e }
bound (Err x) then' last e = absurd (cc)

pub same_ok : {A E : Type 0} (x y : A) → (let this : Result A E = Ok x in let other : Result A E = Ok y in this ≡ other) → x ≡ y
same_ok x y e = cc

pub some_ok : {A E : Type 0} (o : Option A) (fault : E) (x : A) → ok_or o fault ≡ Ok x → o ≡ Some x
some_ok (Some y) fault x e = cc
some_ok None fault x e = absurd (cc)

pub passed : (test : Bool) (fault : ScriptFaultKind) (u : Unit {0}) → check test fault ≡ Ok u → test ≡ true
passed true fault u e = refl
passed false fault u e = absurd (cc)

-- Each element of a list

pub each_append : {X : Type 0} (P : X → Type 0) (xs ys : List X) → AllByRecursion P xs → AllByRecursion P ys → AllByRecursion P (xs ++ ys)
each_append P [] ys all others = others
each_append P (x ∷ xs) ys all others = (all.0, each_append P xs ys all.1 others)

-- one that is found is one of them
found_all : {X : Type 0} (P : X → Type 0) (xs : List X) (n : ℕ) (x : X) → AllByRecursion P xs → slice_get xs n ≡ Some x → P x
found_all P [] n x all e = absurd (cc)
found_all P (y ∷ xs) zero x all e = let same : y ≡ x = cc in subst P same all.0
found_all P (y ∷ xs) (suc n) x all e = found_all P xs n x all.1 e

counted_all : {X : Type 0} (P : X → Type 0) (xs : List X) (number : ℕ) (x : X) → AllByRecursion P xs → counted xs number ≡ Some x → P x
counted_all P xs number x all e = elim (cases_Bool (eqb number 0)) [
  | inl none ↦ let never = rw none at e in absurd (cc)
  | inr some ↦ let there = rw some at e in found_all P xs (number - 1) x all there
]

named_all : {X : Type 0} (P : X → Type 0) (names : List (List ℕ × X)) (name : List ℕ) (x : X) → AllByRecursion (λ d. P d.1) names → named names name ≡ Some x → P x
named_all P [] name x all e = absurd (cc)
named_all P (d ∷ names) name x all e = elim (cases_Bool (bytes_eq name d.0)) [
  | inl here ↦ let is = rw here at e in let same : d.1 ≡ x = cc in subst P same all.0
  | inr further ↦ let rest = rw further at e in named_all P names name x all.1 rest
]

-- Meanings within the limits

abbrev IsShortProgram : List Insn → Type 0
IsShortProgram program = length program ≤ 4096

abbrev IsWithin : Meaning → Type 0
IsWithin (NamedProgram name program) = IsShortProgram program
IsWithin (NamedPacket name packet) = IsShortPacket packet
IsWithin (NamedCapture name packets) = AllByRecursion IsShortPacket packets
IsWithin (Does item) = IsLimited item
IsWithin (Receives events) = AllByRecursion IsTakeOrRx events
IsWithin meaning = Unit {0}

-- homes are below the number of cores, and requests enter below it
abbrev pub EntersIn : ℕ → Meaning → Type 0
EntersIn cores (Home domain core) = core < cores
EntersIn cores (Does item) = EntersBelow cores item
EntersIn cores meaning = Unit {0}

-- budgets are the first, and few; homes and requests are at cores that are there
abbrev IsFirst : Known → Meaning → Type 0
IsFirst k (Budgets budgets) = (length k.budgets ≡ 0) × (length budgets ≤ 64)
IsFirst k meaning = EntersIn (length k.budgets) meaning

-- what is known is within the limits
abbrev AreAll : {X : Type 0} → (X → Type 0) → (List ℕ → Option X) → Type 0
AreAll {X} P names = (name : List ℕ) (x : X) → names name ≡ Some x → P x

record AreShort (k : Known) : Type 0 where
  pub homes : 1 ≤ length k.budgets → (domain : ℕ) → k.home domain < length k.budgets
  pub programs : AreAll IsShortProgram k.programs
  pub packets : AreAll IsShortPacket k.packets
  pub captures : AreAll (AllByRecursion IsShortPacket) k.captures

abbrev AreReceived : Jobs → Type 0
AreReceived (Counted received) = Unit {0}
AreReceived (Named jobs) = AllByRecursion IsTakeOrRx jobs

-- a draft's meaning, where it has it already
abbrev IsDraftWithin : Known → Draft → Type 0
IsDraftWithin k (Whole meaning) = IsWithin meaning × IsFirst k meaning
IsDraftWithin k draft = Unit {0}

-- Requests

pub some_budgets : (k : Known) → has_cores k ≡ true → 1 ≤ length k.budgets
some_budgets k e = grind (arith, nat_tests)

create_short : (words : List (List ℕ)) (op : Op) → create_op words ≡ Ok op → HasShortProgram op
unfolding create_op
create_short words op e =
    let domain = bound (number_below (2 ^ 16) (word_at words 1)) _ op e in
    let endpoint = bound (number_below (2 ^ 16) (word_at words 2)) _ op domain.next in
    subst HasShortProgram (same_ok (Create domain.value endpoint.value) op endpoint.next) cc

mint_short : (words : List (List ℕ)) (op : Op) → mint_op words ≡ Ok op → HasShortProgram op
unfolding mint_op
mint_short words op e =
    let domain = bound (number_below (2 ^ 16) (word_at words 1)) _ op e in
    let cap = bound (number_below (2 ^ 32) (word_at words 2)) _ op domain.next in
    let to = bound (number_below (2 ^ 16) (word_at words 3)) _ op cap.next in
    subst HasShortProgram (same_ok (Mint domain.value cap.value to.value (rights_of (word_at words 4))) op to.next) cc

held_short : (words : List (List ℕ)) (make : ℕ → ℕ → Op) (op : Op) → ((domain id : ℕ) → HasShortProgram (make domain id)) → (held words >>= λ h. Ok (make h.0 h.1)) ≡ Ok op → HasShortProgram op
held_short words make op short e =
    let both = bound (held words) (λ h. Ok (make h.0 h.1)) op e in
    subst HasShortProgram (same_ok (make both.value.0 both.value.1) op both.next) (short both.value.0 both.value.1)

program_short : (k : Known) (words : List (List ℕ)) (make : ℕ → ℕ → List Insn → Op) (op : Op) → AreAll IsShortProgram k.programs
    → ((domain id : ℕ) (program : List Insn) → length program ≤ 4096 → HasShortProgram (make domain id program))
    → (held_program k words >>= λ h. Ok (make h.0 h.1 h.2)) ≡ Ok op → HasShortProgram op
unfolding held_program
program_short k words make op short made e =
    let all = bound (held_program k words) (λ h. Ok (make h.0 h.1 h.2)) op e in
    let both = bound (held words) _ all.value all.gave in
    let program = bound (ok_or (k.programs (word_at words 3)) NoName) _ all.value both.next in
    let is = same_ok (both.value.0, both.value.1, program.value) all.value program.next in
    let few = short (word_at words 3) program.value (some_ok (k.programs (word_at words 3)) NoName program.value program.gave) in
    let same : length program.value ≡ length all.value.2 = ap (λ (h : ℕ × ℕ × List Insn). length h.2) is in
    subst HasShortProgram (same_ok (make all.value.0 all.value.1 all.value.2) op all.next) (made all.value.0 all.value.1 all.value.2 (omega (arith, same, few)))

op_short : (k : Known) (words : List (List ℕ)) (c : Request) (op : Op) → AreAll IsShortProgram k.programs → op_of k words c ≡ Ok op → HasShortProgram op
op_short k words request.Create op short e = create_short words op e
op_short k words request.Mint op short e = mint_short words op e
op_short k words request.Revoke op short e = held_short words (λ d i. Revoke d i) op (λ d i. tt) e
op_short k words request.DropCap op short e = held_short words (λ d i. DropCap d i) op (λ d i. tt) e
op_short k words request.Install op short e = program_short k words (λ d i p. Install d i p) op short (λ d i p few. few) e
op_short k words request.Remove op short e = held_short words (λ d i. Remove d i) op (λ d i. tt) e
op_short k words request.Replace op short e = program_short k words (λ d i p. Replace d i p) op short (λ d i p few. few) e

request_within : (k : Known) (words : List (List ℕ)) (c : Request) (d : Draft) → AreShort k → 1 ≤ length k.budgets → request_draft k words c ≡ Ok d → IsDraftWithin k d
unfolding request_draft
request_within k words c d short some e =
    let op = bound (op_of k words c) _ d e in
    subst (IsDraftWithin k) (same_ok (Whole (Does (item.Ask (k.home (domain_of op.value)) op.value))) d op.next)
    (op_short k words c op.value short.programs op.gave, short.homes some (domain_of op.value))

-- What is done at a core

core_within : (k : Known) (act : ℕ → Item) (words : List (List ℕ)) (d : Draft) → ((core : ℕ) → IsLimited (act core) × EntersBelow (length k.budgets) (act core)) → core_draft act words ≡ Ok d → IsDraftWithin k d
unfolding core_draft
core_within k act words d limited e =
    let core = bound (number_below (2 ^ 16) (word_at words 1)) _ d e in
    subst (IsDraftWithin k) (same_ok (Whole (Does (act core.value))) d core.next) (limited core.value)

take_within : (k : Known) (words : List (List ℕ)) (short : Bool) (d : Draft) → take_draft words short ≡ Ok d → IsDraftWithin k d
unfolding take_draft
take_within k words short d e =
    let to = bound (number_below (2 ^ 16) (word_at words 1)) _ d e in
    let from = bound (number_below (2 ^ 16) (word_at words 2)) _ d to.next in
    subst (IsDraftWithin k) (same_ok (Whole (Does (item.Apply (Take to.value from.value short)))) d from.next) (tt, tt)

and_then_some : {A B : Type 0} (f : A → Option B) (o : Option A) (y : B) → option_and_then f o ≡ Some y → (x : A) × (o ≡ Some x) × (f x ≡ Some y)
and_then_some f None y e = absurd (cc)
and_then_some f (Some x) y e = (x, refl, e)

packet_known : (k : Known) (word : List ℕ) (number : Option ℕ) (packet : CapturedPacket) → AreShort k → packet_of k word number ≡ Some packet → IsShortPacket packet
packet_known k word None packet short e = short.packets word packet e
packet_known k word (Some number) packet short e =
    let found = and_then_some (λ packets. counted packets number) (k.captures (before_dot word)) packet e in
    counted_all IsShortPacket found.0 number packet (short.captures (before_dot word) found.0 found.1) found.2

packet_short : (k : Known) (word : List ℕ) (packet : CapturedPacket) → AreShort k → packet_at k word ≡ Ok packet → IsShortPacket packet
unfolding packet_at
packet_short k word packet short e =
    let number = bound (packet_number word) _ packet e in
    packet_known k word number.value packet short (some_ok (packet_of k word number.value) NoName packet number.next)

rx_within : (s : Settings) (k : Known) (received : ℕ) (words : List (List ℕ)) (d : Draft) → AreShort k → rx_draft s k received words ≡ Ok d → IsDraftWithin k d
unfolding rx_draft
rx_within s k received words d short e =
    let core = bound (number_below (core_limit s k) (word_at words 1)) _ d e in
    let floor = bound (floor_at words 3) _ d core.next in
    let packet = bound (packet_at k (word_at words 2)) _ d floor.next in
    subst (IsDraftWithin k) (same_ok (Whole (Receives (Rx core.value (received + 1) packet.value floor.value ∷ []))) d packet.next)
    ((packet_short k (word_at words 2) packet.value short packet.gave, cc), tt)

replayed_received : (cores received floor place : ℕ) (packets : List CapturedPacket) → AllByRecursion IsShortPacket packets → AllByRecursion IsTakeOrRx (replayed cores received floor place packets)
replayed_received cores received floor place [] all = cc
replayed_received cores received floor place (packet ∷ packets) all = (all.0, replayed_received cores received floor (place + 1) packets all.1)

replay_within : (k : Known) (received : ℕ) (words : List (List ℕ)) (d : Draft) → AreShort k → replay_draft k received words ≡ Ok d → IsDraftWithin k d
unfolding replay_draft
replay_within k received words d short e =
    let floor = bound (floor_at words 2) _ d e in
    let packets = bound (ok_or (k.captures (word_at words 1)) NoName) _ d floor.next in
    let all = short.captures (word_at words 1) packets.value (some_ok (k.captures (word_at words 1)) NoName packets.value packets.gave) in
    subst (IsDraftWithin k) (same_ok (Whole (Receives (replayed (length k.budgets) received floor.value 0 packets.value))) d packets.next)
    (replayed_received (length k.budgets) received floor.value 0 packets.value all, tt)

-- Definitions

pub numbers_length : (limit : ℕ) (words : List (List ℕ)) (numbers : List ℕ) → numbers_below limit words ≡ Ok numbers → length numbers ≡ length words
numbers_length limit [] numbers e = ap length (sym (same_ok [] numbers e))
numbers_length limit (word ∷ words) numbers e =
    let first = bound (number_below limit word) _ numbers e in
    let rest = bound (numbers_below limit words) _ numbers first.next in
    let more = numbers_length limit words rest.value rest.gave in
    let is : length numbers ≡ length (first.value ∷ rest.value) = ap length (sym (same_ok (first.value ∷ rest.value) numbers rest.next)) in
    omega (arith, is, more)

pub no_budgets : (k : Known) → not (has_cores k) ≡ true → length k.budgets ≡ 0
no_budgets k e = grind (arith, nat_tests)

limits_within : (k : Known) (words : List (List ℕ)) (d : Draft) → limits_draft k words ≡ Ok d → IsDraftWithin k d
unfolding limits_draft
limits_within k words d e =
    let caps = bound (number_up_to 65536 (word_at words 1)) _ d e in
    let filters = bound (number_up_to 65536 (word_at words 2)) _ d caps.next in
    let first = bound (check (not (has_limits k)) Twice) _ d filters.next in
    let early = bound (check (not (has_cores k)) AfterCores) _ d first.next in
    subst (IsDraftWithin k) (same_ok (Whole (Limits (limits_of caps.value filters.value))) d early.next) (tt, tt)

cores_within : (s : Settings) (k : Known) (words : List (List ℕ)) (d : Draft) → command_of s.threads words ≡ Some command.Cores → cores_draft k words ≡ Ok d → IsDraftWithin k d
unfolding cores_draft command_of
cores_within s k words d is e =
    let budgets = bound (numbers_below (2 ^ 32) (drop 1 words)) _ d e in
    let first = bound (check (not (has_cores k)) Twice) _ d budgets.next in
    let few = cores_few s.threads words is in
    let long = numbers_length (2 ^ 32) (drop 1 words) budgets.value budgets.gave in
    subst (IsDraftWithin k) (same_ok (Whole (Budgets budgets.value)) d first.next)
    (tt, (no_budgets k (passed (not (has_cores k)) Twice first.value first.gave), omega (arith, few, long, length-drop 1 words)))

asm_within : (k : Known) (words : List (List ℕ)) (block : Option (List ℕ)) (d : Draft) → asm_draft k words block ≡ Ok d → IsDraftWithin k d
unfolding asm_draft
asm_within k words block d e =
    let new = bound (is_new (k.programs (word_at words 1))) _ d e in
    subst (IsDraftWithin k) (same_ok (Assembler (word_at words 1) (unwrap_or block [])) d new.next) tt

ddd_within : (k : Known) (words : List (List ℕ)) (line : List ℕ) (d : Draft) → ddd_draft k words line ≡ Ok d → IsDraftWithin k d
unfolding ddd_draft
ddd_within k words line d e =
    let new = bound (is_new (k.programs (word_at words 1))) _ d e in
    subst (IsDraftWithin k) (same_ok (Decimal (word_at words 1) (behind_word (behind_word line))) d new.next) tt

or_fault_ok : (r : Result (List ℕ) FromHexError) (bytes : List ℕ) → bytes_or_fault r ≡ Ok bytes → r ≡ Ok bytes
or_fault_ok (Ok other) bytes e = cc
or_fault_ok (Err fault) bytes e = absurd (cc)

hex_short : (word bytes : List ℕ) → hex_bytes word ≡ Ok bytes → length bytes ≤ length word
hex_short word bytes e = elim (cases_Bool (bytes_eq word (codes "-"))) [
  | inl none ↦ let empty = rw none at e in let same : [] ≡ bytes = cc in omega (arith, ap length same)
  | inr digits ↦ let decoded = rw digits at e in omega (arith, (decode_of-ok word bytes (or_fault_ok (decode_of word) bytes decoded)).2)
]

packet_within : (k : Known) (words : List (List ℕ)) (d : Draft) → length (word_at words 2) < 2 ^ 32 → packet_draft k words ≡ Ok d → IsDraftWithin k d
unfolding packet_draft
packet_within k words d few e =
    let original = bound (optional_below (2 ^ 32) words 3) _ d e in
    let new = bound (is_new (k.packets (word_at words 1))) _ d original.next in
    let bytes = bound (hex_bytes (word_at words 2)) _ d new.next in
    let short = hex_short (word_at words 2) bytes.value bytes.gave in
    subst (IsDraftWithin k) (same_ok (Whole (NamedPacket (word_at words 1) (record { bytes = bytes.value; original = unwrap_or original.value (length bytes.value) }))) d bytes.next)
    (omega (arith, short, few), tt)

capture_within : (s : Settings) (k : Known) (words : List (List ℕ)) (d : Draft) → capture_draft s k words ≡ Ok d → IsDraftWithin k d
unfolding capture_draft
capture_within s k words d e =
    let number = bound (whole_number (word_at words 2)) _ d e in
    let new = bound (is_new (k.captures (word_at words 1))) _ d number.next in
    let file = bound (ok_or (counted s.files number.value) NoName) _ d new.next in
    subst (IsDraftWithin k) (same_ok (Savefile (word_at words 1) file.value) d file.next) tt

below_some : (limit : ℕ) (o : Option ℕ) (n : ℕ) → below limit o ≡ Some n → n < limit
below_some limit None n e = absurd (cc)
below_some limit (Some v) n e = elim (cases_Bool (nat_lt v limit)) [
  | inl less ↦ let is = rw less at e in let same : v ≡ n = cc in grind (arith, nat_tests)
  | inr more ↦ let never = rw more at e in absurd (cc)
]

pub below_is : (limit : ℕ) (word : List ℕ) (n : ℕ) → number_below limit word ≡ Ok n → n < limit
below_is limit word n e = below_some limit (number_of word) n (some_ok (below limit (number_of word)) BadNumber n e)

home_within : (k : Known) (words : List (List ℕ)) (d : Draft) → home_draft k words ≡ Ok d → IsDraftWithin k d
unfolding home_draft
home_within k words d e =
    let domain = bound (number_below (2 ^ 16) (word_at words 1)) _ d e in
    let core = bound (number_below (length k.budgets) (word_at words 2)) _ d domain.next in
    subst (IsDraftWithin k) (same_ok (Whole (Home domain.value core.value)) d core.next) (tt, below_is (length k.budgets) (word_at words 2) core.value core.gave)

by_within : (s : Settings) (k : Known) (received : ℕ) (words : List (List ℕ)) (line : List ℕ) (block : Option (List ℕ)) (c : Command) (d : Draft) → AreShort k → length (word_at words 2) < 2 ^ 32
    → command_of s.threads words ≡ Some c → (is_early c || has_cores k) ≡ true → draft_by s k received words line block c ≡ Ok d → IsDraftWithin k d
by_within s k received words line block command.Limits d short few is ready e = limits_within k words d e
by_within s k received words line block command.Cores d short few is ready e = cores_within s k words d is e
by_within s k received words line block command.Asm d short few is ready e = asm_within k words block d e
by_within s k received words line block command.Ddd d short few is ready e = ddd_within k words line d e
by_within s k received words line block command.Packet d short few is ready e = packet_within k words d few e
by_within s k received words line block command.Capture d short few is ready e = capture_within s k words d e
by_within s k received words line block command.Home d short few is ready e = home_within k words d e
by_within s k received words line block command.Start d short few is ready e = subst (IsDraftWithin k) (same_ok (Whole (Does item.Begin)) d e) (tt, tt)
by_within s k received words line block command.Submit d short few is ready e = core_within k item.Submit words d (λ core. (tt, tt)) e
by_within s k received words line block command.StartFor d short few is ready e = core_within k item.StartFor words d (λ core. (tt, tt)) e
by_within s k received words line block command.Take d short few is ready e = take_within k words (nat_lt 3 (length words)) d e
by_within s k received words line block command.Rx d short few is ready e = rx_within s k received words d short e
by_within s k received words line block command.Replay d short few is ready e = replay_within k received words d short e
by_within s k received words line block command.Settle d short few is ready e = subst (IsDraftWithin k) (same_ok (Whole (Does item.Settle)) d e) (tt, tt)
by_within s k received words line block command.Show d short few is ready e = core_within k item.Show words d (λ core. (tt, tt)) e
by_within s k received words line block command.Trace d short few is ready e = subst (IsDraftWithin k) (same_ok (Whole Trace) d e) (tt, tt)
by_within s k received words line block (command.Request c) d short few is ready e = request_within k words c d short (some_budgets k ready) e

script_within : (s : Settings) (k : Known) (received : ℕ) (words : List (List ℕ)) (line : List ℕ) (block : Option (List ℕ)) (d : Draft) → AreShort k → length (word_at words 2) < 2 ^ 32
    → script_draft s k received words line block ≡ Ok d → IsDraftWithin k d
unfolding script_draft
script_within s k received words line block d short few e =
    let c = bound (ok_or (command_of s.threads words) BadLine) _ d e in
    let allowed = bound (check (may_stand k words block c.value) BadLine) _ d c.next in
    let ready = bound (check (is_early c.value || has_cores k) NoCores) _ d allowed.next in
    by_within s k received words line block c.value d short few (some_ok (command_of s.threads words) BadLine c.value c.gave) (passed (is_early c.value || has_cores k) NoCores ready.value ready.gave) ready.next

-- Traces

-- a job that is of the core
of_core : (core : ℕ) (found : Option Event) (event : Event) → option_and_then (job_at core) found ≡ Some event → found ≡ Some event
of_core core None event e = absurd (cc)
of_core core (Some job) event e = elim (cases_Bool (is_rx_at core job)) [
  | inl is ↦ rw is at e
  | inr other ↦ let never = rw other at e in absurd (cc)
]

job_within : (k : Known) (jobs : List Event) (words : List (List ℕ)) (d : Draft) → AllByRecursion IsTakeOrRx jobs → job_draft jobs words ≡ Ok d → IsDraftWithin k d
unfolding job_draft
job_within k jobs words d all e =
    let core = bound (number_below (2 ^ 16) (word_at words 1)) _ d e in
    let number = bound (number_below (2 ^ 64) (word_at words 2)) _ d core.next in
    let found = option_and_then (job_at core.value) (counted jobs number.value) in
    let event = bound (ok_or found NoName) _ d number.next in
    let there = of_core core.value (counted jobs number.value) event.value (some_ok found NoName event.value event.gave) in
    subst (IsDraftWithin k) (same_ok (Whole (Does (item.Apply event.value))) d event.next) (counted_all IsTakeOrRx jobs number.value event.value all there, tt)

event_by_within : (k : Known) (jobs : List Event) (words rest : List (List ℕ)) (c : Command) (d : Draft) → AllByRecursion IsTakeOrRx jobs → event_by jobs words rest c ≡ Ok d → IsDraftWithin k d
event_by_within k jobs words rest command.Start d all e = subst (IsDraftWithin k) (same_ok (Whole (Does item.Begin)) d e) (tt, tt)
event_by_within k jobs words rest command.Submit d all e = core_within k item.Submit words d (λ core. (tt, tt)) e
event_by_within k jobs words rest command.StartFor d all e = core_within k item.StartFor words d (λ core. (tt, tt)) e
event_by_within k jobs words rest command.Take d all e = take_within k words (is_short rest) d e
event_by_within k jobs words rest command.Rx d all e = job_within k jobs words d all e
event_by_within k jobs words rest c d all e = absurd (cc)

event_within : (k : Known) (jobs : List Event) (words rest : List (List ℕ)) (d : Draft) → AllByRecursion IsTakeOrRx jobs → event_draft jobs words rest ≡ Ok d → IsDraftWithin k d
unfolding event_draft
event_within k jobs words rest d all e = let c = bound (ok_or (event_of words) BadLine) _ d e in event_by_within k jobs words rest c.value d all c.next

left_within : (k : Known) (line : List ℕ) (d : Draft) → (if is_left (words_of line) then Ok (Whole Nothing) else Err BadLine) ≡ Ok d → IsDraftWithin k d
left_within k line d e = elim (cases_Bool (is_left (words_of line))) [
  | inl is ↦ let nothing = rw is at e in subst (IsDraftWithin k) (same_ok (Whole Nothing) d nothing) (tt, tt)
  | inr other ↦ let never = rw other at e in absurd (cc)
]

trace_within : (k : Known) (jobs : List Event) (line : List ℕ) (d : Draft) → AllByRecursion IsTakeOrRx jobs → trace_draft jobs line ≡ Ok d → IsDraftWithin k d
trace_within k jobs line d all e = elim (cases_Bool (list_any (λ b. eqb b 58) line)) [
  | inl event ↦ let of_event = rw event at e in event_within k jobs (words_of (before_first (λ b. eqb b 58) line)) (words_of (after_first (λ b. eqb b 58) line)) d all of_event
  | inr left ↦ let of_left = rw left at e in left_within k line d of_left
]

in_within : (s : Settings) (k : Known) (jobs : Jobs) (words : List (List ℕ)) (line : List ℕ) (block : Option (List ℕ)) (d : Draft) → AreShort k → length (word_at words 2) < 2 ^ 32 → AreReceived jobs
    → draft_in s k jobs words line block ≡ Ok d → IsDraftWithin k d
in_within s k (Counted received) words line block d short few received' e = script_within s k received words line block d short few e
in_within s k (Named jobs) words line block d short few all e = trace_within k jobs line d all e

-- Meanings

assembled_within : (k : Known) (name text : List ℕ) (m : Meaning) → MeansAssembled name text (Ok m) → IsWithin m × IsFirst k m
assembled_within k name text m (inl x) = let same = sym (same_ok m (NamedProgram name x.0) x.2) in subst (λ (m : Meaning). IsWithin m × IsFirst k m) same ((assembled_formed text x.0 x.1).0, tt)
assembled_within k name text m (inr x) = let never = x.2 in absurd (cc)

decimal_within : (k : Known) (name text : List ℕ) (m : Meaning) → MeansDecimal name text (Ok m) → IsWithin m × IsFirst k m
decimal_within k name text m (inl x) = let same = sym (same_ok m (NamedProgram name x.0) x.2) in subst (λ (m : Meaning). IsWithin m × IsFirst k m) same (x.1.short, tt)
decimal_within k name text m (inr x) = let never = x.2 in absurd (cc)

captured_short : (packets : List CapturedPacket) → AllFew packets → AllByRecursion IsShortPacket packets
captured_short [] few = cc
captured_short (packet ∷ packets) few = (omega (arith, few.0), captured_short packets few.1)

captured_within : (k : Known) (name bytes : List ℕ) (m : Meaning) → MeansCaptured name bytes (Ok m) → IsWithin m × IsFirst k m
captured_within k name bytes m (inl x) = let same = sym (same_ok m (NamedCapture name (found_in x.0)) x.2) in subst (λ (m : Meaning). IsWithin m × IsFirst k m) same (captured_short (found_in x.0) (few_captured bytes x.0 None x.1), tt)
captured_within k name bytes m (inr x) = let never = x.3 in absurd (cc)

means_within : (k : Known) (d : Draft) (m : Meaning) → IsDraftWithin k d → DraftMeans d (Ok m) → IsWithin m × IsFirst k m
means_within k (Whole meaning) m within e = subst (λ (m : Meaning). IsWithin m × IsFirst k m) (sym (same_ok m meaning e)) within
means_within k (Assembler name text) m within means = assembled_within k name text m means
means_within k (Decimal name text) m within means = decimal_within k name text m means
means_within k (Savefile name bytes) m within means = captured_within k name bytes m means

drafted_within : (s : Settings) (k : Known) (st : Statement) (d : Result Draft ScriptFaultKind) (m : Meaning) → AreShort k → length st.line < 2 ^ 32 → AreReceived k.jobs → draft_of s k st ≡ d → DraftedMeans d (Ok m) → IsWithin m × IsFirst k m
drafted_within s k st (Ok d) m short few received e means = means_within k d m (in_within s k k.jobs (words_of st.line) st.line st.block d short (omega (arith, few, word_short st.line 2)) received e) means
drafted_within s k st (Err fault) m short few received e means = absurd (cc)

-- What is known

programs_short : (given : List Meaning) → AllByRecursion IsWithin given → AllByRecursion (λ d. IsShortProgram d.1) (flat_map programs_in given)
programs_short [] all = cc
programs_short (NamedProgram name program ∷ given) all = (all.0, programs_short given all.1)
programs_short (_ ∷ given) all = programs_short given all.1

packets_short : (given : List Meaning) → AllByRecursion IsWithin given → AllByRecursion (λ d. IsShortPacket d.1) (flat_map packets_in given)
packets_short [] all = cc
packets_short (NamedPacket name packet ∷ given) all = (all.0, packets_short given all.1)
packets_short (_ ∷ given) all = packets_short given all.1

captures_short : (given : List Meaning) → AllByRecursion IsWithin given → AllByRecursion (λ d. AllByRecursion IsShortPacket d.1) (flat_map captures_in given)
captures_short [] all = cc
captures_short (NamedCapture name packets ∷ given) all = (all.0, captures_short given all.1)
captures_short (_ ∷ given) all = captures_short given all.1

homes_below : (cores core : ℕ) (given : List Meaning) (domain : ℕ) → core < cores → AllByRecursion (EntersIn cores) given → home_from core given domain < cores
homes_below cores core [] domain less all = less
homes_below cores core (Home d c ∷ given) domain less all = elim (cases_Bool (eqb d domain)) [
  | inl this ↦ rw this (homes_below cores c given domain all.0 all.1)
  | inr other ↦ rw other (homes_below cores core given domain less all.1)
]
homes_below cores core (_ ∷ given) domain less all = homes_below cores core given domain less all.1

known_short : (given : List Meaning) → AllByRecursion IsWithin given → AllByRecursion (EntersIn (length (flat_map budgets_in given))) given → AreShort (known given)
known_short given all enter = record {
  homes = λ some domain. homes_below (length (flat_map budgets_in given)) 0 given domain (omega (arith, some)) enter;
  programs = λ name x e. named_all IsShortProgram (flat_map programs_in given) name x (programs_short given all) e;
  packets = λ name x e. named_all IsShortPacket (flat_map packets_in given) name x (packets_short given all) e;
  captures = λ name x e. named_all (AllByRecursion IsShortPacket) (flat_map captures_in given) name x (captures_short given all) e;
}

jobs_received : (given : List Meaning) → AllByRecursion IsWithin given → AllByRecursion IsTakeOrRx (flat_map jobs_in given)
jobs_received [] all = tt
jobs_received (Receives events ∷ given) all = each_append IsTakeOrRx events (flat_map jobs_in given) all.0 (jobs_received given all.1)
jobs_received (_ ∷ given) all = jobs_received given all.1

behind_received : (given : List Meaning) → AllByRecursion IsWithin given → AreReceived (jobs_behind given)
behind_received given all = elim (cases_Bool (is_traced given)) [
  | inl traced ↦ rw traced (jobs_received given all)
  | inr untraced ↦ rw untraced tt
]

-- What lines do

applied : (events : List Event) → AllByRecursion IsTakeOrRx events → AllByRecursion IsLimited (map (λ e. item.Apply e) events)
applied [] all = tt
applied (event ∷ events) all = (all.0, applied events all.1)

own_limited : (traced : Bool) (m : Meaning) → IsWithin m → AllByRecursion IsLimited (items_in traced m)
own_limited traced (Does done) within = (within, tt)
own_limited true (Receives events) within = tt
own_limited false (Receives events) within = applied events within
own_limited traced _ within = tt

items_limited : (traced : Bool) (given : List Meaning) → AllByRecursion IsWithin given → AllByRecursion IsLimited (flat_map (items_in traced) given)
items_limited traced [] all = tt
items_limited traced (m ∷ given) all = each_append IsLimited (items_in traced m) (flat_map (items_in traced) given) (own_limited traced m all.0) (items_limited traced given all.1)

-- what is received is no request
applied_enters : (cores : ℕ) (events : List Event) → AllByRecursion (EntersBelow cores) (map (λ e. item.Apply e) events)
applied_enters cores [] = tt
applied_enters cores (event ∷ events) = (tt, applied_enters cores events)

own_enters : (cores : ℕ) (traced : Bool) (m : Meaning) → EntersIn cores m → AllByRecursion (EntersBelow cores) (items_in traced m)
own_enters cores traced (Does done) enters = (enters, tt)
own_enters cores true (Receives events) enters = tt
own_enters cores false (Receives events) enters = applied_enters cores events
own_enters cores traced _ enters = tt

items_enter : (cores : ℕ) (traced : Bool) (given : List Meaning) → AllByRecursion (EntersIn cores) given → AllByRecursion (EntersBelow cores) (flat_map (items_in traced) given)
items_enter cores traced [] all = tt
items_enter cores traced (m ∷ given) all = each_append (EntersBelow cores) (items_in traced m) (flat_map (items_in traced) given) (own_enters cores traced m all.0) (items_enter cores traced given all.1)

-- among more cores too
enters_more : (cores more : ℕ) (m : Meaning) → cores ≤ more → EntersIn cores m → EntersIn more m
enters_more cores more (Home domain core) le enters = omega (arith, le, enters)
enters_more cores more (Does (item.Ask core op)) le enters = omega (arith, le, enters)
enters_more cores more _ le enters = tt

enter_more : (cores more : ℕ) (given : List Meaning) → cores ≤ more → AllByRecursion (EntersIn cores) given → AllByRecursion (EntersIn more) given
enter_more cores more [] le all = tt
enter_more cores more (m ∷ given) le all = (enters_more cores more m le all.0, enter_more cores more given le all.1)

-- Lines, one after the other

-- a statement's line is no longer than the text
abbrev AreWithin : ℕ → List Statement → Type 0
AreWithin n sts = AllByRecursion (λ st. length st.line ≤ n) sts

abbrev IsOpenedWithin : ℕ → Option Opened → Type 0
IsOpenedWithin n None = Unit {0}
IsOpenedWithin n (Some o) = length o.line ≤ n

statements_within : (n number : ℕ) (o : Option Opened) (lines : List (List ℕ)) → IsOpenedWithin n o → AllShort n lines → AreWithin n (statements_from number o lines)
statements_within n number None [] own all = cc
statements_within n number (Some o) [] own all = (own, cc)
statements_within n number None (line ∷ lines) own all = elim (cases_Bool (is_skipped (words_of line))) [
  | inl skipped ↦ rw skipped (statements_within n (number + 1) None lines tt all.1)
  | inr stays ↦ elim (cases_Bool (opens_block (words_of line))) [
    | inl opens ↦ rw (stays, opens) (statements_within n (number + 1) (Some (opened number line)) lines all.0 all.1)
    | inr alone ↦ rw (stays, alone) (all.0, statements_within n (number + 1) None lines tt all.1)
  ]
]
statements_within n number (Some o) (line ∷ lines) own all = elim (cases_Bool (is_end (words_of line))) [
  | inl ends ↦ rw ends (own, statements_within n (number + 1) None lines tt all.1)
  | inr goes ↦ rw goes (statements_within n (number + 1) (Some (longer o line)) lines own all.1)
]

pub record Kept (given : List Meaning) : Type 0 where
  pub each : AllByRecursion IsWithin given
  pub few : length (flat_map budgets_in given) ≤ 64
  pub enter : AllByRecursion (EntersIn (length (flat_map budgets_in given))) given

budgets_few : (given : List Meaning) (m : Meaning) → length (flat_map budgets_in given) ≤ 64 → IsFirst (known given) m → length (flat_map budgets_in given ++ budgets_in m) ≤ 64
budgets_few given (Budgets budgets) few first = omega (arith, first.0, first.1, length-append (flat_map budgets_in given) budgets)
budgets_few given _ few first = omega (arith, few, length-append (flat_map budgets_in given) [])

first_enters : (given : List Meaning) (m : Meaning) → IsFirst (known given) m → EntersIn (length (flat_map budgets_in given)) m
first_enters given (Budgets budgets) first = tt
first_enters given m first = first

kept_more : (given : List Meaning) (m : Meaning) → Kept given → IsWithin m × IsFirst (known given) m → Kept (given ++ m ∷ [])
kept_more given m kept both =
    let before = flat_map budgets_in given in
    let pushed = flat_map-append budgets_in given (m ∷ []) ∙ ap (λ l. before ++ l) (append-nil (budgets_in m)) in
    let more : length before ≤ length (flat_map budgets_in (given ++ m ∷ [])) = omega (arith, ap length pushed, length-append before (budgets_in m)) in
    let cores = length (flat_map budgets_in (given ++ m ∷ [])) in
    record {
      each = each_append IsWithin given (m ∷ []) kept.each (both.0, tt);
      few = subst (λ (l : List ℕ). length l ≤ 64) (sym pushed) (budgets_few given m kept.few both.1);
      enter = each_append (EntersIn cores) given (m ∷ []) (enter_more (length before) cores given more kept.enter) (enters_more (length before) cores m more (first_enters given m both.1), tt);
    }

behind_kept : (s : Settings) (n : ℕ) (given : List Meaning) (sts : List Statement) (meanings : List Meaning) → n < 2 ^ 32 → AreWithin n sts → Kept given → MeanBehind s given sts (Ok meanings) → Kept meanings
behind_kept s n given [] meanings few within kept e = subst Kept (sym (same_ok meanings given e)) kept
behind_kept s n given (st ∷ sts) meanings few within kept (inl x) =
    let means = drafted_within s (known given) st (draft_of s (known given) st) x.0 (known_short given kept.each kept.enter) (omega (arith, few, within.0)) (behind_received given kept.each) refl x.1 in
    behind_kept s n (given ++ x.0 ∷ []) sts meanings few within.1 (kept_more given x.0 kept means) x.2
behind_kept s n given (st ∷ sts) meanings few within kept (inr x) = let never = x.2 in absurd (cc)

script_limited : (given : List Meaning) (script : Script) → Kept given → Ok script ≡ script_of (Ok given) → HasLimits script
script_limited given script kept e = elim (cases_Bool (has_cores (known given))) [
  | inl some ↦
      let is = rw some at e in
      let made : Script = record { limits = unwrap_or (limits_behind given) default_limits; budgets = flat_map budgets_in given; items = items_of given } in
      let same : made ≡ script = sym (same_ok script made is) in
      subst HasLimits same (record {
        some = some_budgets (known given) some;
        few = kept.few;
        items = All-from_recursion IsLimited (items_of given) (items_limited (is_traced given) given kept.each);
        homes = let cores = length (flat_map budgets_in given) in All-from_recursion (EntersBelow cores) (items_of given) (items_enter cores (is_traced given) given kept.enter);
      })
  | inr none ↦ let never = rw none at e in absurd (cc)
]

pub kept_meanings : (s : Settings) (text : List ℕ) (given : List Meaning) → length text < 2 ^ 32 → MeanBehind s [] (statements text) (Ok given) → Kept given
kept_meanings s text given few means =
    let within = statements_within (length text) 1 None (text_lines text) tt (lines_short text) in
    behind_kept s (length text) [] (statements text) given few within (record { each = cc; few = omega arith; enter = cc }) means

by_meanings : (s : Settings) (text : List ℕ) (meanings : Result (List Meaning) ScriptFault) (script : Script) → length text < 2 ^ 32
    → MeanBehind s [] (statements text) meanings → Ok script ≡ script_of meanings → HasLimits script
by_meanings s text (Ok given) script few means e = script_limited given script (kept_meanings s text given few means) e
by_meanings s text (Err fault) script few means e = absurd (cc)

stands_limited : (s : Settings) (text : List ℕ) (script : Script) → length text < 2 ^ 32 → Stands s text (Ok script) → HasLimits script
stands_limited s text script few stands = by_meanings s text stands.0 script few stands.1 stands.2

pub limits_from : (s : Settings) (text : List ℕ) (r : Result Script ScriptFault) → length text < 2 ^ 32 → IfOk r (λ p. Stands s text (Ok p)) → IfOk r HasLimits
limits_from s text (Ok script) few found = stands_limited s text script few found
limits_from s text (Err fault) few found = tt
