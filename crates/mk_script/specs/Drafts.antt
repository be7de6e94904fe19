-- What a statement asks for by its words and by what is known, or its first fault: BadLine, NoCores, BadNumber, Twice,
-- AfterCores, NoName, BadBody, in this order. The bodies of programs and captures are left to be read.
use Rattle.std.specs.Prelude.{ℕ, ◌+◌, ◌-◌, ◌%◌, ◌^◌, ◌==◌, ◌&&◌, ◌||◌, not, nat_le, nat_lt, if◌then◌else◌, Bool, true, false, List, [], ◌∷◌, length, drop, codes, Option, Some, None, is_some, option_and_then, unwrap_or, slice_get, Result, Ok, Err}
use Rattle.std.specs.Option.{ok_or}
use Rattle.std.specs.List.{position_or_len, before_first, after_first, list_any}
use Rattle.std.specs.Str.{bytes_eq}
use Rattle.hex.specs.Hex.{decode_of}
use Rattle.hex.specs.declared.error.FromHexError.{FromHexError}
use Rattle.bpf_insn.specs.Texts.{is_blank, words_of, number_of}
use Rattle.bpf_insn.specs.declared.insn.Insn.{Insn}
use Rattle.endpoint_caps.specs.declared.Rights.{Rights}
use Rattle.endpoint_caps.specs.declared.Rights.TheVariants.{R, M, Rm}
use Rattle.pcap_reader.specs.declared.capture.CapturedPacket.{CapturedPacket}
use Rattle.filter_table.specs.Limits.{TableLimits}
use Rattle.filter_table.specs.declared.operation.Op.{Op}
use Rattle.filter_table.specs.declared.operation.Op.TheVariants.{Create, Mint, Revoke, DropCap, Install, Remove, Replace}
use Rattle.world_events.specs.declared.event.Event.{Event}
use Rattle.world_events.specs.declared.event.Event.TheVariants.{Take, Rx}
use Rattle.mk_script.specs.declared.script.Item.{Item}
use Rattle.mk_script.specs.declared.script.Item.TheVariants as item
use Rattle.mk_script.specs.declared.rows.Command.{Command}
use Rattle.mk_script.specs.declared.rows.Command.TheVariants as command
use Rattle.mk_script.specs.declared.rows.Request.{Request}
use Rattle.mk_script.specs.declared.rows.Request.TheVariants as request
use Rattle.mk_script.specs.declared.fault.BodyFault.TheVariants.{Hex}
use Rattle.mk_script.specs.declared.fault.ScriptFaultKind.{ScriptFaultKind}
use Rattle.mk_script.specs.declared.fault.ScriptFaultKind.TheVariants.{BadLine, NoCores, Twice, AfterCores, NoName, BadBody}
use Rattle.mk_script.specs.Words.{◌>>=◌, check, whole_number, number_below, number_up_to}
use Rattle.line_words.specs.Words.{word_at}
use Rattle.mk_script.specs.Rows.{command_of, event_of, before_dot}
use Rattle.mk_script.specs.Statements.{Statement}
use Rattle.mk_script.specs.Meanings.{Meaning, Limits, Budgets, NamedPacket, Home, Does, Receives, Trace, Nothing, Known, Jobs, Counted, Named}

-- how a script is read: the bytes of the files, and whether it is for threads
pub record Settings : Type 0 where
  pub files : List (List ℕ)
  pub threads : Bool

-- a meaning, or a name with the text of its program or the bytes of its capture
pub data Draft : Type 0 where
  Whole : Meaning → Draft
  Assembler : List ℕ → List ℕ → Draft
  Decimal : List ℕ → List ℕ → Draft
  Savefile : List ℕ → List ℕ → Draft

-- budgets: the numbers of words
abbrev pub numbers_below : ℕ → List (List ℕ) → Result (List ℕ) ScriptFaultKind
numbers_below limit [] = Ok []
numbers_below limit (word ∷ words) = do
  number ← number_below limit word
  numbers ← numbers_below limit words
  Ok (number ∷ numbers)

abbrev pub has_cores : Known → Bool
has_cores k = not (length k.budgets == 0)

abbrev pub has_limits : Known → Bool
has_limits k = is_some k.limits

-- a name isn't taken
abbrev pub is_new : {X : Type 0} → Option X → Result (Unit {0}) ScriptFaultKind
is_new found = check (not (is_some found)) Twice

-- the limits of a machine with so many capabilities and filters: one domain may have all of them
abbrev pub limits_of : ℕ → ℕ → TableLimits
limits_of caps filters = record { caps = record { total = caps; share = caps }; filters = filters; domain_filters = filters; domain_insns = 4294967295 }

unfoldable pub limits_draft : Known → List (List ℕ) → Result Draft ScriptFaultKind
limits_draft k words = do
  caps ← number_up_to 65536 (word_at words 1)
  filters ← number_up_to 65536 (word_at words 2)
  first ← check (not (has_limits k)) Twice
  early ← check (not (has_cores k)) AfterCores
  Ok (Whole (Limits (limits_of caps filters)))

unfoldable pub cores_draft : Known → List (List ℕ) → Result Draft ScriptFaultKind
cores_draft k words = do
  budgets ← numbers_below (2 ^ 32) (drop 1 words)
  first ← check (not (has_cores k)) Twice
  Ok (Whole (Budgets budgets))

-- what stands after a word and its blanks
abbrev pub behind_word : List ℕ → List ℕ
behind_word bytes = let word = drop (position_or_len (λ b. not (is_blank b)) bytes) bytes in drop (position_or_len is_blank word) word

unfoldable pub asm_draft : Known → List (List ℕ) → Option (List ℕ) → Result Draft ScriptFaultKind
asm_draft k words block = do
  new ← is_new (k.programs (word_at words 1))
  Ok (Assembler (word_at words 1) (unwrap_or block []))

unfoldable pub ddd_draft : Known → List (List ℕ) → List ℕ → Result Draft ScriptFaultKind
ddd_draft k words line = do
  new ← is_new (k.programs (word_at words 1))
  Ok (Decimal (word_at words 1) (behind_word (behind_word line)))

-- the number of an optional word, or another
abbrev pub optional_below : ℕ → List (List ℕ) → ℕ → Result (Option ℕ) ScriptFaultKind
optional_below limit words place =
    if nat_lt place (length words) then (number_below limit (word_at words place) >>= λ n. Ok (Some n)) else Ok None

-- hexadecimal digits of either case, two for each byte, or `-` for no bytes
abbrev pub bytes_or_fault : Result (List ℕ) FromHexError → Result (List ℕ) ScriptFaultKind
bytes_or_fault (Ok bytes) = Ok bytes
bytes_or_fault (Err e) = Err (BadBody Hex)

abbrev pub hex_bytes : List ℕ → Result (List ℕ) ScriptFaultKind
hex_bytes word = if bytes_eq word (codes "-") then Ok [] else bytes_or_fault (decode_of word)

unfoldable pub packet_draft : Known → List (List ℕ) → Result Draft ScriptFaultKind
packet_draft k words = do
  original ← optional_below (2 ^ 32) words 3
  new ← is_new (k.packets (word_at words 1))
  bytes ← hex_bytes (word_at words 2)
  Ok (Whole (NamedPacket (word_at words 1) (record { bytes = bytes; original = unwrap_or original (length bytes) })))

-- the element at a place that is counted from 1
abbrev pub counted : {X : Type 0} → List X → ℕ → Option X
counted xs number = if number == 0 then None else slice_get xs (number - 1)

unfoldable pub capture_draft : Settings → Known → List (List ℕ) → Result Draft ScriptFaultKind
capture_draft s k words = do
  number ← whole_number (word_at words 2)
  new ← is_new (k.captures (word_at words 1))
  file ← ok_or (counted s.files number) NoName
  Ok (Savefile (word_at words 1) file)

unfoldable pub home_draft : Known → List (List ℕ) → Result Draft ScriptFaultKind
home_draft k words = do
  domain ← number_below (2 ^ 16) (word_at words 1)
  core ← number_below (length k.budgets) (word_at words 2)
  Ok (Whole (Home domain core))

abbrev pub rights_of : List ℕ → Rights
rights_of word = if bytes_eq word (codes "r") then R else if bytes_eq word (codes "m") then M else Rm

unfoldable pub create_op : List (List ℕ) → Result Op ScriptFaultKind
create_op words = do
  domain ← number_below (2 ^ 16) (word_at words 1)
  endpoint ← number_below (2 ^ 16) (word_at words 2)
  Ok (Create domain endpoint)

unfoldable pub mint_op : List (List ℕ) → Result Op ScriptFaultKind
mint_op words = do
  domain ← number_below (2 ^ 16) (word_at words 1)
  cap ← number_below (2 ^ 32) (word_at words 2)
  to ← number_below (2 ^ 16) (word_at words 3)
  Ok (Mint domain cap to (rights_of (word_at words 4)))

-- a domain, and a capability or a filter
unfoldable pub held : List (List ℕ) → Result (ℕ × ℕ) ScriptFaultKind
held words = do
  domain ← number_below (2 ^ 16) (word_at words 1)
  id ← number_below (2 ^ 32) (word_at words 2)
  Ok (domain, id)

-- and a program by its name
unfoldable pub held_program : Known → List (List ℕ) → Result (ℕ × ℕ × List Insn) ScriptFaultKind
held_program k words = do
  both ← held words
  program ← ok_or (k.programs (word_at words 3)) NoName
  Ok (both.0, both.1, program)

-- the operation that a request asks for
abbrev pub op_of : Known → List (List ℕ) → Request → Result Op ScriptFaultKind
op_of k words request.Create = create_op words
op_of k words request.Mint = mint_op words
op_of k words request.Revoke = held words >>= λ h. Ok (Revoke h.0 h.1)
op_of k words request.DropCap = held words >>= λ h. Ok (DropCap h.0 h.1)
op_of k words request.Install = held_program k words >>= λ h. Ok (Install h.0 h.1 h.2)
op_of k words request.Remove = held words >>= λ h. Ok (Remove h.0 h.1)
op_of k words request.Replace = held_program k words >>= λ h. Ok (Replace h.0 h.1 h.2)

abbrev pub domain_of : Op → ℕ
domain_of (Create domain endpoint) = domain
domain_of (Mint domain cap to rights) = domain
domain_of (Revoke domain cap) = domain
domain_of (DropCap domain cap) = domain
domain_of (Install domain cap program) = domain
domain_of (Remove domain filter) = domain
domain_of (Replace domain filter program) = domain

-- a request with the core at which it enters
unfoldable pub request_draft : Known → List (List ℕ) → Request → Result Draft ScriptFaultKind
request_draft k words request = do
  op ← op_of k words request
  Ok (Whole (Does (item.Ask (k.home (domain_of op)) op)))

-- something that is done at a core
unfoldable pub core_draft : (ℕ → Item) → List (List ℕ) → Result Draft ScriptFaultKind
core_draft act words = do
  core ← number_below (2 ^ 16) (word_at words 1)
  Ok (Whole (Does (act core)))

unfoldable pub take_draft : List (List ℕ) → Bool → Result Draft ScriptFaultKind
take_draft words short = do
  to ← number_below (2 ^ 16) (word_at words 1)
  from ← number_below (2 ^ 16) (word_at words 2)
  Ok (Whole (Does (item.Apply (Take to from short))))

-- a core, which is one of the script's where it is for threads
abbrev pub core_limit : Settings → Known → ℕ
core_limit s k = if s.threads then length k.budgets else 2 ^ 16

-- the packet number of `C.I`
abbrev pub is_dotted : List ℕ → Bool
is_dotted word = list_any (λ b. b == 46) word

abbrev pub packet_number : List ℕ → Result (Option ℕ) ScriptFaultKind
packet_number word = if is_dotted word then (whole_number (after_first (λ b. b == 46) word) >>= λ n. Ok (Some n)) else Ok None

-- the packet of a name, or of a capture by its number
abbrev pub packet_of : Known → List ℕ → Option ℕ → Option CapturedPacket
packet_of k word None = k.packets word
packet_of k word (Some number) = option_and_then (λ packets. counted packets number) (k.captures (before_dot word))

unfoldable pub packet_at : Known → List ℕ → Result CapturedPacket ScriptFaultKind
packet_at k word = do
  number ← packet_number word
  ok_or (packet_of k word number) NoName

-- the floor of receptions, or 0
abbrev pub floor_at : List (List ℕ) → ℕ → Result ℕ ScriptFaultKind
floor_at words place = optional_below (2 ^ 64) words place >>= λ floor. Ok (unwrap_or floor 0)

unfoldable pub rx_draft : Settings → Known → ℕ → List (List ℕ) → Result Draft ScriptFaultKind
rx_draft s k received words = do
  core ← number_below (core_limit s k) (word_at words 1)
  floor ← floor_at words 3
  packet ← packet_at k (word_at words 2)
  Ok (Whole (Receives (Rx core (received + 1) packet floor ∷ [])))

-- the packets from a place on, each received at the core of its place
abbrev pub replayed : ℕ → ℕ → ℕ → ℕ → List CapturedPacket → List Event
replayed cores received floor place [] = []
replayed cores received floor place (packet ∷ packets) = Rx (place % cores) (received + place + 1) packet floor ∷ replayed cores received floor (place + 1) packets

unfoldable pub replay_draft : Known → ℕ → List (List ℕ) → Result Draft ScriptFaultKind
replay_draft k received words = do
  floor ← floor_at words 2
  packets ← ok_or (k.captures (word_at words 1)) NoName
  Ok (Whole (Receives (replayed (length k.budgets) received floor 0 packets)))

abbrev pub draft_by : Settings → Known → ℕ → List (List ℕ) → List ℕ → Option (List ℕ) → Command → Result Draft ScriptFaultKind
draft_by s k received words line block command.Limits = limits_draft k words
draft_by s k received words line block command.Cores = cores_draft k words
draft_by s k received words line block command.Asm = asm_draft k words block
draft_by s k received words line block command.Ddd = ddd_draft k words line
draft_by s k received words line block command.Packet = packet_draft k words
draft_by s k received words line block command.Capture = capture_draft s k words
draft_by s k received words line block command.Home = home_draft k words
draft_by s k received words line block (command.Request request) = request_draft k words request
draft_by s k received words line block command.Start = Ok (Whole (Does item.Begin))
draft_by s k received words line block command.Submit = core_draft item.Submit words
draft_by s k received words line block command.StartFor = core_draft item.StartFor words
draft_by s k received words line block command.Take = take_draft words (nat_lt 3 (length words))
draft_by s k received words line block command.Rx = rx_draft s k received words
draft_by s k received words line block command.Replay = replay_draft k received words
draft_by s k received words line block command.Settle = Ok (Whole (Does item.Settle))
draft_by s k received words line block command.Show = core_draft item.Show words
draft_by s k received words line block command.Trace = Ok (Whole Trace)

-- how many cores there may be: more where a line gives the limits of the machine
abbrev pub most_cores : Known → ℕ
most_cores k = if has_limits k then 64 else 8

-- `cores` has no more budgets than there may be cores, an `asm` block has an end, and nothing stood before `trace` that only a
-- simulation does
abbrev pub may_stand : Known → List (List ℕ) → Option (List ℕ) → Command → Bool
may_stand k words block command.Cores = nat_le (length words) (most_cores k + 1)
may_stand k words block command.Asm = is_some block
may_stand k words block command.Trace = not k.acted
may_stand k words block _ = true

-- these stand before `cores`, or are it
abbrev pub is_early : Command → Bool
is_early command.Limits = true
is_early command.Cores = true
is_early _ = false

unfoldable pub script_draft : Settings → Known → ℕ → List (List ℕ) → List ℕ → Option (List ℕ) → Result Draft ScriptFaultKind
script_draft s k received words line block = do
  command ← ok_or (command_of s.threads words) BadLine
  allowed ← check (may_stand k words block command) BadLine
  ready ← check (is_early command || has_cores k) NoCores
  draft_by s k received words line block command

-- a number of any length
abbrev pub is_number : List ℕ → Bool
is_number word = is_some (number_of word)

abbrev pub is_left : List (List ℕ) → Bool
is_left (word ∷ core ∷ number ∷ []) = bytes_eq word (codes "left") && (is_number core && is_number number)
is_left _ = false

-- a vote NoMemory: what stands after the colon begins with `prepare` and ends with `NoMemory`
abbrev pub is_short : List (List ℕ) → Bool
is_short words = bytes_eq (word_at words 0) (codes "prepare") && bytes_eq (word_at words (length words - 1)) (codes "NoMemory")

-- whether an event is a reception at the core
abbrev pub is_rx_at : ℕ → Event → Bool
is_rx_at core (Rx c number packet floor) = c == core
is_rx_at core _ = false

abbrev pub job_at : ℕ → Event → Option Event
job_at core event = if is_rx_at core event then Some event else None

unfoldable pub job_draft : List Event → List (List ℕ) → Result Draft ScriptFaultKind
job_draft jobs words = do
  core ← number_below (2 ^ 16) (word_at words 1)
  number ← number_below (2 ^ 64) (word_at words 2)
  event ← ok_or (option_and_then (job_at core) (counted jobs number)) NoName
  Ok (Whole (Does (item.Apply event)))

abbrev pub event_by : List Event → List (List ℕ) → List (List ℕ) → Command → Result Draft ScriptFaultKind
event_by jobs words rest command.Start = Ok (Whole (Does item.Begin))
event_by jobs words rest command.Submit = core_draft item.Submit words
event_by jobs words rest command.StartFor = core_draft item.StartFor words
event_by jobs words rest command.Take = take_draft words (is_short rest)
event_by jobs words rest command.Rx = job_draft jobs words
event_by jobs words rest _ = Err BadLine

unfoldable pub event_draft : List Event → List (List ℕ) → List (List ℕ) → Result Draft ScriptFaultKind
event_draft jobs words rest = do
  command ← ok_or (event_of words) BadLine
  event_by jobs words rest command

-- a line of a trace: an event by the words before its colon, or what `left C N` tells
abbrev pub trace_draft : List Event → List ℕ → Result Draft ScriptFaultKind
trace_draft jobs line =
    if list_any (λ b. b == 58) line
    then event_draft jobs (words_of (before_first (λ b. b == 58) line)) (words_of (after_first (λ b. b == 58) line))
    else if is_left (words_of line) then Ok (Whole Nothing) else Err BadLine

abbrev pub draft_in : Settings → Known → Jobs → List (List ℕ) → List ℕ → Option (List ℕ) → Result Draft ScriptFaultKind
draft_in s k (Counted received) words line block = script_draft s k received words line block
draft_in s k (Named jobs) words line block = trace_draft jobs line

abbrev pub draft_of : Settings → Known → Statement → Result Draft ScriptFaultKind
draft_of s k st = draft_in s k k.jobs (words_of st.line) st.line st.block
