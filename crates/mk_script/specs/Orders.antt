-- Which faults a statement has, each looked at by itself, and the order in which they are told. `Drafts` and `Bodies` go on
-- until something is wrong; here no fault hides another. What a command has to meet is a table by commands: the words that
-- are numbers, what it makes, what it uses, and the body that it brings.
use Rattle.std.specs.Prelude.{◌≡◌, ℕ, ◌≤◌, ◌^◌, ◌||◌, not, nat_lt, if◌then◌else◌, Bool, true, false, List, [], ◌∷◌, ◌++◌, length, drop, map, codes, ◌==◌, Option, Some, None, is_some, is_ok, option_and_then, unwrap_or, Result, Ok, Err}
use Rattle.std.specs.List.{list_all, list_any, before_first, after_first}
use Rattle.std.specs.Str.{bytes_eq}
use Rattle.hex.specs.Hex.{decode_of}
use Rattle.bpf_insn.specs.Ddd.{Faults}
use Rattle.bpf_insn.specs.Texts.{words_of, number_of}
use Rattle.filter_asm.specs.Program.{Assembles}
use Rattle.filter_asm.specs.Faults.{fault_of}
use Rattle.capture_reader.specs.Entries.{EntryBytes}
use Rattle.capture_reader.specs.Captures.{HasEntries}
use Rattle.world_events.specs.declared.event.Event.{Event}
use Rattle.mk_script.specs.declared.fault.BodyFault.{BodyFault}
use Rattle.mk_script.specs.declared.fault.BodyFault.TheVariants as fault
use Rattle.mk_script.specs.declared.fault.ScriptFaultKind.{ScriptFaultKind}
use Rattle.mk_script.specs.declared.fault.ScriptFaultKind.TheVariants.{BadLine, NoCores, BadNumber, Twice, AfterCores, NoName, BadBody, NoMemory}
use Rattle.mk_script.specs.declared.rows.Command.{Command}
use Rattle.mk_script.specs.declared.rows.Command.TheVariants as command
use Rattle.mk_script.specs.declared.rows.Request.{Request}
use Rattle.mk_script.specs.declared.rows.Request.TheVariants as request
use Rattle.mk_script.specs.Words.{below, up_to}
use Rattle.line_words.specs.Words.{word_at}
use Rattle.mk_script.specs.Rows.{command_of, event_of}
use Rattle.mk_script.specs.Statements.{Statement}
use Rattle.mk_script.specs.Meanings.{Meaning, Known, Jobs, Counted, Named}
use Rattle.mk_script.specs.Drafts.{Settings, has_cores, has_limits, is_early, may_stand, core_limit, is_dotted, packet_of, counted, job_at, is_left, behind_word}

-- the order in which faults are told
abbrev pub rank : ScriptFaultKind → ℕ
rank BadLine = 0
rank NoCores = 1
rank BadNumber = 2
rank Twice = 3
rank AfterCores = 4
rank NoName = 5
rank (BadBody fault) = 6
rank NoMemory = 7

-- a word that is to be a number below a limit, one from 1 to the most, or one of any size
pub data Number : Type 0 where
  Below : ℕ → List ℕ → Number
  UpTo : ℕ → List ℕ → Number
  AnySize : List ℕ → Number

abbrev pub is_good : Number → Bool
is_good (Below limit word) = is_some (below limit (number_of word))
is_good (UpTo most word) = is_some (up_to most (number_of word))
is_good (AnySize word) = is_some (number_of word)

abbrev pub number16 : List (List ℕ) → ℕ → Number
number16 words place = Below (2 ^ 16) (word_at words place)

abbrev pub number32 : List (List ℕ) → ℕ → Number
number32 words place = Below (2 ^ 32) (word_at words place)

-- of the word at a place, where there is one
abbrev pub optional : ℕ → List (List ℕ) → ℕ → List Number
optional limit words place = if nat_lt place (length words) then Below limit (word_at words place) ∷ [] else []

-- what stands after the `.` of `C.I`
abbrev pub behind_dot : List ℕ → List ℕ
behind_dot word = after_first (λ b. b == 46) word

abbrev pub packet_numbers : List ℕ → List Number
packet_numbers word = if is_dotted word then AnySize (behind_dot word) ∷ [] else []

-- the words of a request that are to be numbers: most name a domain, and a capability or a filter
abbrev pub request_numbers : List (List ℕ) → Request → List Number
request_numbers words request.Create = number16 words 1 ∷ number16 words 2 ∷ []
request_numbers words request.Mint = number16 words 1 ∷ number32 words 2 ∷ number16 words 3 ∷ []
request_numbers words _ = number16 words 1 ∷ number32 words 2 ∷ []

-- the words of a command that are to be numbers
abbrev pub numbers : Settings → Known → List (List ℕ) → Command → List Number
numbers s k words command.Limits = UpTo 65536 (word_at words 1) ∷ UpTo 65536 (word_at words 2) ∷ []
numbers s k words command.Cores = map (λ word. Below (2 ^ 32) word) (drop 1 words)
numbers s k words command.Packet = optional (2 ^ 32) words 3
numbers s k words command.Capture = AnySize (word_at words 2) ∷ []
numbers s k words command.Home = number16 words 1 ∷ Below (length k.budgets) (word_at words 2) ∷ []
numbers s k words (command.Request asked) = request_numbers words asked
numbers s k words command.Submit = number16 words 1 ∷ []
numbers s k words command.StartFor = number16 words 1 ∷ []
numbers s k words command.Take = number16 words 1 ∷ number16 words 2 ∷ []
numbers s k words command.Rx = Below (core_limit s k) (word_at words 1) ∷ optional (2 ^ 64) words 3 ++ packet_numbers (word_at words 2)
numbers s k words command.Replay = optional (2 ^ 64) words 2
numbers s k words command.Show = number16 words 1 ∷ []
numbers s k words _ = []

-- whether what a command makes is there already
abbrev pub is_taken : Known → List (List ℕ) → Command → Bool
is_taken k words command.Limits = has_limits k
is_taken k words command.Cores = has_cores k
is_taken k words command.Asm = is_some (k.programs (word_at words 1))
is_taken k words command.Ddd = is_some (k.programs (word_at words 1))
is_taken k words command.Packet = is_some (k.packets (word_at words 1))
is_taken k words command.Capture = is_some (k.captures (word_at words 1))
is_taken k words _ = false

-- whether `cores` stands before a command that it is to follow
abbrev pub is_late : Known → Command → Bool
is_late k command.Limits = has_cores k
is_late k _ = false

-- whether there is nothing of this name
abbrev pub lacks : {X : Type 0} → Option X → Bool
lacks found = not (is_some found)

-- whether there is nothing of this number; where it can't be read, nothing is asked for
abbrev pub lacks_number : {X : Type 0} → (ℕ → Option X) → Option ℕ → Bool
lacks_number found None = false
lacks_number found (Some number) = lacks (found number)

abbrev pub lacks_packet : Known → List ℕ → Bool
lacks_packet k word = if is_dotted word then lacks_number (λ n. packet_of k word (Some n)) (number_of (behind_dot word)) else lacks (packet_of k word None)

-- whether something that a command uses isn't there
abbrev pub is_missing : Settings → Known → List (List ℕ) → Command → Bool
is_missing s k words command.Capture = lacks_number (counted s.files) (number_of (word_at words 2))
is_missing s k words (command.Request request.Install) = lacks (k.programs (word_at words 3))
is_missing s k words (command.Request request.Replace) = lacks (k.programs (word_at words 3))
is_missing s k words command.Rx = lacks_packet k (word_at words 2)
is_missing s k words command.Replay = lacks (k.captures (word_at words 1))
is_missing s k words _ = false

-- a body that is to be read: hexadecimal digits, the lines of an `asm` block, a decimal text, or a capture's file
pub data Body : Type 0 where
  NoBody : Body
  Digits : List ℕ → Body
  Block : List ℕ → Body
  Decimals : List ℕ → Body
  File : List ℕ → Body

-- the file of a number, where it can be read and there is one
abbrev pub file_body : Option (List ℕ) → Body
file_body None = NoBody
file_body (Some bytes) = File bytes

-- the body that a command brings
abbrev pub body_of : Settings → List (List ℕ) → Statement → Command → Body
body_of s words st command.Packet = Digits (word_at words 2)
body_of s words st command.Asm = Block (unwrap_or st.block [])
body_of s words st command.Ddd = Decimals (behind_word (behind_word st.line))
body_of s words st command.Capture = file_body (option_and_then (counted s.files) (number_of (word_at words 2)))
body_of s words st _ = NoBody

abbrev pub is_hex : List ℕ → Bool
is_hex word = bytes_eq word (codes "-") || is_ok (decode_of word)

abbrev pub HasBadBody : Body → BodyFault → Type 0
HasBadBody (Digits word) fault.Hex = is_hex word ≡ false
HasBadBody (Block text) (fault.Asm why) = Assembles text (Err (fault_of why))
HasBadBody (Decimals text) (fault.Ddd why) = Faults text why
HasBadBody (File bytes) (fault.Capture why) = (entries : List EntryBytes) × HasEntries bytes entries (Some why)
HasBadBody body why = ⊥

-- what is asked of a line
pub record Demands : Type 0 where
  -- its words are a command or an event, which may stand here
  pub is_line : Bool
  -- it is `limits` or `cores`, or stands after `cores`
  pub is_ready : Bool
  pub numbers : List Number
  pub is_taken : Bool
  -- it stands after `cores`, and has to stand before
  pub is_late : Bool
  pub is_missing : Bool
  pub body : Body

-- a line of which nothing is asked but to be one
abbrev pub line_alone : Bool → Demands
line_alone is_line = record { is_line = is_line; is_ready = true; numbers = []; is_taken = false; is_late = false; is_missing = false; body = NoBody }

abbrev pub command_demands : Settings → Known → List (List ℕ) → Statement → Option Command → Demands
command_demands s k words st None = line_alone false
command_demands s k words st (Some c) = record {
  is_line = may_stand k words st.block c;
  is_ready = is_early c || has_cores k;
  numbers = numbers s k words c;
  is_taken = is_taken k words c;
  is_late = is_late k c;
  is_missing = is_missing s k words c;
  body = body_of s words st c;
}

-- the words of an event that are to be numbers
abbrev pub event_numbers : List (List ℕ) → Command → List Number
event_numbers words command.Submit = number16 words 1 ∷ []
event_numbers words command.StartFor = number16 words 1 ∷ []
event_numbers words command.Take = number16 words 1 ∷ number16 words 2 ∷ []
event_numbers words command.Rx = number16 words 1 ∷ Below (2 ^ 64) (word_at words 2) ∷ []
event_numbers words _ = []

-- whether there is no job of this core and number
abbrev pub lacks_job : List Event → Option ℕ → Option ℕ → Bool
lacks_job jobs (Some core) (Some number) = lacks (option_and_then (job_at core) (counted jobs number))
lacks_job jobs _ _ = false

abbrev pub is_job_missing : List Event → List (List ℕ) → Command → Bool
is_job_missing jobs words command.Rx = lacks_job jobs (number_of (word_at words 1)) (number_of (word_at words 2))
is_job_missing jobs words _ = false

abbrev pub event_demands : List Event → List (List ℕ) → Option Command → Demands
event_demands jobs words None = line_alone false
event_demands jobs words (Some c) = record { is_line = true; is_ready = true; numbers = event_numbers words c; is_taken = false; is_late = false; is_missing = is_job_missing jobs words c; body = NoBody }

-- a line of a trace: an event by the words before its colon, or `left C N`
abbrev pub trace_demands : List Event → List ℕ → Demands
trace_demands jobs line =
    if list_any (λ b. b == 58) line
    then (let words = words_of (before_first (λ b. b == 58) line) in event_demands jobs words (event_of words))
    else line_alone (is_left (words_of line))

abbrev pub demands_in : Settings → Known → Jobs → Statement → Demands
demands_in s k (Counted received) st = command_demands s k (words_of st.line) st (command_of s.threads (words_of st.line))
demands_in s k (Named jobs) st = trace_demands jobs st.line

-- whether a line has a fault, whatever others it has
abbrev pub Breaks : Demands → ScriptFaultKind → Type 0
Breaks d BadLine = d.is_line ≡ false
Breaks d NoCores = d.is_ready ≡ false
Breaks d BadNumber = list_all is_good d.numbers ≡ false
Breaks d Twice = d.is_taken ≡ true
Breaks d AfterCores = d.is_late ≡ true
Breaks d NoName = d.is_missing ≡ true
Breaks d (BadBody why) = HasBadBody d.body why
Breaks d NoMemory = ⊥

abbrev pub HasFault : Settings → Known → Statement → ScriptFaultKind → Type 0
HasFault s k st fault = Breaks (demands_in s k k.jobs st) fault

-- a fault is told that is there and before which none is; and a meaning only where no fault is there
abbrev pub IsFirstFault : (ScriptFaultKind → Type 0) → Result Meaning ScriptFaultKind → Type 0
IsFirstFault has (Err fault) = has fault × ((other : ScriptFaultKind) → has other → rank fault ≤ rank other)
IsFirstFault has (Ok meaning) = (fault : ScriptFaultKind) → has fault → ⊥
