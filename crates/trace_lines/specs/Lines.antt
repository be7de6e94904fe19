-- Which event a line tells of, as `sim` and `run` print it: what is done, `:`, and the answer.
use Rattle.std.specs.Prelude.{ℕ, ◌==◌, ◌+◌, ◌*◌, ◌-◌, ◌&&◌, ◌||◌, nat_lt, nat_le, if◌then◌else◌, Bool, false, List, [], ◌∷◌, length, codes, Option, Some, None}
use Rattle.std.specs.List.{list_all, list_any, before_first, after_first}
use Rattle.std.specs.Str.{bytes_eq}
use Rattle.bpf_insn.specs.Texts.{words_of}
use Rattle.trace_lines.specs.declared.event.Act.{Act}
use Rattle.trace_lines.specs.declared.event.Act.TheVariants as act
use Rattle.trace_lines.specs.declared.event.TraceAnswer.{TraceAnswer}
use Rattle.trace_lines.specs.declared.event.TraceAnswer.TheVariants as told
use Rattle.trace_lines.specs.declared.event.TraceEvent.{TraceEvent}
use Rattle.trace_lines.specs.Words.{is_number, says, says_number, is_plain, is_no, is_other}
use Rattle.line_words.specs.Words.{word_at}

-- one of the 64 cores that a machine may have
abbrev pub core_below : ℕ → Option ℕ
core_below number = if nat_lt number 64 then Some number else None

-- its number in decimal, with no zero in front
abbrev pub core_of : List ℕ → Option ℕ
core_of (ones ∷ []) = if nat_le 48 ones && nat_le ones 57 then Some (ones - 48) else None
core_of (tens ∷ ones ∷ []) =
    if nat_le 49 tens && nat_le tens 57 && nat_le 48 ones && nat_le ones 57 then core_below (10 * (tens - 48) + (ones - 48)) else None
core_of _ = None

abbrev pub act_at : List ℕ → Option ℕ → Option Act
act_at word None = None
act_at word (Some core) = if bytes_eq word (codes "submit") then Some (act.Submit core) else if bytes_eq word (codes "startfor") then Some (act.StartFor core) else None

-- one core is core 0, and the other isn't
abbrev pub act_between : Option ℕ → Option ℕ → Option Act
act_between (Some to) (Some from) =
    if to == 0 then (if from == 0 then None else Some (act.TakeUp from))
    else if from == 0 then Some (act.TakeDown to) else None
act_between to from = None

abbrev pub act_receives : Option ℕ → List ℕ → Option Act
act_receives None number = None
act_receives (Some core) number = if is_number number then Some (act.Rx core) else None

-- what is done, by the words before the colon
abbrev pub act_of : List (List ℕ) → Option Act
act_of (word ∷ []) = if bytes_eq word (codes "start") then Some act.Start else None
act_of (word ∷ core ∷ []) = act_at word (core_of core)
act_of (word ∷ core ∷ other ∷ []) =
    if bytes_eq word (codes "take") then act_between (core_of core) (core_of other)
    else if bytes_eq word (codes "rx") then act_receives (core_of core) other else None
act_of _ = None

-- the answer of a request that core 0 begins
abbrev pub begun : List (List ℕ) → Option TraceAnswer
begun words =
    if says_number (codes "prepared") words then Some told.Prepared
    else if says_number (codes "committed") words then Some told.Committed
    else if says (codes "refused") words then Some told.Refused else None

-- what a vote decides, by the words after it
abbrev pub vote_told : List ℕ → Option TraceAnswer
vote_told word = if bytes_eq word (codes "committed") then Some told.VoteCommits else if bytes_eq word (codes "refused") then Some told.VoteRefuses else if length word == 0 then Some told.Vote else None

-- the answer of core 0 that takes a message
abbrev pub taken_up : List (List ℕ) → Option TraceAnswer
taken_up words =
    if says_number (codes "vote") words then vote_told (word_at words 3)
    else if says_number (codes "ack") words then Some told.Ack
    else if says (codes "submit") words then Some told.Submit else None

-- the answer of another core that does
abbrev pub taken_down : List (List ℕ) → Option TraceAnswer
taken_down words =
    if says_number (codes "prepare") words then Some told.Prepare
    else if says_number (codes "commit") words then Some told.Commit
    else if says_number (codes "abort") words then Some told.Abort
    else if says (codes "reply") words then Some told.Reply else None

abbrev pub answer_of : Act → List (List ℕ) → Option TraceAnswer
answer_of act.Start words = begun words
answer_of (act.StartFor core) words = begun words
answer_of (act.Submit core) words = if says (codes "sent") words then Some told.Sent else None
answer_of (act.TakeUp from) words = taken_up words
answer_of (act.TakeDown to) words = taken_down words
answer_of (act.Rx core) words = if says_number (codes "version") words then Some told.Delivered else None

-- the answer, by the words after the colon; or the event was not done
abbrev pub told_of : Act → List (List ℕ) → Option TraceAnswer
told_of a words = if says (codes "fault") words then Some told.Fault else answer_of a words

-- the version that the core comes to, or no bytes where it stays
abbrev pub version_of : TraceAnswer → List (List ℕ) → List ℕ
version_of told.Committed words = word_at words 1
version_of told.VoteCommits words = word_at words 4
version_of told.Commit words = word_at words 3
version_of _ words = []

-- an event that is drawn
pub record Shown : Type 0 where
  pub event : TraceEvent
  -- whether it is refused, vetoed or not done
  pub no : Bool
  pub version : List ℕ
  -- its line
  pub text : List ℕ

-- nothing was asked for at this core
abbrev pub is_unasked : List (List ℕ) → List (List ℕ) → Bool
is_unasked (word ∷ core ∷ []) told = (bytes_eq word (codes "submit") && is_number core) && (says (codes "fault") told && bytes_eq (word_at told 1) (codes "Nothing"))
is_unasked _ told = false

-- what a line is: one that isn't drawn, no line of a trace, or an event's
pub data Said : Type 0 where
  Skipped : Said
  Bad : Said
  Done : Shown → Said

-- An empty line is skipped, and so are those of tables, of packets that were left, and of events at cores that aren't there.
abbrev pub is_skipped : List (List ℕ) → Bool
is_skipped words = is_other (word_at words 0) || bytes_eq (word_at words (length words - 1)) (codes "NoSuchCore")

abbrev pub said_told : List ℕ → List (List ℕ) → Act → Option TraceAnswer → Said
said_told line words a None = Bad
said_told line words a (Some t) = Done (record { event = record { act = a; told = t }; no = list_any is_no words; version = version_of t words; text = line })

-- where nothing was asked for at a core that isn't there, nothing is drawn
abbrev pub said_act : List ℕ → List (List ℕ) → List (List ℕ) → Option Act → Said
said_act line done words None = if is_unasked done words then Skipped else Bad
said_act line done words (Some a) = said_told line words a (told_of a words)

abbrev pub said_parts : List ℕ → List ℕ → List ℕ → Said
said_parts line before behind = said_act line (words_of before) (words_of behind) (act_of (words_of before))

abbrev pub said_of : List ℕ → Said
said_of line =
    if is_skipped (words_of line) then Skipped
    else if list_all is_plain line then said_parts line (before_first (λ b. b == 58) line) (after_first (λ b. b == 58) line) else Bad
