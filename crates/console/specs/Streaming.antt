-- What `match` shows of an input of any length while it is read.
use Rattle.std.specs.Prelude.{◌≡◌, ℕ, ◌<◌, ◌≤◌, ◌^◌, ◌⊎◌, List, [], ◌∷◌, ◌++◌, length, Bool, true, false, Option, All, ◌==◌}
use Rattle.std.specs.List.{AllZip}
use Rattle.std.specs.Str.Lines.{lines}
use Rattle.filter_vm.specs.declared.machine.Outcome.{Outcome}
use Rattle.console.specs.declared.line_feed.LineFeed.{LineFeed}
use Rattle.console.specs.declared.packet_source.PacketSource.{PacketSource}
use Rattle.console.specs.declared.packet_source.PacketSource.TheVariants.{Lines, Capture as Captured}
use Rattle.capture_reader.specs.declared.entry.PacketTime.{PacketTime}
use Rattle.console.specs.declared.form.PacketForm.{PacketForm}
use Rattle.console.specs.declared.form.PacketForm.TheVariants.{Digits, Capture}
use Rattle.console.specs.declared.link_types.LinkTypes.{LinkTypes}
use Rattle.console.specs.declared.link_types.LinkTypes.TheVariants.{None}
use Rattle.console.specs.declared.filter.CodeFault.{CodeFault}
use Rattle.console.specs.Expressions.{IsFilter, explanation_of}
use Rattle.console.specs.Programs.{Programs}
use Rattle.console.specs.Matching.{Answers, IsNotRun, ShowsBytes, ShowsFront, ShowsPackets}
use Rattle.console.specs.Running.{HasRun, IsStopped}

-- what a stream shows of a code and of the bytes that it read, and what it says of a fault of the code that a packet met
abbrev pub StreamShows : List ℕ → ℕ → PacketForm → List ℕ → ℕ → List ℕ → List ℕ → Type 0
StreamShows code accept form input status text words =
    (programs : Programs) × IsFilter code accept programs
    × (stop : Option CodeFault) × ShowsBytes programs form input status text stop × (words ≡ explanation_of code stop)

-- text is a front of what is shown of the first packets of bytes, or of all that is shown
abbrev pub ShowsSome : Programs → PacketForm → List ℕ → List ℕ → Type 0
ShowsSome programs form input text = ShowsPackets programs form input text ⊎ ShowsFront programs form input text

-- what a stream that failed has shown of a code and of the bytes that it read
abbrev pub StreamLeaves : List ℕ → ℕ → PacketForm → List ℕ → List ℕ → Type 0
StreamLeaves code accept form input text = (programs : Programs) × IsFilter code accept programs × ShowsFront programs form input text

-- no byte is a newline
abbrev pub IsOneLine : List ℕ → Type 0
IsOneLine bytes = All (λ byte. (byte == 10) ≡ false) bytes

-- bytes are whole lines with these outcomes, each with its end, and then what is kept of a line
pub record LinesRan (programs : Programs) (taken : List ℕ) (feed : LineFeed) (outcomes : List Outcome) : Type 0 where
  pub done : List ℕ
  pub good : List (List ℕ)
  pub parts : taken ≡ done ++ feed.part.items
  pub whole : (more : List ℕ) → lines (done ++ more) ≡ good ++ lines more
  pub open_line : IsOneLine feed.part.items
  pub ran : AllZip (Answers programs feed.link) good outcomes
  pub count : feed.number ≡ length good
  pub few : length good ≤ length done

-- bytes are lines with these outcomes, and no others
abbrev pub LinesEnded : Programs → List ℕ → LineFeed → List Outcome → Type 0
LinesEnded programs taken feed outcomes = AllZip (Answers programs feed.link) (lines taken) outcomes

-- bytes are lines with these outcomes, and then a line that isn't run
pub record LinesStopped (programs : Programs) (taken : List ℕ) (feed : LineFeed) (outcomes : List Outcome) : Type 0 where
  pub good : List (List ℕ)
  pub bad : List ℕ
  pub more : List (List ℕ)
  pub parts : lines taken ≡ good ++ bad ∷ more
  pub wrong : IsNotRun programs feed.link bad feed.refused
  pub ran : AllZip (Answers programs feed.link) good outcomes
  pub count : feed.number ≡ length good
  pub few : length good < length taken

-- all of some bytes were taken, the packets that were whole then were run, once each and in order, and what was so before is so
-- after: From and To speak of the bytes that were taken so far, of what takes them, and of the outcomes and time stamps so far
pub record StampTo {S : Type 0} (From To : List ℕ → S → List Outcome → List PacketTime → Type 0) (bytes : List ℕ) (old new : S) (before after : List Outcome) (since upto : List PacketTime) : Type 0 where
  pub more : List Outcome
  pub times : List PacketTime
  pub pushed : after ≡ before ++ more
  pub pushed_times : upto ≡ since ++ times
  pub runs : (fed : List ℕ) (outcomes : List Outcome) (stamps : List PacketTime) → From fed old outcomes stamps → length (fed ++ bytes) < 2 ^ 64
      → To (fed ++ bytes) new (outcomes ++ more) (stamps ++ times)

-- what the packets of a source are
abbrev pub form_of : PacketSource → PacketForm
form_of (Lines feed) = Digits feed.link
form_of (Captured run) = Capture run.link

-- the source gives time stamps
abbrev pub is_stamped : PacketSource → Bool
is_stamped (Lines feed) = false
is_stamped (Captured run) = run.stamped

-- the link types of the interfaces in what a source took
abbrev pub links_of : PacketSource → LinkTypes
links_of (Lines feed) = None
links_of (Captured run) = run.links

-- the packets that are whole in the bytes that a source took ended with these outcomes, and have these time stamps
abbrev pub SourceRan : Programs → List ℕ → PacketSource → List Outcome → List PacketTime → Type 0
SourceRan programs taken (Lines feed) outcomes stamps = LinesRan programs taken feed outcomes × (stamps ≡ [])
SourceRan programs taken (Captured run) outcomes stamps = HasRun programs taken run outcomes stamps

-- the same where the bytes are all that there are, or where nothing that follows is looked at
abbrev pub SourceEnded : Programs → Bool → List ℕ → PacketSource → List Outcome → List PacketTime → Type 0
SourceEnded programs false taken (Lines feed) outcomes stamps = LinesEnded programs taken feed outcomes × (stamps ≡ [])
SourceEnded programs true taken (Lines feed) outcomes stamps = LinesStopped programs taken feed outcomes × (stamps ≡ [])
SourceEnded programs false taken (Captured run) outcomes stamps = HasRun programs taken run outcomes stamps
SourceEnded programs true taken (Captured run) outcomes stamps = HasRun programs taken run outcomes stamps × IsStopped run
