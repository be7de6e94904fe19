-- What was run of a capture that comes in pieces: the packets that are whole so far.
-- No public clause cites these.
use Rattle.std.specs.Prelude.{◌≡◌, ℕ, ◌<◌, ◌≤◌, ◌^◌, ◌⊎◌, IsSome, List, [], ◌++◌, length, All, ◌∷◌, Option, Some, None, Bool, true, false, if◌then◌else◌}
use Rattle.std.specs.List.{AllZip}
use Rattle.std.specs.Io.KnownBytes.{IsAtEnd}
use Rattle.filter_vm.specs.declared.machine.Outcome.{Outcome}
use Rattle.capture_reader.specs.declared.entry.PacketTime.{PacketTime}
use Rattle.capture_reader.specs.declared.fault.ReadFault.{ReadFault}
use Rattle.capture_reader.specs.declared.entry.SeenEntry.{SeenEntry}
use Rattle.capture_reader.specs.Entries.{EntryBytes}
use Rattle.capture_reader.specs.Steps.{seen_item}
use Rattle.capture_reader.specs.Captures.{HasEntries}
use Rattle.capture_reader.specs.Holding.{HoldsAfter, held_fault}
use Rattle.engine_io.specs.declared.input.TheConstants.{INPUT_BYTES}
use Rattle.engine_io.specs.declared.source.Source.{Source}
use Rattle.console.specs.declared.capture_run.CaptureRun.{CaptureRun}
use Rattle.console.specs.Choosing.{chosen, times_in}
use Rattle.console.specs.declared.ending.Ending.{Ending}
use Rattle.console.specs.Matching.{capture_ending}
use Rattle.console.specs.Linking.{AreLinkTypes, links_in}
use Rattle.engine_io.specs.Devices.{Gets}
use Rattle.engine_io.specs.Reading.{GotTooMany}
use Rattle.console.specs.declared.filter.CodeFault.{CodeFault}
use Rattle.console.specs.Programs.{Programs}
use Rattle.console.specs.Refusing.{AnswersLinked, linked_in, refused_in, served}

-- an entry that was seen, if there is one
abbrev pub item_entries : Option SeenEntry → List EntryBytes
item_entries None = []
item_entries (Some item) = seen_item item ∷ []

-- when packets were seen, where that is shown
abbrev pub times_shown : Bool → List EntryBytes → List PacketTime
times_shown stamped entries = if stamped then times_in entries else []

-- a run of a capture was given these bytes, and the packets in them that are chosen, up to one that is refused, ended with these outcomes, and
-- have these times; the interfaces in them have these link types
pub record HasRun (programs : Programs) (fed : List ℕ) (run : CaptureRun) (outcomes : List Outcome) (stamps : List PacketTime) : Type 0 where
  pub entries : List EntryBytes
  pub holds : HoldsAfter run.feed entries fed
  pub small : All (λ byte. byte < 256) fed
  pub ran : AllZip (AnswersLinked programs) (linked_in (served programs (chosen run.link entries))) outcomes
  pub refused : run.refused ≡ refused_in programs (chosen run.link entries)
  pub times : stamps ≡ times_shown run.stamped (served programs (chosen run.link entries))
  pub links : AreLinkTypes (links_in entries) run.links

-- the packet of an entry was run, if there is one that is chosen, or it met this fault
pub record RunsItem (programs : Programs) (link : Option ℕ) (stamped : Bool) (item : Option SeenEntry) (stop : Option CodeFault) (before after : List Outcome) (since upto : List PacketTime) : Type 0 where
  pub more : List Outcome
  pub times : List PacketTime
  pub pushed : after ≡ before ++ more
  pub pushed_times : upto ≡ since ++ times
  pub ran : AllZip (AnswersLinked programs) (linked_in (served programs (chosen link (item_entries item)))) more
  pub seen : times ≡ times_shown stamped (served programs (chosen link (item_entries item)))
  pub stops : stop ≡ refused_in programs (chosen link (item_entries item))

-- it has met a fault of the capture, or a packet that is refused, so it runs nothing more
abbrev pub IsStopped : CaptureRun → Type 0
IsStopped run = ((fault : ReadFault) × (held_fault run.feed ≡ Some fault)) ⊎ IsSome run.refused

-- a front of some bytes was taken, the packets that were whole then were run, once each and in order, and what was so before is so
-- after: From and To speak of the bytes that were taken so far, of what takes them, and of the outcomes so far
pub record RunsTo {S : Type 0} (From To : List ℕ → S → List Outcome → Type 0) (bytes rest : List ℕ) (old new : S) (before after : List Outcome) : Type 0 where
  pub front : List ℕ
  pub parts : bytes ≡ front ++ rest
  pub more : List Outcome
  pub pushed : after ≡ before ++ more
  pub runs : (fed : List ℕ) (outcomes : List Outcome) → From fed old outcomes → length (fed ++ front) < 2 ^ 64 → To (fed ++ front) new (outcomes ++ more)

-- a front of some bytes was taken by a run of a capture, as above, with the times
pub record RunsOn (programs : Programs) (bytes rest : List ℕ) (old new : CaptureRun) (before after : List Outcome) (since upto : List PacketTime) : Type 0 where
  pub front : List ℕ
  pub parts : bytes ≡ front ++ rest
  pub more : List Outcome
  pub times : List PacketTime
  pub pushed : after ≡ before ++ more
  pub pushed_times : upto ≡ since ++ times
  pub runs : (fed : List ℕ) (outcomes : List Outcome) (stamps : List PacketTime) → HasRun programs fed old outcomes stamps → All (λ byte. byte < 256) bytes → length (fed ++ front) < 2 ^ 64
      → HasRun programs (fed ++ front) new (outcomes ++ more) (stamps ++ times)

-- a front of some bytes was taken and no packet of it was run, whatever the programs are
abbrev pub PassesOn : List ℕ → List ℕ → CaptureRun → CaptureRun → Type 0
PassesOn bytes rest old new = (programs : Programs) (outcomes : List Outcome) (stamps : List PacketTime) → RunsOn programs bytes rest old new outcomes outcomes stamps stamps

-- a source got just these bytes, whose whole packets were run, and then its reader was at its end; or it got more than 64 MiB
abbrev pub RunsInput : {R : Type 0} → (R → Option (List ℕ)) → Source R → Source R → Programs → CaptureRun → List Outcome → List PacketTime → Bool → Type 0
RunsInput remaining old new programs run outcomes stamps true =
    (given : List ℕ) × Gets remaining old new given × IsAtEnd (remaining new.inner) × (length given ≤ INPUT_BYTES) × HasRun programs given run outcomes stamps
RunsInput remaining old new programs run outcomes stamps false = GotTooMany remaining old new INPUT_BYTES

-- bytes hold a capture whose packets that are chosen, up to one that is refused, have these outcomes, and this comes after them
abbrev pub EndsRun : Programs → Option ℕ → List ℕ → List Outcome → Ending → Type 0
EndsRun programs link bytes outcomes ending = (entries : List EntryBytes) × (fault : Option ReadFault) × HasEntries bytes entries fault
    × AllZip (AnswersLinked programs) (linked_in (served programs (chosen link entries))) outcomes
    × (ending ≡ capture_ending (refused_in programs (chosen link entries)) fault)
