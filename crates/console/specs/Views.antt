-- What `match` shows under its views: a line for each packet, with or without its number, one line for all, or the status alone.
use Rattle.std.specs.Prelude.{◌≡◌, ℕ, ◌+◌, ◌<◌, ◌⊎◌, List, [], ◌∷◌, ◌++◌, length, codes, count_by, nat_lt, Option, Some, None, Bool, true, false}
use Rattle.std.specs.List.{AllZip}
use Rattle.std.specs.Fmt.{decimal}
use Rattle.std.specs.Str.Lines.{lines}
use Rattle.filter_vm.specs.declared.machine.Outcome.{Outcome}
use Rattle.capture_reader.specs.declared.fault.ReadFault.{ReadFault}
use Rattle.capture_reader.specs.Entries.{EntryBytes}
use Rattle.capture_reader.specs.Captures.{HasEntries}
use Rattle.console.specs.declared.form.PacketForm.{PacketForm}
use Rattle.console.specs.declared.form.PacketForm.TheVariants.{Digits, Capture}
use Rattle.console.specs.Choosing.{chosen, is_capture}
use Rattle.console.specs.declared.ending.Ending.{Ending}
use Rattle.capture_reader.specs.declared.entry.PacketTime.{PacketTime}
use Rattle.console.specs.declared.tally.Finished.{Finished}
use Rattle.console.specs.declared.tally.Tally.{Tally}
use Rattle.console.specs.declared.view.View.{View}
use Rattle.console.specs.declared.view.View.TheVariants.{Lines, Numbers, Count, NumbersAndCount, Quiet}
use Rattle.console.specs.declared.filter.CodeFault.{CodeFault}
use Rattle.console.specs.Expressions.{IsFilter, ShowsBadFilter, explanation_of}
use Rattle.console.specs.Programs.{Programs}
use Rattle.console.specs.Refusing.{AnswersLinked, LinkedPacket, linked_in, refused_in, served}
use Rattle.console.specs.Matching.{Answers, StopsBy, capture_ending, ending_status, ending_stop, ending_text, outcome_line}
use Rattle.engine_io.specs.Reading.{BeginsWith}
use Rattle.console.specs.Stamps.{AreStamps, stamp_text}

-- how many packets were accepted: the filter keeps a byte of each, or more
abbrev pub accepted : List Outcome → ℕ
accepted outcomes = count_by (λ outcome. nat_lt 0 outcome.verdict) outcomes

-- how many were accepted, of how many
abbrev pub tally_line : ℕ → ℕ → List ℕ
tally_line some all = decimal some ++ codes " of " ++ decimal all ++ codes "\n"

-- a time stamp, and a blank after it
abbrev pub mark : Option PacketTime → List ℕ
mark None = []
mark (Some stamp) = stamp_text stamp ++ codes " "

-- the first of some time stamps, and the others
abbrev pub first_stamp : List PacketTime → Option PacketTime
first_stamp [] = None
first_stamp (stamp ∷ others) = Some stamp

abbrev pub other_stamps : List PacketTime → List PacketTime
other_stamps [] = []
other_stamps (stamp ∷ others) = others

-- the line for the outcome of packet n, from 1, which begins with its number, and its time stamp if it has one
abbrev pub numbered_line : ℕ → Option PacketTime → Outcome → List ℕ
numbered_line n stamp outcome = decimal n ++ codes " " ++ mark stamp ++ outcome_line outcome

-- the line for an outcome, where one is shown
abbrev pub shown_line : View → ℕ → Option PacketTime → Outcome → List ℕ
shown_line Lines n stamp outcome = outcome_line outcome
shown_line Numbers n stamp outcome = numbered_line n stamp outcome
shown_line NumbersAndCount n stamp outcome = numbered_line n stamp outcome
shown_line Count n stamp outcome = []
shown_line Quiet n stamp outcome = []

-- what is shown of outcomes as soon as they are there, with the time stamps of their packets; there were n packets before
abbrev pub shown_at_once : View → ℕ → List PacketTime → List Outcome → List ℕ
shown_at_once view n stamps [] = []
shown_at_once view n stamps (outcome ∷ more) = shown_line view (n + 1) (first_stamp stamps) outcome ++ shown_at_once view (n + 1) (other_stamps stamps) more

-- what is shown after them, where so many were accepted, of so many
abbrev pub shown_after : View → ℕ → ℕ → List ℕ
shown_after Lines some all = []
shown_after Numbers some all = []
shown_after Count some all = tally_line some all
shown_after NumbersAndCount some all = tally_line some all
shown_after Quiet some all = []

-- the packets of bytes, in order, ended with these outcomes, up to one that CODE has no program for, and this comes after them
abbrev pub RanAll : Programs → PacketForm → List ℕ → List Outcome → Ending → Type 0
RanAll programs (Digits link) input outcomes ending =
    (good : List (List ℕ)) × AllZip (Answers programs link) good outcomes × StopsBy programs link (lines input) good ending
RanAll programs (Capture link) input outcomes ending = (entries : List EntryBytes) × (fault : Option ReadFault) × HasEntries input entries fault
    × AllZip (AnswersLinked programs) (linked_in (served programs (chosen link entries))) outcomes
    × (ending ≡ capture_ending (refused_in programs (chosen link entries)) fault)

-- the first packets of bytes ended with these outcomes
abbrev pub RanFirst : Programs → PacketForm → List ℕ → List Outcome → Type 0
RanFirst programs (Digits link) input outcomes =
    (good : List (List ℕ)) × (left : List (List ℕ)) × (lines input ≡ good ++ left) × AllZip (Answers programs link) good outcomes
RanFirst programs (Capture link) input outcomes =
    (entries : List EntryBytes) × (fault : Option ReadFault) × HasEntries input entries fault
    × (good : List LinkedPacket) × (left : List LinkedPacket) × (linked_in (chosen link entries) ≡ good ++ left) × AllZip (AnswersLinked programs) good outcomes

-- the time stamps that a view shows of so many packets: those of a capture, where numbers are shown
abbrev pub AreShown : Bool → PacketForm → List ℕ → ℕ → List PacketTime → Type 0
AreShown true (Capture link) input n stamps = (length stamps ≡ n) × AreStamps link input n stamps
AreShown stamped form input n stamps = stamps ≡ []

abbrev pub shows_stamps : View → PacketForm → Bool
shows_stamps Numbers form = is_capture form
shows_stamps NumbersAndCount form = is_capture form
shows_stamps view form = false

-- the status and the text of outcomes and of what comes after them, and the fault of CODE that was met
abbrev pub ShowsOutcomes : View → List PacketTime → List Outcome → Ending → ℕ → List ℕ → Option CodeFault → Type 0
ShowsOutcomes view stamps outcomes ending status text stop = (status ≡ ending_status ending)
    × (text ≡ shown_at_once view 0 stamps outcomes ++ (shown_after view (accepted outcomes) (length outcomes) ++ ending_text ending))
    × (stop ≡ ending_stop ending)

-- no packet was accepted: the status is 4 where the input is whole, and else 1
abbrev pub IsNoneStatus : ℕ → ℕ → Type 0
IsNoneStatus ended status = ((ended ≡ 0) × (status ≡ 4)) ⊎ ((ended ≡ 1) × (status ≡ 1))

-- the line and the status after the last packet, where so many were accepted, of so many, and the fault of CODE that was met. `Quiet` has only
-- a status, and a fault where no packet was accepted
abbrev pub ShowsEnd : View → ℕ → ℕ → Ending → List ℕ → Finished → Type 0
ShowsEnd Quiet some all ending text f = (text ≡ [])
    × (((0 < some) × (f.status ≡ 0) × (f.stop ≡ None)) ⊎ ((some ≡ 0) × IsNoneStatus (ending_status ending) f.status × (f.stop ≡ ending_stop ending)))
ShowsEnd view some all ending text f =
    (text ≡ shown_after view some all ++ ending_text ending) × (f.status ≡ ending_status ending) × (f.stop ≡ ending_stop ending)

-- under this view the command ends at the first packet that is accepted, with status 0
abbrev pub IsFound : View → ℕ → Type 0
IsFound view status = (view ≡ Quiet) × (status ≡ 0)

-- a tally has counted these outcomes
abbrev pub HasCounted : View → Tally → List Outcome → Type 0
HasCounted view tally outcomes = (tally.view ≡ view) × (tally.total ≡ length outcomes) × (tally.accepted ≡ accepted outcomes)

-- what is shown of bytes under a view. `Quiet`: nothing, and status 0 where one of the first packets was accepted, whatever follows
abbrev pub ShowsView : View → Programs → PacketForm → List ℕ → ℕ → List ℕ → Option CodeFault → Type 0
ShowsView Quiet programs form input status text stop = (text ≡ [])
    × (((outcomes : List Outcome) × RanFirst programs form input outcomes × (0 < accepted outcomes) × (status ≡ 0) × (stop ≡ None))
    ⊎ ((outcomes : List Outcome) × (ending : Ending) × RanAll programs form input outcomes ending
    × (accepted outcomes ≡ 0) × IsNoneStatus (ending_status ending) status × (stop ≡ ending_stop ending)))
ShowsView view programs form input status text stop =
    (outcomes : List Outcome) × (ending : Ending) × RanAll programs form input outcomes ending
    × (stamps : List PacketTime) × AreShown (shows_stamps view form) form input (length outcomes) stamps × ShowsOutcomes view stamps outcomes ending status text stop

-- text is a front of what is shown at once of the first packets of bytes, or of all that is shown
abbrev pub ShowsViewPart : View → Programs → PacketForm → List ℕ → List ℕ → Type 0
ShowsViewPart view programs form input text =
    ((outcomes : List Outcome) × RanFirst programs form input outcomes
    × (stamps : List PacketTime) × AreShown (shows_stamps view form) form input (length outcomes) stamps × BeginsWith text (shown_at_once view 0 stamps outcomes))
    ⊎ ((status : ℕ) × (whole : List ℕ) × (stop : Option CodeFault) × ShowsView view programs form input status whole stop × BeginsWith text whole)

-- a line, where the view shows any
abbrev pub heard : View → List ℕ → List ℕ
heard Quiet line = []
heard view line = line

-- what a view shows of a code that gives nothing to run, and what it says of it
abbrev pub ShowsViewCode : View → List ℕ → List ℕ → List ℕ → Type 0
ShowsViewCode view code text words = (line : List ℕ) × ShowsBadFilter code line words × (text ≡ heard view line)

-- what a view shows of a code and of the bytes that were read, and what it says of a fault of the code that a packet met
abbrev pub ViewShows : View → List ℕ → ℕ → PacketForm → List ℕ → ℕ → List ℕ → List ℕ → Type 0
ViewShows view code accept form input status text words =
    (programs : Programs) × IsFilter code accept programs
    × (stop : Option CodeFault) × ShowsView view programs form input status text stop × (words ≡ explanation_of code stop)

-- and what it has shown where it failed
abbrev pub ViewLeaves : View → List ℕ → ℕ → PacketForm → List ℕ → List ℕ → Type 0
ViewLeaves view code accept form input text = (programs : Programs) × IsFilter code accept programs × ShowsViewPart view programs form input text
