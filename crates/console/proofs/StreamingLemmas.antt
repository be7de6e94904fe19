-- What a stream has shown.
use Rattle.std.proofs.Common.{◌≡◌, ℕ, ◌*◌, ◌+◌, ◌<◌, ◌≤◌, ◌⊎◌, inl, inr, List, [], ◌∷◌, ◌++◌, length, take, suc, All, Bool, true, false, Option, Result, Ok, Err, IfOk, arith, refl, sym, ap, ◌∙◌, append_assoc}
use Rattle.std.specs.Prelude.{IsSome, IsTrue, None, Some}
use Rattle.std.specs.Str.Lines.{lines}
use Rattle.std.proofs.lemmas.List.{append-nil}
use Rattle.std.proofs.lemmas.List.Elements.{All-append}
use Rattle.console.specs.Programs.{Programs}
use Rattle.filter_vm.specs.declared.machine.Outcome.{Outcome}
use Rattle.std.proofs.Math.Seq.{take-append_seam}
use Rattle.std.proofs.lemmas.Slice.Zip.{AllZip-long}
use Rattle.capture_reader.specs.declared.entry.PacketTime.{PacketTime}
use Rattle.capture_reader.specs.declared.fault.ReadFault.{ReadFault}
use Rattle.capture_reader.specs.Entries.{EntryBytes}
use Rattle.capture_reader.proofs.LawLemmas.{given_first, has_reading}
use Rattle.console.specs.declared.capture_run.CaptureRun.{CaptureRun}
use Rattle.console.specs.declared.form.PacketForm.{PacketForm}
use Rattle.console.specs.declared.form.PacketForm.TheVariants.{Capture}
use Rattle.console.specs.Choosing.{chosen, times_in}
use Rattle.console.specs.Stamps.{AreStamps}
use Rattle.console.proofs.RunningLemmas.{chosen-append, times_in-append}
use Rattle.engine_io.specs.declared.source.Source.{Source}
use Rattle.engine_io.specs.declared.sink.Sink.{Sink}
use Rattle.engine_io.specs.Devices.{Gets, Writes}
use Rattle.console.specs.declared.packet_source.PacketSource.{PacketSource}
use Rattle.console.specs.declared.packet_source.PacketSource.TheVariants.{Lines, Capture as Captured}
use Rattle.console.specs.declared.ending.Ending.{Ending}
use Rattle.engine_io.specs.Reading.{BeginsWith}
use Rattle.console.specs.declared.ending.Ending.TheVariants.{Done, Refused}
use Rattle.console.specs.declared.filter.CodeFault.{CodeFault}
use Rattle.console.specs.declared.line_feed.LineFeed.{LineFeed}
use Rattle.console.specs.Matching.{capture_ending, ending_status, line_ending}
use Rattle.console.specs.Refusing.{AnswersLinked, linked_in, served}
use Rattle.capture_reader.specs.Captures.{HasEntries}
use Rattle.console.proofs.RefusingLemmas.{linked_in-append, passed_parts, served_then, times_length}
use Rattle.console.specs.Running.{EndsRun, HasRun, IsStopped, times_shown}
use Rattle.console.specs.Streaming.{SourceEnded, SourceRan, form_of, is_stamped}
use Rattle.console.specs.declared.tally.Tally.{Tally}
use Rattle.console.specs.declared.view.View.{View}
use Rattle.console.specs.Views.{AreShown, HasCounted, RanAll, RanFirst, shown_at_once, shows_stamps}

-- the packets that were run come first
run_first : (programs : Programs) (fed rest : List ℕ) (run : CaptureRun) (outcomes : List Outcome) (stamps : List PacketTime) → HasRun programs fed run outcomes stamps → All (λ b. b < 256) rest
    → RanFirst programs (Capture run.link) (fed ++ rest) outcomes
run_first programs fed rest run outcomes stamps has small =
    let reading = has_reading (fed ++ rest) in
    let first = given_first has.entries reading.0 fed rest run.feed reading.1 (All-append (λ b. b < 256) fed rest has.small small) has.holds reading.2 in
    let parts = served_then programs (chosen run.link has.entries) (chosen run.link first.0) in (
      reading.0,
      reading.1,
      reading.2,
      linked_in (served programs (chosen run.link has.entries)),
      linked_in parts.0,
      ap (λ e. linked_in (chosen run.link e)) first.1 ∙ ap linked_in (chosen-append run.link has.entries first.0) ∙ ap linked_in parts.1 ∙ linked_in-append (served programs (chosen run.link has.entries)) parts.0,
      has.ran,
    )

run_times : (programs : Programs) (fed rest : List ℕ) (run : CaptureRun) (outcomes : List Outcome) (stamps : List PacketTime) → HasRun programs fed run outcomes stamps → All (λ b. b < 256) rest
    → AreShown run.stamped (Capture run.link) (fed ++ rest) (length outcomes) stamps
run_times programs fed rest run outcomes stamps has small = shown_by run.stamped has.times
  where
    few : length (times_in (served programs (chosen run.link has.entries))) ≡ length outcomes
    few = times_length (served programs (chosen run.link has.entries)) ∙ sym (AllZip-long (AnswersLinked programs) (linked_in (served programs (chosen run.link has.entries))) outcomes has.ran)

    are_first : stamps ≡ times_in (served programs (chosen run.link has.entries)) → AreStamps run.link (fed ++ rest) (length outcomes) stamps
    are_first times =
        let reading = has_reading (fed ++ rest) in
        let first = given_first has.entries reading.0 fed rest run.feed reading.1 (All-append (λ b. b < 256) fed rest has.small small) has.holds reading.2 in
        let parts = served_then programs (chosen run.link has.entries) (chosen run.link first.0) in
        let all : times_in (chosen run.link reading.0) ≡ times_in (served programs (chosen run.link has.entries)) ++ times_in parts.0 =
        ap (λ e. times_in (chosen run.link e)) first.1 ∙ ap times_in (chosen-append run.link has.entries first.0) ∙ ap times_in parts.1 ∙ times_in-append (served programs (chosen run.link has.entries)) parts.0 in
        (reading.0, reading.1, reading.2, times ∙ sym (ap (take (length outcomes)) all ∙ ap (λ n. take n (times_in (served programs (chosen run.link has.entries)) ++ times_in parts.0)) (sym few) ∙ take-append_seam (times_in (served programs (chosen run.link has.entries))) (times_in parts.0)))

    shown_by : (stamped : Bool) → stamps ≡ times_shown stamped (served programs (chosen run.link has.entries)) → AreShown stamped (Capture run.link) (fed ++ rest) (length outcomes) stamps
    shown_by true times = (ap length times ∙ few, are_first times)
    shown_by false times = times

-- the same of what a source took, and of more
pub ran_first : (programs : Programs) (fed rest : List ℕ) (source : PacketSource) (outcomes : List Outcome) (stamps : List PacketTime) → SourceRan programs fed source outcomes stamps → All (λ b. b < 256) rest
    → RanFirst programs (form_of source) (fed ++ rest) outcomes
ran_first programs fed rest (Lines feed) outcomes stamps has small = (
  has.0.good,
  lines (feed.part.items ++ rest),
  ap (λ t. lines (t ++ rest)) has.0.parts ∙ ap lines (append_assoc has.0.done feed.part.items rest) ∙ has.0.whole (feed.part.items ++ rest),
  has.0.ran,
)
ran_first programs fed rest (Captured run) outcomes stamps has small = run_first programs fed rest run outcomes stamps has small

pub no_bytes : All (λ b. b < 256) []
no_bytes = λ k d within. absurd (omega arith)

-- and of all that a source took
pub ended_first : (programs : Programs) (stopped : Bool) (taken : List ℕ) (source : PacketSource) (outcomes : List Outcome) (stamps : List PacketTime) → SourceEnded programs stopped taken source outcomes stamps
    → RanFirst programs (form_of source) taken outcomes
ended_first programs false taken (Lines feed) outcomes stamps has = (lines taken, [], sym (append-nil (lines taken)), has.0)
ended_first programs true taken (Lines feed) outcomes stamps has = (has.0.good, has.0.bad ∷ has.0.more, has.0.parts, has.0.ran)
ended_first programs false taken (Captured run) outcomes stamps has = rw (append-nil taken) at (run_first programs taken [] run outcomes stamps has no_bytes)
ended_first programs true taken (Captured run) outcomes stamps has = rw (append-nil taken) at (run_first programs taken [] run outcomes stamps has.0 no_bytes)

-- the time stamps of what was run
pub ran_stamps : (programs : Programs) (fed rest : List ℕ) (source : PacketSource) (outcomes : List Outcome) (stamps : List PacketTime) → SourceRan programs fed source outcomes stamps → All (λ b. b < 256) rest
    → AreShown (is_stamped source) (form_of source) (fed ++ rest) (length outcomes) stamps
ran_stamps programs fed rest (Lines feed) outcomes stamps has small = has.1
ran_stamps programs fed rest (Captured run) outcomes stamps has small = run_times programs fed rest run outcomes stamps has small

pub ended_stamps : (programs : Programs) (stopped : Bool) (taken : List ℕ) (source : PacketSource) (outcomes : List Outcome) (stamps : List PacketTime) → SourceEnded programs stopped taken source outcomes stamps
    → AreShown (is_stamped source) (form_of source) taken (length outcomes) stamps
ended_stamps programs false taken (Lines feed) outcomes stamps has = has.1
ended_stamps programs true taken (Lines feed) outcomes stamps has = has.1
ended_stamps programs false taken (Captured run) outcomes stamps has = rw (append-nil taken) at (run_times programs taken [] run outcomes stamps has no_bytes)
ended_stamps programs true taken (Captured run) outcomes stamps has = rw (append-nil taken) at (run_times programs taken [] run outcomes stamps has.0 no_bytes)

-- each packet that was run has its time stamp, or none has
pub ran_aligned : (programs : Programs) (fed : List ℕ) (source : PacketSource) (outcomes : List Outcome) (stamps : List PacketTime) → SourceRan programs fed source outcomes stamps
    → (length stamps ≡ length outcomes) ⊎ ((is_stamped source ≡ false) × (stamps ≡ []))
ran_aligned programs fed (Lines feed) outcomes stamps has = inr (refl, has.1)
ran_aligned programs fed (Captured run) outcomes stamps has = aligned run.stamped has.times
  where
    aligned : (stamped : Bool) → stamps ≡ times_shown stamped (served programs (chosen run.link has.entries)) → (length stamps ≡ length outcomes) ⊎ ((stamped ≡ false) × (stamps ≡ []))
    aligned true times = inl (ap length times ∙ times_length (served programs (chosen run.link has.entries)) ∙ sym (AllZip-long (AnswersLinked programs) (linked_in (served programs (chosen run.link has.entries))) outcomes has.ran))
    aligned false times = inr (refl, times)

-- a text begins itself
pub begins_itself : (text : List ℕ) → BeginsWith text text
begins_itself text = ([], sym (append-nil text))

-- What comes after the last packet

-- the fault of CODE that a packet met
refused_behind : (programs : Programs) (fed rest : List ℕ) (run : CaptureRun) (outcomes : List Outcome) (stamps : List PacketTime) (stop : CodeFault) → HasRun programs fed run outcomes stamps → run.refused ≡ Some stop → All (λ b. b < 256) rest
    → EndsRun programs run.link (fed ++ rest) outcomes (Refused stop)
refused_behind programs fed rest run outcomes stamps stop has is small =
    let reading = has_reading (fed ++ rest) in
    let first = given_first has.entries reading.0 fed rest run.feed reading.1 (All-append (λ b. b < 256) fed rest has.small small) has.holds reading.2 in
    let some : IsSome run.refused = rw is refl in
    let parts = passed_parts programs (chosen run.link has.entries) (chosen run.link first.0) (chosen run.link reading.0) run.refused (ap (chosen run.link) first.1 ∙ chosen-append run.link has.entries first.0) some has.refused in
    (reading.0, reading.1, reading.2, rw parts.0 has.ran, sym (ap (λ r. capture_ending r reading.1) (parts.1 ∙ is)))

pub refused_ends : (programs : Programs) (fed : List ℕ) (run : CaptureRun) (outcomes : List Outcome) (stamps : List PacketTime) (stop : CodeFault) → HasRun programs fed run outcomes stamps → run.refused ≡ Some stop
    → EndsRun programs run.link fed outcomes (Refused stop)
refused_ends programs fed run outcomes stamps stop has is = rw (append-nil fed) at (refused_behind programs fed [] run outcomes stamps stop has is no_bytes)

-- or the fault of the capture
pub goes_ends : (programs : Programs) (fed : List ℕ) (run : CaptureRun) (outcomes : List Outcome) (stamps : List PacketTime) (fault : Option ReadFault) → (has : HasRun programs fed run outcomes stamps) → run.refused ≡ None → HasEntries fed has.entries fault
    → EndsRun programs run.link fed outcomes (capture_ending None fault)
goes_ends programs fed run outcomes stamps fault has none reads = (has.entries, fault, reads, has.ran, sym (ap (λ r. capture_ending r fault) (sym has.refused ∙ none)))

abbrev pub Ends : PacketSource → Bool → Ending → Type 0
Ends source stopped ending = (programs : Programs) (taken : List ℕ) (outcomes : List Outcome) (stamps : List PacketTime) → length taken < 18446744073709551616
    → SourceEnded programs stopped taken source outcomes stamps → RanAll programs (form_of source) taken outcomes ending

abbrev pub EndsCapture : CaptureRun → Ending → Type 0
EndsCapture run ending = (programs : Programs) (fed : List ℕ) (outcomes : List Outcome) (stamps : List PacketTime) → HasRun programs fed run outcomes stamps → RanAll programs (Capture run.link) fed outcomes ending

-- how a capture ends is how its source does
pub ending_capture : {E : Type 0} (r : Result Ending E) (source : PacketSource) (run : CaptureRun) (stopped : Bool) → source ≡ Captured run → IfOk r (EndsCapture run) → IfOk r (Ends source stopped)
ending_capture (Err e) source run stopped is ends = tt
ending_capture (Ok ending) source run true is ends = rw is (λ programs taken outcomes stamps short ended. ends programs taken outcomes stamps ended.0)
ending_capture (Ok ending) source run false is ends = rw is (λ programs taken outcomes stamps short ended. ends programs taken outcomes stamps ended)

abbrev pub EndsAtOne : PacketSource → Bool → Ending → Type 0
EndsAtOne source stopped ending = (programs : Programs) (taken : List ℕ) (outcomes : List Outcome) (stamps : List PacketTime)
    → SourceEnded programs stopped taken source outcomes stamps → IsTrue stopped → ending_status ending ≡ 1

pub one_capture : {E : Type 0} (r : Result Ending E) (source : PacketSource) (run : CaptureRun) (stopped : Bool) → source ≡ Captured run → (IsStopped run → IfOk r (λ ending. ending_status ending ≡ 1)) → IfOk r (EndsAtOne source stopped)
one_capture (Err e) source run stopped is one = tt
one_capture (Ok ending) source run true is one = rw is (λ programs taken outcomes stamps ended at. one ended.1)
one_capture (Ok ending) source run false is one = λ programs taken outcomes stamps ended at. absurd (cc)

-- how lines end where they stop, and where they don't
pub lines_stopped : (source : PacketSource) (feed : LineFeed) (stopped : Bool) (number : ℕ) (ending : Ending) → source ≡ Lines feed → stopped ≡ true → (feed.number + 1 < 18446744073709551616 → number ≡ feed.number + 1) → ending ≡ line_ending number feed.refused
    → Ends source stopped ending
lines_stopped source feed stopped number ending is at counted told = rw (is, at) (λ programs taken outcomes stamps short ended. (
  ended.0.good,
  ended.0.ran,
  inr (ended.0.bad, ended.0.more, ended.0.parts, feed.refused, ended.0.wrong, told ∙ ap (λ n. line_ending n feed.refused) (counted (omega (arith, ended.0.count, ended.0.few, short)) ∙ ap (λ k. k + 1) ended.0.count)),
))

pub lines_done : (source : PacketSource) (feed : LineFeed) (stopped : Bool) → source ≡ Lines feed → stopped ≡ false → Ends source stopped Done
lines_done source feed stopped is at = rw (is, at) (λ programs taken outcomes stamps short ended. (lines taken, ended.0, inl (refl, refl)))

line_status : (number : ℕ) (stop : Option CodeFault) → ending_status (line_ending number stop) ≡ 1
line_status number None = refl
line_status number (Some fault) = refl

pub lines_at_one : (source : PacketSource) (feed : LineFeed) (stopped : Bool) (number : ℕ) (ending : Ending) → ending ≡ line_ending number feed.refused → EndsAtOne source stopped ending
lines_at_one source feed stopped number ending told = λ programs taken outcomes stamps ended at. ap ending_status told ∙ line_status number feed.refused

-- what a stream has read, run and shown
pub record Streamed {R W : Type 0} (view : View) (programs : Programs) (form : PacketForm) (remaining : R → Option (List ℕ)) (from at : Source R) (contents : W → Option (List ℕ)) (old new : Sink W) (source : PacketSource) (tally : Tally) (turns : ℕ) : Type 0 where
  pub input : List ℕ
  pub shown : List Outcome
  pub lost : Gets remaining from at input
  pub stamps : List PacketTime
  pub ran : SourceRan programs input source shown stamps
  pub counted : HasCounted view tally shown
  pub appended : Writes contents old new (shown_at_once view 0 stamps shown)
  pub stamped : is_stamped source ≡ shows_stamps view form
  pub kind : form_of source ≡ form
  pub short : length input ≤ 65536 * turns
