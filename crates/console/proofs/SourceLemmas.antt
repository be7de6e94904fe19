-- What a source has run.
use Rattle.std.proofs.Common.{◌≡◌, ◌∙◌, ◌++◌, ℕ, ◌<◌, All, List, [], Bool, true, false, Result, Ok, Err, IfOk, refl, sym, append-nil}
use Rattle.std.specs.Prelude.{IsTrue, OnOk}
use Rattle.std.specs.Bool.{MatchBool}
use Rattle.console.specs.Programs.{Programs}
use Rattle.filter_vm.specs.declared.machine.Outcome.{Outcome}
use Rattle.capture_reader.specs.declared.entry.PacketTime.{PacketTime}
use Rattle.console.specs.declared.capture_run.CaptureRun.{CaptureRun}
use Rattle.console.specs.declared.line_feed.LineFeed.{LineFeed}
use Rattle.console.specs.declared.packet_source.PacketSource.{PacketSource}
use Rattle.console.specs.declared.packet_source.PacketSource.TheVariants.{Lines, Capture as Captured}
use Rattle.console.specs.Running.{IsStopped, RunsOn, RunsTo}
use Rattle.console.specs.Streaming.{LinesEnded, LinesRan, LinesStopped, SourceEnded, SourceRan, StampTo}

-- all of the bytes were taken, and no time stamps are kept
plain_to : {S T : Type 0} (From : List ℕ → S → List Outcome → Type 0) (To : List ℕ → S → List Outcome → Type 0) (From' To' : List ℕ → T → List Outcome → List PacketTime → Type 0) (bytes : List ℕ) (old new : S) (old' new' : T) (before after : List Outcome) (since : List PacketTime)
    → ((fed : List ℕ) (outcomes : List Outcome) (stamps : List PacketTime) → From' fed old' outcomes stamps → From fed old outcomes × (stamps ≡ []))
    → ((fed : List ℕ) (outcomes : List Outcome) (stamps : List PacketTime) → To fed new outcomes → stamps ≡ [] → To' fed new' outcomes stamps)
    → RunsTo From To bytes [] old new before after → StampTo From' To' bytes old' new' before after since since
plain_to From To From' To' bytes old new old' new' before after since into out r = record {
  more = r.more;
  times = [];
  pushed = r.pushed;
  pushed_times = sym (append-nil since);
  runs = λ fed outcomes stamps has short.
      let whole : bytes ≡ r.front = r.parts ∙ append-nil r.front in
      let from = into fed outcomes stamps has in
      out (fed ++ bytes) (outcomes ++ r.more) (stamps ++ []) (rw whole (r.runs fed outcomes from.0 (rw whole at short))) (append-nil stamps ∙ from.1);
}

pub lines_run : {E : Type 0} (r : Result Bool E) (programs : Programs) (bytes : List ℕ) (source : PacketSource) (old new : LineFeed) (before after : List Outcome) (since : List PacketTime) → source ≡ Lines old
    → IfOk r (λ stopped. MatchBool stopped
    (RunsTo (LinesRan programs) (LinesStopped programs) bytes [] old new before after)
    (RunsTo (LinesRan programs) (LinesRan programs) bytes [] old new before after))
    → IfOk r (λ stopped. MatchBool stopped
    (StampTo (SourceRan programs) (SourceEnded programs true) bytes source (Lines new) before after since since)
    (StampTo (SourceRan programs) (SourceRan programs) bytes source (Lines new) before after since since))
lines_run (Ok true) programs bytes source old new before after since is ran = rw is (plain_to (LinesRan programs) (LinesStopped programs) (SourceRan programs) (SourceEnded programs true) bytes old new (Lines old) (Lines new) before after since (λ fed outcomes stamps has. has) (λ fed outcomes stamps has none. (has, none)) ran)
lines_run (Ok false) programs bytes source old new before after since is ran = rw is (plain_to (LinesRan programs) (LinesRan programs) (SourceRan programs) (SourceRan programs) bytes old new (Lines old) (Lines new) before after since (λ fed outcomes stamps has. has) (λ fed outcomes stamps has none. (has, none)) ran)
lines_run (Err e) programs bytes source old new before after since is ran = tt

-- what a run of a capture did is what its source did
capture_to : (programs : Programs) (bytes : List ℕ) (old new : CaptureRun) (before after : List Outcome) (since upto : List PacketTime) → RunsOn programs bytes [] old new before after since upto → All (λ b. b < 256) bytes
    → StampTo (SourceRan programs) (SourceRan programs) bytes (Captured old) (Captured new) before after since upto
capture_to programs bytes old new before after since upto r small = record {
  more = r.more;
  times = r.times;
  pushed = r.pushed;
  pushed_times = r.pushed_times;
  runs = λ fed outcomes stamps has short.
      let whole : bytes ≡ r.front = r.parts ∙ append-nil r.front in rw whole (r.runs fed outcomes stamps has small (rw whole at short));
}

capture_stops : (programs : Programs) (bytes : List ℕ) (old new : CaptureRun) (before after : List Outcome) (since upto : List PacketTime) → IsStopped new → RunsOn programs bytes [] old new before after since upto → All (λ b. b < 256) bytes
    → StampTo (SourceRan programs) (SourceEnded programs true) bytes (Captured old) (Captured new) before after since upto
capture_stops programs bytes old new before after since upto stopped r small = record {
  more = r.more;
  times = r.times;
  pushed = r.pushed;
  pushed_times = r.pushed_times;
  runs = λ fed outcomes stamps has short.
      let whole : bytes ≡ r.front = r.parts ∙ append-nil r.front in (rw whole (r.runs fed outcomes stamps has small (rw whole at short)), stopped);
}

pub capture_run : {E : Type 0} (r : Result Bool E) (programs : Programs) (bytes : List ℕ) (source : PacketSource) (old new : CaptureRun) (before after : List Outcome) (since upto : List PacketTime) → source ≡ Captured old
    → OnOk r (RunsOn programs bytes [] old new before after since upto) → IfOk r (λ stopped. IsTrue stopped → IsStopped new) → All (λ b. b < 256) bytes
    → IfOk r (λ stopped. MatchBool stopped
    (StampTo (SourceRan programs) (SourceEnded programs true) bytes source (Captured new) before after since upto)
    (StampTo (SourceRan programs) (SourceRan programs) bytes source (Captured new) before after since upto))
capture_run (Ok true) programs bytes source old new before after since upto is ran stopped small = rw is (capture_stops programs bytes old new before after since upto (stopped refl) ran small)
capture_run (Ok false) programs bytes source old new before after since upto is ran stopped small = rw is (capture_to programs bytes old new before after since upto ran small)
capture_run (Err e) programs bytes source old new before after since upto is ran stopped small = tt

pub lines_finish : {E : Type 0} (r : Result Bool E) (programs : Programs) (source : PacketSource) (old new : LineFeed) (before after : List Outcome) → source ≡ Lines old
    → IfOk r (λ stopped. MatchBool stopped
    (RunsTo (LinesRan programs) (LinesStopped programs) [] [] old new before after)
    (RunsTo (LinesRan programs) (LinesEnded programs) [] [] old new before after))
    → IfOk r (λ stopped. (since : List PacketTime) → StampTo (SourceRan programs) (SourceEnded programs stopped) [] source (Lines new) before after since since)
lines_finish (Ok true) programs source old new before after is ran = λ since. rw is (plain_to (LinesRan programs) (LinesStopped programs) (SourceRan programs) (SourceEnded programs true) [] old new (Lines old) (Lines new) before after since (λ fed outcomes stamps has. has) (λ fed outcomes stamps has none. (has, none)) ran)
lines_finish (Ok false) programs source old new before after is ran = λ since. rw is (plain_to (LinesRan programs) (LinesEnded programs) (SourceRan programs) (SourceEnded programs false) [] old new (Lines old) (Lines new) before after since (λ fed outcomes stamps has. has) (λ fed outcomes stamps has none. (has, none)) ran)
lines_finish (Err e) programs source old new before after is ran = tt

capture_ends : (programs : Programs) (run : CaptureRun) (outcomes : List Outcome) (since : List PacketTime) → StampTo (SourceRan programs) (SourceEnded programs false) [] (Captured run) (Captured run) outcomes outcomes since since
capture_ends programs run outcomes since = record {
  more = [];
  times = [];
  pushed = sym (append-nil outcomes);
  pushed_times = sym (append-nil since);
  runs = λ fed outcomes stamps has short. rw (append-nil fed, append-nil outcomes, append-nil stamps) has;
}

pub capture_finish : (programs : Programs) (source : PacketSource) (run : CaptureRun) (outcomes : List Outcome) → source ≡ Captured run
    → (since : List PacketTime) → StampTo (SourceRan programs) (SourceEnded programs false) [] source source outcomes outcomes since since
capture_finish programs source run outcomes is since = rw is (capture_ends programs run outcomes since)
