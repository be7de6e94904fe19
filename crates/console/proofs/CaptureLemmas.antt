-- What `match` has shown of a capture.
use Rattle.std.proofs.Common.{◌≡◌, ℕ, ◌++◌, List, [], Option, Result, Ok, Err, IfOk, ap, refl, sym, ◌∙◌, append-nil, flat_map}
use Rattle.console.specs.Programs.{Programs}
use Rattle.std.specs.Prelude.{OnOk}
use Rattle.filter_vm.specs.declared.machine.Outcome.{Outcome}
use Rattle.capture_reader.specs.declared.entry.PacketTime.{PacketTime}
use Rattle.console.specs.declared.ending.Ending.{Ending}
use Rattle.console.specs.declared.filter.CodeFault.{CodeFault}
use Rattle.console.specs.Expressions.{explanation_of}
use Rattle.console.specs.Refusing.{linked_in, served}
use Rattle.console.proofs.RefusingLemmas.{linked_in-append, served_first}
use Rattle.console.specs.declared.capture_run.CaptureRun.{CaptureRun}
use Rattle.console.specs.declared.form.PacketForm.TheVariants.{Capture}
use Rattle.console.specs.Choosing.{chosen}
use Rattle.engine_io.specs.declared.sink.Sink.{Sink}
use Rattle.engine_io.specs.Devices.{Writes}
use Rattle.engine_io.specs.declared.fault.EngineFault.{EngineFault}
use Rattle.engine_io.specs.Reading.{BeginsWith}
use Rattle.console.specs.Matching.{ShowsBytes, ShowsPackets, ending_status, ending_stop, ending_text, outcome_line}
use Rattle.console.specs.Running.{EndsRun, HasRun}
use Rattle.console.specs.declared.view.View.TheVariants.{Lines}
use Rattle.console.specs.Views.{shown_at_once}
use Rattle.engine_io.proofs.KnownBytesLemmas.{writes-then}
use Rattle.console.proofs.ViewLemmas.{lines_flat}

module _ (run : CaptureRun) (outcomes : List Outcome) (ending : Ending) (ends : (programs : Programs) (fed : List ℕ) (outcomes : List Outcome) (stamps : List PacketTime) → HasRun programs fed run outcomes stamps → EndsRun programs run.link fed outcomes ending) where
  -- all of it, in two writes
  pub capture_shown : (r : Result ℕ EngineFault) (kept code before after : List ℕ) {W : Type 0} {contents : W → Option (List ℕ)} (old new last : Sink W)
      → Writes contents old new (shown_at_once Lines 0 [] outcomes) → kept ≡ [] → IfOk r (λ status. (status ≡ ending_status ending) × Writes contents new last (kept ++ ending_text ending))
      → OnOk r (after ≡ before ++ explanation_of code (ending_stop ending))
      → IfOk r (λ status. (text : List ℕ) × (stop : Option CodeFault) × Writes contents old last text × ((programs : Programs) (fed : List ℕ) (stamps : List PacketTime) → HasRun programs fed run outcomes stamps → ShowsBytes programs (Capture run.link) fed status text stop)
      × (after ≡ before ++ explanation_of code stop))
  capture_shown (Ok status) kept code before after old new last lines empty ended told = (
    flat_map outcome_line outcomes ++ ending_text ending,
    ending_stop ending,
    writes-then old new last (flat_map outcome_line outcomes) (ending_text ending) (rw (lines_flat 0 [] outcomes) at lines) (rw empty at ended.1),
    λ programs fed stamps has. let all = ends programs fed outcomes stamps has in (
      all.0,
      all.1,
      all.2,
      record {
        outcomes = outcomes;
        ran = all.3;
        shown = (ended.0 ∙ ap ending_status all.4, ap (λ e. flat_map outcome_line outcomes ++ ending_text e) all.4, ap ending_stop all.4);
      },
    ),
    told,
  )
  capture_shown (Err e) kept code before after old new last lines empty ended told = tt

  -- and in part
  pub capture_part : (text : List ℕ) → BeginsWith text (shown_at_once Lines 0 [] outcomes) → (programs : Programs) (fed : List ℕ) (stamps : List PacketTime) → HasRun programs fed run outcomes stamps → ShowsPackets programs (Capture run.link) fed text
  capture_part text begins programs fed stamps has =
      let all = ends programs fed outcomes stamps has in
      let first = served_first programs (chosen run.link all.0) in (
        all.0,
        all.1,
        all.2,
        record {
          good = linked_in (served programs (chosen run.link all.0));
          left = linked_in first.0;
          outcomes = outcomes;
          more = begins.0;
          front = ap linked_in first.1 ∙ linked_in-append (served programs (chosen run.link all.0)) first.0;
          ran = all.3;
          printed = sym begins.1 ∙ lines_flat 0 [] outcomes;
        },
      )
