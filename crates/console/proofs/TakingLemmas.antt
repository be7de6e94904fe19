-- How many bytes were taken.
use Rattle.std.proofs.Common.{ℕ, List, Option, Some, None, Bool, true, false, Result, Ok, Err, IfOk, arith}
use Rattle.console.specs.Programs.{Programs}
use Rattle.filter_vm.specs.declared.machine.Outcome.{Outcome}
use Rattle.capture_reader.specs.declared.entry.PacketTime.{PacketTime}
use Rattle.console.specs.declared.capture_run.CaptureRun.{CaptureRun}
use Rattle.engine_io.specs.declared.source.Source.{Source}
use Rattle.console.specs.declared.captured.Captured.{Captured}
use Rattle.engine_io.specs.declared.input.TheConstants.{INPUT_BYTES}
use Rattle.engine_io.specs.declared.input.Input.{Input}
use Rattle.engine_io.specs.declared.input.Input.TheVariants.{Whole, TooLong}
use Rattle.engine_io.specs.Reading.{Gave, GetsAtMost, most_taken}
use Rattle.console.specs.Reading.{GaveCapture}
use Rattle.console.specs.Running.{RunsInput}

pub capture_taken : {R : Type 0} {remaining : R → Option (List ℕ)} (old new : Source R) (found : Option Captured) → GaveCapture remaining old new found → GetsAtMost remaining old new most_taken
capture_taken old new (Some c) gave = (gave.0, gave.1, omega (arith, gave.3))
capture_taken old new None gave = (gave.0, gave.1, gave.3)

pub run_taken : {R : Type 0} {remaining : R → Option (List ℕ)} (old new : Source R) (programs : Programs) (run : CaptureRun) (outcomes : List Outcome) (stamps : List PacketTime) (whole : Bool) → RunsInput remaining old new programs run outcomes stamps whole → GetsAtMost remaining old new most_taken
run_taken old new programs run outcomes stamps true gave = (gave.0, gave.1, omega (arith, gave.3))
run_taken old new programs run outcomes stamps false gave = (gave.0, gave.1, gave.3)
