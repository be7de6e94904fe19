-- Why a script's run ended early, from why a part of it did.
use Rattle.std.proofs.Common.{◌≡◌, false, List, Result, Ok, Err}
use Rattle.std.specs.Prelude.{IfErr}
use Rattle.std.specs.Result.{IsErrAnd}
use Rattle.engine_io.specs.declared.source.Source.{Source}
use Rattle.engine_io.specs.declared.sink.Sink.{Sink}
use Rattle.engine_io.specs.declared.fault.EngineFault.{EngineFault}
use Rattle.engine_io.specs.declared.fault.EngineFault.TheVariants.{ReadFailed, WriteFailed, NoMemory}
use Rattle.engine_io.specs.Devices.{StopsWriting}
use Rattle.script_input.specs.Inputs.{NoneFailed, ScriptEndsEarly, StopsInputs}

-- the inputs were not read through, and that fault was passed on
pub ends_reading : {T R F W : Type 0} (r : Result T EngineFault) (fault : EngineFault) (script : Source R) (files : List (Source F)) (sink : Sink W) → sink.failed ≡ false
    → IsErrAnd r (λ e. e ≡ fault) → StopsInputs script files fault → IfErr r (ScriptEndsEarly script files sink)
ends_reading (Ok v) fault script files sink wrote is stops = tt
ends_reading (Err e) ReadFailed script files sink wrote is stops = rw is (stops, wrote)
ends_reading (Err e) WriteFailed script files sink wrote is stops = absurd stops
ends_reading (Err e) NoMemory script files sink wrote is stops = rw is (stops.0, stops.1, wrote)

-- a part that only writes answered the fault
pub ends_writing : {T R F W : Type 0} (r : Result T EngineFault) (script : Source R) (files : List (Source F)) (sink : Sink W) → script.failed ≡ false → NoneFailed files
    → IfErr r (StopsWriting sink) → IfErr r (ScriptEndsEarly script files sink)
ends_writing (Ok v) script files sink read all_read stops = tt
ends_writing (Err ReadFailed) script files sink read all_read stops = absurd stops
ends_writing (Err WriteFailed) script files sink read all_read stops = (read, all_read, stops)
ends_writing (Err NoMemory) script files sink read all_read stops = (read, all_read, stops)
