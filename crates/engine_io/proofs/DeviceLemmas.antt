-- Why an engine ended early, from why a part of it did.
use Rattle.std.proofs.Common.{◌≡◌, ℕ, Bool, true, false, Result, Ok, Err, IfOk}
use Rattle.std.specs.Prelude.{IfErr, OnOk}
use Rattle.std.specs.Result.{IsErrAnd}
use Rattle.engine_io.specs.declared.source.Source.{Source}
use Rattle.engine_io.specs.declared.sink.Sink.{Sink}
use Rattle.engine_io.specs.declared.fault.EngineFault.{EngineFault}
use Rattle.engine_io.specs.declared.fault.EngineFault.TheVariants.{ReadFailed, WriteFailed, NoMemory}
use Rattle.engine_io.specs.Devices.{EndsEarly, EndsWell, IsReadThrough, StopsReading, StopsWriting}

-- memory was refused
pub ends_refused : {T R W : Type 0} (r : Result T EngineFault) (source : Source R) (sink : Sink W) → source.failed ≡ false → sink.failed ≡ false
    → IsErrAnd r (λ e. e ≡ NoMemory) → IfErr r (EndsEarly source sink)
ends_refused (Ok v) source sink read wrote refused = tt
ends_refused (Err e) source sink read wrote refused = rw refused (read, wrote)

-- a part that only writes answered the fault
pub ends_writing : {T R W : Type 0} (r : Result T EngineFault) (source : Source R) (sink : Sink W) → source.failed ≡ false → IfErr r (StopsWriting sink) → IfErr r (EndsEarly source sink)
ends_writing (Ok v) source sink read stops = tt
ends_writing (Err ReadFailed) source sink read stops = absurd stops
ends_writing (Err WriteFailed) source sink read stops = (read, stops)
ends_writing (Err NoMemory) source sink read stops = (read, stops)

-- and its fault was passed on
pub ends_written : {T R W : Type 0} (r : Result T EngineFault) (fault : EngineFault) (source : Source R) (sink : Sink W) → source.failed ≡ false → IsErrAnd r (λ e. e ≡ fault)
    → StopsWriting sink fault → IfErr r (EndsEarly source sink)
ends_written {T} (Ok v) fault source sink read is stops = tt
ends_written {T} (Err e) fault source sink read is stops = rw is (ends_writing {T = T} (Err fault) source sink read stops)

-- the fault of a part that only reads was passed on
pub ends_reading : {T R W : Type 0} (r : Result T EngineFault) (fault : EngineFault) (source : Source R) (sink : Sink W) → sink.failed ≡ false → IsErrAnd r (λ e. e ≡ fault)
    → StopsReading source fault → IfErr r (EndsEarly source sink)
ends_reading (Ok v) fault source sink wrote is stops = tt
ends_reading (Err e) ReadFailed source sink wrote is stops = rw is (stops, wrote)
ends_reading (Err e) WriteFailed source sink wrote is stops = absurd stops
ends_reading (Err e) NoMemory source sink wrote is stops = rw is (stops, wrote)

-- no read failed
pub read_well : {R : Type 0} (source : Source R) (most : ℕ) (whole : Bool) → IsReadThrough source most whole → source.failed ≡ false
read_well source most true through = through.0
read_well source most false through = through.0

-- an engine did its work, since what it ends with did
pub ends_well : {T R W : Type 0} (r : Result T EngineFault) (source : Source R) (sink : Sink W) (most : ℕ) (whole : Bool) → IsReadThrough source most whole → OnOk r (sink.failed ≡ false)
    → IfOk r (λ _. EndsWell source sink most)
ends_well (Ok v) source sink most whole through wrote = ((whole, through), wrote)
ends_well (Err e) source sink most whole through wrote = tt
