-- What was got of a source and written to a sink, what their records say of a read and of a write, and why an engine may end early.
use Rattle.std.specs.Prelude.{◌≡◌, ℕ, ◌+◌, ◌<◌, ◌≤◌, ◌⊎◌, List, [], ◌++◌, length, take, Option, Some, None, Bool, true, false}
use Rattle.std.specs.Io.KnownBytes.{Appends, Consumes, IsAtEnd, Keeps}
use Rattle.engine_io.specs.declared.source.Source.{Source}
use Rattle.engine_io.specs.declared.source.Got.{Got}
use Rattle.engine_io.specs.declared.source.Got.TheVariants.{Bytes, End, Again, Failed}
use Rattle.engine_io.specs.declared.sink.Sink.{Sink}
use Rattle.engine_io.specs.declared.input.Input.{Input}
use Rattle.engine_io.specs.declared.input.Input.TheVariants.{Whole, TooLong}
use Rattle.engine_io.specs.declared.fault.EngineFault.{EngineFault}
use Rattle.engine_io.specs.declared.fault.EngineFault.TheVariants.{ReadFailed, WriteFailed, NoMemory}

-- this text was written: the list of the sink grew by it, and so did what its writer holds, where that is known
pub record Writes {W : Type 0} (contents : W → Option (List ℕ)) (old new : Sink W) (text : List ℕ) : Type 0 where
  pub list : new.written.items ≡ old.written.items ++ text
  pub held : Appends (contents old.inner) (contents new.inner) text

-- nothing was written: the list stays as it was, and so does what the writer holds, where that is known
pub record WritesNothing {W : Type 0} (contents : W → Option (List ℕ)) (old new : Sink W) : Type 0 where
  pub list : new.written.items ≡ old.written.items
  pub held : Keeps (contents old.inner) (contents new.inner)

-- these bytes were got: the source's list grew by them. The reader's contents began with them and lost them, where these are known
pub record Gets {R : Type 0} (remaining : R → Option (List ℕ)) (old new : Source R) (bytes : List ℕ) : Type 0 where
  pub list : new.got.items ≡ old.got.items ++ bytes
  pub lost : Consumes (remaining old.inner) (remaining new.inner) bytes

-- nothing was got: the list stays as it was, and so does what the reader has, where that is known
pub record GetsNothing {R : Type 0} (remaining : R → Option (List ℕ)) (old new : Source R) : Type 0 where
  pub list : new.got.items ≡ old.got.items
  pub left : Keeps (remaining old.inner) (remaining new.inner)

-- a read: one less is left, and the record says how many bytes were taken, whether it met the end, and whether it failed
abbrev pub Records : {R : Type 0} → Source R → Source R → ℕ → Bool → Bool → Type 0
Records old new count ended failed =
    (old.left ≡ new.left + 1) × (new.taken ≡ old.taken + count) × (new.ended ≡ ended) × (new.failed ≡ failed)

-- a read gave what the record says: bytes, the end, or nothing
abbrev pub HasRead : {R : Type 0} → (R → Option (List ℕ)) → Source R → Source R → List ℕ → Got → Type 0
HasRead remaining old new buffer (Bytes count) =
    Records old new count false false × (0 < count) × (count ≤ length buffer) × Gets remaining old new (take count buffer)
HasRead remaining old new buffer End = Records old new 0 true false × Gets remaining old new [] × IsAtEnd (remaining new.inner)
HasRead remaining old new buffer Again = Records old new 0 false false × GetsNothing remaining old new
HasRead remaining old new buffer Failed = Records old new 0 false true × GetsNothing remaining old new

-- a write took bytes of the front, or it failed, and the record says so
abbrev pub HasWritten : {W : Type 0} → (W → Option (List ℕ)) → Sink W → Sink W → List ℕ → Option ℕ → Type 0
HasWritten contents old new bytes (Some count) =
    (new.failed ≡ false) × (0 < count) × (count ≤ length bytes) × Writes contents old new (take count bytes)
HasWritten contents old new bytes None = (new.failed ≡ true) × WritesNothing contents old new

-- What the records say of an engine

-- nothing was read, and so many reads are left
abbrev pub IsFresh : {R : Type 0} → Source R → ℕ → Type 0
IsFresh source reads = (source.left ≡ reads) × (source.taken ≡ 0) × ((source.ended ≡ false) × (source.failed ≡ false))

-- reads met the end, or they took more than so many bytes and did not
abbrev pub IsReadThrough : {R : Type 0} → Source R → ℕ → Bool → Type 0
IsReadThrough source most true = (source.failed ≡ false) × (source.ended ≡ true) × (source.taken ≤ most)
IsReadThrough source most false = (source.failed ≡ false) × (source.ended ≡ false) × (most < source.taken)

-- the same, with the bytes that were kept
abbrev pub HasTaken : {R : Type 0} → Source R → ℕ → Input → Type 0
HasTaken source most (Whole held) = IsReadThrough source most true × (source.taken ≡ length held.items)
HasTaken source most TooLong = IsReadThrough source most false

-- a read failed, or no read is left and none met the end
abbrev pub CannotRead : {R : Type 0} → Source R → Type 0
CannotRead source = (source.failed ≡ true) ⊎ ((source.left ≡ 0) × (source.ended ≡ false))

-- why an input isn't read through: the source can't be read, or memory was refused while no read had failed
abbrev pub StopsReading : {R : Type 0} → Source R → EngineFault → Type 0
StopsReading source ReadFailed = CannotRead source
StopsReading source WriteFailed = ⊥
StopsReading source NoMemory = source.failed ≡ false

-- why a text isn't written: a write failed, or memory was refused while none had
abbrev pub StopsWriting : {W : Type 0} → Sink W → EngineFault → Type 0
StopsWriting sink ReadFailed = ⊥
StopsWriting sink WriteFailed = sink.failed ≡ true
StopsWriting sink NoMemory = sink.failed ≡ false

-- an engine did its work: it read the input to its end, or found it too long, and no read and no write failed
abbrev pub EndsWell : {R W : Type 0} → Source R → Sink W → ℕ → Type 0
EndsWell source sink most = ((whole : Bool) × IsReadThrough source most whole) × (sink.failed ≡ false)

-- an engine ended early: since the source can't be read, since a write failed, or since memory was refused, and nothing else failed
abbrev pub EndsEarly : {R W : Type 0} → Source R → Sink W → EngineFault → Type 0
EndsEarly source sink ReadFailed = CannotRead source × (sink.failed ≡ false)
EndsEarly source sink WriteFailed = (source.failed ≡ false) × (sink.failed ≡ true)
EndsEarly source sink NoMemory = (source.failed ≡ false) × (sink.failed ≡ false)
