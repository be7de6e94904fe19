-- What was read of a script and its files, in which order, and why it ended early.
use Rattle.std.specs.Prelude.{◌≡◌, ◌<◌, ◌≤◌, ◌++◌, ◌∷◌, ◌⊎◌, [], ℕ, ⊤, Bool, true, false, Option, Some, List, length, map, slice_get, take}
use Rattle.engine_io.specs.declared.fault.EngineFault.{EngineFault}
use Rattle.engine_io.specs.declared.fault.EngineFault.TheVariants.{ReadFailed, WriteFailed, NoMemory}
use Rattle.engine_io.specs.declared.input.TheConstants.{INPUT_BYTES, INPUT_READS}
use Rattle.engine_io.specs.declared.sink.Sink.{Sink}
use Rattle.engine_io.specs.declared.source.Source.{Source}
use Rattle.engine_io.specs.Devices.{CannotRead, IsFresh}
use Rattle.engine_io.specs.Reading.{IsInput, IsKnown}

-- what the readers of these sources have, as far as that is known
abbrev pub had : {F : Type 0} → (F → Option (List ℕ)) → List (Source F) → List (Option (List ℕ))
had remaining files = map (λ file. remaining file.inner) files

-- these are what the readers had, as far as that is known
abbrev pub AreKnown : List (Option (List ℕ)) → List (List ℕ) → Type 0
AreKnown [] [] = ⊤
AreKnown (known ∷ others) (input ∷ inputs) = IsKnown known input × AreKnown others inputs
AreKnown others inputs = ⊥

-- each is within the limit of an input
abbrev pub AllWithin : List (List ℕ) → Type 0
AllWithin [] = ⊤
AllWithin (input ∷ inputs) = (length input ≤ INPUT_BYTES) × AllWithin inputs

-- each file that has none before it which is too long was read: its input is by what its source got
pub record AreGot {F : Type 0} (remaining : F → Option (List ℕ)) (files files' : List (Source F)) (inputs : List (List ℕ)) : Type 0 where
  pub same : length files' ≡ length files
  pub each : (place : ℕ) (old new : Source F) (input : List ℕ) → slice_get files place ≡ Some old → slice_get files' place ≡ Some new → slice_get inputs place ≡ Some input
      → AllWithin (take place inputs) → IsInput remaining old new input

-- these are the inputs of these files
abbrev pub AreInputs : {F : Type 0} → (F → Option (List ℕ)) → List (Source F) → List (Source F) → List (List ℕ) → Type 0
AreInputs remaining files files' inputs = AreKnown (had remaining files) inputs × AreGot remaining files files' inputs

-- one is longer
abbrev pub OneLonger : List (List ℕ) → Type 0
OneLonger inputs = (k : ℕ) × (input : List ℕ) × (slice_get inputs k ≡ Some input) × (INPUT_BYTES < length input)

abbrev pub LongAmong : {F : Type 0} → (F → Option (List ℕ)) → List (Source F) → List (Source F) → Type 0
LongAmong remaining files files' = (inputs : List (List ℕ)) × AreInputs remaining files files' inputs × OneLonger inputs

-- a source's input was kept last, or it is too long
abbrev pub Kept : {F : Type 0} → (F → Option (List ℕ)) → Source F → Source F → List (List ℕ) → List (List ℕ) → Bool → Type 0
Kept remaining old new held held' true = (input : List ℕ) × (held' ≡ held ++ input ∷ []) × IsInput remaining old new input × (length input ≤ INPUT_BYTES)
Kept remaining old new held held' false = (held' ≡ held) × ((input : List ℕ) × IsInput remaining old new input × (INPUT_BYTES < length input))

-- The script and its files

-- these are the inputs of the script and of the files: those of the files by what was got of them where the script isn't too long
abbrev pub AreScriptInputs : {R F : Type 0} → (R → Option (List ℕ)) → Source R → Source R → (F → Option (List ℕ)) → List (Source F) → List (Source F) → List ℕ → List (List ℕ) → Type 0
AreScriptInputs remaining old new left files files' input inputs =
    IsInput remaining old new input × AreKnown (had left files) inputs × (length input ≤ INPUT_BYTES → AreGot left files files' inputs)

-- the script and each file are within the limit
abbrev pub AllShort : List ℕ → List (List ℕ) → Type 0
AllShort input files = (length input ≤ INPUT_BYTES) × AllWithin files

-- the script or a file is longer
abbrev pub SomeLong : List ℕ → List (List ℕ) → Type 0
SomeLong input files = (INPUT_BYTES < length input) ⊎ OneLonger files

-- so it is with the inputs
abbrev pub HadLong : {R F : Type 0} → (R → Option (List ℕ)) → Source R → Source R → (F → Option (List ℕ)) → List (Source F) → List (Source F) → Type 0
HadLong remaining old new left files files' =
    (input : List ℕ) × (inputs : List (List ℕ)) × AreScriptInputs remaining old new left files files' input inputs × SomeLong input inputs

-- The records of the files

-- of each, nothing was read
abbrev pub AllFresh : {F : Type 0} → List (Source F) → Type 0
AllFresh files = (place : ℕ) → (file : Source _) → slice_get files place ≡ Some file → IsFresh file INPUT_READS

-- those before one place were read to their ends, and those after it were not read
pub record AreReadInOrder {F : Type 0} (old new : List (Source F)) : Type 0 where
  pub place : ℕ
  pub before : (earlier : ℕ) (file : Source F) → earlier < place → slice_get new earlier ≡ Some file → file.ended ≡ true
  pub after : (later : ℕ) → place < later → slice_get new later ≡ slice_get old later

-- no read of a file failed
abbrev pub NoneFailed : {F : Type 0} → List (Source F) → Type 0
NoneFailed files = (place : ℕ) → (file : Source _) → slice_get files place ≡ Some file → file.failed ≡ false

-- a file can't be read
pub record OneFails {F : Type 0} (files : List (Source F)) : Type 0 where
  pub place : ℕ
  pub file : Source F
  pub there : slice_get files place ≡ Some file
  pub fails : CannotRead file

-- Why the files aren't read through: one can't be read, or memory was refused while no read had failed. No public clause
-- cites this.
abbrev pub StopsFiles : {F : Type 0} → List (Source F) → EngineFault → Type 0
StopsFiles files ReadFailed = OneFails files
StopsFiles files WriteFailed = ⊥
StopsFiles files NoMemory = NoneFailed files

-- the same of a script and its files
abbrev pub StopsInputs : {R F : Type 0} → Source R → List (Source F) → EngineFault → Type 0
StopsInputs script files ReadFailed = CannotRead script ⊎ OneFails files
StopsInputs script files WriteFailed = ⊥
StopsInputs script files NoMemory = (script.failed ≡ false) × NoneFailed files

-- why an engine over a script, its files and a sink ended early
abbrev pub ScriptEndsEarly : {R F W : Type 0} → Source R → List (Source F) → Sink W → EngineFault → Type 0
ScriptEndsEarly script files sink ReadFailed = (CannotRead script ⊎ OneFails files) × (sink.failed ≡ false)
ScriptEndsEarly script files sink WriteFailed = (script.failed ≡ false) × NoneFailed files × (sink.failed ≡ true)
ScriptEndsEarly script files sink NoMemory = (script.failed ≡ false) × NoneFailed files × (sink.failed ≡ false)
