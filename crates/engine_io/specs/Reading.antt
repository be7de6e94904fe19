-- What is read of an input, and what is shown of one that is too long.
use Rattle.std.specs.Prelude.{◌≡◌, ℕ, ◌+◌, ◌++◌, ◌<◌, ◌≤◌, ◌⊎◌, List, length, codes, Option, Some, None, ⊤}
use Rattle.std.specs.Io.KnownBytes.{IsAtEnd}
use Rattle.engine_io.specs.declared.input.TheConstants.{INPUT_BYTES, READ_BYTES}
use Rattle.engine_io.specs.declared.input.Input.{Input}
use Rattle.engine_io.specs.declared.input.Input.TheVariants.{Whole, TooLong}
use Rattle.engine_io.specs.declared.fault.EngineFault.{EngineFault}
use Rattle.engine_io.specs.declared.fault.EngineFault.TheVariants.{ReadFailed, WriteFailed, NoMemory}
use Rattle.engine_io.specs.declared.source.Source.{Source}
use Rattle.engine_io.specs.Devices.{Gets}

-- a source got more than the limit, and stopped there: with the piece that went past it
abbrev pub GotTooMany : {R : Type 0} → (R → Option (List ℕ)) → Source R → Source R → ℕ → Type 0
GotTooMany remaining old new most = (given : List ℕ) × Gets remaining old new given × (most < length given) × (length given ≤ most + READ_BYTES)

-- a source got just these bytes, and then its reader was at its end, or it got more than the limit
abbrev pub Gave : {R : Type 0} → (R → Option (List ℕ)) → Source R → Source R → ℕ → Input → Type 0
Gave remaining old new most (Whole held) = Gets remaining old new held.items × IsAtEnd (remaining new.inner) × (length held.items ≤ most)
Gave remaining old new most TooLong = GotTooMany remaining old new most

-- a source got some bytes, or none
abbrev pub GetsSome : {R : Type 0} → (R → Option (List ℕ)) → Source R → Source R → Type 0
GetsSome remaining old new = (given : List ℕ) × Gets remaining old new given

-- a source got so many bytes at most
abbrev pub GetsAtMost : {R : Type 0} → (R → Option (List ℕ)) → Source R → Source R → ℕ → Type 0
GetsAtMost remaining old new most = (given : List ℕ) × Gets remaining old new given × (length given ≤ most)

-- the most bytes that are taken of an input: with the piece that goes past the limit
abbrev pub most_taken : ℕ
most_taken = INPUT_BYTES + READ_BYTES

-- what can go wrong while an input is read
abbrev pub IsReadFault : EngineFault → Type 0
IsReadFault e = (e ≡ ReadFailed) ⊎ (e ≡ NoMemory)

-- what can go wrong while text is printed
abbrev pub IsPrintFault : EngineFault → Type 0
IsPrintFault e = (e ≡ WriteFailed) ⊎ (e ≡ NoMemory)

-- what can go wrong in an engine that starts no thread
abbrev pub IsEngineFault : EngineFault → Type 0
IsEngineFault e = (e ≡ ReadFailed) ⊎ (e ≡ WriteFailed) ⊎ (e ≡ NoMemory)

-- whole begins with text
abbrev pub BeginsWith : List ℕ → List ℕ → Type 0
BeginsWith text whole = (more : List ℕ) × (whole ≡ text ++ more)

-- these are the bytes that a reader had, where those are known
abbrev pub IsKnown : Option (List ℕ) → List ℕ → Type 0
IsKnown None input = ⊤
IsKnown (Some bytes) input = input ≡ bytes

-- bytes are all of an input, or they begin it, and are more than 64 MiB
abbrev pub IsReadOf : List ℕ → List ℕ → Type 0
IsReadOf got input = (input ≡ got) ⊎ ((INPUT_BYTES < length got) × BeginsWith got input)

-- the input of an engine: what its source got is all of it, or more than 64 MiB at its front; and it is what the reader had, where
-- that is known
abbrev pub IsInput : {R : Type 0} → (R → Option (List ℕ)) → Source R → Source R → List ℕ → Type 0
IsInput remaining old new input = IsKnown (remaining old.inner) input × ((got : List ℕ) × Gets remaining old new got × IsReadOf got input)

-- What is shown

-- the line for an input that is too long
abbrev pub too_long_line : List ℕ
too_long_line = codes "fault InputTooLong\n"

-- what is shown of an input that is too long, and no more
abbrev pub ShowsTooLong : ℕ → List ℕ → Type 0
ShowsTooLong status text = (status ≡ 1) × (text ≡ too_long_line)
