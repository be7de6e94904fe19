-- What is shown of an input that is read as a whole.
use Rattle.std.specs.Prelude.{◌≡◌, ℕ, ◌<◌, ◌≤◌, ◌⊎◌, List, length, Result, Ok}
use Rattle.std.specs.Borrow.{Bor}
use Rattle.std.specs.Fn.{FnOnceReturnsAt, Once}
use Rattle.engine_io.specs.declared.input.TheConstants.{INPUT_BYTES}
use Rattle.engine_io.specs.declared.showing.Shown.{Shown}
use Rattle.engine_io.specs.Reading.{ShowsTooLong}

-- what is shown of an input, whose length has a limit
abbrev pub ShowsBounded : (List ℕ → ℕ → List ℕ → Type 0) → List ℕ → ℕ → List ℕ → Type 0
ShowsBounded Shows input status text =
    ((length input ≤ INPUT_BYTES) × Shows input status text)
    ⊎ ((INPUT_BYTES < length input) × ShowsTooLong status text)

-- make, called at an input, may give this text, and the status that goes with it
abbrev pub Makes : {F E : Type 0} → Once F (Bor (List ℕ) × Unit {0}) (Result Shown E) → F → List ℕ → ℕ → List ℕ → Type 0
Makes call make input status text =
    (shown : Shown) × FnOnceReturnsAt call make input (Ok shown) × (status ≡ shown.status) × (text ≡ shown.text.items)
