-- What contracts see of the bodies of drafts. No public clause cites these.
use Rattle.std.specs.Prelude.{◌≡◌, ℕ, ◌<◌, ◌^◌, List, length}
use Rattle.mk_script.specs.declared.meaning.Meaning.{Meaning}
use Rattle.mk_script.specs.declared.meaning.Meaning.TheVariants.{NamedProgram, NamedCapture}
use Rattle.mk_script.specs.declared.meaning.Draft.{Draft}
use Rattle.mk_script.specs.declared.meaning.Draft.TheVariants.{Assembler}

-- the text for the assembler is short enough for it
abbrev pub IsShort : Draft → Type 0
IsShort (Assembler name text) = length text.now < 2 ^ 32
IsShort _ = Unit {0}

-- the meaning gives this name to a program, or to a capture
abbrev pub IsNamedProgram : List ℕ → Meaning → Type 0
IsNamedProgram name (NamedProgram other program) = other.now ≡ name
IsNamedProgram name _ = ⊥

abbrev pub IsNamedCapture : List ℕ → Meaning → Type 0
IsNamedCapture name (NamedCapture other packets) = other.now ≡ name
IsNamedCapture name _ = ⊥
