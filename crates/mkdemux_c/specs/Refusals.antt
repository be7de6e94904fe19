-- What a caller in C is given of a refusal, beside its number.
use Rattle.std.specs.Prelude.{ℕ, List, [], length}
use Rattle.filter_verify.specs.declared.rules.Refusal.{Refusal}
use Rattle.filter_verify.specs.declared.rules.Refusal.TheVariants.{Unwritten}
use Rattle.filter_verify.specs.Numbers.{place_of}
use Rattle.mkdemux_c.specs.declared.verifying.Place.{Place}

-- the word that is loaded before it is stored: 0 for other rules
abbrev pub word_of : Refusal → ℕ
word_of (Unwritten pc word path) = word
word_of _ = 0

-- the path to the load of that word: none for other rules
abbrev pub path_of : Refusal → List ℕ
path_of (Unwritten pc word path) = path
path_of _ = []

-- the place, the word and how many places the path has
abbrev pub reported : Refusal → Place
reported refusal = record { place = place_of refusal; word = word_of refusal; path = length (path_of refusal) }

-- what is reported where nothing is refused
abbrev pub nowhere : Place
nowhere = record { place = 0; word = 0; path = 0 }
