-- What an engine got of its input.
use Rattle.std.proofs.Common.{Result, Ok, Err, IfOk, ◌≡◌, ℕ, List, [], ◌++◌, ◌<◌, length, Option, Some, None, ap, sym, refl, ◌∙◌, arith, length-append, inl, inr}
use Rattle.std.specs.Io.KnownBytes.{Consumes, IsAtEnd}
use Rattle.std.proofs.lemmas.List.{append-nil}
use Rattle.engine_io.specs.declared.fault.EngineFault.{EngineFault}
use Rattle.engine_io.specs.declared.input.TheConstants.{INPUT_BYTES}
use Rattle.engine_io.specs.declared.input.Input.{Input}
use Rattle.engine_io.specs.declared.input.Input.TheVariants.{Whole, TooLong}
use Rattle.engine_io.specs.declared.source.Source.{Source}
use Rattle.engine_io.specs.declared.sink.Sink.{Sink}
use Rattle.engine_io.specs.Devices.{Gets, Writes}
use Rattle.engine_io.specs.Reading.{BeginsWith, Gave, GetsAtMost, GotTooMany, IsInput, IsKnown, most_taken, too_long_line}

-- a fact that holds whatever is answered
pub on_ok : {T E : Type 0} (r : Result T E) (P : Type 0) → P → IfOk r (λ _. P)
on_ok (Ok v) P p = p
on_ok (Err e) P p = tt

pub gave_taken : {R : Type 0} {remaining : R → Option (List ℕ)} (old new : Source R) (input : Input) → Gave remaining old new INPUT_BYTES input → GetsAtMost remaining old new most_taken
gave_taken old new (Whole held) gave = (held.items, gave.0, omega (arith, gave.2))
gave_taken old new TooLong gave = (gave.0, gave.1, gave.3)

-- a source that got these bytes had them at the front of an input
known_front : (old new : Option (List ℕ)) (got : List ℕ) → Consumes old new got → (input : List ℕ) × IsKnown old input × BeginsWith got input
known_front None new got lost = (got, tt, ([], sym (append-nil got)))
known_front (Some xs) None got lost = absurd lost
known_front (Some xs) (Some ys) got lost = (xs, refl, (ys, lost))

-- a source that got more than so many bytes had more
pub long_input : {R : Type 0} {remaining : R → Option (List ℕ)} (old new : Source R) (given : List ℕ) → Gets remaining old new given → INPUT_BYTES < length given
    → (input : List ℕ) × IsInput remaining old new input × (INPUT_BYTES < length input)
long_input old new given got long =
    let input = known_front _ _ given got.lost in
    (input.0, (input.1, (given, got, inr (long, input.2))), omega (arith, long, ap length input.2.1, length-append given input.2.0))

-- what is shown where an input is too long
pub shown_long : (r : Result ℕ EngineFault) {R W : Type 0} {remaining : R → Option (List ℕ)} (contents : W → Option (List ℕ)) (known lost : Source R) (old new : Sink W) (Shows : List ℕ → ℕ → List ℕ → Type 0) → GotTooMany remaining known lost INPUT_BYTES
    → ((input : List ℕ) → INPUT_BYTES < length input → Shows input 1 too_long_line) → IfOk r (λ status. (status ≡ 1) × Writes contents old new too_long_line)
    → IfOk r (λ status. (text : List ℕ) × Writes contents old new text × ((input : List ℕ) × IsInput remaining known lost input × Shows input status text))
shown_long (Ok status) contents known lost old new Shows gave shows wrote =
    let input = long_input known lost gave.0 gave.1 gave.2 in
    (too_long_line, wrote.1, (input.0, input.1, rw wrote.0 (shows input.0 input.2)))
shown_long (Err e) contents known lost old new Shows gave shows wrote = tt

-- a reader that lost these bytes and then was at its end had just these
pub known_whole : (old new : Option (List ℕ)) (held : List ℕ) → Consumes old new held → IsAtEnd new → IsKnown old held
known_whole None new held lost end = tt
known_whole (Some xs) None held lost end = absurd lost
known_whole (Some xs) (Some ys) held lost end = sym (lost ∙ ap (λ rest. held ++ rest) end ∙ append-nil held)

-- and they are the input
pub whole_input : {R : Type 0} {remaining : R → Option (List ℕ)} (old new : Source R) (held : List ℕ) → Gets remaining old new held → IsAtEnd (remaining new.inner) → IsInput remaining old new held
whole_input old new held got end = (known_whole _ _ held got.lost end, (held, got, inl refl))
