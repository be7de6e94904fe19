-- What is known of a packet where a test is made.
-- No public clause cites these.
use Rattle.std.specs.Prelude.{ℕ, ◌+◌, ◌==◌, ◌&&◌, Bool, true, false, not, if◌then◌else◌, List, [], ◌∷◌, length, Option, Some, None}
use Rattle.bpf_insn.specs.Machine.{Packet}
use Rattle.filter_cond.specs.Means.{tested}
use Rattle.filter_codegen.specs.declared.implied.Fact.{Fact}

-- a test comes out so
abbrev pub comes_out : Option Bool → Bool → Bool
comes_out None holds = false
comes_out (Some true) holds = holds
comes_out (Some false) holds = not holds

-- the fact at a place holds of the packet, and each one before it, where the last fact stands first
abbrev pub known : Packet → List Fact → ℕ → Bool
known packet [] place = true
known packet (fact ∷ facts) place =
    if place == length facts + 1
    then comes_out (tested fact.check packet) fact.holds && known packet facts fact.before
    else known packet facts place
