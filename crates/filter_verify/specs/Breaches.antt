-- What is told of a program that is refused where no path is given.
use Rattle.std.specs.Prelude.{◌≡◌, List}
use Rattle.bpf_insn.specs.declared.insn.Insn.{Insn}
use Rattle.filter_verify.specs.declared.breach.Breach.{Breach}
use Rattle.filter_verify.specs.declared.rules.Refusal.{Refusal}
use Rattle.filter_verify.specs.Numbers.{number_of, place_of}
use Rattle.filter_verify.specs.Rules.{Refuses}

-- the number and the place of a reason for which the program is refused
abbrev pub IsBreach : List Insn → Breach → Type 0
IsBreach program breach = (refusal : Refusal) × Refuses program refusal × (breach.rule ≡ number_of refusal) × (breach.pc ≡ place_of refusal)
