use Rattle.std.proofs.Common.{◌∙◌, ◌⊎◌, List, Option, ℕ, ap, subst}
use Rattle.std.specs.Prelude.{MatchOption}
use Rattle.bpf_insn.specs.declared.insn.Insn.{Insn}
use Rattle.installed_filters.specs.declared.lists.Lists.{Lists}
use Rattle.installed_filters.specs.Homes.{program_in}
use Rattle.installed_filters.specs.Numbering.{Has}
use Rattle.installed_filters.proofs.Homed.{in_none, in_slot, slot_inside}
use Rattle.installed_filters.proofs.homes.home_of.Goals as goal

-- the number of a program in the lists, if it has one
abbrev IsNumber : Lists → List Insn → Option ℕ → Type 0
IsNumber lists program found = MatchOption found ((n : ℕ) → (Has lists.running n program ⊎ Has lists.resting n program) → ⊥) (λ n. Has lists.running n program ⊎ Has lists.resting n program)

pub new_home-requires : goal.new_home-requires
new_home-requires c =
    in_none c.args.slots.now.slots c.args.lists.now.running c.args.lists.now.resting c.args.program c.requires.housed.listed
    (subst (λ (o : Option ℕ). IsNumber c.args.lists.now c.args.program o) c.in-None.is c.find-known.ensures)

pub returns-in-Some-clause-home : goal.returns-in-Some-clause-home
returns-in-Some-clause-home c =
    let slots = c.args.slots.now.slots in
    let number = c.in-Some.number in
    let o = in_slot slots c.args.lists.now.running c.args.lists.now.resting number c.args.program c.requires.housed.listed (subst (λ (o : Option ℕ). IsNumber c.args.lists.now c.args.program o) c.in-Some.is c.find-known.ensures) in
    record {
      begins = (o.0, o.1);
      own = ap program_in o.1 ∙ o.2;
      inside = slot_inside slots number o.0 o.1;
      number = c.requires.housed.numbers number o.0 o.1;
    }
