use Rattle.std.proofs.Common.{◌≡◌, List, refl, ℕ, ◌↔◌}
use Rattle.bpf_insn.specs.declared.insn.Insn.{Insn}
use Rattle.installed_filters.specs.declared.books.Row.{Row}
use Rattle.installed_filters.specs.Books.{base_slot}
use Rattle.installed_filters.specs.Homes.{program_in}
use Rattle.installed_filters.specs.Leaving.{GoesToRest}
use Rattle.installed_filters.specs.Listing.{AreListed, AreListedFor, IsWith, Rests, Runs}
use Rattle.installed_filters.specs.Numbering.{Has}
use Rattle.installed_filters.specs.Planning.{slots_swapped}
use Rattle.installed_filters.specs.Slotting.{slot_at}
use Rattle.installed_filters.proofs.Exchanged.{map_err, map_ok}
use Rattle.installed_filters.proofs.Through.{go_fresh, go_other, put_back, swap_planned, those_same}
use Rattle.installed_filters.proofs.filters.exchange.Goals as goal

pub rest-requires-clause-fresh : goal.rest-requires-clause-fresh
rest-requires-clause-fresh c = go_fresh c.args.slots.now.slots c.args.old c.requires.apart c.requires.one c.args.lists.now.resting c.requires.listed.rest

pub returns-then-is_err-clause-undone : goal.returns-then-is_err-clause-undone
returns-then-is_err-clause-undone c =
    let slots = c.args.slots.now.slots in
    let old = c.args.old in
    let lists = c.args.lists.now in
    map_err c.start-started.result ((m : ℕ) (p : List Insn) → Has c.start-started.new.running m p ↔ Has lists.running m p) (AreListed (slot_at slots) c.start-started.new.running c.wake.new.resting)
    (λ same. record {
      run = those_same lists.running c.start-started.new.running (Runs (slot_at slots)) same c.requires.listed.run;
      rest = put_back lists.resting c.rest.new.resting c.wake.new.resting (Rests (slot_at slots)) (λ m p. GoesToRest old.held (slot_at slots old.number) × (m ≡ old.number) × (p ≡ program_in (slot_at slots old.number)))
          (λ m p. GoesToRest old.held (slot_at slots old.number) → p ≡ program_in (slot_at slots old.number) → ⊥) c.requires.listed.rest c.in_ok-rest.ensures.done c.wake.ensures
          (λ m p x k. k x.0 x.2) (λ m p x goes. go_other slots old c.requires.apart c.requires.one goes m p x);
    }) c.start-started.ensures.undone

pub returns-else-is_err-clause-done : goal.returns-else-is_err-clause-done
returns-else-is_err-clause-done c =
    let slots = c.args.slots.now.slots in
    let old = c.args.old in
    let lists = c.args.lists.now in
    let home = c.args.home.now in
    let row : Row = record old { number = home.number } in
    map_ok c.start-started.result (IsWith lists.running home.number (program_in (base_slot slots home.number home.program)) c.start-started.new.running)
    (AreListedFor (slot_at slots) (slots_swapped slots old row home.program) c.start-started.new.running c.rest.new.resting)
    (λ more. swap_planned slots home.number home.program c.requires.begins c.requires.apart c.requires.inside old row refl c.requires.held c.requires.other c.requires.one
    lists.running c.start-started.new.running lists.resting c.rest.new.resting c.requires.listed more c.in_ok-rest.ensures.done) c.start-started.ensures.done
