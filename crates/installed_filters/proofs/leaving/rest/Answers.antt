use Rattle.std.proofs.Common.{◌≡◌, ◌↔◌, ◌⊎◌, List, Some, ap, subst, sym, ℕ}
use Rattle.bpf_insn.specs.declared.insn.Insn.{Insn}
use Rattle.installed_filters.specs.Homes.{program_in}
use Rattle.installed_filters.specs.Leaving.{GoesToRest}
use Rattle.installed_filters.specs.Listing.{IsWith}
use Rattle.installed_filters.specs.Numbering.{Has}
use Rattle.installed_filters.specs.Slotting.{slot_at}
use Rattle.installed_filters.proofs.Exchanged.{map_ok}
use Rattle.installed_filters.proofs.Through.{with_when}
use Rattle.installed_filters.proofs.leaving.rest.Goals as goal

pub returns-then-goes_to_rest-clause-done : goal.returns-then-goes_to_rest-clause-done
returns-then-goes_to_rest-clause-done c =
    let row = c.args.row in
    let o = slot_at c.args.slots.now.slots row.number in
    let s = c.slot_of-slot.result.now in
    let there : slot_at c.args.slots.now.slots row.number ≡ Some s = c.slot_of-slot.ensures in
    let goes : GoesToRest row.held (slot_at c.args.slots.now.slots row.number) = subst (GoesToRest row.held) (sym there) (c.goes_to_rest.ensures.0 c.if-goes_to_rest.true) in
    map_ok c.add.result (IsWith c.args.resting.now row.number s.program c.add.new.self)
    ((m : ℕ) (p : List Insn) → Has c.add.new.self m p ↔ (Has c.args.resting.now m p ⊎ (GoesToRest row.held (slot_at c.args.slots.now.slots row.number) × (m ≡ row.number) × (p ≡ program_in (slot_at c.args.slots.now.slots row.number)))))
    (with_when c.args.resting.now c.add.new.self row.number s.program (program_in o) (GoesToRest row.held o) goes (ap program_in there)) c.add.ensures.done
