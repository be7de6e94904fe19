use Rattle.std.proofs.Common.{List, ℕ, inl, inr, subst, sym}
use Rattle.std.specs.Prelude.{OnOk}
use Rattle.bpf_insn.specs.declared.insn.Insn.{Insn}
use Rattle.installed_filters.specs.Listing.{IsWith}
use Rattle.installed_filters.specs.Numbering.{Has, IsFresh}
use Rattle.installed_filters.specs.Books.{base_slot}
use Rattle.installed_filters.specs.Homes.{program_in}
use Rattle.installed_filters.proofs.Arrived.{comes_fresh, runs_already}
use Rattle.installed_filters.proofs.coming.start.Goals as goal

pub add_planned-requires : goal.add_planned-requires
add_planned-requires c =
    subst (λ (p : List Insn). IsFresh c.args.running.now c.args.number p) (sym c.in-Some.ensures.1)
    (comes_fresh c.args.slots.now.slots c.args.number c.args.program.now c.requires.begins c.requires.apart c.in-Some.ensures.0 c.args.running.now c.requires.runs)

pub returns-in-Some-clause-done : goal.returns-in-Some-clause-done
returns-in-Some-clause-done c = subst (λ (p : List Insn). OnOk c.add_planned.result (IsWith c.args.running.now c.args.number p c.add_planned.new.self)) c.in-Some.ensures.1 c.add_planned.ensures.done

pub returns-in-None-clause-done : goal.returns-in-None-clause-done
returns-in-None-clause-done c = λ m listed.
    let own = program_in (base_slot c.args.slots.now.slots c.args.number c.args.program.now) in
    let there = (c.requires.runs c.args.number own).1 (runs_already c.args.slots.now.slots c.args.number c.args.program.now c.requires.begins c.in-None.ensures) in (
      λ x. inl x,
      λ x. elim x [
        | inl was ↦ was
        | inr new ↦ subst (λ (k : ℕ). Has c.args.running.now k listed) (sym new.0) (subst (λ (p : List Insn). Has c.args.running.now c.args.number p) (sym new.1) there)
      ],
    )
