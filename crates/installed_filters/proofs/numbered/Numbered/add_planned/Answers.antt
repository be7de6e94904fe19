use Rattle.std.proofs.Common.{◌↔◌, ◌∙◌, ℕ, List, ap, subst, sym}
use Rattle.bpf_insn.specs.declared.insn.Insn.{Insn}
use Rattle.installed_filters.specs.Listing.{IsWith, IsWithout}
use Rattle.installed_filters.specs.Numbering.{Has, Numbering}
use Rattle.installed_filters.proofs.Exchanged.{on_err, on_ok}
use Rattle.installed_filters.proofs.Through.{taken_again}
use Rattle.installed_filters.proofs.numbered.Numbered.add_planned.Goals as goal

pub returns-then-is_err-clause-undone : goal.returns-then-is_err-clause-undone
returns-then-is_err-clause-undone c =
    let same = ap (λ (ps : List (List Insn)). let n : Numbering = record { programs = ps; numbers = c.self.inside.numbers.items } in n) c.make_plan-planned.ensures in
    on_err c.make_plan-planned.result ((other : ℕ) (listed : List Insn) → Has c.take_out.new.self other listed ↔ Has c.args.self.now other listed)
    (taken_again c.args.self.now c.add.new.self c.take_out.new.self c.args.number c.args.program.now c.requires c.in_ok-add.ensures.done
    (subst (λ (n : Numbering). IsWithout n c.args.program.now c.take_out.new.self) (same ∙ c.self.view_is) c.take_out.ensures))

pub returns-else-is_err-clause-done : goal.returns-else-is_err-clause-done
returns-else-is_err-clause-done c =
    let after : Numbering = record { programs = c.make_plan-planned.new.self; numbers = c.self.inside.numbers.items } in
    let same = ap (λ (ps : List (List Insn)). let n : Numbering = record { programs = ps; numbers = c.self.inside.numbers.items } in n) c.make_plan-planned.ensures in
    on_ok c.make_plan-planned.result (IsWith c.args.self.now c.args.number c.args.program.now after)
    (subst (λ (n : Numbering). IsWith c.args.self.now c.args.number c.args.program.now n) (sym (same ∙ c.self.view_is)) c.in_ok-add.ensures.done)
