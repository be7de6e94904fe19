use Rattle.std.proofs.Common.{◌++◌, ◌∷◌, ◌≡◌, [], IsOk, List, ℕ, ap, arith, subst, sym, ◌∙◌}
use Rattle.bpf_insn.specs.declared.insn.Insn.{Insn}
use Rattle.installed_filters.specs.Listing.{IsWith}
use Rattle.installed_filters.specs.Numbering.{AreNumbered, IsFresh, Numbering}
use Rattle.installed_filters.proofs.Numbers.{has_with, numbered_more}
use Rattle.installed_filters.proofs.numbered.Numbered.add.Goals as goal

pub invariant_of-self-2 : goal.invariant_of-self-2
invariant_of-self-2 c =
    let programs = c.self.inside.programs in
    let before = c.self.inside.numbers.items in
    let room = c.in_ok-reserve.ensures.ok in
    let ok : IsOk c.push.result = c.push.ensures.succeeds (omega arith) in
    let pushed : c.push.new.self.items ≡ c.reserve.new.self.items ++ c.args.number ∷ [] = grind arith in
    let numbers : c.push.new.self.items ≡ before ++ c.args.number ∷ [] = pushed ∙ ap (λ (ns : List ℕ). ns ++ c.args.number ∷ []) c.reserve.ensures.items in
    let fresh = subst (λ (n : Numbering). IsFresh n c.args.number c.args.program.now) (sym c.self.view_is) c.requires in
    subst (λ (ps : List (List Insn)). AreNumbered (record { programs = ps; numbers = c.push.new.self.items })) (sym c.in_ok-add.ensures.done)
    (subst (λ (ns : List ℕ). AreNumbered (record { programs = programs ++ c.args.program.now ∷ []; numbers = ns })) (sym numbers)
    (numbered_more (record { programs = programs; numbers = before }) c.args.program.now c.args.number fresh c.self.invariant))

pub returns-clause-done : goal.returns-clause-done
returns-clause-done c =
    let before : Numbering = record { programs = c.self.inside.programs; numbers = c.self.inside.numbers.items } in
    let after : Numbering = record { programs = c.add.new.self; numbers = c.push.new.self.items } in
    let room = c.in_ok-reserve.ensures.ok in
    let ok : IsOk c.push.result = c.push.ensures.succeeds (omega arith) in
    let pushed : c.push.new.self.items ≡ c.reserve.new.self.items ++ c.args.number ∷ [] = grind arith in
    let numbers : c.push.new.self.items ≡ before.numbers ++ c.args.number ∷ [] = pushed ∙ ap (λ (ns : List ℕ). ns ++ c.args.number ∷ []) c.reserve.ensures.items in
    let is : after ≡ record { programs = before.programs ++ c.args.program.now ∷ []; numbers = before.numbers ++ c.args.number ∷ [] } =
    ap (λ (ps : List (List Insn)). record { programs = ps; numbers = c.push.new.self.items }) c.in_ok-add.ensures.done
    ∙ ap (λ (ns : List ℕ). record { programs = before.programs ++ c.args.program.now ∷ []; numbers = ns }) numbers in
    subst (λ (n : Numbering). IsWith n c.args.number c.args.program.now after) c.self.view_is (has_with before after c.args.number c.args.program.now c.self.invariant.lengths is)
