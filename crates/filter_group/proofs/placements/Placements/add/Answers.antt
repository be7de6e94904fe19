use Rattle.std.proofs.Common.{◌≡◌, ◌++◌, ◌∷◌, [], List, IfSome, arith, sym, subst}
use Rattle.std.specs.Box.{box_value}
use Rattle.bpf_insn.specs.declared.insn.Insn.{Insn}
use Rattle.filter_group.specs.Placed.{Placed}
use Rattle.filter_group.specs.Places.{IsIndexed}
use Rattle.filter_group.specs.Planning.{HaveJoined, IsPlan}
use Rattle.filter_group.proofs.placements.Placements.add.Goals as goal

pub invariant_of-self-then-plan_stays : goal.invariant_of-self-then-plan_stays
invariant_of-self-then-plan_stays c =
    let inside = c.self.inside in
    let programs = inside.programs.items in
    let before = inside.parts.items in
    let more : c.push.new.self.items ≡ programs ++ c.args.program.now ∷ [] = grind arith in
    let joined = c.in_ok-joined.ensures in (
      subst (λ (ps : List (List Insn)). IsIndexed ps c.put.new.groups.items c.put.new.parts.items) (sym more) (joined.done programs c.self.invariant.0),
      subst (λ (ps : List Placed). IfSome inside.plan (λ p. IsPlan ps (box_value p))) c.deref-2.ensures.value
          (c.plan_stays.ensures c.if-plan_stays.true before (subst (λ (ps : List Placed). HaveJoined before ps c.in_ok-joined.joined) (sym c.deref-2.ensures.value) joined.joined) c.self.invariant.1),
    )
