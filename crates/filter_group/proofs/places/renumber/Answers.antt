use Rattle.std.proofs.Common.{arith, subst, List, ℕ}
use Rattle.std.proofs.lemmas.List.{take_all}
use Rattle.filter_group.specs.Places.{AreRenumbered}
use Rattle.filter_group.proofs.Closing.{renumbered_more, renumbered_none}
use Rattle.filter_group.proofs.places.renumber.Goals as goal

pub loop-member-init : goal.loop-member-init
loop-member-init c = renumbered_none c.args.groups.now c.args.part.now.places c.args.to

pub loop-member-preserved : goal.loop-member-preserved
loop-member-preserved c =
    renumbered_more c.args.groups.now c.args.part.now.places c.args.to c.loop-member.groups c.loop-member.member c.place.result c.loop-member.invariant c.place.ensures
    (c.requires c.loop-member.member c.place.result c.place.ensures)

pub returns : goal.returns
returns c =
    let places = c.args.part.now.places in
    let last = c.loop-member-test.false in
    let count = c.len-member-end.ensures.count in
    let same = c.len-member-end.ensures.places in
    subst (λ (ps : List ℕ). AreRenumbered c.args.groups.now ps c.args.to c.loop-member.groups) (take_all c.loop-member.member places (omega arith)) c.loop-member.invariant
