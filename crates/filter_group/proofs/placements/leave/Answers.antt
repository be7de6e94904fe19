use Rattle.std.proofs.Common.{◌≡◌, ◌∙◌, ap, Some, slice_get, slice_set}
use Rattle.filter_group.specs.Placed.{Placed}
use Rattle.filter_group.specs.Places.{IsMember}
use Rattle.filter_group.proofs.Gathering.{read_is}
use Rattle.filter_group.proofs.placements.leave.Goals as goal

pub returns : goal.returns
returns c =
    let parts = c.args.parts.now.items in
    let group = c.args.group in
    let part = c.index_mut-part.result.now in
    let there : slice_get parts group ≡ Some part = c.requires.there ∙ ap Some (read_is parts group c.requires.part part c.requires.there c.index_mut-part.ensures.value) in
    let was : IsMember parts group c.args.place = record { part = part; there = there; member = c.member_of-member.result; at = c.member_of-member.ensures.place } in
    record { was = was; is = ap (λ (p : Placed). slice_set parts group p) c.take_out.ensures }
