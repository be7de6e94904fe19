use Rattle.std.proofs.Common.{inl, inr}
use Rattle.capture_reader.proofs.SharingLemmas.{shares_block, shares_held, shares_more, shares_passed}
use Rattle.capture_reader.proofs.sharing.share_next.Goals as goal

pub returns-in_ok-share_block-in-Block-clause-shares : goal.returns-in_ok-share_block-in-Block-clause-shares
returns-in_ok-share_block-in-Block-clause-shares c = shares_block c.args.rest.now.now c.next.new.rest.now c.args.feed.now c.next.new.self c.in-Block.block c.args.packets.now.items _ (rw c.in-Block.is at c.in_ok-block.ensures.advances) c.in_ok-share_block-in-Block.ensures

pub returns-in_ok-copy_block-in-Held-clause-shares : goal.returns-in_ok-copy_block-in-Held-clause-shares
returns-in_ok-copy_block-in-Held-clause-shares c = shares_held c.args.rest.now.now c.next.new.rest.now c.args.feed.now c.next.new.self c.held.result c.args.packets.now.items _ (rw c.in-Held.is at c.in_ok-block.ensures.advances) c.held.ensures c.in_ok-copy_block-in-Held.ensures

pub returns-in-Passed-clause-shares : goal.returns-in-Passed-clause-shares
returns-in-Passed-clause-shares c = elim c.in-Passed.is [
  | inl is ↦ shares_passed c.args.rest.now.now c.next.new.rest.now c.args.feed.now c.next.new.self c.args.packets.now.items (rw is at c.in_ok-block.ensures.advances)
  | inr is ↦ shares_more c.args.rest.now.now c.next.new.rest.now c.args.feed.now c.next.new.self c.args.packets.now.items (rw is at c.in_ok-block.ensures.advances)
]
