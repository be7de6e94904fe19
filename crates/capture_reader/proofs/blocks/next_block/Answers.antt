use Rattle.std.proofs.Common.{inl, inr}
use Rattle.capture_reader.proofs.BlockLemmas.{takes_held, takes_item, takes_more, takes_passed, told_held}
use Rattle.capture_reader.proofs.blocks.next_block.Goals as goal

pub returns-in-Block-clause-advances : goal.returns-in-Block-clause-advances
returns-in-Block-clause-advances c = takes_item c.args.rest.now.now c.next.new.rest.now c.args.feed.now c.next.new.self c.in-Block.block c.item_of.result c.found.result c.item_of.ensures c.found.ensures (rw c.in-Block.is at c.in_ok-block.ensures.advances)

pub returns-in-Held-clause-advances : goal.returns-in-Held-clause-advances
returns-in-Held-clause-advances c = takes_held c.args.rest.now.now c.next.new.rest.now c.args.feed.now c.next.new.self c.held.result (told_held _ c.held.result c.held.ensures.held c.held.ensures.nothing) (rw c.in-Held.is at c.in_ok-block.ensures.advances)

pub returns-in-Passed-clause-advances : goal.returns-in-Passed-clause-advances
returns-in-Passed-clause-advances c = elim c.in-Passed.is [
  | inl is ↦ takes_passed c.args.rest.now.now c.next.new.rest.now c.args.feed.now c.next.new.self (rw is at c.in_ok-block.ensures.advances)
  | inr is ↦ takes_more c.args.rest.now.now c.next.new.rest.now c.args.feed.now c.next.new.self (rw is at c.in_ok-block.ensures.advances)
]
