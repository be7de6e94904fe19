use Rattle.std.proofs.Common.{refl, slice_index_or}
use Rattle.std.proofs.lemmas.Option.{slice_get-get_or}
use Rattle.world_core.proofs.peer.submit_at.Goals as goal

pub returns : goal.returns
returns g c = record {
  before = slice_index_or c.args.peers.now c.args.entry c.index-peers-entry.result;
  there = slice_get-get_or c.args.peers.now c.args.entry c.index-peers-entry.result c.requires.inside;
  after = c.submit.new.self;
  changed = refl;
  related = record { done = c.submit.ensures.submits; fault = c.submit.ensures.fault; same = c.submit.ensures.same; replica = c.submit.ensures.replica; voted = c.submit.ensures.voted };
}

pub bounds-peers-entry : goal.bounds-peers-entry
bounds-peers-entry g c = c.requires.inside
