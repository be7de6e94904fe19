use Rattle.std.proofs.Common.{refl, slice_index_or}
use Rattle.std.proofs.lemmas.Option.{slice_get-get_or}
use Rattle.world_core.proofs.peer.take_at.Goals as goal

pub take-requires-clause-awaits : goal.take-requires-clause-awaits
take-requires-clause-awaits g c = (c.requires.ready _ (slice_get-get_or c.args.peers.now c.args.entry c.index-peers-entry.result c.requires.inside)).awaits

pub returns : goal.returns
returns g c = record {
  before = slice_index_or c.args.peers.now c.args.entry c.index-peers-entry.result;
  there = slice_get-get_or c.args.peers.now c.args.entry c.index-peers-entry.result c.requires.inside;
  after = c.take.new.self;
  changed = refl;
  related = record { done = c.take.ensures.takes; fault = c.take.ensures.fault; same = c.take.ensures.same; same_core = c.take.ensures.same_core; between = c.take.ensures.now_between };
}

pub take-requires-clause-between : goal.take-requires-clause-between
take-requires-clause-between g c = (c.requires.ready _ (slice_get-get_or c.args.peers.now c.args.entry c.index-peers-entry.result c.requires.inside)).between

pub bounds-peers-entry : goal.bounds-peers-entry
bounds-peers-entry g c = c.requires.inside
