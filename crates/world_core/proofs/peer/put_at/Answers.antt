use Rattle.std.proofs.Common.{refl, slice_index_or}
use Rattle.std.proofs.lemmas.Option.{slice_get-get_or}
use Rattle.world_core.proofs.peer.put_at.Goals as goal

pub returns : goal.returns
returns g c = record {
  before = slice_index_or c.args.peers.now c.args.entry c.index-peers-entry.result;
  there = slice_get-get_or c.args.peers.now c.args.entry c.index-peers-entry.result c.requires.inside;
  after = c.put_down.new.self;
  changed = refl;
  related = c.put_down.ensures;
}

pub put_down-requires : goal.put_down-requires
put_down-requires g c = c.requires.room _ (slice_get-get_or c.args.peers.now c.args.entry c.index-peers-entry.result c.requires.inside)

pub bounds-peers-entry : goal.bounds-peers-entry
bounds-peers-entry g c = c.requires.inside
