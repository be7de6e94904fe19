use Rattle.std.proofs.Common.{refl, slice_index_or}
use Rattle.std.proofs.lemmas.Option.{slice_get-get_or}
use Rattle.world_core.proofs.peer.drop_at.Goals as goal

pub returns : goal.returns
returns g c = record {
  before = slice_index_or c.args.peers.now c.args.entry c.index-peers-entry.result;
  there = slice_get-get_or c.args.peers.now c.args.entry c.index-peers-entry.result c.requires;
  after = _;
  changed = refl;
  related = record { core = refl; down = refl; up = c.drop_first.ensures };
}

pub bounds-peers-entry : goal.bounds-peers-entry
bounds-peers-entry g c = c.requires
