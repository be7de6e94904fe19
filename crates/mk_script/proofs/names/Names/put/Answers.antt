use Rattle.std.proofs.lemmas.Map.Text.{hash_map_updates_str}
use Rattle.mk_script.proofs.names.Names.put.Goals as goal

pub returns : goal.returns
returns g c = hash_map_updates_str c.args.name.now c.args.self.now.values c.insert.new.self _ c.in_ok-insert.ensures.updates
