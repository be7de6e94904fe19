use Rattle.std.proofs.Common.{◌≡◌, ◌∷◌, map, rules}
use Rattle.mkdemux_cores.proofs.Handles.{taken_more}
use Rattle.mkdemux_cores.proofs.settling.+take_all.Goals as goal

pub returns-clause-taken : goal.returns-clause-taken
returns-clause-taken t c =
    let whole : c.args.cores.now ≡ c.in-Some.core.now ∷ c.in-Some.rest.now = search rules in
    taken_more c.args.cores.now c.in-Some.rest.now c.in-Some.core.now whole (map (λ b. b.value) c.args.taken.now.items) (map (λ b. b.value) c.take_one.new.taken.items) (map (λ b. b.value) c.take_all.new.taken.items) c.take_one.ensures.taken c.take_all.ensures.taken
