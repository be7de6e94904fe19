use Rattle.std.proofs.Common.{◌≡◌, take}
use Rattle.installed_filters.specs.Keeping.{raises_by}
use Rattle.installed_filters.proofs.reaches.list_raises.Given as goal

abbrev pub invariant-loop-hit : goal.invariant-loop-hit
invariant-loop-hit l = l.raises.items ≡ raises_by l.ends (take l.hit-index l.hits)
