use Rattle.std.proofs.Common.{◌≡◌}
use Rattle.installed_filters.proofs.InPlace.{changed}
use Rattle.installed_filters.specs.Numbering.{numbered_hit}
use Rattle.installed_filters.proofs.numbered.give_each.Given as goal

abbrev pub invariant-loop-place : goal.invariant-loop-place
invariant-loop-place l = l.hits ≡ changed (numbered_hit l.numbers) l.initial.hits l.place
