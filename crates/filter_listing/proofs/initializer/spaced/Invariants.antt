use Rattle.std.proofs.Common.{◌≡◌, ◌++◌, drop}
use Rattle.filter_listing.specs.Initializer.{spaced}
use Rattle.filter_listing.proofs.initializer.spaced.Given as goal

abbrev pub invariant-loop-byte : goal.invariant-loop-byte
invariant-loop-byte l = l.text.items ++ spaced (drop l.byte-index l.line) ≡ spaced l.line
