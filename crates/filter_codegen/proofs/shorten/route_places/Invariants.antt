use Rattle.std.proofs.Common.{◌≡◌, ◌+◌, ◌≤◌, length}
use Rattle.filter_codegen.proofs.shorten.route_places.Given as goal

abbrev pub invariant-places : goal.invariant-places
invariant-places l = record {
  same_length : length l.routes.items ≡ length l.graph + 2;
  below : l.place ≤ l.fn.root + 1;
}

abbrev pub decreases-places : goal.decreases-places
decreases-places l = l.place
