use Rattle.filter_codegen.specs.Shortened.{IsMapped}
use Rattle.filter_codegen.proofs.shorten.shorten.Given as goal

abbrev pub invariant-places : goal.invariant-places
invariant-places l = IsMapped l.graph l.facts l.routes.items l.new l.place l.places.items
