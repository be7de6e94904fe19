use Rattle.std.proofs.Common.{◌≡◌, ◌+◌, length}
use Rattle.expr_parse.specs.CursorViews.{AfterFrom}
use Rattle.expr_parse.proofs.brackets.places_after.Given as goal

abbrev pub invariant-places : goal.invariant-places
invariant-places l = record { whole : length l.after.items ≡ length l.tokens + 1; known : AfterFrom l.tokens l.after.items l.place }
