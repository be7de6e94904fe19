use Rattle.std.proofs.Common.{◌∙◌, sym}
use Rattle.installed_filters.proofs.coming.take_new.Goals as goal

pub returns-in-Some : goal.returns-in-Some
returns-in-Some c = λ m listed. (
  λ x. (let y = (c.take_out.ensures m listed).0 x in (y.0, λ none is. y.1 (is ∙ sym c.in-Some.ensures.1))),
  λ x. (c.take_out.ensures m listed).1 (x.0, λ is. x.1 c.in-Some.ensures.0 (is ∙ c.in-Some.ensures.1)),
)
