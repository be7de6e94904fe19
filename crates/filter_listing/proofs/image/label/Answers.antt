use Rattle.std.proofs.Common.{append_assoc}
use Rattle.filter_listing.proofs.image.label.Goals as goal

pub returns : goal.returns
returns c = simp append_assoc (rw c.zeros-front.ensures at c.in_ok-text.ensures.ok)
