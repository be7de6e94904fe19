use Rattle.filter_listing.proofs.number.hexadecimal.Goals as goal

pub returns : goal.returns
returns c = rw c.in_radix.ensures at c.in_ok-text.ensures.ok
