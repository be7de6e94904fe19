use Rattle.std.proofs.Common.{sym}
use Rattle.core_links.proofs.Bits.{bits_none}
use Rattle.core_links.proofs.list_links.ListLinksLinks.moved_below.Goals as goal

pub returns : goal.returns
returns c = sym (bits_none c.args._cores 0)
