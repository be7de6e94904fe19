-- What a collected message leaves, once the borrow is over.
use Rattle.std.specs.Prelude.{ℕ, List, Option}
use Rattle.std.specs.Borrow.{MutBor, Bor, Fml}
use Rattle.ump_ring.specs.Joiners.{shown_items}
use Rattle.core_links.specs.declared.list_links.ListLinks.{ListLinks}
use Rattle.core_links.specs.contracts.list_links.ListLinks.{the_row}
use Rattle.core_links.specs.Views.{LeavesSo}
use Rattle.core_links.specs.ListSlots.{CollectsMessage}

abbrev pub LendsCollected : MutBor ListLinks → ℕ → Option (Bor (List ℕ)) → Fml
LendsCollected l peer lent = LeavesSo the_row l (λ new. CollectsMessage l.now new peer (shown_items lent))
