use Rattle.std.proofs.Common.{◌≡◌, ◌∙◌, Some, ap, subst, sym}
use Rattle.installed_filters.specs.Homes.{program_in}
use Rattle.installed_filters.specs.Lapsing.{IsUnheld}
use Rattle.installed_filters.specs.Slotting.{slot_at}
use Rattle.installed_filters.proofs.lapsing.stop_unheld.Goals as goal

pub returns-then-slot-eq0 : goal.returns-then-slot-eq0
returns-then-slot-eq0 c =
    let there : slot_at c.args.slots.now.slots c.args.number ≡ Some c.in-Some.slot.now = sym c.in-Some.ensures in
    let unheld : IsUnheld (slot_at c.args.slots.now.slots c.args.number) = subst IsUnheld (sym there) c.if-slot-eq0.true in
    λ m listed. (
      λ x. (let y = (c.take_out.ensures m listed).0 x in (y.0, λ none is. y.1 (is ∙ ap program_in there))),
      λ x. (c.take_out.ensures m listed).1 (x.0, λ is. x.1 unheld (is ∙ sym (ap program_in there))),
    )
