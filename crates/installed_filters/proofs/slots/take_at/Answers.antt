use Rattle.std.proofs.Common.{None, Option, ap, set, ◌∙◌}
use Rattle.std.proofs.lemmas.List.{get_or_default}
use Rattle.installed_filters.specs.declared.slots.Slot.{Slot}
use Rattle.installed_filters.specs.Slotting.{one_less}
use Rattle.installed_filters.proofs.Freeing.{set-set}
use Rattle.installed_filters.proofs.slots.take_at.Goals as goal

pub returns-clause-slots : goal.returns-clause-slots
returns-clause-slots c =
    set-set c.args.slots.now c.args.number c.replace-slot.new.dest c.without_one.result
    ∙ ap (λ (s : Option Slot). set c.args.slots.now c.args.number s)
    (c.without_one.ensures ∙ ap (one_less c.args.held) (c.replace-slot.ensures.value ∙ get_or_default c.args.slots.now c.args.number c.index-slots-number.result None c.requires.inside))
