use Rattle.std.proofs.Common.{None, Option, ap, set, ◌∙◌}
use Rattle.std.proofs.lemmas.List.{get_or_default}
use Rattle.installed_filters.specs.declared.slots.Slot.{Slot}
use Rattle.installed_filters.specs.Slotting.{one_lapsed}
use Rattle.installed_filters.proofs.Freeing.{set-set}
use Rattle.installed_filters.proofs.slots.lapse_at.Goals as goal

pub returns : goal.returns
returns c =
    set-set c.args.slots.now c.args.number c.replace-slot.new.dest c.lapsed.result
    ∙ ap (λ (s : Option Slot). set c.args.slots.now c.args.number s)
    (c.lapsed.ensures ∙ ap one_lapsed (c.replace-slot.ensures.value ∙ get_or_default c.args.slots.now c.args.number c.index-slots-number.result None c.requires.inside))
