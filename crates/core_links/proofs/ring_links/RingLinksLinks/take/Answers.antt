use Rattle.std.proofs.Common.{rules, refl, None, ap, ◌∙◌, sym}
use Rattle.core_links.specs.Views.{first_of}
use Rattle.core_links.specs.RingSlots.{ring_view, SameLinks}
use Rattle.core_links.specs.RingLaws.{SameLinks-along}
use Rattle.core_links.proofs.Steps.{taken_at}
use Rattle.core_links.proofs.ring_links.RingLinksLinks.take.Goals as goal

pub returns-then-not-give_up : goal.returns-then-not-give_up
returns-then-not-give_up c = (
  (
    refl,
    (λ _. tt),
    taken_at _ SameLinks ring_view c.args.peer c.args.self.now c.shows.new.self c.give_up.new.self None SameLinks-along c.in_ok-shows.ensures.pulled c.give_up.ensures.given
        (ap first_of (sym (c.if-not-give_up.ensures.none (search rules)))),
  ),
  record { taken = tt },
)

pub returns : goal.returns
returns c = (
  (
    refl,
    (λ _. tt),
    taken_at _ SameLinks ring_view c.args.peer c.args.self.now c.shows.new.self c.give_up.new.self c.last.result SameLinks-along c.in_ok-shows.ensures.pulled c.give_up.ensures.given
        (c.last.ensures ∙ c.if-not-give_up.ensures.last (search rules)),
  ),
  record { taken = tt },
)
