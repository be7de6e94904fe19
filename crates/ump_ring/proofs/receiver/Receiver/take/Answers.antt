use Rattle.std.proofs.Common.{◌≡◌, ◌++◌, ℕ, List, None, refl, ap, sym, ◌∙◌, subst, rules}
use mathlib.Core.List.{IsPrefix}
use Rattle.ump_ring.specs.Joiners.{shown_items, shown_list}
use Rattle.ump_ring.specs.Receivers.{lines_received, messages_taken, message_kept}
use Rattle.ump_ring.proofs.receiver.Receiver.take.Goals as goal

pub returns-then-not-give_up : goal.returns-then-not-give_up
returns-then-not-give_up c =
    let old = c.args.self.now in
    let pulled = c.pull.ensures in
    let given = c.give_up.ensures in
    let none : message_kept c.pull.new.self ≡ None = given.none c.if-not-give_up.true in
    let lines : IsPrefix (lines_received old) (lines_received c.give_up.new.self) = subst (λ (l : List (List ℕ)). IsPrefix (lines_received old) l) (sym given.lines) pulled.lines in (
      (
        refl,
        (λ _. tt),
        (
          search rules,
          lines,
          (λ h. given.stopped ∙ pulled.stays h),
          (
            given.stopped ∙ c.in_ok-pull.ensures.ok,
            (λ h. sym none ∙ pulled.kept h),
            (
              given.taken ∙ ap (λ t. t ++ shown_list (message_kept c.pull.new.self)) pulled.taken ∙ ap (λ m. messages_taken old ++ shown_list m) none,
              given.kept,
              given.all c.in_ok-pull.ensures.ok,
              (λ e. given.known ∙ c.in_ok-pull.ensures.spent none),
            ),
          ),
        ),
      ),
      record { taken = tt },
    )

pub returns : goal.returns
returns c =
    let old = c.args.self.now in
    let pulled = c.pull.ensures in
    let given = c.give_up.ensures in
    let shown : shown_items c.last.result ≡ message_kept c.pull.new.self = c.last.ensures ∙ given.last c.if-not-give_up.false in
    let lines : IsPrefix (lines_received old) (lines_received c.give_up.new.self) = subst (λ (l : List (List ℕ)). IsPrefix (lines_received old) l) (sym given.lines) pulled.lines in (
      (
        refl,
        (λ _. tt),
        (
          search rules,
          lines,
          (λ h. given.stopped ∙ pulled.stays h),
          (
            given.stopped ∙ c.in_ok-pull.ensures.ok,
            (λ h. shown ∙ pulled.kept h),
            (
              given.taken ∙ ap (λ t. t ++ shown_list (message_kept c.pull.new.self)) pulled.taken ∙ ap (λ m. messages_taken old ++ shown_list m) (sym shown),
              given.kept,
              given.all c.in_ok-pull.ensures.ok,
              (λ e. absurd (given.some c.if-not-give_up.false (sym shown ∙ e))),
            ),
          ),
        ),
      ),
      record { taken = tt },
    )
