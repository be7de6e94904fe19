use Rattle.std.proofs.Common.{◌∙◌, ap, inl, inr}
use Rattle.mkdemux_c.specs.Readings.{unread_for}
use Rattle.mkdemux_c.proofs.reading.mkdemux_read.Goals as goal

pub returns-in-Err-clause-only : goal.returns-in-Err-clause-only
returns-in-Err-clause-only c = λ program spelled.
    inr (ap (λ r. r.fault) (c.unread.ensures ∙ ap unread_for (c.in-Err.ensures.only program spelled)))

pub returns-in-Err-clause-first : goal.returns-in-Err-clause-first
returns-in-Err-clause-first c = λ fault faults.
    elim (c.in-Err.ensures.first fault faults) [
      | inl memory ↦ inr (ap (λ r. r.fault) (c.unread.ensures ∙ ap unread_for memory))
      | inr same ↦ inl (c.unread.ensures ∙ ap unread_for same)
    ]

pub returns-in-Ok-clause-first : goal.returns-in-Ok-clause-first
returns-in-Ok-clause-first c = λ fault faults. absurd (c.in-Ok.ensures.first fault faults)
