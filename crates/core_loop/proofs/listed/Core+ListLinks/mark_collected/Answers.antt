use Rattle.std.proofs.Common.{◌≡◌, ℕ, Bool, true, false, ap, rules}
use Rattle.std.specs.Prelude.{IsTrue, IsFalse}
use Rattle.core_links.specs.Views.{LinkView}
use Rattle.core_links.specs.ListSlots.{list_view}
use Rattle.core_loop.proofs.Resting.{stands_same}
use Rattle.core_loop.proofs.Stopped.{same_stopped}
use Rattle.core_loop.proofs.listed.Core+ListLinks.mark_collected.Goals as goal

-- the views are as they were, whether there was a message or not
same_views : (v w : ℕ → LinkView) (found : Bool) → (IsTrue found → (p : ℕ) → w p ≡ v p) → (IsFalse found → (p : ℕ) → w p ≡ v p) → (p : ℕ) → w p ≡ v p
same_views v w true some none p = some (search rules) p
same_views v w false some none p = none (search rules) p

pub invariant_of-self : goal.invariant_of-self
invariant_of-self c =
    let i = c.self.inside in
    let v = c.self.invariant in
    let e = c.mark_collected.ensures in
    let same = same_views (list_view i.links) (list_view c.mark_collected.new.self) c.mark_collected.result (λ t. (e.some t).0.views) (λ f. (e.none f).0.views) in (
      v.0,
      v.1,
      stands_same i.part i.number i.cores i.clock i.history.items (list_view i.links) (list_view c.mark_collected.new.self) v.2 (λ p. (ap (λ (w : LinkView). w.sent) (same p), ap (λ (w : LinkView). w.taken) (same p))),
      v.3,
      v.4,
      same_stopped i.cores i.clock i.part (list_view i.links) (list_view c.mark_collected.new.self) i.stopped same v.5,
      v.6,
    )
