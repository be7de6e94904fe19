use Rattle.std.proofs.Common.{◌≡◌, ◌∙◌, ◌<◌, List, ℕ, Some, slice_get, get_or, subst}
use Rattle.filter_table.specs.declared.delivery.Kept.{Kept}
use Rattle.filter_table.proofs.Lists.{get_some}
use Rattle.filter_table.proofs.Raised.{raised_next}
use Rattle.installed_filters.proofs.raising.raise_within.Goals as goal

pub returns-then-is_past : goal.returns-then-is_past
returns-then-is_past c =
    let kept = c.args.kept.now.items in
    let e = c.args.endpoint in
    let past = subst (λ (ks : List Kept). (i : ℕ) (one : Kept) → slice_get ks i ≡ Some one → one.endpoint < e) c.deref.ensures.value (c.is_past.ensures c.if-is_past.true) in
    c.in_ok-push.ensures.items ∙ raised_next kept e c.args.bytes (λ d j low. past j (get_or kept j d) (get_some kept j d low))
