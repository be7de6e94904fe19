use Rattle.std.proofs.Common.{◌≡◌, ◌∙◌, ◌++◌, arith, ap, get_or, List, ℕ, sym}
use Rattle.std.proofs.lemmas.List.{get_or_default, take_all}
use Rattle.chunked.specs.Maps.{SortedMap}
use Rattle.filter_group.specs.declared.lockstep.Hit.{Hit}
use Rattle.filter_table.specs.declared.delivery.Kept.{Kept}
use Rattle.filter_table.proofs.Lists.{get_some, take_at}
use Rattle.installed_filters.specs.Counts.{no_counts}
use Rattle.installed_filters.specs.Keeping.{raises_by, raises_of}
use Rattle.installed_filters.proofs.Hits.{raises_by-push}
use Rattle.installed_filters.proofs.reaches.list_raises.Goals as goal

abbrev no_hit : Hit
no_hit = record { member = 0; verdict = 0 }

pub loop-hit-init : goal.loop-hit-init
loop-hit-init c = c.clear.ensures.items

pub loop-hit-preserved : goal.loop-hit-preserved
loop-hit-preserved c =
    let ends = c.args.ends.now in
    let hits = c.args.hits.now in
    let i = c.loop-hit.hit-index in
    let hit = get_or hits i no_hit in
    let at = get_some hits i no_hit (omega (arith, c.loop-hit-test.true)) in
    let inside = c.requires i hit at in
    let own : c.index-ends-hit.result ≡ get_or ends hit.member no_counts = c.index-ends-hit.is ∙ get_or_default ends hit.member c.index-ends-hit.result no_counts inside in
    c.in_ok-raise.ensures ∙ (ap (λ (m : SortedMap ℕ). c.loop-hit.raises.items ++ raises_of m.entries hit.verdict) own
    ∙ (ap (λ (ks : List Kept). ks ++ raises_of (get_or ends hit.member no_counts).entries hit.verdict) c.loop-hit.invariant
    ∙ sym (ap (raises_by ends) (take_at hits i hit at) ∙ raises_by-push ends _ hit)))

pub returns : goal.returns
returns c = c.loop-hit.invariant ∙ ap (raises_by c.args.ends.now) (take_all c.loop-hit.hit-index c.args.hits.now c.loop-hit-test.false)
