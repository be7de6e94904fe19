use Rattle.std.proofs.Common.{◌≡◌, ◌∙◌, ◌∷◌, [], List, ap, get_or, ℕ, subst, sym}
use Rattle.std.proofs.lemmas.List.{get_or_default}
use Rattle.chunked.specs.Maps.{SortedMap}
use Rattle.filter_group.specs.declared.lockstep.Hit.{Hit}
use Rattle.filter_table.proofs.Lists.{get_some}
use Rattle.installed_filters.specs.Counts.{no_counts, ends_at, Reaching}
use Rattle.installed_filters.specs.Keeping.{AreKept, GetsBy}
use Rattle.filter_table.specs.Raising.{at_endpoint}
use Rattle.installed_filters.proofs.Hits.{kept_of_one}
use Rattle.installed_filters.proofs.reaches.Reaches.receive.Goals as goal

abbrev no_hit : Hit
no_hit = record { member = 0; verdict = 0 }

pub returns-in-Some : goal.returns-in-Some
returns-in-Some c =
    let ends = c.args.self.now.ends in
    let hits = c.args.hits.now in
    let hit = get_or hits 0 no_hit in
    let at = get_some hits 0 no_hit c.in-len1.len_at_least in
    let inside = c.requires.inside 0 hit at in
    let view : c.self.inside.ends.items ≡ ends = ap (λ (r : Reaching). r.ends) c.self.view_is in
    let own : c.index.result.now ≡ ends_at ends hit.member =
    c.index.ensures ∙ (ap (λ (all : List (SortedMap ℕ)). get_or all hit.member c.index.result.now) view ∙ get_or_default ends hit.member c.index.result.now no_counts inside) in
    let one = c.in-Some.ensures in
    let entries = ap (λ (m : SortedMap ℕ). m.entries) (sym own) ∙ one.1 in
    subst (λ (n : ℕ). AreKept (GetsBy ends hits) c.args.captured (at_endpoint c.in-Some.endpoint n ∷ [])) (sym c.min-kept.ensures)
    (kept_of_one ends hits hit c.in-Some.endpoint one.0 c.args.captured at c.in-len1.len_below entries)
