use Rattle.std.proofs.Common.{◌≡◌, ◌+◌, nat_eq, ap, ◌∙◌}
use Rattle.std.specs.Map.{set_value}
use Rattle.chunked.specs.Chunks.{whole, before}
use Rattle.chunked.proofs.Whole.{set_in}
use Rattle.chunked.proofs.Rising.{found-set}
use Rattle.chunked.proofs.Mapping.{same_map, found_entry, are_firsts-set}
use Rattle.chunked.proofs.Values.{value-set_value}
use Rattle.chunked.specs.Maps.{value_at}
use Rattle.chunked.proofs.sorted.Sorted.set.Goals as goal

pub invariant_of-self : goal.invariant_of-self
invariant_of-self g c =
    are_firsts-set c.self.inside.chunks c.set.new.self c.self.inside.firsts c.self.inside.count c.in-Some.spot.chunk c.in-Some.spot.offset c.args.key c.args.value
    c.self.invariant c.in-Some.ensures.found c.set.ensures

pub returns-in-Some-clause-entries : goal.returns-in-Some-clause-entries
returns-in-Some-clause-entries g c =
    let shown : whole c.self.inside.chunks.chunks ≡ c.args.self.now.entries = ap (λ v. v.entries) c.self.view_is in
    let cs = c.self.inside.chunks.chunks in
    let i = c.in-Some.spot.chunk in
    let off = c.in-Some.spot.offset in
    let found = c.in-Some.ensures.found in
    let entry = found_entry cs i off c.args.key found in
    same_map (whole c.set.new.self.chunks) (set_value (nat_eq c.args.key) c.args.self.now.entries c.args.value) c.set.new.self.ready c.args.self.now.ready
    (ap (λ v. whole v.chunks) c.set.ensures ∙ set_in cs i off (c.args.key, c.args.value) found.place.inside found.inside
    ∙ found-set (whole cs) (before cs i + off) c.args.key c.args.value entry.entry found.place.cut entry.at entry.key_is
    ∙ ap (λ es. set_value (nat_eq c.args.key) es c.args.value) shown)
    (ap (λ v. v.ready) c.set.ensures ∙ ap (λ v. v.ready) c.self.view_is)

pub returns-in-Some-clause-values : goal.returns-in-Some-clause-values
returns-in-Some-clause-values g c = λ q.
    let shown : whole c.self.inside.chunks.chunks ≡ c.args.self.now.entries = ap (λ v. v.entries) c.self.view_is in
    let cs = c.self.inside.chunks.chunks in
    let i = c.in-Some.spot.chunk in
    let off = c.in-Some.spot.offset in
    let found = c.in-Some.ensures.found in
    let entry = found_entry cs i off c.args.key found in
    ap (λ es. value_at es q) (ap (λ v. whole v.chunks) c.set.ensures ∙ set_in cs i off (c.args.key, c.args.value) found.place.inside found.inside
    ∙ found-set (whole cs) (before cs i + off) c.args.key c.args.value entry.entry found.place.cut entry.at entry.key_is
    ∙ ap (λ es. set_value (nat_eq c.args.key) es c.args.value) shown)
    ∙ value-set_value c.args.self.now.entries c.args.key q c.args.value c.requires
