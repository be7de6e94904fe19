use Rattle.std.proofs.Common.{subst, ◌≡◌, ◌+◌, nat_eq, sym, ap, ◌∙◌}
use Rattle.std.specs.Map.{remove_entry}
use Rattle.std.proofs.lemmas.Option.{slice_get_within}
use Rattle.chunked.specs.Chunks.{whole, before}
use Rattle.chunked.specs.Maps.{value_at}
use Rattle.chunked.proofs.Rising.{absent_remove, found_remove, found_value}
use Rattle.chunked.proofs.Mapping.{found_entry, are_firsts_removed}
use Rattle.chunked.proofs.Values.{value-remove_entry}
use Rattle.chunked.specs.Entries.{AreRising}
use Rattle.chunked.proofs.sorted.Sorted.remove.Goals as goal

pub returns-in_err-spot-clause-entries : goal.returns-in_err-spot-clause-entries
returns-in_err-spot-clause-entries g c =
    let shown : whole c.self.inside.chunks.chunks ≡ c.args.self.now.entries = ap (λ v. v.entries) c.self.view_is in
    let cs = c.self.inside.chunks.chunks in
    absent_remove c.args.self.now.entries c.args.key (ap (λ es. value_at es c.args.key) (sym shown) ∙ c.in_err-spot.ensures.none)

pub invariant_of-self : goal.invariant_of-self
invariant_of-self g c =
    let shown : whole c.self.inside.chunks.chunks ≡ c.args.self.now.entries = ap (λ v. v.entries) c.self.view_is in
    let cs = c.self.inside.chunks.chunks in
    let i = c.in_ok-spot.spot.chunk in
    let off = c.in_ok-spot.spot.offset in
    let entry = found_entry cs i off c.args.key c.in_ok-spot.ensures.found in
    are_firsts_removed c.self.inside.chunks c.remove-entry.new.self c.self.inside.firsts c.follow_removal.new.firsts c.self.inside.count (before cs i + off)
    c.self.invariant (slice_get_within (whole cs) (before cs i + off) entry.entry entry.at) c.remove-entry.ensures.items c.remove-entry.ensures.ready c.follow_removal.ensures

pub returns-clause-value : goal.returns-clause-value
returns-clause-value g c =
    let shown : whole c.self.inside.chunks.chunks ≡ c.args.self.now.entries = ap (λ v. v.entries) c.self.view_is in
    let cs = c.self.inside.chunks.chunks in
    let i = c.in_ok-spot.spot.chunk in
    let off = c.in_ok-spot.spot.offset in
    let found = c.in_ok-spot.ensures.found in
    let entry = found_entry cs i off c.args.key found in
    let same : c.remove-entry.result.0 ≡ entry.entry = cc in
    sym (ap (λ es. value_at es c.args.key) (sym shown)
    ∙ found_value (whole cs) (before cs i + off) c.args.key c.remove-entry.result.0 found.place.cut c.remove-entry.ensures.item (ap (λ e. e.0) same ∙ entry.key_is))

pub returns-clause-entries : goal.returns-clause-entries
returns-clause-entries g c =
    let shown : whole c.self.inside.chunks.chunks ≡ c.args.self.now.entries = ap (λ v. v.entries) c.self.view_is in
    let cs = c.self.inside.chunks.chunks in
    let i = c.in_ok-spot.spot.chunk in
    let off = c.in_ok-spot.spot.offset in
    let found = c.in_ok-spot.ensures.found in
    let entry = found_entry cs i off c.args.key found in
    c.remove-entry.ensures.items
    ∙ found_remove (whole cs) (before cs i + off) c.args.key entry.entry found.place.cut entry.at entry.key_is
    ∙ ap (remove_entry (nat_eq c.args.key)) shown

pub returns-clause-values : goal.returns-clause-values
returns-clause-values g c = λ q.
    let shown : whole c.self.inside.chunks.chunks ≡ c.args.self.now.entries = ap (λ v. v.entries) c.self.view_is in
    let cs = c.self.inside.chunks.chunks in
    let i = c.in_ok-spot.spot.chunk in
    let off = c.in_ok-spot.spot.offset in
    let found = c.in_ok-spot.ensures.found in
    let entry = found_entry cs i off c.args.key found in
    ap (λ es. value_at es q) (c.remove-entry.ensures.items
    ∙ found_remove (whole cs) (before cs i + off) c.args.key entry.entry found.place.cut entry.at entry.key_is
    ∙ ap (remove_entry (nat_eq c.args.key)) shown)
    ∙ value-remove_entry c.args.self.now.entries c.args.key q (subst (λ es. AreRising es) shown c.self.invariant.rising)
