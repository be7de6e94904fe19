use Rattle.std.proofs.Common.{◌≡◌, ◌++◌, ◌∙◌, List, ap, arith, drop, length, map, subst, sym, take, ℕ}
use Rattle.std.proofs.Math.Seq.{take-append_seam}
use Rattle.bpf_insn.specs.Machine.{Packet}
use Rattle.filter_group.specs.Together.{AreHits}
use Rattle.filter_group.proofs.Edits.{contains_at}
use Rattle.installed_filters.specs.Numbering.{AreHitsBy, Numbering, numbered_hit}
use Rattle.installed_filters.proofs.Numbers.{hits_numbered}
use Rattle.installed_filters.proofs.numbered.Numbered.run.Goals as goal

pub give_numbers-requires : goal.give_numbers-requires
give_numbers-requires c = λ i hit at.
    let packet : Packet = record { bytes = c.args.bytes.now; original = c.args.original } in
    let hits = subst (AreHits c.self.inside.programs packet (length c.self.inside.programs)) (sym c.deref_mut.ensures.value) c.in_ok-run.ensures in
    let e = hits.each hit (contains_at c.deref_mut.result.now i hit at) in
    let low = e.0 in
    let long = c.self.invariant.lengths in
    let same = ap (length {A = ℕ}) c.deref.ensures.value in
    omega arith

pub returns : goal.returns
returns c =
    let packet : Packet = record { bytes = c.args.bytes.now; original = c.args.original } in
    let hits = subst (AreHits c.self.inside.programs packet (length c.self.inside.programs)) (sym c.deref_mut.ensures.value) c.in_ok-run.ensures in
    let after = c.give_numbers.new.hits in
    let long : c.run.new.lists.hits.len ≡ length after = let same = c.give_numbers.auto.hits in let all = c.deref_mut.ensures.len in omega (arith, same, all) in
    let whole = ap (λ (n : ℕ). take n (after ++ drop (length after) c.run.new.lists.hits.items)) long ∙ take-append_seam after (drop (length after) c.run.new.lists.hits.items) in
    let mapped : after ≡ map (numbered_hit c.self.inside.numbers.items) c.deref_mut.result.now = c.give_numbers.ensures ∙ ap (λ (ns : List ℕ). map (numbered_hit ns) c.deref_mut.result.now) c.deref.ensures.value in
    subst (AreHitsBy c.args.self.now packet) (sym whole)
    (subst (λ (n : Numbering). AreHitsBy n packet after) c.self.view_is
    (hits_numbered (record { programs = c.self.inside.programs; numbers = c.self.inside.numbers.items }) packet c.deref_mut.result.now after c.self.invariant mapped hits))
