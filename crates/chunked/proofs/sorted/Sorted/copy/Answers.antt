use Rattle.std.proofs.Common.{◌++◌, ◌∷◌, ◌∙◌, [], ap, sym, subst, append_assoc, nat_cmp}
use Rattle.std.specs.BTreeMap.{insert_entry}
use Rattle.chunked.specs.Entries.{AreBelow, AreRising}
use Rattle.chunked.specs.Maps.{value_at}
use Rattle.chunked.proofs.Copying.{below_last, absent_last, insert_last}
use Rattle.chunked.proofs.sorted.Sorted.copy.Goals as goal

pub insert_reserved-requires-clause-absent : goal.insert_reserved-requires-clause-absent
insert_reserved-requires-clause-absent g c =
    let e = c.in-Some.entry.now in
    let before = c.loop-entry.map.entries in
    let all = ap (λ rest. before ++ rest) (sym c.in-Some.ensures.steps) ∙ (c.loop-entry.invariant.0 ∙ ap (λ m. m.entries) (sym c.self.view_is)) in
    let below : AreBelow e.0 before = below_last before c.next.new.self e (subst AreRising (sym all) c.self.invariant.rising) in
    ap (λ es. value_at es e.0) c.in_ok-reserve.ensures.entries ∙ absent_last before e.0 below

pub loop-entry-preserved : goal.loop-entry-preserved
loop-entry-preserved g c =
    let e = c.in-Some.entry.now in
    let before = c.loop-entry.map.entries in
    let rest = c.next.new.self in
    let all = ap (λ rest. before ++ rest) (sym c.in-Some.ensures.steps) ∙ c.loop-entry.invariant.0 in
    let below : AreBelow e.0 before = below_last before rest e (subst AreRising (sym (all ∙ ap (λ m. m.entries) (sym c.self.view_is))) c.self.invariant.rising) in (
      ap (λ m. m.entries ++ rest) c.insert_reserved.ensures.entries
          ∙ (ap (λ es. insert_entry nat_cmp es e.0 e.1 ++ rest) c.in_ok-reserve.ensures.entries
          ∙ (ap (λ es. es ++ rest) (insert_last before e.0 e.1 below)
          ∙ (append_assoc before (e ∷ []) rest ∙ all))),
      ap (λ m. m.ready) c.insert_reserved.ensures.entries,
    )
