use Rattle.std.proofs.Common.{◌≡◌, ◌∙◌, ◌<◌, ◌++◌, ◌∷◌, [], ap, arith, None, Some, length, map, slice_get, sym}
use Rattle.std.proofs.lemmas.Option.{slice_get-get_or, slice_get_within}
use Rattle.filter_group.specs.Planning.{HasStart}
use Rattle.filter_group.proofs.Indexed.{is_mapped, map_at, mapped}
use Rattle.filter_group.proofs.KeptPlan.{still_fits, up_to}
use Rattle.filter_group.proofs.plan.Second.is_without.Goals as goal

pub loop-case-preserved : goal.loop-case-preserved
loop-case-preserved c =
    let lists = c.args.self.now.lists.items in
    let case = c.loop-case.case in
    let inside : case < length lists = let n = c.len-case-end.ensures in let ok = c.args.self.now.lists.ok.0 in let low = c.loop-case-test.true in omega (arith, n) in
    let at : slice_get (map (λ one. one.items) lists) case ≡ Some c.deref.result.now =
    map_at (λ one. one.items) lists case c.index.result.now (slice_get-get_or lists case c.index.result.now inside ∙ ap Some (sym c.index.ensures)) ∙ ap Some (sym c.deref.ensures.value) in
    up_to (map (λ one. one.items) lists) case c.deref.result.now at (λ k list. HasStart list c.args.group None) c.loop-case.invariant (c.has_start.ensures c.if-not-has_start.false)

pub returns : goal.returns
returns c = λ done part packet values ends many before parts other serves value case starts has is at.
    let lists = c.args.self.now.lists.items in
    let low : case < c.loop-case.case = elim (is_mapped (λ one. one.items) lists case starts at) [
      | mapped v v_at same ↦
          let within = slice_get_within lists case v v_at in
          let n = c.len-case-end.ensures in let ok = c.args.self.now.lists.ok.0 in let last = c.loop-case-test.false in omega (arith, n)
    ] in
    still_fits part c.args.group packet (values ++ value ∷ []) starts None (c.loop-case.invariant case starts low at) ends many before parts other (serves value case starts has is at)
