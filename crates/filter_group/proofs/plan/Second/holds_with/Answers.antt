use Rattle.std.proofs.Common.{◌≡◌, ◌∙◌, ◌<◌, ◌++◌, ◌∷◌, [], ap, arith, inl, inr, ℕ, List, Some, length, map, slice_get, subst, sym}
use Rattle.std.proofs.lemmas.Option.{slice_get-get_or, slice_get_within}
use Rattle.bpf_insn.specs.Machine.{Packet}
use Rattle.filter_group.specs.Planning.{GoOn, HasField, IsCase, StillFits}
use Rattle.filter_group.proofs.Indexed.{is_mapped, map_at, mapped}
use Rattle.filter_group.proofs.KeptPlan.{goes_next, still_fits, up_to}
use Rattle.filter_group.proofs.Planning.{goes_on_beside}
use Rattle.filter_group.proofs.plan.Second.holds_with.Goals as goal

pub loop-case-preserved : goal.loop-case-preserved
loop-case-preserved c =
    let self = c.args.self.now in
    let lists = self.lists.items in
    let part = c.args.part.now in
    let start = c.args.start in
    let group = c.args.group in
    let case = c.loop-case.case in
    let list = c.deref-in-loop-case.result.now in
    let inside : case < length lists = let n = c.len-case-end.ensures in let ok = self.lists.ok.0 in let low = c.loop-case-test.true in omega (arith, n) in
    let at : slice_get (map (λ one. one.items) lists) case ≡ Some list =
    map_at (λ one. one.items) lists case c.index.result.now (slice_get-get_or lists case c.index.result.now inside ∙ ap Some (sym c.index.ensures)) ∙ ap Some (sym c.deref-in-loop-case.ensures.value) in
    up_to (map (λ one. one.items) lists) case list at
    (λ k l. (packet : Packet) (values : List ℕ) (value : ℕ) → length values ≡ 2 → GoOn part packet values start → HasField packet self.field value → IsCase self.constants.items k value → StillFits part group packet (values ++ value ∷ []) l)
    c.loop-case.invariant
    (λ packet values value count goes has is. elim (c.has_either.ensures c.if-not-has_either.false) [
      | inl further ↦
          still_fits part group packet (values ++ value ∷ []) list c.advanced-next.result further
          (goes_next part c.deref.result.now self.field case 2 start c.advanced-next.result c.advanced-next.ensures.goes c.advanced-next.ensures.ends packet values value goes count has
          (subst (λ (xs : List ℕ). IsCase xs case value) (sym c.deref.ensures.value) is))
      | inr same ↦ still_fits part group packet (values ++ value ∷ []) list (Some start) same (goes_on_beside part packet values value start goes)
    ])

pub returns : goal.returns
returns c = λ done packet values count goes many before parts other serves value case starts has is at.
    let lists = c.args.self.now.lists.items in
    let low : case < c.loop-case.case = elim (is_mapped (λ one. one.items) lists case starts at) [
      | mapped v v_at same ↦
          let within = slice_get_within lists case v v_at in
          let n = c.len-case-end.ensures in let ok = c.args.self.now.lists.ok.0 in let last = c.loop-case-test.false in omega (arith, n)
    ] in
    c.loop-case.invariant case starts low at packet values value count goes has is many before parts other (serves value case starts has is at)
