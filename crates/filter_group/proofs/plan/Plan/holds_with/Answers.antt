use Rattle.std.proofs.Common.{◌∙◌, ◌<◌, ◌∷◌, [], ap, arith, refl, ℕ, List, Some, length, subst, sym}
use Rattle.std.proofs.lemmas.Option.{slice_get-get_or, slice_get_within}
use Rattle.bpf_insn.specs.Machine.{Packet}
use Rattle.filter_group.specs.declared.start.Start.{Start}
use Rattle.filter_group.specs.Planning.{GoOn, HasField, HasStart, IsCase, StillServes}
use Rattle.filter_group.proofs.Fewer.{plan_alike}
use Rattle.filter_group.proofs.KeptPlan.{goes_next, still_fits, up_to}
use Rattle.filter_group.proofs.Planning.{goes_on_beside, goes_on_opened}
use Rattle.filter_group.proofs.plan.Plan.holds_with.Goals as goal

pub loop-case-preserved : goal.loop-case-preserved
loop-case-preserved c =
    let self = c.args.self.now in
    let branches = self.branches.items in
    let part = c.args.part.now in
    let group = c.args.group in
    let case = c.loop-case.case in
    let opening = c.opening-opening.result in
    let inside : case < length branches = let n = c.len-case-end.ensures in let ok = self.branches.ok.0 in let low = c.loop-case-test.true in omega (arith, n) in
    up_to branches case c.index.result.now (slice_get-get_or branches case c.index.result.now inside ∙ ap Some (sym c.index.ensures))
    (λ k branch. (packet : Packet) (value : ℕ) → HasField packet self.field value → IsCase self.constants.items k value → StillServes part group packet (0 ∷ value ∷ []) branch)
    c.loop-case.invariant
    (λ packet value has is.
    let goes : GoOn part packet (0 ∷ []) opening = subst (λ (s : Start). GoOn part packet (0 ∷ []) s) (sym c.opening-opening.ensures) (goes_on_opened part packet group) in
    c.holds_at.ensures c.if-not-holds_at.false packet (0 ∷ value ∷ []) refl
    (goes_next part c.deref-in-loop-case.result.now self.field case 1 opening c.advanced-next.result c.advanced-next.ensures.goes c.advanced-next.ensures.ends packet (0 ∷ []) value goes refl has
    (subst (λ (xs : List ℕ). IsCase xs case value) (sym c.deref-in-loop-case.ensures.value) is))
    (goes_on_beside part packet (0 ∷ []) value opening goes))

pub returns-then-group-self : goal.returns-then-group-self
returns-then-group-self c = λ done before parts other plan.
    let past = c.if-group-self.true in
    plan_alike before parts c.args.self.now (let within = plan.within in let count = other.count in omega arith) (λ n low. other.others n (λ same. omega arith)) plan

pub returns : goal.returns
returns c = λ done before parts other plan.
    let self = c.args.self.now in
    let part = c.args.part.now in
    let group = c.args.group in
    let opening = c.opening-opening.result in
    let has : HasStart self.starts.items group (Some opening) = subst (λ (xs : List Start). HasStart xs group (Some opening)) c.deref.ensures.value (c.has_start.ensures c.if-not-has_start.false) in
    record {
      within = let within = plan.within in let count = other.count in omega arith;
      starts = λ packet.
          let goes : GoOn part packet (0 ∷ []) opening = subst (λ (s : Start). GoOn part packet (0 ∷ []) s) (sym c.opening-opening.ensures) (goes_on_opened part packet group) in
          still_fits part group packet (0 ∷ []) self.starts.items (Some opening) has goes self.count before parts other (plan.starts packet);
      branches = λ packet value case branch is_field is_case at.
          let low : case < c.loop-case.case =
          let within = slice_get_within self.branches.items case branch at in
          let n = c.len-case-end.ensures in let ok = self.branches.ok.0 in let last = c.loop-case-test.false in omega (arith, n) in
          c.loop-case.invariant case branch low at packet value is_field is_case self.count before parts other (plan.branches packet value case branch is_field is_case at);
    }
