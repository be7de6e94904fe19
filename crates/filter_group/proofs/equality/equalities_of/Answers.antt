use Rattle.std.proofs.Common.{◌≡◌, ◌∙◌, ◌+◌, ◌++◌, ◌∷◌, [], ℕ, List, Some, ap, length, slice_get, subst, sym}
use Rattle.std.proofs.lemmas.List.{length_push}
use Rattle.filter_group.specs.declared.equality.Equality.{Equality}
use Rattle.filter_group.specs.Equalities.{IsEqualityOf}
use Rattle.filter_group.proofs.Equalities.{each_pushed}
use Rattle.filter_group.proofs.equality.equalities_of.Goals as goal

pub loop-pc-preserved : goal.loop-pc-preserved
loop-pc-preserved c =
    let many = c.loop-pc.invariant.many in
    let next = c.equality_at.result in
    let pushed : c.push.new.self.items ≡ c.loop-pc.found.items ++ next ∷ [] = c.in_ok-push.ensures.items in
    record {
      many = ap (length {A = Equality}) pushed ∙ (length_push c.loop-pc.found.items next ∙ ap (λ (n : ℕ). n + 1) many);
      each = subst (λ (xs : List Equality). (p : ℕ) (equality : Equality) → slice_get xs p ≡ Some equality → IsEqualityOf c.args.code.now c.args.marks.now p equality) (sym pushed)
          (each_pushed (IsEqualityOf c.args.code.now c.args.marks.now) c.loop-pc.found.items c.loop-pc.pc next many c.loop-pc.invariant.each c.equality_at.ensures);
    }
