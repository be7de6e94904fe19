use Rattle.std.proofs.Common.{◌≡◌, ◌∙◌, ◌+◌, ◌++◌, ◌∷◌, [], ℕ, List, Some, ap, arith, length, slice_get, subst, sym}
use Rattle.std.proofs.lemmas.List.{length_push}
use Rattle.std.proofs.lemmas.Option.{get_or_from_slice_get}
use Rattle.filter_group.specs.declared.equality.Equality.{Equality}
use Rattle.filter_group.specs.Equalities.{IsMarked}
use Rattle.filter_group.proofs.Equalities.{each_pushed, no_equality}
use Rattle.filter_group.proofs.equality.marked_anew.Goals as goal

pub loop-pc-preserved : goal.loop-pc-preserved
loop-pc-preserved c =
    let many = c.loop-pc.invariant.many in
    let before = c.args.equalities.now in
    let code = c.args.code.now in
    let marks = c.args.marks.now in
    let next = c.marked.result in
    let pushed : c.push.new.self.items ≡ c.loop-pc.found.items ++ next ∷ [] = c.in_ok-push.ensures.items in
    let R : ℕ → Equality → Type 0 = λ p equality. (old : Equality) → slice_get before p ≡ Some old → IsMarked old code marks p equality in
    record {
      many = ap (length {A = Equality}) pushed ∙ (length_push c.loop-pc.found.items next ∙ ap (λ (n : ℕ). n + 1) many);
      each = subst (λ (xs : List Equality). (p : ℕ) (equality : Equality) → slice_get xs p ≡ Some equality → R p equality) (sym pushed)
          (each_pushed R c.loop-pc.found.items c.loop-pc.pc next many c.loop-pc.invariant.each (λ old at. subst (λ (e : Equality). IsMarked e code marks c.loop-pc.pc next) (get_or_from_slice_get before c.loop-pc.pc old no_equality at) c.marked.ensures));
    }

pub returns : goal.returns
returns c =
    let many = c.loop-pc.invariant.many in
    record {
      count = omega arith;
      each = λ pc old equality at_old at. c.loop-pc.invariant.each pc equality at old at_old;
    }
