use Rattle.std.proofs.Common.{◌≡◌, ◌+◌, ℕ, List, Some, arith, get_or, slice_get, subst, sym}
use Rattle.std.proofs.lemmas.Option.{get_or_from_slice_get, slice_get-get_or, slice_get_within}
use Rattle.bpf_insn.specs.declared.insn.Insn.{Insn}
use Rattle.filter_group.specs.declared.equality.Equality.{Equality}
use Rattle.filter_group.specs.Equalities.{IsWider}
use Rattle.filter_group.proofs.Equalities.{no_equality, wider_none}
use Rattle.filter_group.proofs.Groups.{no_insn}
use Rattle.filter_group.proofs.InTurn.{AreDone, done_kept, done_more}
use Rattle.filter_group.proofs.equality.widen.Goals as goal
use Rattle.filter_group.proofs.equality.widen.Goals.{then-equalities-pc, else-equalities-pc}

pub loop-pc-preserved : goal.loop-pc-preserved
loop-pc-preserved c =
    let before = c.args.equalities.now in
    let code = c.args.code.now in
    let xs = c.loop-pc.equalities in
    let here = c.loop-pc.pc in
    let one = get_or xs here no_equality in
    let at = slice_get-get_or xs here no_equality (omega arith) in
    let R : ℕ → Equality → Equality → Type 0 = λ pc old equality. (insn : Insn) → slice_get code pc ≡ Some insn → IsWider old insn.k equality in
    elim c.if-equalities-pc.branch [
      | then-equalities-pc w ↦ subst (λ (ys : List Equality). AreDone R (here + 1) before ys) (sym w.equalities-is)
          (done_more R here before xs one w.with.result c.loop-pc.invariant at
          (λ insn at_insn. subst (λ (i : Insn). IsWider one i.k w.with.result) (get_or_from_slice_get code here insn no_insn at_insn) w.with.ensures))
      | else-equalities-pc w ↦ subst (λ (ys : List Equality). AreDone R (here + 1) before ys) (sym w.equalities-is)
          (done_kept R here before xs one c.loop-pc.invariant at (λ insn at_insn. wider_none one insn.k w.if-equalities-pc.false))
    ]

pub returns : goal.returns
returns c = record {
  count = c.loop-pc.invariant.many;
  each = λ pc old equality insn at_old at at_insn. let inside = slice_get_within c.loop-pc.equalities pc equality at in c.loop-pc.invariant.done pc old equality (omega arith) at_old at insn at_insn;
}
