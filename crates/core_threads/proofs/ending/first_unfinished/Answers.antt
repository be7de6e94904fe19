use Rattle.std.proofs.Common.{◌≡◌, sym, ap, ◌∙◌, Some, refl, subst}
use Rattle.std.proofs.lemmas.Bool.{false≢true}
use Rattle.std.proofs.lemmas.Option.{slice_get-get_or}
use Rattle.core_machine.specs.Machines.{RingCore}
use Rattle.core_machine.specs.Rounds.{HasAllDecided}
use Rattle.core_threads.specs.Ending.{IsAtEnd}
use Rattle.core_machine.specs.Lanes.{items_for}
use Rattle.core_threads.proofs.Searches.{unfinished_at, done_more, done_all}
use Rattle.core_threads.proofs.ending.first_unfinished.Goals as goal

pub returns-then-not-is_at_end : goal.returns-then-not-is_at_end
returns-then-not-is_at_end c =
    let r = c.ran-item.result in
    let at = slice_get-get_or c.args.ran.now c.loop-ran.ran-index r c.loop-ran-test.true ∙ ap Some (sym c.ran-item.is) in
    let is : c.core-core.result.now ≡ r.core = c.core-core.ensures in
    let not : IsAtEnd (items_for r.core.number c.args.left.now) r.core → ⊥ = subst (λ (x : RingCore). IsAtEnd (items_for x.number c.args.left.now) x → ⊥) is (λ p. absurd (false≢true (c.if-not-is_at_end.ensures.at_end.1 p))) in
    unfinished_at c.args.ran.now c.args.left.now c.loop-ran.ran-index _ r c.requires at (c.number.ensures ∙ ap (λ (x : RingCore). x.number) is) not c.loop-ran.invariant

pub loop-ran-preserved : goal.loop-ran-preserved
loop-ran-preserved c =
    let r = c.ran-item.result in
    let at = slice_get-get_or c.args.ran.now c.loop-ran.ran-index r c.loop-ran-test.true ∙ ap Some (sym c.ran-item.is) in
    let end : IsAtEnd (items_for r.core.number c.args.left.now) r.core = subst (λ (x : RingCore). IsAtEnd (items_for x.number c.args.left.now) x) c.core-core.ensures (c.if-not-is_at_end.ensures.at_end.0 refl) in
    let decided : HasAllDecided r.core = subst (λ (x : RingCore). HasAllDecided x) c.core-core.ensures (c.if-not-is_at_end.ensures.decided refl) in
    done_more c.args.ran.now c.args.left.now c.loop-ran.ran-index r c.requires at (record { at_end = end; decided = decided }) c.loop-ran.invariant

pub returns : goal.returns
returns c = done_all c.args.ran.now c.args.left.now c.loop-ran.ran-index c.loop-ran-test.false c.loop-ran.invariant
