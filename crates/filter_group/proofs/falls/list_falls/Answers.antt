use Rattle.std.proofs.Common.{◌+◌, ◌++◌, ◌∷◌, [], List, ℕ, subst, sym, arith}
use Rattle.filter_group.proofs.Falling.{AreListedTo, changed_list, listed_on, listed_one}
use Rattle.filter_group.proofs.falls.list_falls.Goals as goal

pub loop-place-preserved-then-is_fall : goal.loop-place-preserved-then-is_fall
loop-place-preserved-then-is_fall c =
    let xs = c.args.constants.now.items in
    let falls = c.loop-place.falls in
    let place = c.loop-place.place in
    let count = c.at.result.now in
    let stretch = c.requires.rising.rising place count (omega arith) c.at.ensures in
    let some = c.requires.rising.some place count c.at.ensures in
    let room = let apart = c.if-len-capacity.false in let most = falls.ok.1 in let len = c.len-else-len-most.ensures in let cap = c.capacity.ensures in c.push.ensures.succeeds (omega arith) in
    let end : ℕ = place + count in
    subst (λ (fs : List ℕ). AreListedTo xs fs end) (sym (changed_list c.push.result (falls.items ++ end ∷ []) falls.items c.push.new.self.items room c.push.ensures.items))
    (listed_one xs falls.items place count c.loop-place.invariant some stretch (c.is_fall.ensures.0 c.if-is_fall.true))

pub loop-place-preserved : goal.loop-place-preserved
loop-place-preserved c =
    let xs = c.args.constants.now.items in
    let place = c.loop-place.place in
    let count = c.at.result.now in
    listed_on xs c.loop-place.falls.items place count c.loop-place.invariant (c.requires.rising.rising place count (omega arith) c.at.ensures)
    (λ fall. let is = c.is_fall.ensures.1 fall in let no = c.if-is_fall.false in absurd cc)
