use Rattle.std.proofs.Common.{◌≡◌, ◌∙◌, ◌-◌, ◌≤◌, ℕ, List, Some, arith, get_or, length, slice_get, subst, sym}
use Rattle.std.proofs.lemmas.Option.{slice_get-get_or}
use Rattle.filter_group.specs.Answers.{AreAbove, AreAtMost}
use Rattle.filter_group.specs.Falling.{AreBut}
use Rattle.filter_group.proofs.Falling.{below_count, none_taken, taken_out}
use Rattle.filter_group.proofs.falls.take.Goals as goal
use Rattle.filter_group.proofs.falls.take.Goals.{else-count-gt0-via-then-count-gt0+else-index-place, else-count-gt0-via-else-count-gt0}

pub returns-then-index-place-clause-but : goal.returns-then-index-place-clause-but
returns-then-index-place-clause-but c =
    let xs = c.args.places.now.items in
    let i : ℕ = c.count_to-count.result - 1 in
    let within = c.count_to-count.ensures.within in
    let some = c.if-count-gt0.true in
    let at = slice_get-get_or xs i c.index.result.now (omega arith) in
    let is : get_or xs i c.index.result.now ≡ c.args.place = sym c.index.ensures ∙ c.if-index-place.true in
    subst (AreBut c.args.place xs) (sym c.remove.ensures.items) (taken_out xs i c.args.place c.requires.order (subst (λ (n : ℕ). slice_get xs i ≡ Some n) is at))

pub returns-else-count-gt0-clause-but : goal.returns-else-count-gt0-clause-but
returns-else-count-gt0-clause-but c =
    let xs = c.args.places.now.items in
    let count = c.count_to-count.result in
    let is = c.deref.ensures.value in
    let within = subst (λ (fs : List ℕ). count ≤ length fs) is c.count_to-count.ensures.within in
    let low = subst (λ (fs : List ℕ). AreAtMost fs c.args.place 0 count) is c.count_to-count.ensures.low in
    let high = subst (λ (fs : List ℕ). AreAbove fs c.args.place count (length fs)) is c.count_to-count.ensures.high in
    none_taken xs c.args.place c.requires.order (λ listed.
    let below = below_count xs c.args.place count listed.0 c.args.place low high listed.1 (omega arith) in
    elim c.else-count-gt0.branch [
      | else-count-gt0-via-then-count-gt0+else-index-place w ↦
          let last : ℕ = count - 1 in
          let there = slice_get-get_or xs last w.index.result.now (omega arith) in
          let most = low last (get_or xs last w.index.result.now) (omega arith) (omega arith) there in
          let least = c.requires.order listed.0 last c.args.place (get_or xs last w.index.result.now) (omega arith) (omega arith) (omega arith) listed.1 there in
          w.if-index-place.false (w.index.ensures ∙ (let same : get_or xs last w.index.result.now ≡ c.args.place = omega arith in same))
      | else-count-gt0-via-else-count-gt0 w ↦ let none = w.if-count-gt0.false in omega arith
    ])
